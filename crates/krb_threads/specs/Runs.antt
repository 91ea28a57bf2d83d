-- The end of the run of a part.
use Rattle.std.specs.Prelude.{◌<◌, List, length, take, Result, Ok, Err}
use Rattle.krb_replay.specs.declared.ask.Ask.{Ask}
use Rattle.krb_replay.specs.declared.ask.Verdict.{Verdict}
use Rattle.krb_script.specs.declared.item.Event.{Event}
use Rattle.krb_machine.specs.Policy.{State, RunsOn, StopsBehind}
use Rattle.krb_machine.specs.declared.reply.Reply.{Reply}
use Rattle.krb_machine.specs.declared.service.Stopped.{Stopped}

-- a run over all events, or over the first `stopped.taken` events if memory ran out
abbrev pub EndsAs : {G : Type 0} → (G → Ask → Verdict → G → Type 0) → (G → G → Type 0) → State G → List Event → List Reply
    → Result (Unit {0}) Stopped → List Reply → State G → Type 0
EndsAs admits is_same service events old (Ok done) new after = RunsOn admits service events old new after
EndsAs admits is_same service events old (Err stopped) new after =
    (stopped.taken < length events) × StopsBehind admits is_same service (take stopped.taken events) old new after
