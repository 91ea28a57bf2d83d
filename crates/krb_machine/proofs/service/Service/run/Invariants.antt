use Rattle.std.proofs.Common.{take}
use Rattle.krb_machine.specs.Policy.{RunsOn}
use Rattle.krb_machine.proofs.service.Service.run.Given as goal

abbrev pub invariant-loop-taken : goal.invariant-loop-taken
invariant-loop-taken g l = RunsOn g.G.ReplayGate.admits l.initial.self (take l.taken l.events) l.initial.replies.items l.replies.items l.self
