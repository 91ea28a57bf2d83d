use Rattle.std.proofs.Common.{refl}
use Rattle.krb_replay.specs.declared.ask.Verdict.TheVariants.{Admitted}
use Rattle.krb_replay.proofs.Runs.{run_keeps}
use Rattle.krb_replay.proofs.Window.{admitted_in_time}
use Rattle.krb_replay.proofs.laws.gates_judge_by_the_clock.Goals as goal

pub returns-clause-skew : goal.returns-clause-skew
returns-clause-skew g c = λ old new asks verdicts run.
    run_keeps g.G.ReplayGate.admits g.G.ReplayGate.skew g.met.G.ReplayGate.keeps_skew old new asks verdicts run

pub returns-clause-in_time : goal.returns-clause-in_time
returns-clause-in_time g c = λ old new ask step.
    admitted_in_time (g.G.ReplayGate.skew old) (g.G.ReplayGate.moment new) ask Admitted (g.met.G.ReplayGate.judges old new ask Admitted step) refl

pub returns-clause-reached : goal.returns-clause-reached
returns-clause-reached g c = λ old new ask verdict step. (g.met.G.ReplayGate.judges old new ask verdict step).reached
