use Rattle.krb_machine.proofs.GateLemmas.{clock_refuses, done_in_time, run_skew}
use Rattle.krb_machine.proofs.laws.gates_refuse_by_the_clock.Goals as goal

pub returns-clause-refused : goal.returns-clause-refused
returns-clause-refused g c = clock_refuses g.G.ReplayGate.admits g.G.ReplayGate.skew g.G.ReplayGate.moment g.met.G.ReplayGate.judges

pub returns-clause-done : goal.returns-clause-done
returns-clause-done g c = done_in_time g.G.ReplayGate.admits g.G.ReplayGate.skew g.G.ReplayGate.moment g.met.G.ReplayGate.judges

pub returns-clause-skew : goal.returns-clause-skew
returns-clause-skew g c = run_skew g.G.ReplayGate.admits g.G.ReplayGate.skew g.met.G.ReplayGate.keeps_skew
