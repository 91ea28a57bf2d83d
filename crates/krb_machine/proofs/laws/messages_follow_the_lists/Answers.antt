use Rattle.krb_machine.proofs.OpenedLemmas.{run_judged, run_stands, behind_distinct}
use Rattle.krb_machine.proofs.laws.messages_follow_the_lists.Goals as goal

pub returns-clause-judged : goal.returns-clause-judged
returns-clause-judged g c = run_judged g.G.ReplayGate.admits

pub returns-clause-stand : goal.returns-clause-stand
returns-clause-stand g c = run_stands g.G.ReplayGate.admits

pub returns-clause-once : goal.returns-clause-once
returns-clause-once g c =
    λ lists state after events replies octets runs stand id distinct.
    behind_distinct lists events replies id (run_judged g.G.ReplayGate.admits lists state after events replies octets runs stand) distinct
