use Rattle.krb_replay.proofs.TellingLemmas.{admits_only, admits_once}
use Rattle.krb_replay.proofs.laws.telling_gates_admit_once.Goals as goal

pub returns-clause-only : goal.returns-clause-only
returns-clause-only c = admits_only

pub returns-clause-once : goal.returns-clause-once
returns-clause-once c = admits_once
