use Rattle.krb_replay.proofs.Same.{asks}
use Rattle.krb_replay.proofs.laws.asks_compare_by_their_parts.Goals as goal

pub returns-clause-same : goal.returns-clause-same
returns-clause-same c = asks
