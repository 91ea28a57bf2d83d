use Rattle.krb_replay.proofs.Order.{record_ties}
use Rattle.krb_replay.proofs.Same.{records}
use Rattle.krb_replay.proofs.laws.records_compare_by_their_parts.Goals as goal

pub returns-clause-same : goal.returns-clause-same
returns-clause-same c = records

pub returns-clause-ties : goal.returns-clause-ties
returns-clause-ties c = record_ties

pub returns-clause-hash : goal.returns-clause-hash
returns-clause-hash c a b e = let same = (records a b).0 e in cc
