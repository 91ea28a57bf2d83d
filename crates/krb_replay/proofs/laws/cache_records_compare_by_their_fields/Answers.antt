use Rattle.krb_replay.proofs.Same.{cache_records}
use Rattle.krb_replay.proofs.laws.cache_records_compare_by_their_fields.Goals as goal

pub returns-clause-same : goal.returns-clause-same
returns-clause-same c = cache_records

pub returns-clause-hash : goal.returns-clause-hash
returns-clause-hash c a b e = let same = (cache_records a b).0 e in cc
