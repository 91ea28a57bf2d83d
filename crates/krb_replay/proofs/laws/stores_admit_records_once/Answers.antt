use Rattle.krb_replay.proofs.TellingLemmas.{store_admits_once}
use Rattle.krb_replay.proofs.laws.stores_admit_records_once.Goals as goal

pub returns : goal.returns
returns c = store_admits_once
