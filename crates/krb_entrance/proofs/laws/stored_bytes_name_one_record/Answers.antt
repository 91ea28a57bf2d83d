use Rattle.krb_entrance.proofs.Stored.{one_record}
use Rattle.krb_entrance.proofs.laws.stored_bytes_name_one_record.Goals as goal

pub returns : goal.returns
returns c = one_record c.one_spelling.ensures.one_value
