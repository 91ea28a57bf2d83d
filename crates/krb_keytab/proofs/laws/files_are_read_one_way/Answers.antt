use Rattle.krb_keytab.proofs.Files.{one_list, not_both, one_place}
use Rattle.krb_keytab.proofs.laws.files_are_read_one_way.Goals as goal

pub returns : goal.returns
returns c = record { one = one_list; sound = not_both; place = one_place }
