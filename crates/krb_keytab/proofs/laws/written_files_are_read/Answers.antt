use Rattle.krb_keytab.proofs.Files.{written_is_read}
use Rattle.krb_keytab.proofs.laws.written_files_are_read.Goals as goal

pub returns : goal.returns
returns c = written_is_read
