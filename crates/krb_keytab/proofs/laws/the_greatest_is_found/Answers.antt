use Rattle.krb_keytab.proofs.Greatest.{greatest_is_found}
use Rattle.krb_keytab.proofs.laws.the_greatest_is_found.Goals as goal

pub returns : goal.returns
returns c = greatest_is_found
