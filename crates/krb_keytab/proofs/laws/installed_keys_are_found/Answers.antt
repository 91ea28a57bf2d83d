use Rattle.krb_keytab.proofs.FoundKeys.{installed_key}
use Rattle.krb_keytab.proofs.laws.installed_keys_are_found.Goals as goal

pub returns : goal.returns
returns c = λ realm entries components server. installed_key realm entries components server
