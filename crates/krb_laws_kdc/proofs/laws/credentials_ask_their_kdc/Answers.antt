use Rattle.krb_laws_kdc.proofs.FirstLemmas.{asks_first}
use Rattle.krb_laws_kdc.proofs.laws.credentials_ask_their_kdc.Goals as goal

pub returns : goal.returns
returns c = λ kdc client principal flags own realm known d. asks_first kdc client principal flags own realm known d
