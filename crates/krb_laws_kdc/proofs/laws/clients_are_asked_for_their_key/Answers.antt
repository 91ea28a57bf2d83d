use Rattle.krb_laws_kdc.proofs.AsLemmas.{asked_for_key}
use Rattle.krb_laws_kdc.proofs.laws.clients_are_asked_for_their_key.Goals as goal

pub returns : goal.returns
returns c = λ kdc name principal moment body draw reply asks fair near short answers. asked_for_key kdc name principal moment body asks fair draw near reply short answers
