use Rattle.krb_kdc.proofs.Found.{principal_found, key_of}
use Rattle.krb_laws_kdc.proofs.AsLemmas.{granted_ticket}
use Rattle.krb_laws_kdc.proofs.laws.clients_with_their_key_are_granted_a_ticket.Goals as goal

pub returns : goal.returns
returns c = λ kdc name principal moment later body confounder draw reply asks fair near near_later in_range size octets short answers.
    granted_ticket kdc name principal moment body asks fair draw near later confounder near_later in_range size octets reply
    (key_of kdc.suite principal (principal_found kdc.suite name.name_string kdc.principals principal kdc.principals_fit asks.known)) short answers
