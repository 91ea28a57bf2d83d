use Rattle.krb_laws_kdc.proofs.TgsLemmas.{served}
use Rattle.krb_laws_kdc.proofs.laws.holders_of_tickets_are_served.Goals as goal

pub returns : goal.returns
returns c = λ kdc ticket part moment body authenticator confounder target draw reply opens holder asks fair near short answers.
    served kdc ticket part moment body authenticator confounder target draw opens holder asks fair near short reply answers
