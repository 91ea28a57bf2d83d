use Rattle.krb_sasl.proofs.RoomLemmas.{too_long}
use Rattle.krb_sasl.proofs.client.SaslClient.answer_to.Goals as goal

pub returns-clause-refused : goal.returns-clause-refused
returns-clause-refused c =
    let a = c.in_ok-token.ensures.answered in
    too_long _ _ _ _ _ _ (c.answer.new.self, record { text = a.0; answers = a.1; next = a.2 }) c.as_slice.ensures c.in-Err.ensures.room c.in-Err.ensures.short
