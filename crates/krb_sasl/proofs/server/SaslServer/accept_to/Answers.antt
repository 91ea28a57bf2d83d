use Rattle.krb_sasl.proofs.RoomLemmas.{too_long}
use Rattle.krb_sasl.proofs.server.SaslServer.accept_to.Goals as goal

pub returns-clause-refused : goal.returns-clause-refused
returns-clause-refused c =
    let a = c.in_ok-name.ensures.accepted in
    too_long _ _ _ _ _ _ (c.accept.new.self, record { text = a.0; layer = a.1; accepts = a.2; name_is = a.3; next = a.4 }) c.as_slice.ensures c.in-Err.ensures.room c.in-Err.ensures.short
