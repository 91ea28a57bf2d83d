use Rattle.std.proofs.Common.{refl}
use Rattle.krb_demo.specs.Client.{client_ticket}
use Rattle.krb_demo.proofs.client.ticket.Goals as goal

pub returns-clause-made : goal.returns-clause-made
unfolding client_ticket
returns-clause-made c = rw (c.in_ok-integer.ensures, c.in_ok-realm.ensures, c.in_ok-service.ensures, c.in_ok-sealed_part.ensures.made) refl
