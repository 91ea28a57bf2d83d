use Rattle.std.proofs.Common.{subst}
use Rattle.std.specs.Prelude.{List}
use Rattle.sspi_core.specs.Buffer.{Buffer}
use Rattle.sspi_core.specs.declared.buffer.Part.TheVariants.{Plain}
use Rattle.krb_context.specs.Peers.{IsDelivered}
use Rattle.krb_context.specs.Spelled.{part_octets}
use Rattle.krb_context.proofs.PeerLemmas.{opens_there}
use Rattle.krb_context.proofs.ReadyLemmas.{is_wrapped}
use Rattle.krb_context.proofs.laws.wrapped_messages_open.Goals as goal

pub returns : goal.returns
returns c = λ sender receiver confounder sent made received peers size octets_c octets_p wraps delivered fresh.
    let w = is_wrapped sender confounder sent made wraps in
    opens_there sender receiver w.key confounder sent received peers size octets_c octets_p w.ready
    (subst (λ (m : List Buffer). IsDelivered (part_octets Plain sent) m received) w.is delivered) fresh
