-- Two ends of a connection, and a message on its way between them.
use Rattle.std.specs.Prelude.{◌≡◌, ℕ, ◌^◌, ◌<◌, List, length, true, Some}
use Rattle.sspi_core.specs.declared.buffer.Part.TheVariants.{Plain}
use Rattle.sspi_core.specs.Buffer.{Buffer}
use Rattle.sspi_core.specs.Messages.{find_part}
use Rattle.krb_context.specs.declared.context.Kerberos.{Kerberos}
use Rattle.krb_context.specs.Contexts.{is_acceptor, is_peer_acceptor}
use Rattle.krb_context.specs.Params.{suite_of}
use Rattle.krb_context.specs.Parties.{ready_key}
use Rattle.krb_context.specs.Spelled.{spelled, covered}
use Rattle.krb_context.specs.Unwraps.{has_room}

-- an initiator and an acceptor, in either order, with the same key, suite and extra count (EC)
pub record ArePeers (sender receiver : Kerberos) : Type 0 where
  pub roles : is_acceptor sender ≡ is_peer_acceptor receiver
  pub key : ready_key sender.state sender.encryption_params ≡ ready_key receiver.state receiver.encryption_params
  pub suite : suite_of sender.encryption_params ≡ suite_of receiver.encryption_params
  pub filler : sender.encryption_params.ec ≡ receiver.encryption_params.ec
  pub small : sender.encryption_params.ec < 2 ^ 16

-- the receiver's buffers hold the octets of the sender's, and the same read-only data in the same places, with room for p
pub record IsDelivered (p : List ℕ) (made received : List Buffer) : Type 0 where
  pub text : spelled received ≡ spelled made
  pub beside : covered p received ≡ covered p made
  pub plain : Buffer
  pub found : find_part Plain received ≡ Some plain
  pub room : has_room received plain (length p) ≡ true
