-- An initiator on its way to the ticket of a service, as it can be sent.
use Rattle.std.specs.Prelude.{◌≤◌, ◌^◌, length, IfSome}
use Rattle.krb_authenticators.specs.Bindings.{AreShortBindings}
use Rattle.krb_authenticators.specs.TgsRequests.{AreShortTickets}
use Rattle.krb_as.specs.Clients.{IsShort}
use Rattle.krb_ap.specs.Shown.{CanGo}
use Rattle.krb_initiator.specs.declared.seeker.Seeker.{Seeker}
use Rattle.krb_initiator.specs.declared.seeker.Initiation.{Initiation}
use Rattle.krb_initiator.specs.declared.seeker.Initiation.TheVariants.{Requests, Seeks, Hears}
use Rattle.krb_initiator.specs.Tgts.{first_tickets}

-- what is sent is no longer than any argument is
pub record CanSeek (seeker : Seeker) : Type 0 where
  pub client : IsShort seeker.client
  pub realm : length seeker.asker.realm ≤ 2 ^ 24
  pub target : length seeker.wanted.target ≤ 2 ^ 24
  pub bindings : IfSome seeker.wanted.channel_bindings AreShortBindings
  pub tickets : AreShortTickets (first_tickets seeker.tgt)
  pub errand : CanGo seeker.errand

abbrev pub CanBegin : Initiation → Type 0
CanBegin (Requests initiator token) = Unit {0}
CanBegin (Seeks seeker) = CanSeek seeker
CanBegin (Hears initiator token) = Unit {0}
