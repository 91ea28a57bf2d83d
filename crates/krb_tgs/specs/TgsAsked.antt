-- The requests of a client to ticket-granting services, in turn (RFC 4120, sections 3.3 and 5.4.1; RFC 6806, section 8).
use Rattle.std.specs.Prelude.{ℕ, ◌==◌, Bool, not, nat_lt, List, [], ◌∷◌, take, drop, length, Option, Some, None, Result, bytes_eq, unwrap_or, if◌then◌else◌}
use Rattle.std.specs.Int.{w32, from_be_bytes}
use Rattle.std.specs.Str.{str_to_ascii_lowercase}
use Rattle.krb_der.specs.Layout.{spelling}
use Rattle.url.specs.Parts.{Parts}
use Rattle.krb_crypto.specs.Suite.{key_size}
use Rattle.krb_messages.specs.declared.authenticator.Authenticator.{Authenticator}
use Rattle.krb_messages.specs.declared.ticket.Ticket.{Ticket}
use Rattle.krb_exchange.specs.declared.kdc_rep.KdcRep.{KdcRep}
use Rattle.krb_exchange.specs.declared.kdc_req.KdcReqBody.{KdcReqBody}
use Rattle.krb_exchange.specs.declared.kdc_req.TgsReq.{TgsReq}
use Rattle.krb_exchange.specs.Layouts.{tgs_req_layout}
use Rattle.krb_conf.specs.Names.{target_parts}
use Rattle.sspi_core.specs.declared.draw.Draw.{Draw}
use Rattle.sspi_core.specs.declared.cause.Cause.{Cause}
use Rattle.sspi_core.specs.declared.cause.Cause.TheVariants.{KeyLength, Hops, SameRealm}
use Rattle.sspi_core.specs.Checks.{Holds, Gives, ◌>>=◌, ◌>>◌}
use Rattle.sspi_generator.specs.declared.network.NetworkRequest.{NetworkRequest}
use Rattle.krb_as.specs.declared.kdc.Kdc.{Kdc}
use Rattle.krb_as.specs.Kdcs.{FindsKdc}
use Rattle.krb_as.specs.Requests.{request_to}
use Rattle.krb_authenticators.specs.Authenticators.{authenticator}
use Rattle.krb_authenticators.specs.TgsRequests.{tgs_body, tgs_req}
use Rattle.krb_as.specs.declared.asker.Asker.{Asker}
use Rattle.krb_tgs.specs.declared.tgs.Begun.{Begun}
use Rattle.krb_tgs.specs.declared.wanted.Wanted.{Wanted}
use Rattle.krb_as.specs.declared.key.Grant.{Grant}

-- the random octets of a request, in their order: four of a number, the highest first, four of a nonce, sixteen of a confounder
abbrev pub drawn_number : Draw → ℕ
drawn_number draw = from_be_bytes w32 (take 4 draw.random)

abbrev pub drawn_nonce : Draw → List ℕ
drawn_nonce draw = take 4 (drop 4 draw.random)

abbrev pub drawn_confounder : Draw → List ℕ
drawn_confounder draw = take 16 (drop 8 draw.random)

-- the authenticator: the client of the reply that brought the ticket, with the channel's bindings
abbrev pub tgs_authenticator : Wanted → KdcRep → Draw → Authenticator
tgs_authenticator wanted rep draw = authenticator rep (Some (drawn_number draw)) None None wanted.channel_bindings draw.moment

-- the service and the host of a target
abbrev pub parts_of : Option (List ℕ × List ℕ) → List ℕ × List ℕ
parts_of parts = unwrap_or parts ([], [])

-- the service of a target, by the components of its name
abbrev pub service_of : List ℕ → List (List ℕ)
service_of target = (parts_of (target_parts target)).0 ∷ (parts_of (target_parts target)).1 ∷ []

-- a ticket for the target is asked for
abbrev pub wanted_body : Wanted → List ℕ → Option (List Ticket) → Draw → List ℕ → List ℕ → KdcReqBody
wanted_body wanted realm tickets draw service host = tgs_body realm service host tickets wanted.flags.0 draw.moment (drawn_nonce draw)

-- the request to the ticket-granting service of a realm, with the ticket that was brought
unfoldable pub tgs_req_for : Wanted → Grant → List ℕ → Option (List Ticket) → Draw → TgsReq
tgs_req_for wanted shown realm tickets draw =
    tgs_req shown.suite shown.key (drawn_confounder draw) shown.rep.ticket (tgs_authenticator wanted shown.rep draw)
    (wanted_body wanted realm tickets draw (parts_of (target_parts wanted.target)).0 (parts_of (target_parts wanted.target)).1)

-- the request of tgs_req_for, sent to a realm's KDC
unfoldable pub tgs_request : Wanted → Grant → Option (List Ticket) → Draw → Kdc → NetworkRequest
tgs_request wanted shown tickets draw kdc = request_to kdc (spelling tgs_req_layout (tgs_req_for wanted shown kdc.realm tickets draw))

-- the URL that the client has is that of a KDC of its own realm, by the same octets: for any other realm one is looked for
abbrev pub url_for : Option Parts → List ℕ → List ℕ → Option Parts
url_for own home realm = if bytes_eq home realm then own else None

-- the session key has its length, the realm has a KDC, and the request goes to it
unfoldable pub AsksTgs : Asker → Wanted → Grant → List ℕ → List ℕ → Option (List Ticket) → Draw → Result Begun Cause → Type 0
AsksTgs asker wanted shown home realm tickets draw = do
  Holds KeyLength (length shown.key == key_size shown.suite)
  kdc ← FindsKdc (url_for asker.kdc_url home realm) asker.env realm
  Gives (record { request = tgs_request wanted shown tickets draw kdc; kdc = kdc })

-- the same realm, in letters of either case
abbrev pub is_same_realm : List ℕ → List ℕ → Bool
is_same_realm x y = bytes_eq (str_to_ascii_lowercase x) (str_to_ascii_lowercase y)

-- a referral is followed, at most nine of them, and none to the realm that was asked; no additional ticket goes along
unfoldable pub Follows : Asker → Wanted → Grant → ℕ → List ℕ → List ℕ → List ℕ → Draw → Result Begun Cause → Type 0
Follows asker wanted shown hops home asked realm draw = do
  Holds Hops (nat_lt hops 9)
  Holds SameRealm (not (is_same_realm asked realm))
  AsksTgs asker wanted shown home realm None draw
