-- That each reply to an initiator that began with a ticket answers the request that this very run made (RFC 4120, section 3.3.4).
use Rattle.std.specs.Prelude.{◌≡◌, ℕ, true, List, Some, None}
use Rattle.sspi_core.specs.declared.draw.Draw.{Draw}
use Rattle.krb_replies.specs.Fresh.{same_components}
use Rattle.krb_as.specs.declared.done.InitDone.{InitDone}
use Rattle.krb_as.specs.declared.key.Grant.{Grant}
use Rattle.krb_tgs.specs.Fresh.{question_of, referral_of}
use Rattle.krb_tgs.specs.TgsAsked.{service_of}
use Rattle.krb_ap.specs.Shown.{shown_state}
use Rattle.krb_initiator.specs.FreshRuns.{Arrival, next_realm, LeadsOn}
use Rattle.krb_initiator.specs.declared.seeker.Seeker.{Seeker}
use Rattle.krb_initiator.specs.declared.seeker.TgsLeg.{TgsLeg}
use Rattle.krb_initiator.specs.declared.seeker.InitPhase.{InitPhase}
use Rattle.krb_initiator.specs.declared.seeker.InitPhase.TheVariants.{New, InAsExchange, AwaitsTgsRep, Over}

-- the ticket was shown, by a request that was drawn at the start, to the KDC of the realm that it refers to; these TGS-REPs, each of which
-- answers the request before it, lead from there to the last ticket, which was shown to this KDC
pub record CameWithTicket (seeker : Seeker) (held : Grant) (start : Draw) (arrivals : List Arrival) (leg : TgsLeg) : Type 0 where
  pub to : List ℕ
  pub last : Grant
  pub at : Draw
  pub leads : LeadsOn seeker (next_realm held) held start arrivals to last at
  pub suite : leg.suite ≡ last.suite
  pub key : leg.key ≡ last.key
  pub question : leg.question ≡ question_of last.rep at
  pub realm : leg.kdc.realm ≡ to

-- these replies, in their order, bring an initiator that began with this ticket and this draw to this phase
abbrev pub CameFresh : Seeker → Grant → Draw → List Arrival → InitPhase → Type 0
CameFresh seeker held start arrivals New = ⊥
CameFresh seeker held start arrivals (InAsExchange phase) = ⊥
CameFresh seeker held start arrivals (AwaitsTgsRep leg) = CameWithTicket seeker held start arrivals leg
CameFresh seeker held start arrivals Over = Unit {0}

-- and to this end: the session key is that of the last ticket, which is for the target, by what is encrypted in its reply, and which is
-- shown to the service with an authenticator of the moment at which it came
pub record IsFreshSession (seeker : Seeker) (held : Grant) (start : Draw) (arrivals : List Arrival) (done : InitDone) : Type 0 where
  pub to : List ℕ
  pub last : Grant
  pub at : Draw
  pub leads : LeadsOn seeker (next_realm held) held start arrivals to last at
  pub is_service : referral_of seeker.asker.rules seeker.wanted.target last.facts last.rep ≡ None
  pub for_target : same_components last.facts.sname.name_string (service_of seeker.wanted.target) ≡ true
  pub session_key : done.change.encryption_params.session_key ≡ Some last.key
  pub asked_at : done.change.asked_at ≡ Some at.moment
  pub state : done.change.state ≡ shown_state seeker.errand.initiator
