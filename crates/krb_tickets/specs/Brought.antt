-- The ticket that a reply brings to a run at its phase (RFC 4120, sections 3.1.5 and 3.3.4).
use Rattle.std.specs.Prelude.{◌≡◌, ℕ, List, Option, Some, None, Result, Ok}
use Rattle.sspi_core.specs.declared.draw.Draw.{Draw}
use Rattle.sspi_core.specs.declared.cause.Cause.{Cause}
use Rattle.sspi_core.specs.Checks.{Gives, ◌>>=◌}
use Rattle.sspi_generator.specs.declared.network.NetFault.{NetFault}
use Rattle.krb_as.specs.AsPhases.{TakesReply}
use Rattle.krb_as.specs.declared.as_phase.AsPhase.{AsPhase}
use Rattle.krb_as.specs.declared.done.InitDone.{InitDone}
use Rattle.krb_as.specs.declared.key.Grant.{Grant}
use Rattle.krb_as.specs.declared.turn.Turn.{Turn}
use Rattle.krb_as.specs.declared.turn.Turn.TheVariants.{Asks, Ends}
use Rattle.krb_tgs.specs.Taken.{TakesTgsRep}
use Rattle.krb_initiator.specs.declared.seeker.Seeker.{Seeker}
use Rattle.krb_initiator.specs.declared.seeker.TgsLeg.{TgsLeg}
use Rattle.krb_initiator.specs.declared.seeker.Initiation.{Initiation}
use Rattle.krb_initiator.specs.declared.seeker.Initiation.TheVariants.{Requests, Seeks, Hears}
use Rattle.krb_initiator.specs.declared.seeker.InitPhase.{InitPhase}
use Rattle.krb_initiator.specs.declared.seeker.InitPhase.TheVariants.{New, InAsExchange, AwaitsTgsRep, Over}
use Rattle.krb_tickets.specs.Came.{held_key, HasSessionKey}

-- the ticket at the end of an AS exchange; a turn that asks again brings none
abbrev pub granted : Turn AsPhase Grant → Option Grant
granted (Asks request phase) = None
granted (Ends grant) = Some grant

unfoldable pub BringsFirst : Seeker → AsPhase → Result (List ℕ) NetFault → Draw → Result (Option Grant) Cause → Type 0
BringsFirst seeker phase reply draw = do
  turn ← TakesReply seeker.asker phase reply draw
  Gives (granted turn)

-- the ticket of a TGS-REP
unfoldable pub BringsNext : Seeker → TgsLeg → Result (List ℕ) NetFault → Draw → Result (Option Grant) Cause → Type 0
BringsNext seeker leg reply draw = do
  grant ← TakesTgsRep seeker.asker.rules seeker.wanted.target leg.question draw.moment leg.kdc leg.suite leg.key reply
  Gives (Some grant)

-- by how far the run has come
abbrev pub BringsIn : Seeker → InitPhase → Result (List ℕ) NetFault → Draw → Result (Option Grant) Cause → Type 0
BringsIn seeker New reply draw answer = Gives None answer
BringsIn seeker (InAsExchange phase) reply draw answer = BringsFirst seeker phase reply draw answer
BringsIn seeker (AwaitsTgsRep leg) reply draw answer = BringsNext seeker leg reply draw answer
BringsIn seeker Over reply draw answer = Gives None answer

abbrev pub BringsTicket : Initiation → InitPhase → Result (List ℕ) NetFault → Draw → Result (Option Grant) Cause → Type 0
BringsTicket (Requests initiator token) phase reply draw answer = Gives None answer
BringsTicket (Seeks seeker) phase reply draw answer = BringsIn seeker phase reply draw answer
BringsTicket (Hears initiator token) phase reply draw answer = Gives None answer

-- ---- what the run goes on with

-- the request after this reply shows the ticket that the reply brings: the next reply is to be encrypted under its key
pub record ShowsNext (initiation : Initiation) (phase : InitPhase) (reply : Result (List ℕ) NetFault) (draw : Draw) (leg : TgsLeg) : Type 0 where
  pub ticket : Grant
  pub brings : BringsTicket initiation phase reply draw (Ok (Some ticket))
  pub suite : leg.suite ≡ ticket.suite
  pub key : leg.key ≡ ticket.key

-- the run ends with the ticket that this reply brings: its key is the session key
pub record EndsWith (initiation : Initiation) (phase : InitPhase) (reply : Result (List ℕ) NetFault) (draw : Draw) (done : InitDone) : Type 0 where
  pub ticket : Grant
  pub brings : BringsTicket initiation phase reply draw (Ok (Some ticket))
  pub session : HasSessionKey done (held_key ticket)
