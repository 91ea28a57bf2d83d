-- How an initiator begins that has a ticket: it shows it to the service (RFC 4120, section 3.2), or to the ticket-granting service that it
-- is for (section 3.3).
use Rattle.std.specs.Prelude.{◌≡◌, ℕ, List, Option, Some, None, Result, Ok, Err}
use Rattle.sspi_core.specs.declared.draw.Draw.{Draw}
use Rattle.sspi_core.specs.declared.cause.Cause.{Cause}
use Rattle.sspi_core.specs.declared.cause.Cause.TheVariants.{Network}
use Rattle.sspi_core.specs.Checks.{Gives, ◌>>=◌}
use Rattle.krb_as.specs.declared.turn.Turn.{Turn}
use Rattle.krb_as.specs.declared.turn.Turn.TheVariants.{Asks, Ends}
use Rattle.krb_as.specs.declared.done.InitDone.{InitDone}
use Rattle.krb_as.specs.declared.key.Grant.{Grant}
use Rattle.krb_tgs.specs.Fresh.{referral_of}
use Rattle.krb_tgs.specs.TgsAsked.{AsksTgs}
use Rattle.krb_ap.specs.Shown.{ShowsTicket}
use Rattle.krb_initiator.specs.declared.init_run.InitRun.{InitRun}
use Rattle.krb_initiator.specs.declared.seeker.Seeker.{Seeker}
use Rattle.krb_initiator.specs.declared.seeker.InitPhase.{InitPhase}
use Rattle.krb_initiator.specs.declared.seeker.InitPhase.TheVariants.{AwaitsTgsRep}
use Rattle.krb_initiator.specs.Tgts.{first_tickets}
use Rattle.krb_initiator.specs.InitSteps.{leg_of}

-- it is shown to the ticket-granting service of this realm, with the service's own ticket
unfoldable pub AsksWithHeld : Seeker → List ℕ → Grant → Draw → Result (Turn InitPhase InitDone) Cause → Type 0
AsksWithHeld seeker realm held draw = do
  begun ← AsksTgs seeker.asker seeker.wanted held held.rep.crealm realm (first_tickets seeker.tgt) draw
  Gives (Asks begun.request (AwaitsTgsRep (leg_of begun.kdc held held.rep.crealm draw 0)))

-- it is shown to the service
unfoldable pub ShowsHeld : Seeker → Grant → Draw → Result (Turn InitPhase InitDone) Cause → Type 0
ShowsHeld seeker held draw = do
  done ← ShowsTicket seeker.errand held.suite held.key held.rep held.rep.crealm draw
  Gives (Ends done)

abbrev pub GoesWith : Option (List ℕ) → Seeker → Grant → Draw → Result (Turn InitPhase InitDone) Cause → Type 0
GoesWith None seeker held draw answer = ShowsHeld seeker held draw answer
GoesWith (Some realm) seeker held draw answer = AsksWithHeld seeker realm held draw answer

-- the name of the ticket says which service it is for
abbrev pub StartsHeld : Seeker → Grant → Draw → Result (Turn InitPhase InitDone) Cause → Type 0
StartsHeld seeker held draw answer =
    GoesWith (referral_of seeker.asker.rules seeker.wanted.target held.facts held.rep) seeker held draw answer

-- ---- the run that awaits the reply

-- how far a run came, in its place
abbrev pub turn_of : Turn InitRun InitDone → Turn InitPhase InitDone
turn_of (Asks request run) = Asks request run.phase
turn_of (Ends done) = Ends done

abbrev pub answer_of : Result (Turn InitRun InitDone) Cause → Result (Turn InitPhase InitDone) Cause
answer_of (Ok turn) = Ok (turn_of turn)
answer_of (Err cause) = Err cause

-- this holds of the run, if there is a request
abbrev pub OnAsked : Turn InitRun InitDone → (InitRun → Type 0) → Type 0
OnAsked (Asks request run) P = P run
OnAsked (Ends done) P = Unit {0}

-- the network failed, with this code of the caller's
abbrev pub IsNetwork : Cause → Type 0
IsNetwork cause = (code : ℕ) × (cause ≡ Network code)
