-- The two halves of an admission: an AP-REQ is judged without a gate, and admitted at one.
use Rattle.std.specs.Prelude.{◌≡◌, ℕ, Bool, true, false, List, Option, Some, None, Result, Ok, Err}
use Rattle.krb_replay.specs.declared.ask.Ask.{Ask}
use Rattle.krb_replay.specs.declared.ask.Verdict.{Verdict}
use Rattle.krb_context.specs.declared.context.Kerberos.{Kerberos}
use Rattle.krb_context.specs.declared.rules.Rules.{Rules}
use Rattle.krb_context.specs.declared.server.ServerProperties.{ServerProperties}
use Rattle.krb_context.specs.States.{is_waiting}
use Rattle.sspi_core.specs.declared.draw.Draw.{Draw}
use Rattle.sspi_core.specs.declared.cause.Cause.{Cause}
use Rattle.sspi_core.specs.declared.cause.Cause.TheVariants.{Sequence}
use Rattle.krb_messages.specs.declared.enc_ticket_part.EncTicketPart.{EncTicketPart}
use Rattle.krb_admission.specs.declared.judged.TicketTimes.{TicketTimes}
use Rattle.krb_admission.specs.declared.request.Request.{Request}
use Rattle.krb_admission.specs.declared.admission.Admission.{Admission}
use Rattle.krb_admission.specs.declared.admission.Answer.{Answer}
use Rattle.krb_admission.specs.Requests.{ask_of}
use Rattle.krb_admission.specs.Accepts.{BeginsAdmission, FinishesAdmission, MakesAnswer, refusal}

-- a request that came to the gate, the result of the checks after the gate, the moment to ask the gate at, and the rules of its checks
pub record Prepared : Type 0 where
  pub request : Request
  pub outcome : Result Admission Cause
  pub moment : ℕ
  pub rules : Rules

-- the token brings this to the gate: its AP-REQ passes every check before it
pub record Prepares (server : Kerberos) (dce : Bool) (token : List ℕ) (draw : Draw) (prepared : Prepared) : Type 0 where
  pub begins : BeginsAdmission server dce token (Ok prepared.request)
  pub finishes : FinishesAdmission server dce draw prepared.request prepared.outcome
  pub moment : prepared.moment ≡ draw.moment
  pub rules : prepared.rules ≡ server.rules

-- some token has brought it, at some context
abbrev pub IsPrepared : Prepared → Type 0
IsPrepared prepared = (server : Kerberos) × (dce : Bool) × (token : List ℕ) × (draw : Draw) × Prepares server dce token draw prepared

-- the first half: what the token brings to the gate, or the refusal of the first check before it that fails
abbrev pub JudgesApReq : Kerberos → Bool → List ℕ → Draw → Result Prepared Cause → Type 0
JudgesApReq server dce token draw (Ok prepared) = Prepares server dce token draw prepared
JudgesApReq server dce token draw (Err cause) = BeginsAdmission server dce token (Err cause)

-- the context with these names and keys of services in the place of its own
abbrev pub with_keys : ServerProperties → Kerberos → Kerberos
with_keys keys server = record server { server = Some keys }

-- the question to the gate
abbrev pub question : Prepared → Ask
question prepared = ask_of prepared.rules prepared.request prepared.moment

abbrev pub ticket_times : EncTicketPart → TicketTimes
ticket_times part = record { authtime = part.authtime; starttime = part.starttime; endtime = part.endtime; renew_till = part.renew_till }

-- the gate's refusal, otherwise the result of the checks after it
abbrev pub outcome_behind : Option Cause → Result Admission Cause → Result Admission Cause
outcome_behind None outcome = outcome
outcome_behind (Some cause) outcome = Err cause

-- the gate takes one step, and the context is settled if the gate admits and no check after it fails
pub record PassesGate {G : Type 0} (admits : G → Ask → Verdict → G → Type 0) (prepared : Prepared) (server : Kerberos) (old : G) (answer : Result Answer Cause)
    (server' : Kerberos) (new : G) : Type 0 where
  pub verdict : Verdict
  pub gate : admits old (question prepared) verdict new
  pub made : MakesAnswer server (outcome_behind (refusal verdict) prepared.outcome) answer server'

-- a refusal that leaves context and gate
pub record RefusesOnly {G : Type 0} (cause : Cause) (server : Kerberos) (old : G) (answer : Result Answer Cause) (server' : Kerberos) (new : G) : Type 0 where
  pub answer_is : answer ≡ Err cause
  pub server_stays : server' ≡ server
  pub gate_stays : new ≡ old

abbrev pub AdmitsWhere : {G : Type 0} → Bool → (G → Ask → Verdict → G → Type 0) → Prepared → Kerberos → G → Result Answer Cause → Kerberos → G → Type 0
AdmitsWhere true admits prepared server old answer server' new = PassesGate admits prepared server old answer server' new
AdmitsWhere false admits prepared server old answer server' new = RefusesOnly Sequence server old answer server' new

-- the second half. A context that waits for no AP-REQ any more, as after another admission, admits nobody, and no gate is asked
abbrev pub AdmitsPrepared : {G : Type 0} → (G → Ask → Verdict → G → Type 0) → Prepared → Kerberos → G → Result Answer Cause → Kerberos → G → Type 0
AdmitsPrepared admits prepared server old answer server' new = AdmitsWhere (is_waiting server.state) admits prepared server old answer server' new

-- the second half after the first; a refusal by the first is the answer
abbrev pub AdmitsNext : {G : Type 0} → (G → Ask → Verdict → G → Type 0) → Result Prepared Cause → Kerberos → G → Result Answer Cause → Kerberos → G → Type 0
AdmitsNext admits (Ok prepared) server old answer server' new = AdmitsPrepared admits prepared server old answer server' new
AdmitsNext admits (Err cause) server old answer server' new = RefusesOnly cause server old answer server' new

-- both halves, one after the other, at one context
pub record JudgesAndAdmits {G : Type 0} (admits : G → Ask → Verdict → G → Type 0) (server : Kerberos) (dce : Bool) (token : List ℕ) (draw : Draw)
    (old : G) (answer : Result Answer Cause) (server' : Kerberos) (new : G) : Type 0 where
  pub half : Result Prepared Cause
  pub judges : JudgesApReq server dce token draw half
  pub next : AdmitsNext admits half server old answer server' new
