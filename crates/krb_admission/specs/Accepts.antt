-- The acceptor's step: the ordered checks with the gate among them, and the context after them; and the initiator's third leg.
use Rattle.std.specs.Prelude.{◌≡◌, ℕ, Bool, true, false, List, Option, Some, None, Result, Ok, Err}
use Rattle.krb_replay.specs.declared.ask.Ask.{Ask}
use Rattle.krb_replay.specs.declared.ask.Verdict.{Verdict}
use Rattle.krb_replay.specs.declared.ask.Verdict.TheVariants as verdicts
use Rattle.krb_context.specs.declared.context.Kerberos.{Kerberos}
use Rattle.krb_context.specs.declared.state.KerberosState.{KerberosState}
use Rattle.krb_context.specs.declared.state.KerberosState.TheVariants.{TgtExchange, Preauthentication, ApExchange, Final}
use Rattle.krb_context.specs.declared.rules.Rules.{Rules}
use Rattle.krb_context.specs.States.{is_waiting}
use Rattle.sspi_core.specs.declared.draw.Draw.{Draw}
use Rattle.sspi_core.specs.Flags.{has_flag, use_dce_style}
use Rattle.sspi_core.specs.declared.flags.ServerRequestFlags.{ServerRequestFlags}
use Rattle.sspi_core.specs.declared.cause.Cause.{Cause}
use Rattle.sspi_core.specs.declared.cause.Cause.TheVariants.{Sequence, Skew, NotYet, Expired, Replayed}
use Rattle.sspi_core.specs.Checks.{Holds, Takes, Passes, Gives, ◌>>=◌, ◌>>◌}
use Rattle.krb_admission.specs.declared.request.Request.{Request}
use Rattle.krb_admission.specs.declared.admission.Admission.{Admission}
use Rattle.krb_admission.specs.declared.admission.Answer.{Answer}
use Rattle.krb_admission.specs.Requests.{Requests, ask_of}
use Rattle.krb_admission.specs.Allowed.{Allows}
use Rattle.krb_admission.specs.Complete.{Completes}
use Rattle.krb_admission.specs.Admission.{admission_of, answer_for, settled}
use Rattle.krb_admission.specs.ThirdLeg.{Concludes}

-- the caller asks for bare tokens, of which the initiator sends the last: DCE style (MS-KILE, section 3.4.5.1)
abbrev pub asks_dce_style : ServerRequestFlags → Bool
asks_dce_style flags = has_flag flags.0 use_dce_style

-- an acceptor awaits the initiator's third leg
abbrev pub awaits_last_word : Bool → KerberosState → Bool
awaits_last_word dce TgtExchange = false
awaits_last_word dce Preauthentication = false
awaits_last_word dce ApExchange = dce
awaits_last_word dce Final = false

-- the cause of a gate's refusal, none if it admits
abbrev pub refusal : Verdict → Option Cause
refusal verdicts.Admitted = None
refusal verdicts.Skew = Some Skew
refusal verdicts.NotYet = Some NotYet
refusal verdicts.Expired = Some Expired
refusal verdicts.Replayed = Some Replayed

-- the state in which an AP-REQ may come, and the checks before the gate
unfoldable pub BeginsAdmission : Kerberos → Bool → List ℕ → Result Request Cause → Type 0
BeginsAdmission server dce token = do
  Holds Sequence (is_waiting server.state)
  properties ← Takes Sequence server.server
  request ← Requests server.rules properties dce token
  Allows server request
  Gives request

-- the checks after the gate, and the admission
unfoldable pub FinishesAdmission : Kerberos → Bool → Draw → Request → Result Admission Cause → Type 0
FinishesAdmission server dce draw request = do
  client ← Completes server.rules request
  Gives (admission_of dce server.krb5_user_to_user server.seq_number draw request client)

-- an AP-REQ, judged by the ordered checks, with this verdict of the gate
unfoldable pub DecidesAdmission : Kerberos → Bool → List ℕ → Draw → Verdict → Result Admission Cause → Type 0
DecidesAdmission server dce token draw verdict = do
  request ← BeginsAdmission server dce token
  Passes (refusal verdict)
  FinishesAdmission server dce draw request

-- the gate takes one step for a request that reaches it, otherwise it is unchanged
abbrev pub Asks : {G : Type 0} → (G → Ask → Verdict → G → Type 0) → Rules → ℕ → G → Result Request Cause → Verdict → G → Type 0
Asks admits rules moment old (Ok request) verdict new = admits old (ask_of rules request moment) verdict new
Asks admits rules moment old (Err cause) verdict new = new ≡ old

-- the caller's answer to an AP-REQ, and the context afterwards: a refusal leaves it unchanged
abbrev pub MakesAnswer : Kerberos → Result Admission Cause → Result Answer Cause → Kerberos → Type 0
MakesAnswer server (Ok admission) answer server' = (answer ≡ Ok (answer_for admission)) × (server' ≡ settled server admission)
MakesAnswer server (Err cause) answer server' = (answer ≡ Err cause) × (server' ≡ server)

-- the third leg if it is awaited, otherwise the outcome of an AP-REQ
abbrev pub Ends : Bool → Kerberos → List ℕ → Result Admission Cause → Result Answer Cause → Kerberos → Type 0
Ends true server token outcome answer server' = Concludes server token answer server'
Ends false server token outcome answer server' = MakesAnswer server outcome answer server'

-- a token at an acceptor, over any gate. If the third leg is awaited no AP-REQ may come: the first check of an AP-REQ fails, so the
-- gate is not asked
pub record Accepts {G : Type 0} (admits : G → Ask → Verdict → G → Type 0) (server : Kerberos) (dce : Bool) (token : List ℕ) (draw : Draw)
    (old : G) (answer : Result Answer Cause) (server' : Kerberos) (new : G) : Type 0 where
  pub verdict : Verdict
  pub request : Result Request Cause
  pub begun : BeginsAdmission server dce token request
  pub gate : Asks admits server.rules draw.moment old request verdict new
  pub outcome : Result Admission Cause
  pub judged : DecidesAdmission server dce token draw verdict outcome
  pub made : Ends (awaits_last_word dce server.state) server token outcome answer server'
