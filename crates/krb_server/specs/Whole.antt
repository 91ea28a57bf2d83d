-- The acceptor's step at any token: a TGT-REQ begins user-to-user, every other token is judged as an AP-REQ or as the third leg.
use Rattle.std.specs.Prelude.{◌≡◌, ℕ, Bool, List, Option, Some, None, Result, Ok, Err, option_and_then}
use Rattle.std.specs.Global.{Box}
use Rattle.krb_conf.specs.declared.env.Env.{Env}
use Rattle.krb_exchange.specs.declared.user_to_user.TgtReq.{TgtReq}
use Rattle.krb_context.specs.declared.context.Kerberos.{Kerberos}
use Rattle.krb_context.specs.declared.server.ServerProperties.{ServerProperties}
use Rattle.krb_replay.specs.declared.ask.Ask.{Ask}
use Rattle.krb_replay.specs.declared.ask.Verdict.{Verdict}
use Rattle.sspi_core.specs.declared.draw.Draw.{Draw}
use Rattle.sspi_core.specs.declared.identity.CredentialsBuffers.{CredentialsBuffers}
use Rattle.sspi_core.specs.declared.cause.Cause.{Cause}
use Rattle.sspi_core.specs.declared.cause.Cause.TheVariants.{Credentials}
use Rattle.sspi_core.specs.Checks.{Takes, ◌>>=◌}
use Rattle.krb_admission.specs.declared.admission.Answer.{Answer}
use Rattle.krb_admission.specs.Accepts.{Accepts}
use Rattle.krb_admission.specs.Halves.{JudgesAndAdmits}
use Rattle.krb_user_to_user.specs.declared.request.Beginning.{Beginning}
use Rattle.krb_user_to_user.specs.declared.accept_run.AcceptRun.{AcceptRun}
use Rattle.krb_user_to_user.specs.declared.steps.AcceptPhase.TheVariants.{New}
use Rattle.krb_user_to_user.specs.TgtRequests.{RequestsTgt}
use Rattle.krb_user_to_user.specs.AcceptRuns.{IsNew}
use Rattle.krb_server.specs.declared.accept.Accepted.{Accepted}
use Rattle.krb_server.specs.declared.accept.Accepted.TheVariants.{Done, Run}
use Rattle.krb_server.specs.TgtReqs.{Found, BeginsUserToUser}

-- the user that the service is
abbrev pub user_of : Kerberos → Option CredentialsBuffers
user_of server = option_and_then (λ (properties : ServerProperties). properties.user) server.server

-- the checks of a TGT-REQ
unfoldable pub Checks : Kerberos → TgtReq → Bool → Env → Result Beginning Cause → Type 0
Checks server tgt_req dce env = do
  user ← Takes Credentials (user_of server)
  RequestsTgt server user tgt_req dce env

-- a run that is not started, or the refusal
abbrev pub RunsAs : Result Beginning Cause → Result Accepted Cause → Type 0
RunsAs (Ok beginning) answer = (run : Box AcceptRun) × (answer ≡ Ok (Run run)) × (run.value.acceptor ≡ beginning.acceptor) × (run.value.phase ≡ New beginning.client)
RunsAs (Err cause) answer = answer ≡ Err cause

pub record TakesTgtReq (server : Kerberos) (tgt_req : TgtReq) (dce : Bool) (env : Env) (answer : Result Accepted Cause) : Type 0 where
  pub beginning : Result Beginning Cause
  pub checked : Checks server tgt_req dce env beginning
  pub runs : RunsAs beginning answer

-- the same answer
abbrev pub accepted_as : Answer → Accepted
accepted_as answer = Done answer.status answer.token answer.admits

abbrev pub answered_as : Result Answer Cause → Result Accepted Cause
answered_as (Ok answer) = Ok (accepted_as answer)
answered_as (Err cause) = Err cause

-- a token that is no TGT-REQ, judged by the checks of an AP-REQ and of the third leg
pub record JudgesOther {G : Type 0} (admits : G → Ask → Verdict → G → Type 0) (server : Kerberos) (dce : Bool) (token : List ℕ)
    (draw : Draw) (old : G) (answer : Result Accepted Cause) (server' : Kerberos) (new : G) : Type 0 where
  pub judged : Result Answer Cause
  pub accepts : Accepts admits server dce token draw old judged server' new
  pub answer_is : answer ≡ answered_as judged

-- a token that is no TGT-REQ, judged by the two halves of an admission, one after the other
pub record AcceptsInHalves {G : Type 0} (admits : G → Ask → Verdict → G → Type 0) (server : Kerberos) (dce : Bool) (token : List ℕ)
    (draw : Draw) (old : G) (answer : Result Accepted Cause) (server' : Kerberos) (new : G) : Type 0 where
  pub judged : Result Answer Cause
  pub halves : JudgesAndAdmits admits server dce token draw old judged server' new
  pub answer_is : answer ≡ answered_as judged

-- which of the two a token is decides
abbrev pub AcceptsToken : {G : Type 0} → (G → Ask → Verdict → G → Type 0) → Kerberos → Bool → List ℕ → Env → Draw → G → Option TgtReq
    → Result Accepted Cause → Kerberos → G → Type 0
AcceptsToken admits server dce token env draw old (Some tgt_req) answer server' new = TakesTgtReq server tgt_req dce env answer × (server' ≡ server) × (new ≡ old)
AcceptsToken admits server dce token env draw old None answer server' new = JudgesOther admits server dce token draw old answer server' new

-- a token at an acceptor, over any gate
pub record AcceptsWhole {G : Type 0} (admits : G → Ask → Verdict → G → Type 0) (server : Kerberos) (dce : Bool) (token : List ℕ)
    (env : Env) (draw : Draw) (old : G) (answer : Result Accepted Cause) (server' : Kerberos) (new : G) : Type 0 where
  pub tgt_req : Option TgtReq
  pub found : Found (BeginsUserToUser dce server.state token) tgt_req
  pub made : AcceptsToken admits server dce token env draw old tgt_req answer server' new

-- an exchange that begins is not started yet, and what it is to send can be sent
abbrev pub CanStart : Accepted → Type 0
CanStart (Done status token admits) = Unit {0}
CanStart (Run run) = IsNew run.value

-- the answer, where a token has one at once
abbrev pub answer_at_once : Accepted → Option Answer
answer_at_once (Done status token admits) = Some (record { status = status; token = token; admits = admits })
answer_at_once (Run run) = None
