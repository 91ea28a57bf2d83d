-- A token begins user-to-user in one way, and not where it is an AP-REQ; and a TGT-REQ has at most one answer.
use Rattle.std.proofs.Common.{◌≡◌, ℕ, Bool, true, false, List, [], ◌∷◌, Option, Some, None, Result, Ok, Err, refl, sym, ap, ◌∙◌, subst}
use Rattle.krb_conf.specs.declared.env.Env.{Env}
use Rattle.krb_context.specs.declared.context.Kerberos.{Kerberos}
use Rattle.krb_context.specs.declared.state.KerberosState.{KerberosState}
use Rattle.krb_der.specs.Der.{tlv}
use Rattle.krb_messages.specs.Frame.{IsFrame}
use Rattle.krb_messages.specs.Layouts.{ap_req_layout}
use Rattle.krb_messages.specs.Table.{ap_req}
use Rattle.krb_messages.specs.declared.ap_req.ApReq.{ApReq}
use Rattle.krb_exchange.specs.Layouts.{tgt_req_layout}
use Rattle.krb_exchange.specs.Table.{tgt_req as tgt_req_kind}
use Rattle.krb_exchange.specs.declared.user_to_user.TgtReq.{TgtReq}
use Rattle.krb_exchange.proofs.Spelled.{same_record}
use Rattle.krb_replies.specs.Unseals.{IsRead}
use Rattle.sspi_core.specs.declared.cause.Cause.{Cause}
use Rattle.sspi_core.proofs.Once.{Once, then_once, takes_once}
use Rattle.krb_admission.proofs.Begun.{passed, allowed}
use Rattle.krb_admission.proofs.Frames.{same_behind, same_message}
use Rattle.krb_admission.specs.Accepts.{BeginsAdmission}
use Rattle.krb_admission.specs.Requests.{Requests}
use Rattle.krb_admission.specs.Tokens.{ap_req_id, IsApReq, ReceivesApReq}
use Rattle.krb_admission.specs.declared.request.Request.{Request}
use Rattle.krb_user_to_user.proofs.Once.{requests_tgt_once}
use Rattle.krb_user_to_user.specs.declared.accept_run.AcceptRun.{AcceptRun}
use Rattle.krb_user_to_user.specs.declared.request.Beginning.{Beginning}
use Rattle.krb_server.specs.declared.accept.Accepted.{Accepted}
use Rattle.krb_server.specs.declared.accept.Accepted.TheVariants.{Done, Run}
use Rattle.krb_server.specs.TgtReqs.{Found, IsTgtReq, BeginsUserToUser}
use Rattle.krb_server.specs.Whole.{Checks, RunsAs, TakesTgtReq}

same_tgt_req : (dce : Bool) (token : List ℕ) (x y : TgtReq) → IsTgtReq dce token x → IsTgtReq dce token y → x ≡ y
same_tgt_req true token x y h k = same_record tgt_req_layout x y token h k
same_tgt_req false token x y h k =
    let R : List ℕ → Type 0 = λ octets. IsRead tgt_req_layout octets x in
    same_record tgt_req_layout x y k.octets (subst R (same_message _ _ _ _ _ token h.frame k.frame) h.read) k.read

-- the TGT-REQ that a token is, if it is one
pub found_once : (dce : Bool) (state : KerberosState) (token : List ℕ) (x y : Option TgtReq) → Found (BeginsUserToUser dce state token) x → Found (BeginsUserToUser dce state token) y → x ≡ y
found_once dce state token None None h k = refl
found_once dce state token None (Some y) h k = absurd (h y k)
found_once dce state token (Some x) None h k = absurd (k x h)
found_once dce state token (Some x) (Some y) h k = ap Some (same_tgt_req dce token x y h.is k.is)

-- the token id of an AP-REQ is no TGT-REQ's
other_token_id : (o p m n octets : List ℕ) → IsFrame o ap_req_id m octets → IsFrame p (4 ∷ 0 ∷ []) n octets → ⊥
other_token_id o p m n octets first second = let e = same_behind o p ap_req_id (4 ∷ 0 ∷ []) m n octets first second in absurd cc

-- neither is its tag
other_tag : (token : List ℕ) (m : ApReq) (t : TgtReq) → IsRead ap_req_layout token m → IsRead tgt_req_layout token t → ⊥
unfolding ap_req tgt_req_kind tlv
other_tag token m t h k = let e = sym h.is ∙ k.is in absurd cc

-- an AP-REQ is no TGT-REQ
no_tgt_req : (dce : Bool) (token : List ℕ) (message : ApReq) (tgt_req : TgtReq) → IsApReq dce token message → IsTgtReq dce token tgt_req → ⊥
no_tgt_req true token message tgt_req h k = other_tag token message tgt_req h k
no_tgt_req false token message tgt_req h k = other_token_id _ _ _ _ token h.frame k.frame

ap_req_in : (server : Kerberos) (dce : Bool) (token : List ℕ) (request : Request) → BeginsAdmission server dce token (Ok request) → (message : ApReq) × IsApReq dce token message
unfolding Requests ReceivesApReq
ap_req_in server dce token request h =
    let a = allowed server dce token request h in
    let m = passed _ _ _ a.requests in
    let s = passed _ _ _ m.held in
    (m.found, s.rest.is)

none_found : (dce : Bool) (state : KerberosState) (token : List ℕ) (message : ApReq) → IsApReq dce token message → (found : Option TgtReq) → Found (BeginsUserToUser dce state token) found → found ≡ None
none_found dce state token message is None h = refl
none_found dce state token message is (Some tgt_req) h = absurd (no_tgt_req dce token message tgt_req is h.is)

-- a token whose AP-REQ passes the checks before the gate begins no user-to-user
pub ap_req_begins_none : (server : Kerberos) (dce : Bool) (token : List ℕ) (request : Request) → BeginsAdmission server dce token (Ok request) → (found : Option TgtReq) → Found (BeginsUserToUser dce server.state token) found → found ≡ None
ap_req_begins_none server dce token request begun found h = let came = ap_req_in server dce token request begun in none_found dce server.state token came.0 came.1 found h

pub no_tgt_req_at : (server : Kerberos) (dce : Bool) (token : List ℕ) (request : Request) → BeginsAdmission server dce token (Ok request) → (tgt_req : TgtReq) → BeginsUserToUser dce server.state token tgt_req → ⊥
no_tgt_req_at server dce token request begun tgt_req h = let came = ap_req_in server dce token request begun in no_tgt_req dce token came.0 tgt_req came.1 h.is

-- a run is who asks and how far it has come
pub same_run : (x y : AcceptRun) → x.acceptor ≡ y.acceptor → x.phase ≡ y.phase → x ≡ y
same_run x y a p = ap (λ z. record { alloc = x.alloc; acceptor = z; phase = x.phase }) a ∙ ap (λ z. record { alloc = x.alloc; acceptor = y.acceptor; phase = z }) p

checks_once : (server : Kerberos) (tgt_req : TgtReq) (dce : Bool) (env : Env) → Once (Checks server tgt_req dce env)
unfolding Checks
checks_once server tgt_req dce env = then_once _ _ (takes_once _ _) (λ user. requests_tgt_once server user tgt_req dce env)

-- the same answer, wherever a run is on the heap
abbrev pub IsSame : Accepted → Accepted → Type 0
IsSame (Done status token admits) other = Done status token admits ≡ other
IsSame (Run run) (Done status token admits) = ⊥
IsSame (Run run) (Run other) = run.value ≡ other.value

abbrev pub IsSameAnswer : Result Accepted Cause → Result Accepted Cause → Type 0
IsSameAnswer (Ok accepted) (Ok other) = IsSame accepted other
IsSameAnswer (Ok accepted) (Err cause) = ⊥
IsSameAnswer (Err cause) other = Err cause ≡ other

same_as_itself : (answer : Result Accepted Cause) → IsSameAnswer answer answer
same_as_itself (Ok (Done status token admits)) = refl
same_as_itself (Ok (Run run)) = refl
same_as_itself (Err cause) = refl

pub same_of_equal : (r s : Result Accepted Cause) → r ≡ s → IsSameAnswer r s
same_of_equal r s e = subst (λ z. IsSameAnswer r z) e (same_as_itself r)

runs_once : (beginning : Result Beginning Cause) (r s : Result Accepted Cause) → RunsAs beginning r → RunsAs beginning s → IsSameAnswer r s
runs_once (Ok beginning) r s h k =
    let same = same_run h.0.value k.0.value (h.2 ∙ sym k.2) (h.3 ∙ sym k.3) in
    subst (λ z. IsSameAnswer z s) (sym h.1) (subst (λ z. IsSameAnswer (Ok (Run h.0)) z) (sym k.1) same)
runs_once (Err cause) r s h k = same_of_equal r s (h ∙ sym k)

-- but for where its run is on the heap
pub tgt_req_once : (server : Kerberos) (tgt_req : TgtReq) (dce : Bool) (env : Env) (r s : Result Accepted Cause) → TakesTgtReq server tgt_req dce env r → TakesTgtReq server tgt_req dce env s → IsSameAnswer r s
tgt_req_once server tgt_req dce env r s h k =
    let same = (checks_once server tgt_req dce env).same h.beginning k.beginning h.checked k.checked in
    let P : Result Beginning Cause → Type 0 = λ b. RunsAs b s in
    runs_once h.beginning r s h.runs (subst P (sym same) k.runs)
