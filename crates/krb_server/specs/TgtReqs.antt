-- A token that begins user-to-user (draft-swift-win2k-krb-user2user, section 3; RFC 4121, section 4.1).
use Rattle.std.specs.Prelude.{◌≡◌, ℕ, nat_le, ◌&&◌, Bool, true, false, List, [], ◌∷◌, length, Option, Some, None}
use Rattle.krb_messages.specs.Frame.{IsFrame}
use Rattle.krb_exchange.specs.Layouts.{tgt_req_layout}
use Rattle.krb_exchange.specs.declared.user_to_user.TgtReq.{TgtReq}
use Rattle.krb_context.specs.declared.state.KerberosState.{KerberosState}
use Rattle.krb_context.specs.declared.state.KerberosState.TheVariants.{TgtExchange, Preauthentication, ApExchange, Final}
use Rattle.krb_replies.specs.Unseals.{IsRead}

-- one with the property, or none where there is none
abbrev pub Found : {A : Type 0} → (A → Type 0) → Option A → Type 0
Found {A} P None = (x : A) → P x → ⊥
Found P (Some x) = P x

-- the token is a frame of this TGT-REQ, whatever mechanism it names
pub record IsFramedTgtReq (token : List ℕ) (tgt_req : TgtReq) : Type 0 where
  pub oid : List ℕ
  pub octets : List ℕ
  pub frame : IsFrame oid (4 ∷ 0 ∷ []) octets token
  pub read : IsRead tgt_req_layout octets tgt_req

-- the token is this TGT-REQ: bare in DCE style (MS-KILE, section 3.4.5.1), otherwise in a frame
abbrev pub IsTgtReq : Bool → List ℕ → TgtReq → Type 0
IsTgtReq true token tgt_req = IsRead tgt_req_layout token tgt_req
IsTgtReq false token tgt_req = IsFramedTgtReq token tgt_req

-- a TGT-REQ may come only first
abbrev pub is_first : KerberosState → Bool
is_first TgtExchange = true
is_first Preauthentication = false
is_first ApExchange = false
is_first Final = false

-- it may come now, in a token of at most 2^24 octets
abbrev pub may_begin : KerberosState → List ℕ → Bool
may_begin state token = is_first state && nat_le (length token) 16777216

-- the token begins user-to-user in this state
pub record BeginsUserToUser (dce : Bool) (state : KerberosState) (token : List ℕ) (tgt_req : TgtReq) : Type 0 where
  pub may : may_begin state token ≡ true
  pub is : IsTgtReq dce token tgt_req
