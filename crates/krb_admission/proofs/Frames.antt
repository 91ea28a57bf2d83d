-- A token is a frame of one message, with one token id.
use Rattle.std.proofs.Common.{◌≡◌, ℕ, false, List, [], ◌++◌, refl, sym, subst, ap, ◌∙◌, Result, Err}
use Rattle.std.specs.Result.{IsErrAnd}
use Rattle.sspi_core.specs.declared.cause.Cause.{Cause}
use Rattle.sspi_core.specs.declared.cause.Cause.TheVariants.{Shape, Memory}
use Rattle.sspi_core.specs.Checks.{Finds, Answers}
use Rattle.sspi_core.proofs.Chain.{is_err, same_err}
use Rattle.std.proofs.lemmas.List.{append-nil, append_cancel_left}
use Rattle.krb_der.specs.Der.{tlv, StandsNext}
use Rattle.krb_messages.specs.Frame.{IsFrame}
use Rattle.krb_messages.specs.declared.ap_req.ApReq.{ApReq}
use Rattle.krb_messages.specs.Layouts.{ap_req_layout}
use Rattle.krb_replies.specs.Unseals.{IsRead}
use Rattle.krb_admission.specs.Tokens.{ap_req_id, IsApReq}
use Rattle.krb_messages.proofs.FrameLemmas.{oid_opens, oid_is_shorter}

stands : (oid token_id message octets : List ℕ) → IsFrame oid token_id message octets → StandsNext 0x60 (tlv 0x06 oid ++ (token_id ++ message)) octets []
stands oid token_id message octets frame = record { value = octets; is_value = frame.is; parts = sym (append-nil octets) }

stands_inside : (oid token_id message octets : List ℕ) → IsFrame oid token_id message octets → StandsNext 0x06 oid (tlv 0x06 oid ++ (token_id ++ message)) (token_id ++ message)
stands_inside oid token_id message octets frame =
    record { value = tlv 0x06 oid; is_value = record { short = oid_is_shorter oid (token_id ++ message) frame.is.short; is = refl }; parts = refl }

-- the octets after the mechanism's name are the same, whichever frame a token is read as
pub same_behind : (o p i j m n octets : List ℕ) → IsFrame o i m octets → IsFrame p j n octets → i ++ m ≡ j ++ n
same_behind o p i j m n octets first second =
    (oid_opens p j n octets second _ [] o (i ++ m) (stands o i m octets first) (stands_inside o i m octets first)).1

-- the message is one
pub same_message : (o p i m n octets : List ℕ) → IsFrame o i m octets → IsFrame p i n octets → m ≡ n
same_message o p i m n octets first second = append_cancel_left i m n (same_behind o p i i m n octets first second)

-- a token that frames what is no AP-REQ has none
nothing_comes : (token oid octets : List ℕ) → IsFrame oid ap_req_id octets token → ((message : ApReq) → IsRead ap_req_layout octets message → ⊥) → (message : ApReq) → IsApReq false token message → ⊥
nothing_comes token oid octets frame none message h =
    none message (subst (λ (o : List ℕ). IsRead ap_req_layout o message) (same_message _ _ _ _ _ token h.frame frame) h.read)

pub refuses_framed : (token oid octets : List ℕ) (e : Cause) (answer : Result ApReq Cause) → IsFrame oid ap_req_id octets token → Answers (Finds Shape (IsRead ap_req_layout octets)) (Err e) → IsErrAnd answer (λ d. d ≡ e) → Answers (Finds Shape (IsApReq false token)) answer
refuses_framed token oid octets e answer frame h is = record {
  so = λ ne.
      let f = h.so (λ z. ne (is_err answer e is ∙ ap Err (same_err {A = ApReq} e Memory z))) in
      subst (λ (a : Result ApReq Cause). Finds Shape (IsApReq false token) a) (sym (is_err answer e is)) (record { is = (f.is.0, nothing_comes token oid octets frame f.is.1) });
}
