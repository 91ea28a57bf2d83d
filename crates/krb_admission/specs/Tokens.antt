-- The message in a token of the handshake: bare in DCE style (MS-KILE, section 3.4.5.1), otherwise after the mechanism's name
-- (RFC 4121, section 4.1).
use Rattle.std.specs.Prelude.{ℕ, nat_le, Bool, true, false, List, [], ◌∷◌, length, Result}
use Rattle.krb_messages.specs.Frame.{IsFrame}
use Rattle.krb_messages.specs.Layouts.{ap_req_layout}
use Rattle.krb_messages.specs.declared.ap_req.ApReq.{ApReq}
use Rattle.krb_replies.specs.Unseals.{IsRead}
use Rattle.sspi_core.specs.declared.cause.Cause.{Cause}
use Rattle.sspi_core.specs.declared.cause.Cause.TheVariants.{Shape}
use Rattle.sspi_core.specs.Checks.{Finds, Holds, ◌>>◌}

-- the token id before an AP-REQ (RFC 4121, section 4.1)
abbrev pub ap_req_id : List ℕ
ap_req_id = 1 ∷ 0 ∷ []

-- the token is a frame of this AP-REQ, whatever mechanism it names
pub record IsFramedApReq (token : List ℕ) (message : ApReq) : Type 0 where
  pub oid : List ℕ
  pub octets : List ℕ
  pub frame : IsFrame oid ap_req_id octets token
  pub read : IsRead ap_req_layout octets message

-- the token is this AP-REQ
abbrev pub IsApReq : Bool → List ℕ → ApReq → Type 0
IsApReq true token message = IsRead ap_req_layout token message
IsApReq false token message = IsFramedApReq token message

-- the AP-REQ in a token, which has at most 2^24 octets
unfoldable pub ReceivesApReq : Bool → List ℕ → Result ApReq Cause → Type 0
ReceivesApReq dce token = do
  Holds Shape (nat_le (length token) 16777216)
  Finds Shape (IsApReq dce token)
