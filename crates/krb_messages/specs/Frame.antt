-- The framing of messages: after a mechanism's object identifier (RFC 2743 3.1, RFC 4121 4.1), and after a length on a stream
-- (RFC 4120 7.2.2).
use Rattle.std.specs.Prelude.{ℕ, ◌<◌, List, ◌++◌, length}
use Rattle.std.specs.Int.{to_be_bytes, w32}
use Rattle.krb_der.specs.Der.{tlv, IsValue}

-- The octets are the value of tag [APPLICATION 0] whose contents are the mechanism's object identifier, the two octets
-- of token id, and the message.
pub record IsFrame (oid token_id message octets : List ℕ) : Type 0 where
  pub named : 0 < length oid
  pub is : IsValue 0x60 (tlv 0x06 oid ++ (token_id ++ message)) octets

-- No frame with this token id is these octets.
abbrev pub NoFrame : List ℕ → List ℕ → Type 0
NoFrame token_id octets = (oid message : List ℕ) → IsFrame oid token_id message octets → ⊥

-- the frame of a message (RFC 2743, section 3.1; RFC 4121, section 4.1)
unfoldable pub framed : List ℕ → List ℕ → List ℕ → List ℕ
framed oid token_id message = tlv 0x60 (tlv 0x06 oid ++ (token_id ++ message))

-- the message after its length in four big-endian octets
abbrev pub with_length : List ℕ → List ℕ
with_length message = to_be_bytes w32 (length message) ++ message
