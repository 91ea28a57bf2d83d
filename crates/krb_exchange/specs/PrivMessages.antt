-- A KRB-PRIV after an AP message: a request to the service that changes passwords, and its reply (RFC 3244 2). The length of
-- the whole, a version, and the length of the AP message have two octets each; the AP message and the KRB-PRIV follow.
use Rattle.std.specs.Prelude.{◌≡◌, ℕ, ◌+◌, ◌*◌, ◌%◌, ◌^◌, ◌≤◌, ◌<◌, List, ◌∷◌, ◌++◌, length, take, drop, get_or}
use Rattle.std.specs.Int.{w16, to_be_bytes}
use Rattle.krb_der.specs.Der.{tlv}
use Rattle.krb_der.specs.Schema.{Spells, IsComplete, contents, tag_of}
use Rattle.krb_der.specs.Layout.{Layout}
use Rattle.krb_messages.specs.Layouts.{ap_req_layout, ap_rep_layout}
use Rattle.krb_exchange.specs.Layouts.{krb_priv_layout}
use Rattle.krb_exchange.specs.declared.priv_message.ApMessage.{ApMessage}
use Rattle.krb_exchange.specs.declared.priv_message.ApMessage.TheVariants.{ApReq, ApRep}
use Rattle.krb_exchange.specs.declared.priv_message.KrbPrivMessage.{KrbPrivMessage}

-- the octets spell this AP message
abbrev pub SpellsAp : ApMessage → List ℕ → Type 0
SpellsAp (ApReq request) octets = Spells ap_req_layout.kind (ap_req_layout.view request) octets
SpellsAp (ApRep reply) octets = Spells ap_rep_layout.kind (ap_rep_layout.view reply) octets

-- the length of the AP message, from the fifth and sixth octet
abbrev pub ap_length : List ℕ → ℕ
ap_length octets = 256 * get_or octets 4 0 + get_or octets 5 0

-- the AP message, and what follows it
abbrev pub ap_octets : List ℕ → List ℕ
ap_octets octets = take (ap_length octets) (drop 6 octets)

abbrev pub priv_octets : List ℕ → List ℕ
priv_octets octets = drop (ap_length octets) (drop 6 octets)

-- The octets are read as this message. The length of the whole and the version are not compared.
pub record IsPrivMessage (message : KrbPrivMessage) (octets : List ℕ) : Type 0 where
  pub long : 6 + ap_length octets ≤ length octets
  pub ap_message : SpellsAp message.ap_message (ap_octets octets)
  pub krb_priv : Spells krb_priv_layout.kind (krb_priv_layout.view message.krb_priv) (priv_octets octets)

-- a number in two big-endian octets, modulo 2^16
abbrev pub two_octets : ℕ → List ℕ
two_octets n = to_be_bytes w16 (n % 2 ^ 16)

-- the octets with version 1 that are written
abbrev pub message_octets : List ℕ → List ℕ → List ℕ
message_octets ap priv = two_octets (6 + (length ap + length priv)) ++ (0x00 ∷ 0x01 ∷ (two_octets (length ap) ++ (ap ++ priv)))

-- The octets are the message as it is written.
pub record IsWritten (message : KrbPrivMessage) (octets : List ℕ) : Type 0 where
  pub ap : List ℕ
  pub priv : List ℕ
  pub ap_message : SpellsAp message.ap_message ap
  pub krb_priv : Spells krb_priv_layout.kind (krb_priv_layout.view message.krb_priv) priv
  pub is : octets ≡ message_octets ap priv

-- A record can be written: it has an octet in each integer, at most 7 unused bits, and a spelling shorter than 2^31.
pub record IsWritable {A : Type 0} (layout : Layout A) (x : A) : Type 0 where
  pub complete : IsComplete layout.kind (layout.view x)
  pub short : length (tlv (tag_of layout.kind) (contents layout.kind (layout.view x))) < 2 ^ 31

abbrev pub IsWritableAp : ApMessage → Type 0
IsWritableAp (ApReq request) = IsWritable ap_req_layout request
IsWritableAp (ApRep reply) = IsWritable ap_rep_layout reply
