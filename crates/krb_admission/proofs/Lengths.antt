-- How long an AP-REP can be.
use Rattle.std.proofs.Common.{◌≡◌, ℕ, ◌+◌, ◌<◌, ◌≤◌, ◌^◌, ◌%◌, ℤ, Bool, true, false, List, [], ◌∷◌, ◌++◌, length, Option, Some, None, option_map, IfSome, arith, lit≤, lit<, refl, sym, subst}
use Rattle.std.specs.Int.{w32, to_be_bytes}
use Rattle.std.specs.Option.{option_map_or}
use Rattle.krb_der.specs.Der.{tlv}
use Rattle.krb_der.specs.Moment.{time_octets}
use Rattle.krb_der.specs.Schema.{IsComplete, contents, tag_of}
use Rattle.krb_der.proofs.Lengths.{tlv_le, field_le, append_le}
use Rattle.krb_messages.specs.Table.{enc_ap_rep_part, ap_rep as ap_rep_kind, encryption_key, encrypted_data}
use Rattle.krb_messages.specs.Layouts.{enc_ap_rep_part_row, ap_rep_row, encryption_key_row, encrypted_data_row}
use Rattle.krb_crypto.specs.Suite.{suite_number}
use Rattle.sspi_core.specs.declared.draw.Draw.{Draw}
use Rattle.krb_admission.specs.declared.request.Request.{Request}
use Rattle.krb_crypto.specs.declared.suite.CipherSuite.{CipherSuite}
use Rattle.krb_context.specs.Drawn.{drawn_key}
use Rattle.krb_context.proofs.DrawnLemmas.{drawn_short}
use Rattle.krb_admission.specs.Admission.{key_with, ap_rep_part, ap_rep_with, ap_rep_id, next_number_octets, IsShortPart, IsAnswerable, reply_part, mechanism}

le_trans : (a b c : ℕ) → a ≤ b → b ≤ c → a ≤ c
le_trans a b c h k = omega arith

time_short : (seconds : ℤ) → length (time_octets seconds) ≤ 15
unfolding time_octets
time_short seconds = lit≤ tt

-- a subkey in its field
subkey_le : (suite : CipherSuite) (subkey : Option (List ℕ)) → IfSome subkey (λ key. length key ≤ 2 ^ 24)
    → length (option_map_or (λ key. tlv 0xa2 (tlv (tag_of encryption_key) (contents encryption_key key))) (option_map encryption_key_row (option_map (key_with suite) subkey)) []) ≤ 2 ^ 24 + 64
unfolding encryption_key encryption_key_row
subkey_le suite None h = lit≤ tt
subkey_le suite (Some key) h =
    le_trans _ _ _ (field_le 0xa2 0x30 _ _ (append_le _ _ _ _ (field_le 0xa0 0x02 (suite_number suite ∷ []) 1 (lit≤ tt)) (append_le _ [] _ 0 (field_le 0xa1 0x04 key (2 ^ 24) h) (lit≤ tt)))) (lit≤ tt)

subkey_complete : (suite : CipherSuite) (subkey : Option (List ℕ)) → IfSome (option_map encryption_key_row (option_map (key_with suite) subkey)) (IsComplete encryption_key)
unfolding encryption_key encryption_key_row
subkey_complete suite None = tt
subkey_complete suite (Some key) = (lit< tt, (tt, tt))

part_complete : (suite : CipherSuite) (ctime : ℤ) (cusec number : List ℕ) (subkey : Option (List ℕ)) → 0 < length cusec → length number ≡ 4 → IsComplete enc_ap_rep_part (enc_ap_rep_part_row (ap_rep_part suite ctime cusec number subkey))
unfolding enc_ap_rep_part enc_ap_rep_part_row
part_complete suite ctime cusec number subkey some four = (tt, (some, (subkey_complete suite subkey, (omega arith, tt))))

part_le : (suite : CipherSuite) (ctime : ℤ) (cusec number : List ℕ) (subkey : Option (List ℕ)) → length cusec ≤ 2 ^ 24 → length number ≡ 4
    → IfSome subkey (λ key. length key ≤ 2 ^ 24) → length (tlv (tag_of enc_ap_rep_part) (contents enc_ap_rep_part (enc_ap_rep_part_row (ap_rep_part suite ctime cusec number subkey)))) ≤ 2 ^ 26
unfolding enc_ap_rep_part enc_ap_rep_part_row
part_le suite ctime cusec number subkey short four key =
    let body = append_le _ _ _ _ (field_le 0xa0 0x18 (time_octets ctime) 15 (time_short ctime))
    (append_le _ _ _ _ (field_le 0xa1 0x02 cusec (2 ^ 24) short)
    (append_le _ _ _ _ (subkey_le suite subkey key)
    (append_le _ [] _ 0 (field_le 0xa3 0x02 number 4 (omega arith)) (lit≤ tt)))) in
    le_trans _ _ _ (field_le 0x7b 0x30 _ _ body) (lit≤ tt)

pub part_short : (suite : CipherSuite) (ctime : ℤ) (cusec number : List ℕ) (subkey : Option (List ℕ)) → 0 < length cusec → length cusec ≤ 2 ^ 24 → length number ≡ 4
    → IfSome subkey (λ key. length key ≤ 2 ^ 24) → IsShortPart (ap_rep_part suite ctime cusec number subkey)
part_short suite ctime cusec number subkey some short four key =
    record { complete = part_complete suite ctime cusec number subkey some four; short = part_le suite ctime cusec number subkey short four key }

pub rep_short : (suite : CipherSuite) (cipher : List ℕ) → length cipher ≤ 2 ^ 27 → length (tlv (tag_of ap_rep_kind) (contents ap_rep_kind (ap_rep_row (ap_rep_with suite cipher)))) ≤ 2 ^ 28
unfolding ap_rep_kind ap_rep_row encrypted_data encrypted_data_row
rep_short suite cipher h =
    let body = append_le _ _ _ _ (field_le 0xa0 0x02 _ 1 (lit≤ tt))
    (append_le _ _ _ _ (field_le 0xa1 0x02 _ 1 (lit≤ tt))
    (append_le _ [] _ 0 (field_le 0xa2 0x30 _ _ (append_le _ _ _ _ (field_le 0xa0 0x02 _ 1 (lit≤ tt)) (append_le [] _ 0 _ (lit≤ tt) (append_le _ [] _ 0 (field_le 0xa2 0x04 cipher (2 ^ 27) h) (lit≤ tt))))) (lit≤ tt))) in
    le_trans _ _ _ (field_le 0x6f 0x30 _ _ body) (lit≤ tt)

pub rep_complete : (suite : CipherSuite) (cipher : List ℕ) → IsComplete ap_rep_kind (ap_rep_row (ap_rep_with suite cipher))
unfolding ap_rep_kind ap_rep_row encrypted_data encrypted_data_row
rep_complete suite cipher = (lit< tt, (lit< tt, ((lit< tt, (tt, (tt, tt))), tt)))

length-number : (n : ℕ) → length (to_be_bytes w32 n) ≡ 4
length-number n = refl

-- what the AP-REP to a request seals
pub reply_short : (number : ℕ) (draw : Draw) (request : Request) → IsAnswerable request → IsShortPart (reply_part number draw request)
reply_short number draw request h =
    let k : length (drawn_key request.suite draw) ≤ 2 ^ 24 = omega (arith, drawn_short request.suite draw) in
    part_short request.suite request.authenticator.ctime request.authenticator.cusec (next_number_octets number) (Some (drawn_key request.suite draw)) h.some h.short (length-number ((number + 1) % 2 ^ 32)) k

mechanism_short : (user_to_user : Bool) → length (mechanism user_to_user) ≤ 10
mechanism_short true = lit≤ tt
mechanism_short false = lit≤ tt

-- the length of the contents of a frame: the mechanism's name, then the token id and the message
pub framed_short : (user_to_user : Bool) (oid message : List ℕ) → oid ≡ mechanism user_to_user → length message ≤ 2 ^ 28 → length (tlv 0x06 oid ++ (ap_rep_id ++ message)) < 2 ^ 31
framed_short user_to_user oid message e h =
    let name : length oid ≤ 10 = subst (λ (o : List ℕ). length o ≤ 10) (sym e) (mechanism_short user_to_user) in
    omega (arith, append_le (tlv 0x06 oid) (ap_rep_id ++ message) 16 (2 + 2 ^ 28) (tlv_le 0x06 oid 10 name) (append_le ap_rep_id message 2 (2 ^ 28) (lit≤ tt) h))

pub rep_below : (suite : CipherSuite) (cipher : List ℕ) → length cipher ≤ 2 ^ 27 → length (tlv (tag_of ap_rep_kind) (contents ap_rep_kind (ap_rep_row (ap_rep_with suite cipher)))) < 2 ^ 31
rep_below suite cipher h = let k = rep_short suite cipher h in omega (arith, k)
