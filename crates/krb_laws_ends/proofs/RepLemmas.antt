-- AP-REPs that either end makes can be read, and what is sealed in them is opened.
use Rattle.std.proofs.Common.{◌≡◌, ℕ, ◌+◌, ◌<◌, ◌≤◌, ℤ, List, [], ◌∷◌, length, Option, Some, None, option_map, IfSome, arith, lit<, lit≤, Ok}
use Rattle.std.specs.Option.{option_map_or}
use Rattle.krb_aes.specs.Octets.{IsOctets}
use Rattle.krb_aes.proofs.InjectiveLemmas.{none_octets, more_octets, IsOctets-append}
use Rattle.krb_der.specs.Der.{tlv}
use Rattle.krb_der.specs.Moment.{IsTime, time_octets}
use Rattle.krb_der.specs.Schema.{IsSound, contents, tag_of}
use Rattle.krb_der.proofs.Lengths.{tlv_le, field_le, append_le}
use Rattle.krb_der.specs.Layout.{spelling}
use Rattle.krb_crypto.specs.Suite.{key_size, suite_number}
use Rattle.krb_crypto.specs.Sealed.{sealed, IsSealed}
use Rattle.krb_crypto.specs.declared.suite.CipherSuite.{CipherSuite}
use Rattle.krb_crypto.specs.declared.suite.CipherSuite.TheVariants.{Aes128CtsHmacSha196, Aes256CtsHmacSha196}
use Rattle.krb_crypto.proofs.SealedLemmas.{is_sealed, plain_shorter}
use Rattle.krb_messages.specs.Layouts.{ap_rep_layout, ap_rep_row, enc_ap_rep_part_layout, enc_ap_rep_part_row, encrypted_data_row, encryption_key_row}
use Rattle.krb_messages.specs.Table.{ap_rep as ap_rep_kind, enc_ap_rep_part, encrypted_data, encryption_key}
use Rattle.krb_messages.specs.declared.ap_rep.EncApRepPart.{EncApRepPart}
use Rattle.krb_replies.specs.Unseals.{IsRead, session_key}
use Rattle.krb_replies.specs.Answered.{OpensApRep}
use Rattle.krb_authenticators.proofs.ApLengths.{data_le}
use Rattle.krb_authenticators.proofs.Lengths.{le_trans}
use Rattle.krb_admission.specs.Admission.{key_with, ap_rep_part, ap_rep_with}
use Rattle.krb_laws_ends.proofs.HonestLemmas.{spells_itself, opens_carried}
use Rattle.krb_laws_ends.proofs.OctetsLemmas.{IsShort, short-nothing, short-append, short-field, short-more}

number_small : (suite : CipherSuite) → suite_number suite < 256
number_small Aes128CtsHmacSha196 = lit< tt
number_small Aes256CtsHmacSha196 = lit< tt

pub short-number : (suite : CipherSuite) → IsShort 1 (suite_number suite ∷ [])
short-number suite = record { octets = more_octets (suite_number suite) [] (number_small suite) none_octets; short = lit≤ tt }

-- ---- what is sealed

-- a subkey in its field
short-subkey : (suite : CipherSuite) (subkey : Option (List ℕ)) → IfSome subkey (λ key. IsShort 32 key)
    → IsShort 69 (option_map_or (λ key. tlv 0xa2 (tlv (tag_of encryption_key) (contents encryption_key key))) (option_map encryption_key_row (option_map (key_with suite) subkey)) [])
unfolding encryption_key encryption_key_row
short-subkey suite None h = short-more 0 69 [] (lit≤ tt) short-nothing
short-subkey suite (Some key) h =
    let inside = short-append _ _ _ _ (short-field 1 0xa0 0x02 (suite_number suite ∷ []) (lit< tt) (lit< tt) (lit< tt) (short-number suite))
    (short-append _ _ _ _ (short-field 32 0xa1 0x04 key (lit< tt) (lit< tt) (lit< tt) h) short-nothing) in
    short-more _ 69 _ (lit≤ tt) (short-field _ 0xa2 0x30 _ (lit< tt) (lit< tt) (lit< tt) inside)

pub short-part : (suite : CipherSuite) (ctime : ℤ) (cusec number : List ℕ) (subkey : Option (List ℕ)) → IsShort 15 (time_octets ctime) → IsShort 4 cusec → IsShort 4 number
    → IfSome subkey (λ key. IsShort 32 key) → IsShort 200 (spelling enc_ap_rep_part_layout (ap_rep_part suite ctime cusec number subkey))
unfolding enc_ap_rep_part enc_ap_rep_part_row
short-part suite ctime cusec number subkey time micro word key =
    let body = short-append _ _ _ _ (short-field 15 0xa0 0x18 (time_octets ctime) (lit< tt) (lit< tt) (lit< tt) time)
    (short-append _ _ _ _ (short-field 4 0xa1 0x02 cusec (lit< tt) (lit< tt) (lit< tt) micro)
    (short-append _ _ _ _ (short-subkey suite subkey key)
    (short-append _ _ _ _ (short-field 4 0xa3 0x02 number (lit< tt) (lit< tt) (lit< tt) word) short-nothing))) in
    short-more _ 200 _ (lit≤ tt) (short-field _ 0x7b 0x30 _ (lit< tt) (lit< tt) (lit< tt) body)

sound_subkey : (suite : CipherSuite) (subkey : Option (List ℕ)) → IfSome (option_map encryption_key_row (option_map (key_with suite) subkey)) (IsSound encryption_key)
unfolding encryption_key encryption_key_row
sound_subkey suite None = tt
sound_subkey suite (Some key) = (lit< tt, (tt, tt))

part_sound : (suite : CipherSuite) (ctime : ℤ) (cusec number : List ℕ) (subkey : Option (List ℕ)) → IsTime ctime → 0 < length cusec → 0 < length number
    → IsSound enc_ap_rep_part_layout.kind (enc_ap_rep_part_layout.view (ap_rep_part suite ctime cusec number subkey))
unfolding enc_ap_rep_part enc_ap_rep_part_row
part_sound suite ctime cusec number subkey time some word = (time, (some, (sound_subkey suite subkey, (word, tt))))

-- ---- the message

rep_sound : (suite : CipherSuite) (cipher : List ℕ) → IsSound ap_rep_layout.kind (ap_rep_layout.view (ap_rep_with suite cipher))
unfolding ap_rep_kind ap_rep_row encrypted_data encrypted_data_row
rep_sound suite cipher = (lit< tt, (lit< tt, ((lit< tt, (tt, (tt, tt))), tt)))

rep_le : (suite : CipherSuite) (cipher : List ℕ) (n : ℕ) → length cipher ≤ n → length (spelling ap_rep_layout (ap_rep_with suite cipher)) ≤ n + 100
unfolding ap_rep_kind ap_rep_row
rep_le suite cipher n h =
    let body = append_le _ _ _ _ (field_le 0xa0 0x02 (5 ∷ []) 1 (lit≤ tt))
    (append_le _ _ _ _ (field_le 0xa1 0x02 (15 ∷ []) 1 (lit≤ tt)) (append_le _ [] _ 0 (tlv_le 0xa2 _ _ (data_le suite cipher n h)) (lit≤ tt))) in
    le_trans _ _ _ (field_le 0x6f 0x30 _ _ body) (omega arith)

-- a message in which this is sealed under this key is read, and what is sealed is opened
pub record IsReadable (suite : CipherSuite) (key cipher : List ℕ) (part : EncApRepPart) : Type 0 where
  pub short : length (spelling ap_rep_layout (ap_rep_with suite cipher)) ≤ 500
  pub read : IsRead ap_rep_layout (spelling ap_rep_layout (ap_rep_with suite cipher)) (ap_rep_with suite cipher)
  pub opens : OpensApRep suite key (ap_rep_with suite cipher) (Ok part)

pub readable : (suite : CipherSuite) (key confounder : List ℕ) (ctime : ℤ) (cusec number : List ℕ) (subkey : Option (List ℕ)) → length key ≡ key_size suite
    → length confounder ≡ 16 → IsOctets confounder → IsTime ctime → IsShort 15 (time_octets ctime) → 0 < length cusec → IsShort 4 cusec → 0 < length number → IsShort 4 number
    → IfSome subkey (λ k. IsShort 32 k)
    → IsReadable suite key (sealed suite key 12 confounder (spelling enc_ap_rep_part_layout (ap_rep_part suite ctime cusec number subkey))) (ap_rep_part suite ctime cusec number subkey)
unfolding OpensApRep
readable suite key confounder ctime cusec number subkey fits size octets time short_time some micro word short_word keys =
    let part : EncApRepPart = ap_rep_part suite ctime cusec number subkey in
    let plain : List ℕ = spelling enc_ap_rep_part_layout part in
    let cipher : List ℕ = sealed suite key 12 confounder plain in
    let short : IsShort 200 plain = short-part suite ctime cusec number subkey short_time micro short_word keys in
    let small : length plain ≤ 200 = short.short in
    let sealed_in : IsSealed suite key 12 cipher plain = is_sealed suite key 12 confounder plain size (IsOctets-append confounder plain octets short.octets) in
    let longer : length cipher ≤ 228 = omega (arith, small, plain_shorter suite key 12 cipher plain sealed_in) in
    let whole : length (spelling ap_rep_layout (ap_rep_with suite cipher)) ≤ 328 = rep_le suite cipher 228 longer in
    record {
      short = omega (arith, whole);
      read = spells_itself ap_rep_layout (ap_rep_with suite cipher) (rep_sound suite cipher) (omega (arith, whole));
      opens =
          opens_carried enc_ap_rep_part_layout session_key suite key 12 cipher part fits
          (record { plain = plain; sealed = sealed_in; read = spells_itself enc_ap_rep_part_layout part (part_sound suite ctime cusec number subkey time some word) (omega (arith, small)) });
    }
