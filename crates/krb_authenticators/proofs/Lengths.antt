-- The length of an authenticator.
use Rattle.std.proofs.Common.{◌≡◌, ℕ, ◌+◌, ◌<◌, ◌≤◌, ◌^◌, ℤ, Bool, true, false, List, [], ◌∷◌, ◌++◌, length, take, drop, get_or, Option, Some, None, option_map, IfSome, if◌then◌else◌, map, nat_lt, arith, lit≤, lit<, refl, sym, subst, Result, Ok, Err, IfOk, length-append, length-drop}
use Rattle.std.proofs.lemmas.List.{length-take}
use Rattle.std.specs.Int.{w32, to_be_bytes}
use Rattle.std.specs.Option.{option_map_or}
use Rattle.md5.proofs.StandardFacts.{length-md5}
use Rattle.krb_der.specs.Der.{tlv}
use Rattle.krb_der.specs.Moment.{time_octets}
use Rattle.krb_der.specs.Schema.{IsComplete, contents, tag_of, sequence_of}
use Rattle.krb_der.proofs.Lengths.{tlv_le, field_le, append_le}
use Rattle.krb_der.specs.Layout.{spelling}
use Rattle.krb_messages.specs.Table.{authenticator as authenticator_kind, checksum as checksum_kind, encryption_key, authorization_data_element}
use Rattle.krb_messages.specs.Layouts.{authenticator_row, authenticator_layout, principal_name_layout, checksum_row, encryption_key_row, authorization_data_element_row}
use Rattle.krb_crypto.specs.Suite.{suite_number}
use Rattle.krb_exchange.specs.declared.kdc_rep.KdcRep.{KdcRep}
use Rattle.sspi_core.specs.declared.bindings.ChannelBindings.{ChannelBindings}
use Rattle.krb_authenticators.specs.declared.options.EncKey.{EncKey}
use Rattle.krb_authenticators.specs.declared.options.ChecksumOptions.{ChecksumOptions}
use Rattle.krb_authenticators.specs.Checksums.{with_hash}
use Rattle.krb_authenticators.specs.Bindings.{bindings_hash}
use Rattle.krb_authenticators.specs.Authenticators.{microseconds, number_octets, subkey, is_gss, bound, checksum, sign_if, authenticator, IsShortChecksum, AreShort}
use Rattle.krb_requests.specs.Pieces.{Fits}

pub le_trans : (a b c : ℕ) → a ≤ b → b ≤ c → a ≤ c
le_trans a b c h k = omega arith

pub below : (a b : ℕ) → a ≤ b → b < 2 ^ 31 → a < 2 ^ 31
below a b h k = omega arith

-- a statement about a value holds for every result that is equal to the value
pub ok_is : {A E : Type 0} (P : A → Type 0) (x : A) (result : Result A E) → IfOk result (λ made. made ≡ x) → P x → IfOk result P
ok_is P x (Ok made) e h = subst P (sym e) h
ok_is P x (Err fault) e h = tt

pub time_short : (seconds : ℤ) → length (time_octets seconds) ≤ 15
unfolding time_octets
time_short seconds = lit≤ tt

pub length-hash : (bindings : ChannelBindings) → length (bindings_hash bindings) ≡ 16
unfolding bindings_hash
length-hash bindings = length-md5 _

with_hash_le : (value hash : List ℕ) (n : ℕ) → length value ≤ n → length hash ≡ 16 → length (with_hash value hash) ≤ n + 20
with_hash_le value hash n h e =
    omega (arith, length-append (take 4 value) (hash ++ drop 20 value), length-append hash (drop 20 value), length-take 4 value, length-drop 20 value)

bound_by : (b : Bool) (value hash : List ℕ) (n : ℕ) → length value ≤ n → length hash ≡ 16 → length (if b then with_hash value hash else value) ≤ n + 20
bound_by true value hash n h e = with_hash_le value hash n h e
bound_by false value hash n h e = omega arith

bound_le : (type value hash : List ℕ) (n : ℕ) → length value ≤ n → length hash ≡ 16 → length (bound type value hash) ≤ n + 20
bound_le type value hash n h e = bound_by (is_gss type) value hash n h e

value_le : (bindings : Option ChannelBindings) (options : ChecksumOptions) → length options.checksum_value ≤ 2 ^ 24 → length (checksum bindings options).checksum ≤ 2 ^ 24 + 20
value_le None options h = omega arith
value_le (Some bindings) options h = bound_le options.checksum_type options.checksum_value (bindings_hash bindings) (2 ^ 24) h (length-hash bindings)

type_is : (bindings : Option ChannelBindings) (options : ChecksumOptions) → (checksum bindings options).cksumtype ≡ options.checksum_type
type_is None options = refl
type_is (Some bindings) options = refl

cksum_le : (bindings : Option ChannelBindings) (options : Option ChecksumOptions) → IfSome options IsShortChecksum
    → length (option_map_or (λ value. tlv 0xa3 (tlv (tag_of checksum_kind) (contents checksum_kind value))) (option_map checksum_row (option_map (checksum bindings) options)) []) ≤ 2 ^ 25 + 64
unfolding checksum_kind checksum_row
cksum_le bindings None h = lit≤ tt
cksum_le bindings (Some options) h =
    le_trans _ _ _ (field_le 0xa3 0x30 _ _ (append_le _ _ _ _ (field_le 0xa0 0x02 (checksum bindings options).cksumtype (2 ^ 24) (rw (type_is bindings options) h.type))
    (append_le _ [] _ 0 (field_le 0xa1 0x04 (checksum bindings options).checksum (2 ^ 24 + 20) (value_le bindings options h.value)) (lit≤ tt)))) (lit≤ tt)

cksum_complete : (bindings : Option ChannelBindings) (options : Option ChecksumOptions) → IfSome options IsShortChecksum
    → IfSome (option_map checksum_row (option_map (checksum bindings) options)) (IsComplete checksum_kind)
unfolding checksum_kind checksum_row
cksum_complete bindings None h = tt
cksum_complete bindings (Some options) h = (rw (type_is bindings options) h.some, (tt, tt))

subkey_le : (key : Option EncKey) → IfSome key (λ (k : EncKey). length k.key_value ≤ 2 ^ 24)
    → length (option_map_or (λ value. tlv 0xa6 (tlv (tag_of encryption_key) (contents encryption_key value))) (option_map encryption_key_row (option_map subkey key)) []) ≤ 2 ^ 24 + 64
unfolding encryption_key encryption_key_row
subkey_le None h = lit≤ tt
subkey_le (Some key) h =
    le_trans _ _ _ (field_le 0xa6 0x30 _ _ (append_le _ _ _ _ (field_le 0xa0 0x02 (suite_number key.key_type ∷ []) 1 (lit≤ tt))
    (append_le _ [] _ 0 (field_le 0xa1 0x04 key.key_value (2 ^ 24) h) (lit≤ tt)))) (lit≤ tt)

subkey_complete : (key : Option EncKey) → IfSome (option_map encryption_key_row (option_map subkey key)) (IsComplete encryption_key)
unfolding encryption_key encryption_key_row
subkey_complete None = tt
subkey_complete (Some key) = (lit< tt, (tt, tt))

unsigned_le : (b : Bool) (octets : List ℕ) → length octets ≡ 4 → length (if b then octets else 0x00 ∷ octets) ≤ 5
unsigned_le true octets e = omega arith
unsigned_le false octets e = omega arith

unsigned_some : (b : Bool) (octets : List ℕ) → length octets ≡ 4 → 0 < length (if b then octets else 0x00 ∷ octets)
unsigned_some true octets e = omega arith
unsigned_some false octets e = omega arith

pub number_le : (number : ℕ) → length (number_octets number) ≤ 5
number_le number = unsigned_le (nat_lt (get_or (to_be_bytes w32 number) 0 0) 0x80) (to_be_bytes w32 number) refl

pub number_some : (number : ℕ) → 0 < length (number_octets number)
number_some number = unsigned_some (nat_lt (get_or (to_be_bytes w32 number) 0 0) 0x80) (to_be_bytes w32 number) refl

seq_le : (number : Option ℕ) → length (option_map_or (λ value. tlv 0xa7 (tlv 0x02 value)) (option_map number_octets number) []) ≤ 17
seq_le None = lit≤ tt
seq_le (Some number) = field_le 0xa7 0x02 (number_octets number) 5 (number_le number)

seq_complete : (number : Option ℕ) → IfSome (option_map number_octets number) (λ octets. 0 < length octets)
seq_complete None = tt
seq_complete (Some number) = number_some number

sign_le : (bindings : Option ChannelBindings)
    → length (option_map_or (λ value. tlv 0xa8 (tlv 0x30 (contents (sequence_of authorization_data_element) value))) (option_map (map authorization_data_element_row) (sign_if bindings)) []) ≤ 64
unfolding authorization_data_element authorization_data_element_row
sign_le None = lit≤ tt
sign_le (Some bindings) =
    let element = append_le _ _ _ _ (field_le 0xa0 0x02 (0x00 ∷ 0x8f ∷ []) 2 (lit≤ tt)) (append_le _ [] _ 0 (field_le 0xa1 0x04 (0x00 ∷ 0x40 ∷ 0x00 ∷ 0x00 ∷ []) 4 (lit≤ tt)) (lit≤ tt)) in
    le_trans _ _ _ (field_le 0xa8 0x30 _ _ (append_le _ [] _ 0 (tlv_le 0x30 _ _ element) (lit≤ tt))) (lit≤ tt)

sign_complete : (bindings : Option ChannelBindings) → IfSome (option_map (map authorization_data_element_row) (sign_if bindings)) (IsComplete (sequence_of authorization_data_element))
unfolding authorization_data_element authorization_data_element_row
sign_complete None = tt
sign_complete (Some bindings) = ((lit< tt, (tt, tt)), tt)

authenticator_complete : (rep : KdcRep) (number : Option ℕ) (key : Option EncKey) (options : Option ChecksumOptions) (bindings : Option ChannelBindings) (moment : ℕ)
    → AreShort rep key options bindings → IsComplete authenticator_kind (authenticator_row (authenticator rep number key options bindings moment))
unfolding authenticator_kind authenticator_row
authenticator_complete rep number key options bindings moment h =
    (lit< tt, (tt, (h.name.complete, (cksum_complete bindings options h.checksum, (lit< tt, (tt, (subkey_complete key, (seq_complete number, (sign_complete bindings, tt)))))))))

authenticator_le : (rep : KdcRep) (number : Option ℕ) (key : Option EncKey) (options : Option ChecksumOptions) (bindings : Option ChannelBindings) (moment : ℕ)
    → AreShort rep key options bindings → length (spelling authenticator_layout (authenticator rep number key options bindings moment)) ≤ 2 ^ 27
unfolding authenticator_kind authenticator_row
authenticator_le rep number key options bindings moment h =
    let body = append_le _ _ _ _ (field_le 0xa0 0x02 (5 ∷ []) 1 (lit≤ tt))
    (append_le _ _ _ _ (field_le 0xa1 0x1b rep.crealm (2 ^ 24) h.realm)
    (append_le _ _ _ _ (tlv_le 0xa2 (spelling principal_name_layout rep.cname) (2 ^ 24) h.name.short)
    (append_le _ _ _ _ (cksum_le bindings options h.checksum)
    (append_le _ _ _ _ (field_le 0xa4 0x02 (microseconds moment) 4 (lit≤ tt))
    (append_le _ _ _ _ (field_le 0xa5 0x18 (time_octets _) 15 (time_short _))
    (append_le _ _ _ _ (subkey_le key h.key)
    (append_le _ _ _ _ (seq_le number)
    (append_le _ [] _ 0 (sign_le bindings) (lit≤ tt))))))))) in
    le_trans _ _ _ (field_le 0x62 0x30 _ _ body) (lit≤ tt)

pub authenticator_within : (rep : KdcRep) (number : Option ℕ) (key : Option EncKey) (options : Option ChecksumOptions) (bindings : Option ChannelBindings) (moment : ℕ)
    → AreShort rep key options bindings → Fits authenticator_layout (2 ^ 27) (authenticator rep number key options bindings moment)
authenticator_within rep number key options bindings moment h = record {
  complete = authenticator_complete rep number key options bindings moment h;
  short = authenticator_le rep number key options bindings moment h;
}
