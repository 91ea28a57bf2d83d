-- An entry that is read is spelled so, and what is spelled so is read.
use Rattle.std.proofs.Common.{◌≡◌, ℕ, ◌^◌, ◌<◌, Bool, true, false, cond, ltb, eqb, List, ◌∷◌, ◌++◌, length, take, Some, refl, sym, ap, subst, ◌∙◌, arith}
use Rattle.std.specs.List.{flat_map}
use Rattle.std.specs.Int.{w16, w32, from_be_bytes, to_be_bytes}
use Rattle.std.proofs.lemmas.Option.{same_Some}
use Rattle.krb_der.specs.Reading.{◌>>=◌}
use Rattle.krb_keytab.specs.declared.entry.KeytabEntry.{KeytabEntry}
use Rattle.krb_keytab.specs.Format.{counted, version_of, entry_octets, SpellsEntry}
use Rattle.krb_keytab.specs.Reading.{number_at, octet_at, counted_at, part_at, parts_at, Tail, tail_in, entry_in}
use Rattle.krb_der.proofs.Values.{IsBytes, IsBytes-take}
use Rattle.krb_keytab.proofs.Fields.{bind_some, wide16, wide32, number_takes, number_again, octet_takes, counted_takes, counted_again, part_takes, part_again, parts_take, parts_again}

cond_below : (b : Bool) (x y n : ℕ) → x < n → y < n → cond b x y < n
cond_below true x y n p q = p
cond_below false x y n p q = q

version_below : (short : ℕ) (behind : List ℕ) → short < 256 → IsBytes behind → version_of short behind < 2 ^ 32
version_below short behind small fits =
    let low : short < 2 ^ 32 = omega arith in
    let long : from_be_bytes w32 (take 4 behind) < 2 ^ 32 = wide32.below (take 4 behind) (IsBytes-take 4 behind fits) in
    cond_below (ltb (length behind) 4) short (cond (eqb (from_be_bytes w32 (take 4 behind)) 0) short (from_be_bytes w32 (take 4 behind))) (2 ^ 32) low
    (cond_below (eqb (from_be_bytes w32 (take 4 behind)) 0) short (from_be_bytes w32 (take 4 behind)) (2 ^ 32) low long)

-- ---- the fields after the names

abbrev tail_octets : Tail → ℕ → List ℕ → List ℕ
tail_octets tail short behind =
    to_be_bytes w32 tail.name_type ++ (to_be_bytes w32 tail.time ++ (short ∷ (to_be_bytes w16 tail.key_type ++ (counted tail.key ++ behind))))

record TailFits (tail : Tail) : Type 0 where
  pub name_type : tail.name_type < 2 ^ 32
  pub time : tail.time < 2 ^ 32
  pub version : tail.version < 2 ^ 32
  pub key_type : tail.key_type < 2 ^ 16
  pub key : length tail.key < 2 ^ 16

record SpellsTail (tail : Tail) (octets : List ℕ) : Type 0 where
  pub short : ℕ
  pub behind : List ℕ
  pub fits : TailFits tail
  pub version : tail.version ≡ version_of short behind
  pub parts : octets ≡ tail_octets tail short behind

tail_takes : (octets : List ℕ) (tail : Tail) → IsBytes octets → tail_in octets ≡ Some tail → SpellsTail tail octets
unfolding tail_in
tail_takes octets tail fits e =
    let a = bind_some (number_at w32 octets) (λ name_type. number_at w32 name_type.1 >>= λ time. octet_at time.1 >>= λ short. number_at w16 short.1 >>= λ key_type. counted_at key_type.1 >>= λ key. Some (record { name_type = name_type.0; time = time.0; version = version_of short.0 key.1; key_type = key_type.0; key = key.0 })) tail e in
    let b = bind_some (number_at w32 a.0.1) (λ time. octet_at time.1 >>= λ short. number_at w16 short.1 >>= λ key_type. counted_at key_type.1 >>= λ key. Some (record { name_type = a.0.0; time = time.0; version = version_of short.0 key.1; key_type = key_type.0; key = key.0 })) tail a.2 in
    let c = bind_some (octet_at b.0.1) (λ short. number_at w16 short.1 >>= λ key_type. counted_at key_type.1 >>= λ key. Some (record { name_type = a.0.0; time = b.0.0; version = version_of short.0 key.1; key_type = key_type.0; key = key.0 })) tail b.2 in
    let d = bind_some (number_at w16 c.0.1) (λ key_type. counted_at key_type.1 >>= λ key. Some (record { name_type = a.0.0; time = b.0.0; version = version_of c.0.0 key.1; key_type = key_type.0; key = key.0 })) tail c.2 in
    let k = bind_some (counted_at d.0.1) (λ key. Some (record { name_type = a.0.0; time = b.0.0; version = version_of c.0.0 key.1; key_type = d.0.0; key = key.0 })) tail d.2 in
    let ta = number_takes w32 (2 ^ 32) wide32 octets a.0.0 a.0.1 fits a.1 in
    let tb = number_takes w32 (2 ^ 32) wide32 a.0.1 b.0.0 b.0.1 ta.0.rest_bytes b.1 in
    let tc = octet_takes b.0.1 c.0.0 c.0.1 tb.0.rest_bytes c.1 in
    let td = number_takes w16 (2 ^ 16) wide16 c.0.1 d.0.0 d.0.1 tc.0.rest_bytes d.1 in
    let tk = counted_takes d.0.1 k.0.0 k.0.1 td.0.rest_bytes k.1 in
    let made : Tail = record { name_type = a.0.0; time = b.0.0; version = version_of c.0.0 k.0.1; key_type = d.0.0; key = k.0.0 } in
    let whole : octets ≡ tail_octets made c.0.0 k.0.1 =
    ta.0.parts ∙ ap (λ (t : List ℕ). to_be_bytes w32 a.0.0 ++ t) (tb.0.parts ∙ ap (λ (t : List ℕ). to_be_bytes w32 b.0.0 ++ t) (tc.0.parts ∙ ap (λ (t : List ℕ). c.0.0 ∷ t) (td.0.parts ∙ ap (λ (t : List ℕ). to_be_bytes w16 d.0.0 ++ t) tk.0.parts))) in
    let is : SpellsTail made octets = record {
      short = c.0.0;
      behind = k.0.1;
      fits = record { name_type = ta.1; time = tb.1; version = version_below c.0.0 k.0.1 tc.1 tk.0.rest_bytes; key_type = td.1; key = tk.1 };
      version = refl;
      parts = whole;
    } in
    subst (λ (t : Tail). SpellsTail t octets) (same_Some made tail k.2) is

tail_again : (tail : Tail) (short : ℕ) (behind : List ℕ) → TailFits tail → tail.version ≡ version_of short behind → tail_in (tail_octets tail short behind) ≡ Some tail
unfolding tail_in
tail_again tail short behind fits version =
    let key_part : List ℕ = counted tail.key ++ behind in
    let type_part : List ℕ = to_be_bytes w16 tail.key_type ++ key_part in
    rw (number_again w32 (2 ^ 32) wide32 tail.name_type (to_be_bytes w32 tail.time ++ (short ∷ type_part)) fits.name_type, number_again w32 (2 ^ 32) wide32 tail.time (short ∷ type_part) fits.time, number_again w16 (2 ^ 16) wide16 tail.key_type key_part fits.key_type, counted_again tail.key behind fits.key)
    (ap (λ (v : ℕ). Some (record tail { version = v })) (sym version))

-- ---- entries

abbrev tail_of : KeytabEntry → Tail
tail_of entry = record { name_type = entry.name_type; time = entry.time; version = entry.version; key_type = entry.key_type; key = entry.key }

abbrev with_tail : List ℕ → List (List ℕ) → Tail → KeytabEntry
with_tail realm components tail = record { realm = realm; components = components; name_type = tail.name_type; time = tail.time; version = tail.version; key_type = tail.key_type; key = tail.key }

pub entry_takes : (octets : List ℕ) (entry : KeytabEntry) → IsBytes octets → entry_in octets ≡ Some entry → SpellsEntry entry octets
unfolding entry_in
entry_takes octets entry fits e =
    let a = bind_some (number_at w16 octets) (λ count. part_at count.1 >>= λ realm. parts_at count.0 realm.1 >>= λ components. tail_in components.1 >>= λ tail. Some (with_tail realm.0 components.0 tail)) entry e in
    let b = bind_some (part_at a.0.1) (λ realm. parts_at a.0.0 realm.1 >>= λ components. tail_in components.1 >>= λ tail. Some (with_tail realm.0 components.0 tail)) entry a.2 in
    let c = bind_some (parts_at a.0.0 b.0.1) (λ components. tail_in components.1 >>= λ tail. Some (with_tail b.0.0 components.0 tail)) entry b.2 in
    let d = bind_some (tail_in c.0.1) (λ tail. Some (with_tail b.0.0 c.0.0 tail)) entry c.2 in
    let ta = number_takes w16 (2 ^ 16) wide16 octets a.0.0 a.0.1 fits a.1 in
    let tb = part_takes a.0.1 b.0.0 b.0.1 ta.0.rest_bytes b.1 in
    let tc = parts_take a.0.0 b.0.1 c.0 tb.0.rest_bytes c.1 in
    let td = tail_takes c.0.1 d.0 tc.0.rest_bytes d.1 in
    let made : KeytabEntry = with_tail b.0.0 c.0.0 d.0 in
    let whole : octets ≡ to_be_bytes w16 a.0.0 ++ (counted b.0.0 ++ (flat_map counted c.0.0 ++ tail_octets d.0 td.short td.behind)) =
    ta.0.parts ∙ ap (λ (t : List ℕ). to_be_bytes w16 a.0.0 ++ t) (tb.0.parts ∙ ap (λ (t : List ℕ). counted b.0.0 ++ t) (tc.0.parts ∙ ap (λ (t : List ℕ). flat_map counted c.0.0 ++ t) td.parts)) in
    let counted-is : octets ≡ entry_octets made td.short td.behind = subst (λ (n : ℕ). octets ≡ to_be_bytes w16 n ++ (counted b.0.0 ++ (flat_map counted c.0.0 ++ tail_octets d.0 td.short td.behind))) (sym tc.1) whole in
    let is : SpellsEntry made octets = record {
      short = td.short;
      behind = td.behind;
      fits = record { realm = tb.1; components = tc.2; count = rw tc.1 ta.1; name_type = td.fits.name_type; time = td.fits.time; version = td.fits.version; key_type = td.fits.key_type; key = td.fits.key };
      version = td.version;
      parts = counted-is;
    } in
    subst (λ (x : KeytabEntry). SpellsEntry x octets) (same_Some made entry d.2) is

pub entry_again : (entry : KeytabEntry) (octets : List ℕ) → SpellsEntry entry octets → entry_in octets ≡ Some entry
unfolding entry_in
entry_again entry octets s =
    let tail : List ℕ = tail_octets (tail_of entry) s.short s.behind in
    let names : List ℕ = flat_map counted entry.components ++ tail in
    let read : tail_in tail ≡ Some (tail_of entry) = tail_again (tail_of entry) s.short s.behind (record { name_type = s.fits.name_type; time = s.fits.time; version = s.fits.version; key_type = s.fits.key_type; key = s.fits.key }) s.version in
    ap entry_in s.parts ∙ rw (number_again w16 (2 ^ 16) wide16 (length entry.components) (counted entry.realm ++ names) s.fits.count, part_again entry.realm names s.fits.realm, parts_again entry.components tail s.fits.components, read) refl
