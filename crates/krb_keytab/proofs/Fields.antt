-- A field that is read is the field that was written, and what was written is read again, whatever follows.
use Rattle.std.proofs.Common.{◌≡◌, ℕ, zero, suc, ◌^◌, ◌<◌, ◌≤◌, Bool, true, false, cond, ltb, List, [], ◌∷◌, ◌++◌, length, take, drop, Option, Some, None, refl, sym, ap, subst, ◌∙◌, append_assoc, arith}
use Rattle.std.specs.List.{flat_map, AllByRecursion}
use Rattle.std.specs.Int.{Width, w16, w32, byte_len, from_be_bytes, to_be_bytes}
use Rattle.std.proofs.lemmas.Bool.{ltb-false, le-ltb}
use Rattle.std.proofs.lemmas.List.{take_at, drop_at, take-append-drop, length-append, length-take}
use Rattle.std.proofs.lemmas.List.Concat.{flat_map-cons}
use Rattle.std.proofs.lemmas.Nat.{be_bytes_2, be_bytes_4, from_be_bytes-to_be_bytes_2, from_be_bytes-to_be_bytes_4}
use Rattle.std.proofs.lemmas.Option.{same_Some}
use Rattle.krb_der.proofs.Values.{IsBytes, IsBytes-drop, IsBytes-take, IsBytes-tail}
use Rattle.krb_der.specs.Schema.{is_ascii}
use Rattle.krb_der.specs.Reading.{◌>>=◌, cut}
use Rattle.krb_keytab.specs.Format.{counted, IsPart}
use Rattle.krb_keytab.specs.Reading.{number_at, octet_at, counted_at, part_at, parts_at}

-- the value of a step that answered
pub bind_some : {A B : Type 0} (o : Option A) (f : A → Option B) (y : B) → (o >>= f) ≡ Some y → (x : A) × (o ≡ Some x) × (f x ≡ Some y)
bind_some None f y e = absurd cc
bind_some (Some x) f y e = (x, refl, e)

-- a test that was passed
pub guard_some : {A : Type 0} (b : Bool) (x y : A) → cond b None (Some x) ≡ Some y → (b ≡ false) × (x ≡ y)
guard_some true x y e = absurd cc
guard_some false x y e = (refl, same_Some x y e)

pub when_some : {A : Type 0} (b : Bool) (x y : A) → cond b (Some x) None ≡ Some y → (b ≡ true) × (x ≡ y)
when_some true x y e = (refl, same_Some x y e)
when_some false x y e = absurd cc

-- what was taken from the front
pub record Takes (octets text rest : List ℕ) : Type 0 where
  pub parts : octets ≡ text ++ rest
  pub rest_bytes : IsBytes rest

pub Takes-then : (a x b y c : List ℕ) → Takes a x b → Takes b y c → Takes a (x ++ y) c
Takes-then a x b y c p q = record { parts = p.parts ∙ ap (λ (t : List ℕ). x ++ t) q.parts ∙ sym (append_assoc x y c); rest_bytes = q.rest_bytes }

-- ---- numbers

pub record IsWide (w : Width) (limit : ℕ) : Type 0 where
  pub len : (n : ℕ) → length (to_be_bytes w n) ≡ byte_len w
  pub back : (octets : List ℕ) → length octets ≡ byte_len w → IsBytes octets → to_be_bytes w (from_be_bytes w octets) ≡ octets
  pub again : (n : ℕ) → n < limit → from_be_bytes w (to_be_bytes w n) ≡ n
  pub below : (octets : List ℕ) → IsBytes octets → from_be_bytes w octets < limit

pub wide16 : IsWide w16 (2 ^ 16)
wide16 = record {
  len = λ n. refl;
  back = λ octets len fits. be_bytes_2 octets _ len fits refl;
  again = λ n lt. from_be_bytes-to_be_bytes_2 n lt;
  below = λ octets fits. omega (arith, fits 0, fits 1);
}

pub wide32 : IsWide w32 (2 ^ 32)
wide32 = record {
  len = λ n. refl;
  back = λ octets len fits. be_bytes_4 octets _ len fits refl;
  again = λ n lt. from_be_bytes-to_be_bytes_4 n lt;
  below = λ octets fits. omega (arith, fits 0, fits 1, fits 2, fits 3);
}

pub number_takes : (w : Width) (limit : ℕ) (wide : IsWide w limit) (octets : List ℕ) (n : ℕ) (rest : List ℕ) → IsBytes octets → number_at w octets ≡ Some (n, rest) → Takes octets (to_be_bytes w n) rest × (n < limit)
number_takes w limit wide octets n rest fits e =
    let g = guard_some (ltb (length octets) (byte_len w)) (from_be_bytes w (take (byte_len w) octets), drop (byte_len w) octets) (n, rest) e in
    let long : byte_len w ≤ length octets = ltb-false _ _ g.0 in
    let n-is : from_be_bytes w (take (byte_len w) octets) ≡ n = ap (λ (p : ℕ × List ℕ). p.0) g.1 in
    let rest-is : drop (byte_len w) octets ≡ rest = ap (λ (p : ℕ × List ℕ). p.1) g.1 in
    let front : to_be_bytes w n ≡ take (byte_len w) octets = rw (← n-is) (wide.back (take (byte_len w) octets) (omega (arith, length-take (byte_len w) octets)) (IsBytes-take (byte_len w) octets fits)) in
    (record { parts = rw (front, ← rest-is) (sym (take-append-drop (byte_len w) octets)); rest_bytes = rw (← rest-is) (IsBytes-drop (byte_len w) octets fits) }, rw (← n-is) (wide.below (take (byte_len w) octets) (IsBytes-take (byte_len w) octets fits)))

pub number_again : (w : Width) (limit : ℕ) (wide : IsWide w limit) (n : ℕ) (rest : List ℕ) → n < limit → number_at w (to_be_bytes w n ++ rest) ≡ Some (n, rest)
number_again w limit wide n rest lt =
    let len = wide.len n in
    let long : ltb (length (to_be_bytes w n ++ rest)) (byte_len w) ≡ false = le-ltb _ _ (omega (arith, length-append (to_be_bytes w n) rest)) in
    rw (long, take_at (to_be_bytes w n) rest (byte_len w) len, drop_at (to_be_bytes w n) rest (byte_len w) len, wide.again n lt) refl

-- ---- a single octet

pub octet_takes : (octets : List ℕ) (n : ℕ) (rest : List ℕ) → IsBytes octets → octet_at octets ≡ Some (n, rest) → Takes octets (n ∷ []) rest × (n < 256)
octet_takes [] n rest fits e = absurd cc
octet_takes (first ∷ octets) n rest fits e =
    let same = same_Some (first, octets) (n, rest) e in
    let n-is : first ≡ n = ap (λ (p : ℕ × List ℕ). p.0) same in
    let rest-is : octets ≡ rest = ap (λ (p : ℕ × List ℕ). p.1) same in
    (record { parts = rw (← n-is, ← rest-is) refl; rest_bytes = rw (← rest-is) (IsBytes-tail first octets fits) }, rw (← n-is) (fits 0))

-- ---- a given number of octets

pub cut_takes : (size : ℕ) (octets body rest : List ℕ) → IsBytes octets → cut size octets ≡ Some (body, rest) → Takes octets body rest × (length body ≡ size) × IsBytes body
cut_takes size octets body rest fits e =
    let g = guard_some (ltb (length octets) size) (take size octets, drop size octets) (body, rest) e in
    let long : size ≤ length octets = ltb-false _ _ g.0 in
    let body-is : take size octets ≡ body = ap (λ (p : List ℕ × List ℕ). p.0) g.1 in
    let rest-is : drop size octets ≡ rest = ap (λ (p : List ℕ × List ℕ). p.1) g.1 in (
      record { parts = rw (← body-is, ← rest-is) (sym (take-append-drop size octets)); rest_bytes = rw (← rest-is) (IsBytes-drop size octets fits) },
      rw (← body-is) (omega (arith, length-take size octets)),
      rw (← body-is) (IsBytes-take size octets fits),
    )

pub cut_again : (body rest : List ℕ) (size : ℕ) → length body ≡ size → cut size (body ++ rest) ≡ Some (body, rest)
cut_again body rest size len =
    let long : ltb (length (body ++ rest)) size ≡ false = le-ltb _ _ (omega (arith, length-append body rest)) in
    rw (long, take_at body rest size len, drop_at body rest size len) refl

-- ---- octets after their length

pub counted_takes : (octets text rest : List ℕ) → IsBytes octets → counted_at octets ≡ Some (text, rest) → Takes octets (counted text) rest × (length text < 2 ^ 16)
unfolding counted_at
counted_takes octets text rest fits e =
    let b = bind_some (number_at w16 octets) (λ n. cut n.0 n.1) (text, rest) e in
    let n = b.0 in
    let t = number_takes w16 (2 ^ 16) wide16 octets n.0 n.1 fits b.1 in
    let c = cut_takes n.0 n.1 text rest t.0.rest_bytes b.2 in
    let both = Takes-then octets (to_be_bytes w16 n.0) n.1 text rest t.0 c.0 in
    (subst (λ (k : ℕ). Takes octets (to_be_bytes w16 k ++ text) rest) (sym c.1) both, rw c.1 t.1)

pub counted_again : (text rest : List ℕ) → length text < 2 ^ 16 → counted_at (counted text ++ rest) ≡ Some (text, rest)
unfolding counted_at
counted_again text rest lt =
    ap counted_at (append_assoc (to_be_bytes w16 (length text)) text rest) ∙ rw (number_again w16 (2 ^ 16) wide16 (length text) (text ++ rest) lt) (cut_again text rest (length text) refl)

-- ---- a realm or a component

pub part_takes : (octets part rest : List ℕ) → IsBytes octets → part_at octets ≡ Some (part, rest) → Takes octets (counted part) rest × IsPart part
unfolding part_at
part_takes octets part rest fits e =
    let b = bind_some (counted_at octets) (λ x. cond (is_ascii x.0) (Some x) None) (part, rest) e in
    let g = when_some (is_ascii b.0.0) b.0 (part, rest) b.2 in
    let t = counted_takes octets b.0.0 b.0.1 fits b.1 in
    subst (λ (x : List ℕ × List ℕ). Takes octets (counted x.0) x.1 × IsPart x.0) g.1 (t.0, (t.1, g.0))

pub part_again : (part rest : List ℕ) → IsPart part → part_at (counted part ++ rest) ≡ Some (part, rest)
unfolding part_at
part_again part rest is = rw (counted_again part rest is.0, is.1) refl

pub parts_take : (count : ℕ) (octets : List ℕ) (x : List (List ℕ) × List ℕ) → IsBytes octets → parts_at count octets ≡ Some x → Takes octets (flat_map counted x.0) x.1 × (length x.0 ≡ count) × AllByRecursion IsPart x.0
unfolding parts_at
parts_take zero octets x fits e =
    subst (λ (y : List (List ℕ) × List ℕ). Takes octets (flat_map counted y.0) y.1 × (length y.0 ≡ 0) × AllByRecursion IsPart y.0) (same_Some ([], octets) x e) (record { parts = refl; rest_bytes = fits }, refl, tt)
parts_take (suc count) octets x fits e =
    let a = bind_some (part_at octets) (λ part. parts_at count part.1 >>= λ parts. Some (part.0 ∷ parts.0, parts.1)) x e in
    let b = bind_some (parts_at count a.0.1) (λ parts. Some (a.0.0 ∷ parts.0, parts.1)) x a.2 in
    let first = part_takes octets a.0.0 a.0.1 fits a.1 in
    let second = parts_take count a.0.1 b.0 first.0.rest_bytes b.1 in
    let both = Takes-then octets (counted a.0.0) a.0.1 (flat_map counted b.0.0) b.0.1 first.0 second.0 in
    let made : List (List ℕ) × List ℕ = (a.0.0 ∷ b.0.0, b.0.1) in
    subst (λ (y : List (List ℕ) × List ℕ). Takes octets (flat_map counted y.0) y.1 × (length y.0 ≡ suc count) × AllByRecursion IsPart y.0) (same_Some made x b.2) (rw flat_map-cons both, ap suc second.1, (first.1, second.2))

pub parts_again : (parts : List (List ℕ)) (rest : List ℕ) → AllByRecursion IsPart parts → parts_at (length parts) (flat_map counted parts ++ rest) ≡ Some (parts, rest)
unfolding parts_at
parts_again [] rest are = refl
parts_again (part ∷ parts) rest are =
    let regrouped : flat_map counted (part ∷ parts) ++ rest ≡ counted part ++ (flat_map counted parts ++ rest) = ap (λ (x : List ℕ). x ++ rest) (flat_map-cons counted part parts) ∙ append_assoc (counted part) (flat_map counted parts) rest in
    ap (parts_at (suc (length parts))) regrouped ∙ rw (part_again part (flat_map counted parts ++ rest) are.0, parts_again parts rest are.1) refl
