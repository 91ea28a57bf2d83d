-- Parts that are short, and how many octets they take.
use Rattle.std.proofs.Common.{◌≡◌, ℕ, zero, suc, ◌+◌, ◌^◌, ◌<◌, Bool, true, false, List, [], ◌∷◌, ◌++◌, length, get_or, take, refl, sym, ap, ◌∙◌, arith}
use Rattle.std.specs.Prelude.{◌&&◌}
use Rattle.std.specs.List.{list_all}
use Rattle.std.proofs.lemmas.Bool.{ltb-true}
use Rattle.std.proofs.lemmas.List.{take_more}
use Rattle.krb_keytab.specs.Format.{is_short, sizes}

pub and_parts : (a b : Bool) → (a && b) ≡ true → (a ≡ true) × (b ≡ true)
and_parts true b e = (refl, e)
and_parts false b e = absurd cc

pub all_at : {A : Type 0} (p : A → Bool) (xs : List A) (i : ℕ) (d : A) → list_all p xs ≡ true → i < length xs → p (get_or xs i d) ≡ true
all_at p [] i d all lt = absurd (omega arith)
all_at p (x ∷ xs) zero d all lt = (and_parts (p x) (list_all p xs) all).0
all_at p (x ∷ xs) (suc i) d all lt = all_at p xs i d (and_parts (p x) (list_all p xs) all).1 (omega arith)

pub short_at : (parts : List (List ℕ)) (i : ℕ) (part : List ℕ) → list_all is_short parts ≡ true → i < length parts → part ≡ get_or parts i part → length part < 2 ^ 16
short_at parts i part all lt is = ltb-true _ _ (ap is_short is ∙ all_at is_short parts i part all lt)

sizes_append : (front : List (List ℕ)) (part : List ℕ) → sizes (front ++ part ∷ []) ≡ sizes front + (2 + length part)
sizes_append [] part = omega arith
sizes_append (first ∷ front) part = omega (arith, sizes_append front part)

pub sizes_more : (parts : List (List ℕ)) (i : ℕ) (part : List ℕ) → i < length parts → part ≡ get_or parts i part → sizes (take (i + 1) parts) ≡ sizes (take i parts) + (2 + length part)
sizes_more parts i part lt is =
    ap sizes (take_more parts i part lt ∙ ap (λ (p : List ℕ). take i parts ++ p ∷ []) (sym is)) ∙ sizes_append (take i parts) part
