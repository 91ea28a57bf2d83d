-- The first part of a text, as a search for its separator finds it.
use Rattle.std.proofs.Common.{◌≡◌, ℕ, zero, suc, ◌+◌, ◌-◌, ◌<◌, Bool, true, false, List, [], ◌∷◌, ◌++◌, length, take, drop, Option, Some, None, IfSome, refl, ap, sym, ◌∙◌, append_assoc, arith}
use Rattle.std.specs.Prelude.{◌==◌, map, slice_index, MatchOption}
use Rattle.std.specs.List.{slice_split, onto_first}
use Rattle.std.proofs.lemmas.List.{take_all, length-drop, map-append}
use Rattle.std.proofs.lemmas.List.Splits.{slice_split-cons_yes, slice_split-cons_no}
use Rattle.memchr.specs.Find.{IsFirstByte, is_byte}

not_true : (t : Bool) → (t ≡ true → ⊥) → t ≡ false
not_true true h = absurd (h refl)
not_true false h = refl

-- no octet is the separator
one_part : (c : ℕ) (text : List ℕ) → ((k : ℕ) → k < length text → (slice_index text k == c) ≡ true → ⊥) → slice_split (λ b. b == c) text ≡ text ∷ []
one_part c [] h = refl
one_part c (b ∷ text) h =
    slice_split-cons_no (λ x. x == c) b text (not_true _ (h 0 (omega arith)))
    ∙ ap (onto_first b) (one_part c text (λ k low is. h (suc k) (omega arith) is))

-- the first separator is at this position
first_part : (c : ℕ) (text : List ℕ) (at : ℕ) → at < length text → ((k : ℕ) → k < at → (slice_index text k == c) ≡ true → ⊥) → (slice_index text at == c) ≡ true
    → slice_split (λ b. b == c) text ≡ take at text ∷ slice_split (λ b. b == c) (drop (at + 1) text)
first_part c [] at low before is = absurd (omega arith)
first_part c (b ∷ text) zero low before is = slice_split-cons_yes (λ x. x == c) b text is
first_part c (b ∷ text) (suc at) low before is =
    let behind : suc at + 1 ≡ suc (at + 1) = omega arith in
    slice_split-cons_no (λ x. x == c) b text (not_true _ (before 0 (omega arith)))
    ∙ ap (onto_first b) (first_part c text at (omega arith) (λ k low is. before (suc k) (omega arith) is) is)
    ∙ ap (λ n. (b ∷ take at text) ∷ slice_split (λ x. x == c) (drop n (b ∷ text))) (sym behind)

pub place_within : (c : ℕ) (text : List ℕ) (r : Option ℕ) → IsFirstByte (is_byte c) text r → IfSome r (λ at. at < length text)
place_within c text None h = tt
place_within c text (Some at) h = h.0.high

pub place_parts : (c : ℕ) (text : List ℕ) (r : Option ℕ) → IsFirstByte (is_byte c) text r
    → MatchOption r (slice_split (λ b. b == c) text ≡ text ∷ []) (λ at. slice_split (λ b. b == c) text ≡ take at text ∷ slice_split (λ b. b == c) (drop (at + 1) text))
place_parts c text None h = one_part c text (λ k low is. h k (omega arith) low is)
place_parts c text (Some at) h = first_part c text at h.0.high (λ k low is. h.0.before k (omega arith) low is) h.1

-- one more part, and the last one
pub one_more : {X : Type 0} (shown : X → List ℕ) (c : ℕ) (text rest : List ℕ) (at : ℕ) (before : List X) (x : X) (after : List X) → after ≡ before ++ x ∷ []
    → slice_split (λ b. b == c) text ≡ map shown before ++ slice_split (λ b. b == c) rest → slice_split (λ b. b == c) rest ≡ shown x ∷ slice_split (λ b. b == c) (drop (at + 1) rest)
    → slice_split (λ b. b == c) text ≡ map shown after ++ slice_split (λ b. b == c) (take (length rest - (at + 1)) (drop (at + 1) rest))
one_more shown c text rest at before x after grown so_far next =
    let behind : take (length rest - (at + 1)) (drop (at + 1) rest) ≡ drop (at + 1) rest = take_all _ (drop (at + 1) rest) (omega (arith, length-drop (at + 1) rest)) in
    let later = slice_split (λ b. b == c) (drop (at + 1) rest) in
    so_far ∙ ap (λ l. map shown before ++ l) next ∙ sym (append_assoc (map shown before) (shown x ∷ []) later)
    ∙ ap (λ l. l ++ later) (sym (ap (map shown) grown ∙ map-append shown before (x ∷ [])))
    ∙ ap (λ l. map shown after ++ slice_split (λ b. b == c) l) (sym behind)

pub last_one : {X : Type 0} (shown : X → List ℕ) (c : ℕ) (text rest : List ℕ) (before : List X) (x : X) (after : List X) → after ≡ before ++ x ∷ []
    → slice_split (λ b. b == c) text ≡ map shown before ++ slice_split (λ b. b == c) rest → slice_split (λ b. b == c) rest ≡ shown x ∷ []
    → map shown after ≡ slice_split (λ b. b == c) text
last_one shown c text rest before x after grown so_far last =
    ap (map shown) grown ∙ map-append shown before (x ∷ []) ∙ ap (λ l. map shown before ++ l) (sym last) ∙ sym so_far
