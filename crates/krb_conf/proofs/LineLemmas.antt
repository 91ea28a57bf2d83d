-- The results of the searches of std, in the words of `specs/Line`.
use Rattle.std.proofs.Common.{MatchOption, option_copied, Bor, ◌≡◌, ℕ, suc, ◌+◌, ◌-◌, ◌<◌, Bool, true, false, cond, eqb, List, [], ◌∷◌, ◌++◌, length, take, drop, get_or, refl, sym, ap, ◌∙◌, arith, length-append}
use Rattle.std.specs.Prelude.{◌==◌, ◌||◌, not, Option, Some, None}
use Rattle.std.specs.List.{list_any, position_or_len, prefix_len}
use Rattle.std.proofs.lemmas.Bool.Decides.{nat_tests}
use Rattle.std.proofs.lemmas.List.{get_or_push, take_more}
use Rattle.std.proofs.Math.Seq.{take-append_seam, take-length}
use Rattle.sspi_core.proofs.Cuts.{list_any-absent}
use Rattle.krb_conf.specs.Line.{section_name, relation}

-- a name between brackets is the name of the section
between : (name : List ℕ) → section_name (91 ∷ (name ++ 93 ∷ [])) ≡ Some name
between name =
    let line : List ℕ = 91 ∷ (name ++ 93 ∷ []) in
    let size : length (91 ∷ name) ≡ length (91 ∷ (name ++ 93 ∷ [])) - 1 = omega (arith, length-append name (93 ∷ [])) in
    let last : get_or (91 ∷ (name ++ 93 ∷ [])) (length (91 ∷ (name ++ 93 ∷ [])) - 1) 0 ≡ 93 = get_or_push (91 ∷ name) 93 0 _ size in
    let front : take (length (91 ∷ (name ++ 93 ∷ [])) - 1) (91 ∷ (name ++ 93 ∷ [])) ≡ 91 ∷ name = sym (ap (λ n. take n (91 ∷ (name ++ 93 ∷ []))) size) ∙ take-append_seam (91 ∷ name) (93 ∷ []) in
    rw (last, front) refl

pub section_name-between : (line name : List ℕ) → line ≡ 91 ∷ (name ++ 93 ∷ []) → section_name line ≡ Some name
section_name-between line name e = ap section_name e ∙ between name

-- a line that does not begin with `[` names none
pub section_name-no_front : (line : List ℕ) → ((rest : List ℕ) → line ≡ 91 ∷ rest → ⊥) → section_name line ≡ None
section_name-no_front [] h = refl
section_name-no_front (b ∷ bs) h =
    let other : eqb b 91 ≡ false = grind (arith, nat_tests, λ (e : b ≡ 91). h bs (ap (λ n. n ∷ bs) e)) in
    rw other refl

-- a list is its front and its last element
last-is : (xs : List ℕ) (c : ℕ) → 0 < length xs → get_or xs (length xs - 1) 0 ≡ c → xs ≡ take (length xs - 1) xs ++ (c ∷ [])
last-is xs c some is =
    let whole : length xs - 1 + 1 ≡ length xs = omega arith in
    sym (take-length xs) ∙ sym (ap (λ n. take n xs) whole) ∙ take_more xs (length xs - 1) 0 (omega arith) ∙ ap (λ b. take (length xs - 1) xs ++ (b ∷ [])) is

-- a line that begins with `[` and does not end with `]` names none
section_name-no_end : (rest : List ℕ) → ((front : List ℕ) → rest ≡ front ++ (93 ∷ []) → ⊥) → section_name (91 ∷ rest) ≡ None
section_name-no_end [] h = refl
section_name-no_end (b ∷ bs) h =
    let step : length (91 ∷ b ∷ bs) - 1 ≡ suc (length (b ∷ bs) - 1) = omega arith in
    let here : get_or (91 ∷ b ∷ bs) (length (91 ∷ b ∷ bs) - 1) 0 ≡ get_or (b ∷ bs) (length (b ∷ bs) - 1) 0 = ap (λ n. get_or (91 ∷ b ∷ bs) n 0) step in
    let some : 0 < length (b ∷ bs) = omega arith in
    let other : eqb (get_or (91 ∷ b ∷ bs) (length (91 ∷ b ∷ bs) - 1) 0) 93 ≡ false =
    grind (arith, nat_tests, λ (e : get_or (91 ∷ b ∷ bs) (length (91 ∷ b ∷ bs) - 1) 0 ≡ 93). h (take (length (b ∷ bs) - 1) (b ∷ bs)) (last-is (b ∷ bs) 93 some (sym here ∙ e))) in
    rw other refl

-- a line that begins with `[`, by what cutting off a `]` at its end gives
pub section_name-after_front : (line rest : List ℕ) (r : Option (Bor (List ℕ))) → line ≡ 91 ∷ rest
    → MatchOption r ((front : List ℕ) → rest ≡ front ++ (93 ∷ []) → ⊥) (λ x. rest ≡ x.now ++ (93 ∷ [])) → option_copied r ≡ section_name line
section_name-after_front line rest None e h = sym (ap section_name e ∙ section_name-no_end rest h)
section_name-after_front line rest (Some x) e h = sym (section_name-between line x.now (e ∙ ap (λ l. 91 ∷ l) h))

-- a line without `=` relates nothing
pub relation-absent : (line : List ℕ) → position_or_len (λ b. eqb b 61) line ≡ length line → relation line ≡ None
relation-absent line h = rw (list_any-absent (λ b. eqb b 61) line h) refl
