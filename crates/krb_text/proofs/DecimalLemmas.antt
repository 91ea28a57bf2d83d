-- The value of decimal digits.
use Rattle.std.proofs.Common.{◌≡◌, ℕ, ◌+◌, ◌-◌, ◌*◌, ◌≤◌, List, [], ◌∷◌, take, drop, fold, sym, ap, ◌∙◌, arith}
use Rattle.std.proofs.lemmas.List.{take-append-drop}
use Rattle.std.proofs.lemmas.List.Sums.{fold-append}
use Rattle.krb_text.specs.Decimals.{decimal_value}

abbrev with_digit : ℕ → ℕ → ℕ
with_digit value digit = value * 10 + (digit - 48)

grows : (value : ℕ) (digits : List ℕ) → value ≤ fold with_digit value digits
grows value [] = omega arith
grows value (digit ∷ digits) = let again = grows (with_digit value digit) digits in omega arith

-- the value of the first `i` digits is at most the value of all digits
pub decimal_value-take : (digits : List ℕ) (i : ℕ) → decimal_value (take i digits) ≤ decimal_value digits
decimal_value-take digits i =
    let whole : decimal_value digits ≡ fold with_digit (decimal_value (take i digits)) (drop i digits) =
    ap decimal_value (sym (take-append-drop i digits)) ∙ fold-append with_digit 0 (take i digits) (drop i digits) in
    omega (arith, grows (decimal_value (take i digits)) (drop i digits))
