-- Octets by their hex digits.
use Rattle.std.proofs.Common.{◌≡◌, ℕ, zero, ◌+◌, ◌*◌, ◌/◌, ◌%◌, ◌<◌, ◌≤◌, ◌⊎◌, inl, inr, Bool, true, false, ◌&&◌, suc, List, [], ◌∷◌, length, slice_index, Option, Some, None, Result, Ok, Err, refl, sym, ap, ◌∙◌, arith, tests, rules}
use Rattle.std.specs.Prelude.{◌==◌, fold}
use Rattle.std.specs.List.{list_all, AllPass}
use Rattle.std.specs.Result.{result_ok}
use Rattle.std.proofs.lemmas.Bool.{and_parts, eqb-true, eq-eqb}
use Rattle.std.proofs.lemmas.List.Sums.{list_all-from_AllPass}
use Rattle.std.proofs.lemmas.Grind.{common_steps}
use Rattle.std.proofs.lemmas.Bool.Decides.{nat_tests}
use Rattle.hex.specs.Hex.{is_hex_digit, hex_digit_value, pair_value, value_at, digit_or_error, decode_pairs, decode_of, decode_sized}
use Rattle.hex.specs.declared.error.FromHexError.{FromHexError}
use Rattle.hex.proofs.HexLemmas.{decode_of-even, decode_of-ok, decode_sized-ok, decode_sized-twice}
use Rattle.krb_script.specs.Digits.{are_pairs}

-- a look at each digit, whatever the digits before it are
fold_all : (text : List ℕ) (before : Bool) → fold (λ all octet. all && is_hex_digit octet) before text ≡ (before && list_all is_hex_digit text)
fold_all [] true = refl
fold_all [] false = refl
fold_all (octet ∷ text) true = fold_all text (is_hex_digit octet)
fold_all (octet ∷ text) false = fold_all text false

pub all_digits : (text : List ℕ) → fold (λ all octet. all && is_hex_digit octet) true text ≡ list_all is_hex_digit text
all_digits text = fold_all text true

-- the value of a digit by arithmetic
pub value_of : (digit : ℕ) → is_hex_digit digit ≡ true → (hex_digit_value digit ≡ Some (digit % 16 + 9 * (digit / 64))) × (digit % 16 + 9 * (digit / 64) < 16)
value_of digit is = grind (arith, common_steps, nat_tests)

-- each octet of a text of digits is a digit
pub digit_at : (text : List ℕ) (i : ℕ) → list_all is_hex_digit text ≡ true → i < length text → is_hex_digit (slice_index text i) ≡ true
digit_at [] i all low = absurd (omega arith)
digit_at (octet ∷ text) zero all low = (and_parts (is_hex_digit octet) (list_all is_hex_digit text) all).0
digit_at (octet ∷ text) (suc i) all low = digit_at text i (and_parts (is_hex_digit octet) (list_all is_hex_digit text) all).1 (omega arith)

-- the octet of two digits
pub pair_of : (high low i h l : ℕ) → hex_digit_value high ≡ Some h → hex_digit_value low ≡ Some l → pair_value high low i ≡ Ok (h * 16 + l)
pair_of high low i h l eh el =
    let a : value_at high i ≡ Ok h = ap (digit_or_error high i) eh in
    let b : value_at low (i + 1) ≡ Ok l = ap (digit_or_error low (i + 1)) el in
    rw (a, b) refl

-- digits in pairs
pub even_of : (text : List ℕ) → are_pairs text ≡ true → length text % 2 ≡ 0
even_of text is = eqb-true (length text % 2) 0 (and_parts (length text % 2 == 0) (list_all is_hex_digit text) is).0

pub all_of : (text : List ℕ) → are_pairs text ≡ true → list_all is_hex_digit text ≡ true
all_of text is = (and_parts (length text % 2 == 0) (list_all is_hex_digit text) is).1

-- the octets of digits in pairs
pub decoded : (text octets : List ℕ) → are_pairs text ≡ true → decode_pairs 0 text ≡ Ok octets → result_ok (decode_of text) ≡ Some octets
decoded text octets is e = ap result_ok (decode_of-even text (even_of text is) ∙ e)

are_pairs_of : (text : List ℕ) → length text % 2 ≡ 0 → list_all is_hex_digit text ≡ true → are_pairs text ≡ true
are_pairs_of text even all = rw (even, all) refl

none_of : (text : List ℕ) (r : Result (List ℕ) FromHexError) → decode_of text ≡ r → are_pairs text ≡ false → result_ok r ≡ None
none_of text (Ok bytes) e not =
    let ok = decode_of-ok text bytes e in
    cc (sym not ∙ are_pairs_of text ok.0 (list_all-from_AllPass is_hex_digit text ok.1))
none_of text (Err error) e not = refl

-- a text that is not digits in pairs has no octets
pub not_decoded : (text : List ℕ) → are_pairs text ≡ false → result_ok (decode_of text) ≡ None
not_decoded text not = none_of text (decode_of text) refl not

-- 128 digits, and other texts
pub sized_decoded : (text octets : List ℕ) → length text ≡ 128 → are_pairs text ≡ true → decode_pairs 0 text ≡ Ok octets → result_ok (decode_sized text 64) ≡ Some octets
sized_decoded text octets len is e = ap result_ok (decode_sized-twice text 64 len) ∙ decoded text octets is e

pub sized_not_decoded : (text : List ℕ) → length text ≡ 128 → are_pairs text ≡ false → result_ok (decode_sized text 64) ≡ None
sized_not_decoded text len not = ap result_ok (decode_sized-twice text 64 len) ∙ not_decoded text not

none_sized : (text : List ℕ) (r : Result (List ℕ) FromHexError) → decode_sized text 64 ≡ r → (length text ≡ 128 → ⊥) → result_ok r ≡ None
none_sized text (Ok bytes) e other = absurd (other (decode_sized-ok text 64 bytes e))
none_sized text (Err error) e other = refl

pub not_sized : (text : List ℕ) → (length text ≡ 128 → ⊥) → result_ok (decode_sized text 64) ≡ None
not_sized text other = none_sized text (decode_sized text 64) refl other

-- 128 digits have 64 octets, and other texts have none
pub ruleset sized = (sized_decoded, sized_not_decoded, not_sized, all_of)
