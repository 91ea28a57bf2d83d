-- The values of decimal numbers.
use Rattle.std.specs.Prelude.{ℕ, ◌+◌, ◌*◌, ◌-◌, ◌^◌, Bool, false, ◌&&◌, nat_le, ◌==◌, if◌then◌else◌, List, [], ◌∷◌, length, fold, Option, Some, None}
use Rattle.std.specs.List.{list_all}
use Rattle.std.specs.Char.{is_ascii_digit}
use Rattle.std.specs.Str.{bytes_eq}

-- decimal digits, with no leading zero
abbrev pub is_decimal : List ℕ → Bool
is_decimal [] = false
is_decimal (first ∷ rest) = if first == 48 then length rest == 0 else is_ascii_digit first && list_all is_ascii_digit rest

-- the value of decimal digits
abbrev pub decimal_value : List ℕ → ℕ
decimal_value text = fold (λ value digit. value * 10 + (digit - 48)) 0 text

-- the decimal number, if it is at most `limit`
abbrev pub decimal_up_to : ℕ → List ℕ → Option ℕ
decimal_up_to limit text = if is_decimal text && nat_le (decimal_value text) limit then Some (decimal_value text) else None

-- the decimal number after this word, if there is no other word and the number is at most `limit`
abbrev pub number_behind : List ℕ → ℕ → List (List ℕ) → Option ℕ
number_behind word limit (first ∷ number ∷ []) = if bytes_eq first word then decimal_up_to limit number else None
number_behind word limit _ = None

-- a decimal number of 32 bits
abbrev pub u32_of : List ℕ → Option ℕ
u32_of text = decimal_up_to (2 ^ 32 - 1) text
