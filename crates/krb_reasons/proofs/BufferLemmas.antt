-- Three parts that are a buffer, or not.
use Rattle.std.proofs.Common.{◌≡◌, ℕ, Bool, true, false, ◌&&◌, List, [], ◌∷◌, length, Option, Some, None, refl, arith}
use Rattle.std.specs.Prelude.{is_some, nat_le, codes, ◌==◌, ◌||◌, if◌then◌else◌}
use Rattle.std.specs.Str.{bytes_eq}
use Rattle.std.proofs.lemmas.Bool.{eqb-true}
use Rattle.hex.specs.Hex.{decode_pairs}
use Rattle.sspi_core.specs.Buffer.{Buffer, no_flags}
use Rattle.sspi_core.specs.declared.buffer.BufferType.TheVariants.{Token, Data, Stream}
use Rattle.krb_text.specs.Decimals.{decimal_up_to}
use Rattle.krb_der.specs.Reading.{◌>>=◌}
use Rattle.krb_script.specs.Options.{if_so}
use Rattle.krb_script.specs.Buffers.{hex_of, read_only, lettered, buffer_in}
use Rattle.krb_reasons.specs.Wanted.{is_letter}

by_letter : (t d r s : Bool) (a b c e : Buffer)
    → is_some (if t then Some a else if d then Some b else if r then Some c else if s then Some e else None) ≡ (t || d || r || s)
by_letter true d r s a b c e = refl
by_letter false true r s a b c e = refl
by_letter false false true s a b c e = refl
by_letter false false false true a b c e = refl
by_letter false false false false a b c e = refl

lettered_is : (letter octets : List ℕ) (limit : ℕ) → is_some (lettered letter octets limit) ≡ is_letter letter
lettered_is letter octets limit =
    by_letter (bytes_eq letter (codes "T")) (bytes_eq letter (codes "D")) (bytes_eq letter (codes "R")) (bytes_eq letter (codes "S"))
    (record { kind = Token; flags = no_flags; octets = octets; limit = limit }) (record { kind = Data; flags = no_flags; octets = octets; limit = limit })
    (record { kind = Data; flags = read_only; octets = octets; limit = limit }) (record { kind = Stream; flags = no_flags; octets = octets; limit = limit })

by_test : (test : Bool) (found : Option Buffer) (is : Bool) → is_some found ≡ is → is_some (if_so test found) ≡ (test && is)
by_test true found is e = e
by_test false found is e = refl

pub buffer_is : (letter digits limit_text octets : List ℕ) (limit : ℕ) → hex_of digits ≡ Some octets → decimal_up_to 1048576 limit_text ≡ Some limit
    → is_some (buffer_in (letter ∷ digits ∷ limit_text ∷ [])) ≡ (nat_le (length octets) limit && is_letter letter)
buffer_is letter digits limit_text octets limit found within =
    rw (found, within) (by_test (nat_le (length octets) limit) (lettered letter octets limit) (is_letter letter) (lettered_is letter octets limit))

pub no_octets : (letter digits limit_text : List ℕ) → hex_of digits ≡ None → is_some (buffer_in (letter ∷ digits ∷ limit_text ∷ [])) ≡ false
no_octets letter digits limit_text none = rw none refl

behind_octets : (octets : Option (List ℕ)) → is_some (◌>>=◌ {A = List ℕ} {B = Buffer} octets (λ (o : List ℕ). None)) ≡ false
behind_octets None = refl
behind_octets (Some octets) = refl

pub no_limit : (letter digits limit_text : List ℕ) → decimal_up_to 1048576 limit_text ≡ None → is_some (buffer_in (letter ∷ digits ∷ limit_text ∷ [])) ≡ false
no_limit letter digits limit_text none = rw none (behind_octets (hex_of digits))

-- no digits are no octets
pub no_digits : (digits : List ℕ) → (length digits == 0) ≡ true → hex_of digits ≡ Some []
unfolding decode_pairs
no_digits [] is = refl
no_digits (digit ∷ digits) is = absurd (omega (arith, eqb-true _ _ is))
