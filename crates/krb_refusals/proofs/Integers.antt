-- The shortest octets of a number spell it.
use Rattle.std.proofs.Common.{◌≡◌, ℕ, ◌+◌, ◌*◌, ◌/◌, ◌%◌, ◌<◌, ◌≤◌, ◌^◌, Bool, true, false, inl, inr, List, [], ◌∷◌, length, get_or, refl, ap, ◌∙◌, ℤ, pos, arith}
use Rattle.std.proofs.lemmas.Bool.{cases_lt, lt-ltb, le-ltb}
use Rattle.krb_der.specs.Integer.{integer_value}
use Rattle.krb_der.specs.Reading.{number_of}
use Rattle.krb_refusals.specs.Integers.{shortest, IsShortest}

-- octets whose first is below 80 hex are not negative
not_negative : (octets : List ℕ) → get_or octets 0 0 < 0x80 → integer_value octets ≡ pos (number_of octets)
not_negative octets h = rw (lt-ltb (get_or octets 0 0) 0x80 h) refl

record Spells (n : ℕ) (octets : List ℕ) : Type 0 where
  pub is : number_of octets ≡ n
  pub first : get_or octets 0 0 < 0x80
  pub shortest : IsShortest octets

one : (n : ℕ) → n < 0x80 → Spells n (n ∷ [])
one n h = record {
  is = omega arith;
  first = h;
  shortest = record { some = omega arith; no_zeros = λ one. absurd (omega (arith, one)); no_ones = λ one. absurd (omega (arith, one)) };
}

two : (n : ℕ) → 0x80 ≤ n → n < 0x8000 → Spells n (n / 0x100 ∷ n % 0x100 ∷ [])
two n h k = record {
  is = omega arith;
  first = omega (arith, k);
  shortest = record { some = omega arith; no_zeros = λ two zero. omega (arith, h, k, zero); no_ones = λ two ones. absurd (omega (arith, k, ones)) };
}

three : (n : ℕ) → 0x8000 ≤ n → n < 8388608 → Spells n (n / 0x1_0000 ∷ n / 0x100 % 0x100 ∷ n % 0x100 ∷ [])
three n h k = record {
  is = omega arith;
  first = omega (arith, k);
  shortest = record { some = omega arith; no_zeros = λ two zero. omega (arith, h, k, zero); no_ones = λ two ones. absurd (omega (arith, k, ones)) };
}

spells : (n : ℕ) → n < 8388608 → Spells n (shortest n)
unfolding shortest
spells n k =
    elim (cases_lt n 0x80) [
      | inl lt ↦ rw (lt-ltb n 0x80 lt) (one n lt)
      | inr le ↦ rw (le-ltb n 0x80 le) (elim (cases_lt n 0x8000) [
        | inl lt ↦ rw (lt-ltb n 0x8000 lt) (two n le lt)
        | inr more ↦ rw (le-ltb n 0x8000 more) (three n more k)
      ])
    ]

pub value_of_shortest : (n : ℕ) → n < 8388608 → integer_value (shortest n) ≡ pos n
value_of_shortest n k = let s = spells n k in not_negative (shortest n) s.first ∙ ap (λ (m : ℕ). pos m) s.is

pub is_shortest : (n : ℕ) → n < 8388608 → IsShortest (shortest n)
is_shortest n k = (spells n k).shortest
