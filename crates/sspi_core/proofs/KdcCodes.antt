-- Codes that the table does not have.
use Rattle.std.proofs.Common.{◌≡◌, ℕ, ◌<◌, ◌≤◌, Bool, true, false, nat_lt, nat_le, List, [], ◌∷◌, ◌==◌, ◌||◌, refl, sym, arith, inl, inr}
use Rattle.std.specs.Prelude.{◌⊎◌}
use Rattle.std.specs.List.{list_any, list_all}
use Rattle.std.proofs.lemmas.Grind.{common_steps}
use Rattle.sspi_core.specs.declared.kind.ErrorKind.{ErrorKind}
use Rattle.sspi_core.specs.declared.kind.ErrorKind.TheVariants.{Unknown, InternalError}
use Rattle.sspi_core.specs.Kinds.{kind_in, code_table, kind_of_code}
use Rattle.sspi_core.proofs.Truths.{both}

-- no number of a list is from low to below high
abbrev pub avoids : ℕ → ℕ → List ℕ → Bool
avoids low high ks = list_all (λ k. nat_lt k low || nat_le high k) ks

other : (low high code k : ℕ) → (nat_lt k low || nat_le high k) ≡ true → low ≤ code → code < high → (k == code) ≡ false
other low high code k h below above = grind (arith, common_steps)

none : (low high code : ℕ) (ks : List ℕ) → avoids low high ks ≡ true → low ≤ code → code < high → list_any (λ c. c == code) ks ≡ false
none low high code [] h below above = refl
none low high code (k ∷ ks) h below above =
    let b = both _ _ h in rw (other low high code k b.0 below above) (none low high code ks b.1 below above)

missing : (low high code : ℕ) (rows : List (ErrorKind × List ℕ)) → list_all (λ row. avoids low high row.1) rows ≡ true → low ≤ code → code < high → kind_in rows code ≡ Unknown
missing low high code [] h below above = refl
missing low high code (row ∷ rows) h below above =
    let b = both _ _ h in rw (none low high code row.1 b.0 below above) (missing low high code rows b.1 below above)

-- the kind of a code in a range that the table avoids
pub unknown_code : (low high code : ℕ) → list_all (λ row. avoids low high row.1) code_table ≡ true → low ≤ code → code < high → Unknown ≡ kind_of_code code
unfolding kind_of_code
unknown_code low high code h below above = sym (missing low high code code_table h below above)

either : (code : ℕ) → 73 ≤ code → code < 75 → (code ≡ 73) ⊎ (code ≡ 74)
either code low high = grind arith

-- the kind of 73 and of 74
pub field_codes : (code : ℕ) → 73 ≤ code → code < 75 → InternalError ≡ kind_of_code code
unfolding kind_of_code
field_codes code low high = elim (either code low high) [ inl e ↦ rw e refl | inr e ↦ rw e refl ]

gaps : (code : ℕ) → 30 ≤ code → code < 60 → (31 ≤ code → code < 43 → ⊥) → (44 ≤ code → code < 53 → ⊥) → (code < 31) ⊎ (((43 ≤ code) × (code < 44)) ⊎ (53 ≤ code))
gaps code low high first second = grind arith

-- the kind of 30, of 43 and of 53 to 59
pub unknown_between : (code : ℕ) → 30 ≤ code → code < 60 → (31 ≤ code → code < 43 → ⊥) → (44 ≤ code → code < 53 → ⊥) → Unknown ≡ kind_of_code code
unknown_between code low high first second = elim (gaps code low high first second) [
  | inl a ↦ unknown_code 30 31 code refl low a
  | inr b ↦ elim b [ inl c ↦ unknown_code 43 44 code refl c.0 c.1 | inr d ↦ unknown_code 53 60 code refl d high ]
]
