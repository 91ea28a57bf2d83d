-- The first 0A of a piece, as a search for it finds it.
use Rattle.std.proofs.Common.{◌≡◌, ℕ, ◌<◌, ◌≤◌, ⊎_elim, Bool, true, false, not, cond, List, length, Option, Some, None, refl, ap, sym, ◌∙◌, arith}
use Rattle.std.specs.Prelude.{◌==◌, slice_index}
use Rattle.std.specs.List.{prefix_len}
use Rattle.std.proofs.lemmas.Bool.{cases_lt, le-ltb, lt-ltb}
use Rattle.std.proofs.lemmas.List.Sums.{prefix_len_passes, prefix_len_stops}
use Rattle.memchr.specs.Find.{IsFirstByte, is_byte}
use Rattle.krb_text.specs.Cutter.{first_end}

abbrev is_open : ℕ → Bool
is_open b = not (b == 10)

shut : (t : Bool) → not t ≡ false → t ≡ true
shut true e = refl
shut false e = absurd (cc)

both : (t : Bool) → not t ≡ true → t ≡ true → ⊥
both true e f = absurd (cc)
both false e f = absurd (cc)

-- the octet after those before the first 0A is a 0A
stops : (bs : List ℕ) → prefix_len is_open bs < length bs → (slice_index bs (prefix_len is_open bs) == 10) ≡ true
stops bs low = shut _ (prefix_len_stops is_open bs 0 low)

-- none of the octets before the first 0A is a 0A
passes : (bs : List ℕ) (k : ℕ) → k < prefix_len is_open bs → (slice_index bs k == 10) ≡ true → ⊥
passes bs k low e = both _ (prefix_len_passes is_open bs k 0 low) e

pub first_end_of : (bs : List ℕ) (r : Option ℕ) → IsFirstByte (is_byte 10) bs r → r ≡ first_end bs
first_end_of bs None h =
    let past : length bs ≤ prefix_len is_open bs = ⊎_elim (λ low. absurd (h (prefix_len is_open bs) (omega arith) low (stops bs low))) (λ past. past) (cases_lt (prefix_len is_open bs) (length bs)) in
    sym (ap (λ t. cond t (Some (prefix_len is_open bs)) None) (le-ltb _ _ past))
first_end_of bs (Some k) h =
    let first = h.0 in
    let not_before : k ≤ prefix_len is_open bs = ⊎_elim (λ low. absurd (first.before (prefix_len is_open bs) (omega arith) low (stops bs (omega (arith, first.high))))) (λ past. past) (cases_lt (prefix_len is_open bs) k) in
    let not_behind : prefix_len is_open bs ≤ k = ⊎_elim (λ low. absurd (passes bs k low h.1)) (λ past. past) (cases_lt k (prefix_len is_open bs)) in
    let same : prefix_len is_open bs ≡ k = omega arith in
    sym (ap (λ t. cond t (Some (prefix_len is_open bs)) None) (lt-ltb (prefix_len is_open bs) (length bs) (omega (arith, first.high))) ∙ ap Some same)
