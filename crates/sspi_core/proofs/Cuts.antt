-- Texts cut at a sign.
use Rattle.std.proofs.Common.{◌≡◌, ◌≢◌, ℕ, zero, suc, ◌+◌, ◌-◌, ◌<◌, ◌≤◌, Bool, true, false, not, List, [], ◌∷◌, ◌==◌, ◌||◌, cond, length, take, drop, get_or, refl, sym, ap, ◌∙◌, arith}
use Rattle.std.specs.Prelude.{MatchOption, Option, Some, None}
use Rattle.std.specs.List.{list_any, position_or_len, suffix_len}
use Rattle.std.specs.Str.Pattern.{RFindsChar, HasCharAt, SplitsAroundMatch}
use Rattle.std.proofs.Math.Bool.{or-true}
use Rattle.std.proofs.lemmas.List.{length-drop, get_or-drop}
use Rattle.std.specs.Str.{NoCharPasses}
use Rattle.std.proofs.lemmas.Grind.{common_steps}
use Rattle.std.proofs.lemmas.List.Sums.{suffix_len_is}
use Rattle.std.proofs.lemmas.Str.Pattern.{NoCharPasses-char, drop_at_char, split_once_first, IsSplitOnceResult}
use denote.Ref.{Bor}
use Rattle.sspi_core.specs.Usernames.{has, backslash, at_sign, IsCutAtFirst, IsCutAtLast}

different : (b c : ℕ) → b ≢ c → (b == c) ≡ false
different b c h = grind (arith, common_steps)

alike : (b c : ℕ) → b ≡ c → (b == c) ≡ true
alike b c e = grind (arith, common_steps)

pub has_none : (c : ℕ) (s : List ℕ) → ((i : ℕ) → i < length s → get_or s i 0 ≢ c) → has c s ≡ false
has_none c [] none = refl
has_none c (b ∷ s) none = rw (different b c (none 0 (omega arith))) (has_none c s (λ i h. none (suc i) (omega arith)))

pub has_some : (c : ℕ) (s : List ℕ) (k : ℕ) → k < length s → get_or s k 0 ≡ c → has c s ≡ true
has_some c [] k h e = absurd (omega arith)
has_some c (b ∷ s) zero h e = rw (alike b c e) refl
has_some c (b ∷ s) (suc k) h e = rw (has_some c s k (omega arith) e) (or-true (b == c))

none_step : (v : Bool) (n m : ℕ) (r : Bool) → cond (not v) (1 + n) 0 ≡ suc m → (n ≡ m → r ≡ false) → (v || r) ≡ false
none_step true n m r e ih = absurd (omega arith)
none_step false n m r e ih = ih (omega arith)

-- where no place passes, no element does
pub list_any-absent : (p : ℕ → Bool) (s : List ℕ) → position_or_len p s ≡ length s → list_any p s ≡ false
list_any-absent p [] e = refl
list_any-absent p (b ∷ s) e = none_step (p b) (position_or_len p s) (length s) (list_any p s) e (list_any-absent p s)

some_step : (v : Bool) (n m : ℕ) (r : Bool) → cond (not v) (1 + n) 0 < suc m → (n < m → r ≡ true) → (v || r) ≡ true
some_step true n m r h ih = refl
some_step false n m r h ih = ih (omega arith)

some_before : (c : ℕ) (s : List ℕ) → position_or_len (λ b. b == c) s < length s → has c s ≡ true
some_before c [] h = absurd (omega arith)
some_before c (b ∷ s) h = some_step (b == c) (position_or_len (λ b. b == c) s) (length s) (has c s) h (some_before c s)

-- what `split_once` says at a backslash
pub cut_at_first : (s : List ℕ) (r : Option (Bor (List ℕ) × Bor (List ℕ))) → IsSplitOnceResult backslash s r
    → MatchOption r (has backslash s ≡ false) (λ parts. IsCutAtFirst s parts.0.now parts.1.now)
cut_at_first s None h = list_any-absent (λ b. b == backslash) s (split_once_first backslash s None h (omega arith))
cut_at_first s (Some x) h =
    let first = split_once_first backslash s (Some x) h (omega arith) in (some_before backslash s first.0, first.1, first.2)

later : (s : List ℕ) (j k : ℕ) → NoCharPasses (λ d. d == at_sign) (drop j s) → j ≤ k → k < length s → not (get_or s k 0 == at_sign) ≡ true
later s j k none below inside =
    let other : get_or (drop j s) (k - j) 0 ≢ at_sign = NoCharPasses-char at_sign (drop j s) (k - j) none (omega arith) (omega (arith, length-drop {A = ℕ})) in
    let same : get_or s k 0 ≢ at_sign = λ e. other (get_or-drop j s (k - j) 0 ∙ ap (λ (n : ℕ). get_or s n 0) (omega arith) ∙ e) in
    rw (different (get_or s k 0) at_sign same) refl

-- what `rsplit_once` says at an `@`
cut_last : (s : List ℕ) (i j : ℕ) → NoCharPasses (λ d. d == at_sign) (drop j s) → HasCharAt at_sign s i j → IsCutAtLast s (take i s) (drop j s)
cut_last s i j none here =
    let split : drop i s ≡ at_sign ∷ drop j s = drop_at_char at_sign s i j here (omega arith) in
    let sizes : length s - i ≡ suc (length (drop j s)) = sym (length-drop i s) ∙ ap length split in
    let inside : i < length s = omega arith in
    let next : j ≡ i + 1 = here.ends in
    let sign : get_or s i 0 ≡ at_sign = here.byte (omega arith) in
    let count : suffix_len (λ d. not (d == at_sign)) s ≡ length s - j =
    suffix_len_is (λ d. not (d == at_sign)) s j 0 (omega arith) (λ k below within. later s j k none below within)
    (λ positive. rw (alike (get_or s (j - 1) 0) at_sign (ap (λ (n : ℕ). get_or s n 0) (omega arith) ∙ sign)) refl) in (
      has_some at_sign s i inside sign,
      ap (λ (n : ℕ). take n s) (omega arith),
      ap (λ (n : ℕ). drop n s) (omega arith),
    )

pub cut_at_last : (s : List ℕ) (r : Option (Bor (List ℕ) × Bor (List ℕ)))
    → MatchOption r (RFindsChar at_sign s None) (λ x. SplitsAroundMatch (RFindsChar at_sign) s x.0.now x.1.now)
    → MatchOption r (has at_sign s ≡ false) (λ parts. IsCutAtLast s parts.0.now parts.1.now)
cut_at_last s None h = has_none at_sign s (λ i inside. NoCharPasses-char at_sign s i h (omega arith) inside)
cut_at_last s (Some x) h =
    let cut = cut_last s h.0 h.1 h.2.0 h.2.1 in (cut.0, h.3 ∙ cut.1, h.4 ∙ cut.2)
