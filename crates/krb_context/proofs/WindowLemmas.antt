-- A window judges and notes as the list that never forgets.
use Rattle.std.proofs.Common.{◌≡◌, ℕ, ◌+◌, ◌-◌, ◌*◌, ◌/◌, ◌%◌, ◌^◌, ◌<◌, ◌≤◌, ℤ, pos, ◌+ℤ◌, ◌-ℤ◌, ◌<ℤ◌, Bool, true, false, List, [], ◌∷◌, ◌++◌, refl, sym, ap, ap₂, max, ◌∙◌, subst, inl, inr, arith}
use Rattle.std.specs.Prelude.{◌≢◌, Option, Some, None, ◌||◌, ◌==◌, int_lt, nat_lt, nat_le, bit_or, if◌then◌else◌}
use Rattle.std.specs.Int.{bit_at, w64, int_max}
use Rattle.std.specs.Ordering.{int_eq}
use Rattle.std.proofs.lemmas.Bool.{cases_lt, lt-ltb, cases_eq, or_right, and_parts, both_ways, eqb-true, ne_eqb, leb-true, leb-false}
use Rattle.std.proofs.Math.Nat.{pos_of_ne-zero}
use Rattle.std.proofs.lemmas.Int.{ints, clamps}
use Rattle.std.proofs.lemmas.Nat.{shr_split, pow_pos}
use Rattle.std.proofs.lemmas.Nat.Bits.{bit_at_or, bit_at-zero, bit_at-lt, bit_at_cat_low, bit_at_cat_high, bit_at-pow_other, bit_at_set_same, bit_at_set_other}
use Rattle.krb_context.specs.Places.{number_at, ahead, is_ahead, greatest, place_after, was_opened, verdict_after, verdict_of, opened}
use Rattle.krb_context.specs.Window.{Window, has_newest, has_bit, IsWindowOf, StandsAfter, StandsFor, number_verdict, moved_up, noted}
use Rattle.krb_context.specs.declared.window.NumberVerdict.TheVariants.{Fresh, Old, Repeated}
use Rattle.krb_context.proofs.PlaceLemmas.{or_false, number_at-lt, number_at-plus, number_at-pos, top_of, greatest-push, was_opened-push, int_eq-same, int_eq-apart, none_above, newest_opened}

-- ---- bits

-- what is left of a number has the bits that are left
low_bit : (n w i : ℕ) → i < w → bit_at (n % 2 ^ w) i ≡ bit_at n i
low_bit n w i low = sym (bit_at_cat_low (n / 2 ^ w) w (n % 2 ^ w) i low) ∙ ap (λ (m : ℕ). bit_at m i) (shr_split n w)

-- the bits of a mask that moved up
moved_low : (mask distance i : ℕ) → i < distance → i < 64 → bit_at (mask * 2 ^ distance % 2 ^ 64) i ≡ 0
moved_low mask distance i low fits =
    low_bit (mask * 2 ^ distance) 64 i fits
    ∙ ap (λ (m : ℕ). bit_at m i) (omega arith) ∙ bit_at_cat_low mask distance 0 i low ∙ bit_at-zero i

moved_high : (mask distance i : ℕ) → distance ≤ i → i < 64 → bit_at (mask * 2 ^ distance % 2 ^ 64) i ≡ bit_at mask (i - distance)
moved_high mask distance i high fits =
    low_bit (mask * 2 ^ distance) 64 i fits
    ∙ ap (λ (m : ℕ). bit_at m i) (omega arith) ∙ bit_at_cat_high mask distance 0 i (pow_pos distance) high

-- 1 has the lowest bit alone
bit_of_one : (i : ℕ) → 0 < i → bit_at 1 i ≡ 0
bit_of_one i up = let apart : i ≢ 0 = λ e. omega (arith, e) in bit_at-pow_other 0 i apart

has_bit-is : (mask other i j : ℕ) → bit_at mask i ≡ bit_at other j → has_bit mask i ≡ has_bit other j
has_bit-is mask other i j e = ap (λ (b : ℕ). b == 1) e

has_bit-set : (mask i : ℕ) → bit_at mask i ≡ 1 → has_bit mask i ≡ true
has_bit-set mask i e = ap (λ (b : ℕ). b == 1) e

has_bit-clear : (mask i : ℕ) → bit_at mask i ≡ 0 → has_bit mask i ≡ false
has_bit-clear mask i e = ap (λ (b : ℕ). b == 1) e

-- the lowest bit of a mask that moved up is set
pub moved_newest : (mask distance : ℕ) → has_bit (moved_up mask distance) 0 ≡ true
moved_newest mask distance =
    elim (nat_lt distance 64) as (λ v. has_bit (if v then bit_or (mask * 2 ^ distance % 2 ^ 64) 1 else 1) 0 ≡ true) [
      | true ↦
          has_bit-set (bit_or (mask * 2 ^ distance % 2 ^ 64) 1) 0
          (bit_at_or (mask * 2 ^ distance % 2 ^ 64) 1 0 ∙ omega (arith, bit_at-lt (mask * 2 ^ distance % 2 ^ 64) 0))
      | false ↦ refl
    ]

-- those between are clear
moved_between : (mask distance i : ℕ) → 0 < i → i < distance → i < 64 → has_bit (moved_up mask distance) i ≡ false
moved_between mask distance i up low fits =
    elim (nat_lt distance 64) as (λ v. has_bit (if v then bit_or (mask * 2 ^ distance % 2 ^ 64) 1 else 1) i ≡ false) [
      | true ↦
          has_bit-clear (bit_or (mask * 2 ^ distance % 2 ^ 64) 1) i
          (bit_at_or (mask * 2 ^ distance % 2 ^ 64) 1 i ∙ ap₂ (λ (a b : ℕ). max a b) (moved_low mask distance i low fits) (bit_of_one i up))
      | false ↦ has_bit-clear 1 i (bit_of_one i up)
    ]

-- the others are the mask's
moved_above : (mask distance i : ℕ) → 0 < i → distance ≤ i → i < 64 → has_bit (moved_up mask distance) i ≡ has_bit mask (i - distance)
moved_above mask distance i up high fits =
    let small : nat_lt distance 64 ≡ true = lt-ltb distance 64 (omega arith) in
    rw small
    (has_bit-is (bit_or (mask * 2 ^ distance % 2 ^ 64) 1) mask i (i - distance)
    (bit_at_or (mask * 2 ^ distance % 2 ^ 64) 1 i ∙ ap₂ (λ (a b : ℕ). max a b) (moved_high mask distance i high fits) (bit_of_one i up)
    ∙ omega arith))

-- ---- the verdict on a number

-- ahead of the newest by less than half the way round is fresh
ahead_fresh : (newest : ℤ) (places : List ℤ) (distance : ℕ) → greatest places ≡ Some newest → is_ahead distance ≡ true
    → Fresh ≡ verdict_after (Some newest) places (newest +ℤ pos distance)
ahead_fresh newest places distance top forward =
    let some : 1 ≤ distance = leb-true 1 distance (and_parts (nat_le 1 distance) (nat_lt distance (2 ^ 31)) forward).0 in
    let young : int_lt (newest -ℤ pos 64) (newest +ℤ pos distance) ≡ true = grind (arith, ints) in
    let above : newest <ℤ (newest +ℤ pos distance) = omega (arith, ints) in
    rw (young, none_above places newest (newest +ℤ pos distance) top above) refl

-- at or below the newest, the mask decides
behind_is : (mask : ℕ) (newest : ℤ) (places : List ℤ) (distance : ℕ)
    → ((below : ℕ) → below < 64 → has_bit mask below ≡ was_opened places (newest -ℤ pos below))
    → (if nat_le 64 distance then Old else if has_bit mask distance then Repeated else Fresh) ≡ verdict_after (Some newest) places (newest -ℤ pos distance)
behind_is mask newest places distance bits =
    let P : Bool → Type 0 = λ v. (nat_le 64 distance ≡ v)
    → (if v then Old else if has_bit mask distance then Repeated else Fresh) ≡ verdict_after (Some newest) places (newest -ℤ pos distance) in
    let both : P (nat_le 64 distance) = elim (nat_le 64 distance) as P [
      | true ↦ λ far.
          let low : 64 ≤ distance = leb-true 64 distance far in
          let aged : int_lt (newest -ℤ pos 64) (newest -ℤ pos distance) ≡ false = grind (arith, ints) in
          rw aged refl
      | false ↦ λ near.
          let high : distance < 64 = leb-false 64 distance near in
          let young : int_lt (newest -ℤ pos 64) (newest -ℤ pos distance) ≡ true = grind (arith, ints) in
          rw (young, bits distance high) refl
    ] in
    both refl

-- the mask of a window with a newest place is not zero
mask_there : (mask : ℕ) (newest : ℤ) (places : List ℤ) → greatest places ≡ Some newest
    → ((below : ℕ) → below < 64 → has_bit mask below ≡ was_opened places (newest -ℤ pos below)) → (mask == 0) ≡ false
mask_there mask newest places top bits =
    ne_eqb mask 0
    (λ zero.
    let here : was_opened places (newest -ℤ pos 0) ≡ true = ap (was_opened places) (omega (arith, ints)) ∙ newest_opened places newest top in
    both_ways (has_bit 0 0) refl (sym (ap (λ (m : ℕ). has_bit m 0) zero) ∙ bits 0 (omega arith) ∙ here))

judged_some : (mask : ℕ) (newest : ℤ) (places : List ℤ) (n : ℕ) → greatest places ≡ Some newest
    → ((below : ℕ) → below < 64 → has_bit mask below ≡ was_opened places (newest -ℤ pos below))
    → number_verdict (record { newest = number_at newest; mask = mask }) n ≡ verdict_after (Some newest) places (place_after (Some newest) n)
judged_some mask newest places n top bits =
    let forward : ℕ = ahead (number_at newest) n in
    let behind : ℕ = ahead n (number_at newest) in
    let P : Bool → Type 0 = λ v. (is_ahead forward ≡ v)
    → (if v then Fresh else if nat_le 64 behind then Old else if has_bit mask behind then Repeated else Fresh)
    ≡ verdict_after (Some newest) places (if v then newest +ℤ pos forward else newest -ℤ pos behind) in
    let both : P (is_ahead forward) = elim (is_ahead forward) as P [
      | true ↦ λ e. ahead_fresh newest places forward top e
      | false ↦ λ e. behind_is mask newest places behind bits
    ] in
    rw (mask_there mask newest places top bits) (both refl)

judged_after : (newest : Option ℤ) (window : Window) (places : List ℤ) (n : ℕ) → greatest places ≡ newest → StandsAfter newest window places
    → number_verdict window n ≡ verdict_after newest places (place_after newest n)
judged_after None window places n top empty = rw empty refl
judged_after (Some newest) window places n top stands =
    ap (λ (m : ℕ). number_verdict (record { newest = m; mask = window.mask }) n) stands.number ∙ judged_some window.mask newest places n top stands.bits

-- a window judges a number as each list that it represents does
pub judged_is : (window : Window) (places : List ℤ) (n : ℕ) → StandsFor window places → number_verdict window n ≡ verdict_of places n
judged_is window places n stands = judged_after (greatest places) window places n refl stands

-- ---- what a window is afterwards

-- going ahead from one number to another comes to the other
ahead_comes : (from to : ℕ) → from < 2 ^ 32 → to < 2 ^ 32 → (from + ahead from to) % 2 ^ 32 ≡ to
ahead_comes from to f t = omega arith

-- the bit of a place that was just opened, and of another
just_opened : (places : List ℤ) (place other : ℤ) → other ≡ place → was_opened (places ++ place ∷ []) other ≡ true
just_opened places place other e =
    was_opened-push places place other ∙ or_right (was_opened places other) (int_eq place other) (int_eq-same place other (sym e))

opened_before : (places : List ℤ) (place other : ℤ) (b : Bool) → (place ≡ other → ⊥) → was_opened places other ≡ b → was_opened (places ++ place ∷ []) other ≡ b
opened_before places place other b apart e =
    was_opened-push places place other ∙ ap₂ (λ (x y : Bool). x || y) e (int_eq-apart place other apart) ∙ or_false b

-- the first number
one_bits : (places : List ℤ) (newest : ℤ) (below : ℕ) → ((place : ℤ) → was_opened places place ≡ false)
    → has_bit 1 below ≡ was_opened (places ++ newest ∷ []) (newest -ℤ pos below)
one_bits places newest below none = elim (cases_eq below 0) [
  | inl zero ↦ ap (has_bit 1) zero ∙ sym (just_opened places newest (newest -ℤ pos below) (omega (arith, ints, zero)))
  | inr other ↦
      has_bit-clear 1 below (bit_of_one below (pos_of_ne-zero other))
      ∙ sym (opened_before places newest (newest -ℤ pos below) false (λ same. other (omega (arith, ints, same))) (none (newest -ℤ pos below)))
]

none_opened : (places : List ℤ) → greatest places ≡ None → (place : ℤ) → was_opened places place ≡ false
none_opened [] e place = refl
none_opened (first ∷ places) e place = cc

-- the bits of a window that moved up to a new newest place
moved_bits : (mask : ℕ) (newest : ℤ) (places : List ℤ) (distance below : ℕ) → greatest places ≡ Some newest → 1 ≤ distance → below < 64
    → ((i : ℕ) → i < 64 → has_bit mask i ≡ was_opened places (newest -ℤ pos i))
    → has_bit (moved_up mask distance) below ≡ was_opened (places ++ (newest +ℤ pos distance) ∷ []) (newest +ℤ pos distance -ℤ pos below)
moved_bits mask newest places distance below top some fits bits =
    let place : ℤ = newest +ℤ pos distance in
    let other : ℤ = place -ℤ pos below in
    elim (cases_eq below 0) [
      | inl zero ↦ ap (has_bit (moved_up mask distance)) zero ∙ moved_newest mask distance ∙ sym (just_opened places place other (omega (arith, ints, zero)))
      | inr lower ↦
          let up : 0 < below = pos_of_ne-zero lower in
          let apart : place ≡ other → ⊥ = λ same. lower (omega (arith, ints, same)) in
          elim (cases_lt below distance) [
            | inl between ↦
                moved_between mask distance below up between fits
                ∙ sym (opened_before places place other false apart (none_above places newest other top (omega (arith, ints))))
            | inr above ↦
                moved_above mask distance below up above fits
                ∙ sym (opened_before places place other (has_bit mask (below - distance)) apart
                (sym (bits (below - distance) (omega arith) ∙ ap (was_opened places) (omega (arith, ints)))))
          ]
    ]

-- the bits of a window with one more below its newest place
added_bits : (mask : ℕ) (newest : ℤ) (places : List ℤ) (distance below : ℕ) → distance < 64 → below < 64
    → ((i : ℕ) → i < 64 → has_bit mask i ≡ was_opened places (newest -ℤ pos i))
    → has_bit (bit_or mask (1 * 2 ^ distance % 2 ^ 64)) below ≡ was_opened (places ++ (newest -ℤ pos distance) ∷ []) (newest -ℤ pos below)
added_bits mask newest places distance below near fits bits =
    let place : ℤ = newest -ℤ pos distance in
    let other : ℤ = newest -ℤ pos below in
    elim (cases_eq below distance) [
      | inl same ↦
          ap (has_bit (bit_or mask (1 * 2 ^ distance % 2 ^ 64))) same ∙ has_bit-set (bit_or mask (1 * 2 ^ distance % 2 ^ 64)) distance (bit_at_set_same w64 mask distance near)
          ∙ sym (just_opened places place other (omega (arith, ints, same)))
      | inr apart ↦
          has_bit-is (bit_or mask (1 * 2 ^ distance % 2 ^ 64)) mask below below (bit_at_set_other w64 mask distance near below apart)
          ∙ sym (opened_before places place other (has_bit mask below) (λ same. apart (omega (arith, ints, same))) (sym (bits below fits)))
    ]

higher : (newest : ℤ) (distance : ℕ) → int_max newest (newest +ℤ pos distance) ≡ newest +ℤ pos distance
higher newest distance = omega (arith, ints, clamps)

lower : (newest : ℤ) (distance : ℕ) → int_max newest (newest -ℤ pos distance) ≡ newest
lower newest distance = omega (arith, ints, clamps)

-- a window represents places if it represents them with their greatest place
stands_by : (window : Window) (newest : ℤ) (places : List ℤ) → greatest places ≡ Some newest → IsWindowOf window newest places → StandsFor window places
stands_by window newest places top stands = let P : Option ℤ → Type 0 = λ g. StandsAfter g window places in subst P (sym top) stands

-- what is fresh is not old
not_old : (distance : ℕ) (bit : Bool) → (if nat_le 64 distance then Old else if bit then Repeated else Fresh) ≡ Fresh → distance < 64
not_old distance bit fresh =
    let P : Bool → Type 0 = λ v. (nat_le 64 distance ≡ v) → (if v then Old else if bit then Repeated else Fresh) ≡ Fresh → distance < 64 in
    let both : P (nat_le 64 distance) = elim (nat_le 64 distance) as P [ true ↦ λ e ok. cc | false ↦ λ e ok. leb-false 64 distance e ] in
    both refl fresh

noted_some : (mask : ℕ) (newest : ℤ) (places : List ℤ) (n : ℕ) → n < 2 ^ 32 → greatest places ≡ Some newest
    → ((below : ℕ) → below < 64 → has_bit mask below ≡ was_opened places (newest -ℤ pos below))
    → number_verdict (record { newest = number_at newest; mask = mask }) n ≡ Fresh
    → StandsFor (noted (record { newest = number_at newest; mask = mask }) n) (places ++ place_after (Some newest) n ∷ [])
noted_some mask newest places n fits top bits fresh =
    let forward : ℕ = ahead (number_at newest) n in
    let behind : ℕ = ahead n (number_at newest) in
    let there : (mask == 0) ≡ false = mask_there mask newest places top bits in
    let known : (if is_ahead forward then Fresh else if nat_le 64 behind then Old else if has_bit mask behind then Repeated else Fresh) ≡ Fresh = rw there at fresh in
    let P : Bool → Type 0 = λ v. (is_ahead forward ≡ v)
    → (if v then Fresh else if nat_le 64 behind then Old else if has_bit mask behind then Repeated else Fresh) ≡ Fresh
    → StandsFor
    (if v then record { newest = n; mask = moved_up mask forward } else record { newest = number_at newest; mask = bit_or mask (1 * 2 ^ behind % 2 ^ 64) })
    (places ++ (if v then newest +ℤ pos forward else newest -ℤ pos behind) ∷ []) in
    let both : P (is_ahead forward) = elim (is_ahead forward) as P [
      | true ↦ λ e ok.
          let some : 1 ≤ forward = leb-true 1 forward (and_parts (nat_le 1 forward) (nat_lt forward (2 ^ 31)) e).0 in
          let place : ℤ = newest +ℤ pos forward in
          let comes : n ≡ number_at place = sym (number_at-plus newest forward ∙ ahead_comes (number_at newest) n (number_at-lt newest) fits) in
          stands_by (record { newest = n; mask = moved_up mask forward }) place (places ++ place ∷ [])
          (greatest-push places place ∙ ap (λ (g : Option ℤ). Some (top_of g place)) top ∙ ap Some (higher newest forward))
          (record { number = comes; bits = λ below low. moved_bits mask newest places forward below top some low bits })
      | false ↦ λ e ok.
          let near : behind < 64 = not_old behind (has_bit mask behind) ok in
          let place : ℤ = newest -ℤ pos behind in
          stands_by (record { newest = number_at newest; mask = bit_or mask (1 * 2 ^ behind % 2 ^ 64) }) newest (places ++ place ∷ [])
          (greatest-push places place ∙ ap (λ (g : Option ℤ). Some (top_of g place)) top ∙ ap Some (lower newest behind))
          (record { number = refl; bits = λ below low. added_bits mask newest places behind below near low bits })
    ] in
    rw there (both refl known)

noted_after : (newest : Option ℤ) (window : Window) (places : List ℤ) (n : ℕ) → n < 2 ^ 32 → greatest places ≡ newest → StandsAfter newest window places
    → number_verdict window n ≡ Fresh → StandsFor (noted window n) (places ++ place_after newest n ∷ [])
noted_after None window places n fits top empty fresh =
    rw empty
    (stands_by (record { newest = n; mask = 1 }) (pos n) (places ++ pos n ∷ [])
    (greatest-push places (pos n) ∙ ap (λ (g : Option ℤ). Some (top_of g (pos n))) top)
    (record { number = sym (number_at-pos n fits); bits = λ below low. one_bits places (pos n) below (none_opened places top) }))
noted_after (Some newest) window places n fits top stands fresh =
    let P : ℕ → Type 0 = λ m. number_verdict (record { newest = m; mask = window.mask }) n ≡ Fresh
    → StandsFor (noted (record { newest = m; mask = window.mask }) n) (places ++ place_after (Some newest) n ∷ []) in
    subst P (sym stands.number) (noted_some window.mask newest places n fits top stands.bits) fresh

-- a window that noted a fresh number represents each list that it represented before, with that number's place added
pub noted_is : (window : Window) (places : List ℤ) (n : ℕ) → n < 2 ^ 32 → StandsFor window places → number_verdict window n ≡ Fresh → StandsFor (noted window n) (opened places n)
noted_is window places n fits stands fresh = noted_after (greatest places) window places n fits refl stands fresh

-- ---- the window keeps its newest number

pub moved_up-newest : (mask distance newest : ℕ) → has_newest (record { newest = newest; mask = moved_up mask distance }) ≡ true
moved_up-newest mask distance newest =
    or_right (moved_up mask distance == 0) (has_bit (moved_up mask distance) 0) (moved_newest mask distance)

pub added-newest : (mask other newest : ℕ) → (mask == 0) ≡ false → has_newest (record { newest = newest; mask = mask }) ≡ true
    → has_newest (record { newest = newest; mask = bit_or mask other }) ≡ true
added-newest mask other newest there kept =
    let set : has_bit mask 0 ≡ true = rw there at kept in
    let one : bit_at mask 0 ≡ 1 = eqb-true (bit_at mask 0) 1 set in
    or_right (bit_or mask other == 0) (has_bit (bit_or mask other) 0)
    (has_bit-set (bit_or mask other) 0 (bit_at_or mask other 0 ∙ omega (arith, one, bit_at-lt other 0)))

-- the same of a window that is what was to be noted
pub notes_from : (window new : Window) (places : List ℤ) (n : ℕ) → new ≡ noted window n → n < 2 ^ 32 → number_verdict window n ≡ Fresh → StandsFor window places
    → StandsFor new (opened places n)
notes_from window new places n exact fits fresh stands = let P : Window → Type 0 = λ w. StandsFor w (opened places n) in subst P (sym exact) (noted_is window places n fits stands fresh)
