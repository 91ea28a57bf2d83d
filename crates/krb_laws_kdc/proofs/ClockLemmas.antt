-- Times that are near pass a KDC's checks.
use Rattle.std.proofs.Common.{◌≡◌, ℕ, ◌+◌, ◌*◌, ◌/◌, ◌%◌, ◌<◌, pos, Bool, true, false, get_or, Some, refl, ap, ◌∙◌, arith, nat_lt, if◌then◌else◌}
use Rattle.std.specs.Prelude.{not, ◌||◌, int_lt}
use Rattle.std.specs.Int.{w32, to_be_bytes}
use Rattle.std.proofs.lemmas.Bool.{lt-ltb, le-ltb}
use Rattle.krb_der.specs.Integer.{integer_value}
use Rattle.krb_replay.specs.Clock.{in_microseconds}
use Rattle.krb_requests.specs.Pieces.{three_days_after, whole_second}
use Rattle.krb_kdc.specs.Clocks.{is_near, asks_latest, is_after, ends_after, part_of_second, microseconds_of, moment_of}
use Rattle.krb_laws_kdc.specs.Asking.{AreNear, IsFairSkew}

-- till is three days after the client's moment, and so after the KDC's
is_after_till : (skew moment now : ℕ) → IsFairSkew skew → AreNear skew moment now → is_after (three_days_after moment) now ≡ true
is_after_till skew moment now fair near = lt-ltb now ((moment / 1000000 + 259200) * 1000000) (omega (arith, near.down, fair.fair))

either_way : (a b : Bool) → b ≡ true → (a || b) ≡ true
either_way true b e = refl
either_way false b e = e

pub till_after : (skew moment now : ℕ) → IsFairSkew skew → AreNear skew moment now → ends_after (three_days_after moment) now ≡ true
till_after skew moment now fair near =
    either_way (asks_latest (three_days_after moment)) (is_after (three_days_after moment) now) (is_after_till skew moment now fair near)

neither : (a b : Bool) → a ≡ false → b ≡ false → not (a || b) ≡ true
neither true b e f = absurd cc
neither false true e f = absurd cc
neither false false e f = refl

pub near_passes : (skew moment now : ℕ) → AreNear skew moment now → is_near skew now (pos moment) ≡ true
near_passes skew moment now near =
    neither (nat_lt (now + skew * 1000000) moment) (nat_lt (moment + skew * 1000000) now)
    (le-ltb (now + skew * 1000000) moment (omega (arith, near.up))) (le-ltb (moment + skew * 1000000) now (omega (arith, near.down)))

-- a moment is its second and the microseconds after it
pub moment_is : (moment : ℕ) → moment_of (pos (moment / 1000000)) (pos (moment % 1000000)) ≡ pos moment
moment_is moment = ap pos (omega arith)

if_true : {A : Type 0} (b : Bool) (x y : A) → b ≡ true → (if b then x else y) ≡ x
if_true true x y e = refl
if_true false x y e = absurd cc

integer_is : (n : ℕ) → n < 1000000 → integer_value (to_be_bytes w32 n) ≡ pos n
integer_is n small =
    if_true (nat_lt (get_or (to_be_bytes w32 n) 0 0) 0x80) _ _ (lt-ltb (get_or (to_be_bytes w32 n) 0 0) 0x80 (omega (arith, small))) ∙ ap pos (omega (arith, small))

if_neither : {A : Type 0} (a b : Bool) (x y : A) → a ≡ false → b ≡ false → (if a || b then x else y) ≡ y
if_neither true b x y e f = absurd cc
if_neither false true x y e f = absurd cc
if_neither false false x y e f = refl

in_second : (n : ℕ) → n < 1000000 → part_of_second (pos n) ≡ Some (pos n)
in_second n small = if_neither (int_lt (pos n) (pos 0)) (int_lt (pos 999999) (pos n)) _ _ (le-ltb n 0 (omega arith)) (le-ltb 999999 n (omega (arith, small)))

pub microseconds_are : (moment : ℕ) → microseconds_of (Some (to_be_bytes w32 (moment % 1000000))) ≡ Some (pos (moment % 1000000))
microseconds_are moment =
    ap part_of_second (integer_is (moment % 1000000) (omega arith)) ∙ in_second (moment % 1000000) (omega arith)

-- the whole second of a moment is near where the moment is, less one second
pub second_passes : (skew moment now : ℕ) → AreNear skew moment now → is_near skew now (in_microseconds (whole_second moment)) ≡ true
second_passes skew moment now near =
    neither (nat_lt (now + skew * 1000000) (moment / 1000000 * 1000000)) (nat_lt (moment / 1000000 * 1000000 + skew * 1000000) now)
    (le-ltb (now + skew * 1000000) (moment / 1000000 * 1000000) (omega (arith, near.up)))
    (le-ltb (moment / 1000000 * 1000000 + skew * 1000000) now (omega (arith, near.down)))
