-- The window of numbers: the newest number, and a mask of the 64 places up to it.
use Rattle.std.specs.Prelude.{◌≡◌, ℕ, ◌*◌, ◌%◌, ◌^◌, ◌<◌, ◌==◌, nat_lt, nat_le, bit_or, ℤ, pos, ◌-ℤ◌, Bool, ◌||◌, List, Option, Some, None, if◌then◌else◌}
use Rattle.std.specs.Int.{bit_at}
use Rattle.krb_context.specs.declared.window.NumberVerdict.{NumberVerdict}
use Rattle.krb_context.specs.declared.window.NumberVerdict.TheVariants.{Fresh, Old, Repeated}
use Rattle.krb_context.specs.Places.{number_at, ahead, is_ahead, greatest, was_opened}

pub record Window : Type 0 where
  pub newest : ℕ
  pub mask : ℕ

abbrev pub new_window : Window
new_window = record { newest = 0; mask = 0 }

-- the place that is `below` below the newest was opened
abbrev pub has_bit : ℕ → ℕ → Bool
has_bit mask below = bit_at mask below == 1

-- no message was opened, or the newest was
abbrev pub has_newest : Window → Bool
has_newest window = window.mask == 0 || has_bit window.mask 0

-- a window with a newest place represents places of which this is the greatest
pub record IsWindowOf (window : Window) (newest : ℤ) (places : List ℤ) : Type 0 where
  pub number : window.newest ≡ number_at newest
  pub bits : (below : ℕ) → below < 64 → has_bit window.mask below ≡ was_opened places (newest -ℤ pos below)

abbrev pub StandsAfter : Option ℤ → Window → List ℤ → Type 0
StandsAfter None window places = window.mask ≡ 0
StandsAfter (Some newest) window places = IsWindowOf window newest places

-- the window represents these places
abbrev pub StandsFor : Window → List ℤ → Type 0
StandsFor window places = StandsAfter (greatest places) window places

-- the verdict of a window on a number
abbrev pub number_verdict : Window → ℕ → NumberVerdict
number_verdict window number =
    if window.mask == 0 then Fresh
    else if is_ahead (ahead window.newest number) then Fresh
    else if nat_le 64 (ahead number window.newest) then Old
    else if has_bit window.mask (ahead number window.newest) then Repeated
    else Fresh

-- the mask once the places move up
abbrev pub moved_up : ℕ → ℕ → ℕ
moved_up mask distance = if nat_lt distance 64 then bit_or (mask * 2 ^ distance % 2 ^ 64) 1 else 1

-- the window once a number was opened
abbrev pub noted : Window → ℕ → Window
noted window number =
    if window.mask == 0 then record { newest = number; mask = 1 }
    else if is_ahead (ahead window.newest number) then record { newest = number; mask = moved_up window.mask (ahead window.newest number) }
    else record window { mask = bit_or window.mask (1 * 2 ^ ahead number window.newest % 2 ^ 64) }
