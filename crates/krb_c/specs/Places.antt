-- An optional value on the heap.
use Rattle.std.specs.Prelude.{ℕ, Option, None, Some}
use base.Fml.{Fml, ftrue}
use denote.RattleType.{RattleType}
use denote.RawPtr.{Ptr}
use mir.Syntax.{Ty}
use Rattle.std.specs.Box.Ownership.{box_owns}

-- the ownership of the address of a value, if there is one
abbrev pub place_owns : (Ty → Ptr → Fml) → (R : RattleType) → Ptr → Option R.Denot → Fml
place_owns t R p None = ftrue
place_owns t R p (Some x) = box_owns t R p x

-- 1 if there is a value, otherwise 0
abbrev pub count_of : {A : Type 0} → Option A → ℕ
count_of None = 0
count_of (Some x) = 1
