-- Lists of records in their order.
use Rattle.std.specs.Prelude.{◌≡◌, ℕ, ◌≤◌, length, Bool, false, not, if◌then◌else◌, List, [], ◌∷◌, ⊤}
use Rattle.std.specs.List.{fold, AllByRecursion, AllWithin}
use Rattle.std.specs.Ordering.{is_lt, is_gt}
use Rattle.std.specs.declared.cmp.Ordering.TheVariants.{Less, Greater}
use Rattle.krb_replay.specs.declared.record.Record.{Record}
use Rattle.krb_replay.specs.Records.{record_cmp}
use Rattle.krb_replay.specs.Clock.{is_current}

-- no record is above a later one
abbrev pub Ascends : List Record → Type 0
Ascends [] = ⊤
Ascends (x ∷ xs) = AllByRecursion (λ y. is_gt (record_cmp x y) ≡ false) xs × Ascends xs

-- the records with the entry after those that are less
abbrev pub place : List Record → Record → List Record
place [] entry = entry ∷ []
place (x ∷ xs) entry = if is_lt (record_cmp x entry) then x ∷ place xs entry else entry ∷ x ∷ xs

-- the records, in order
abbrev pub in_order : List Record → List Record
in_order records = fold place [] records

-- whether the first is no longer current
abbrev pub is_front_stale : ℕ → ℕ → List Record → Bool
is_front_stale skew moment [] = false
is_front_stale skew moment (x ∷ xs) = not (is_current skew moment x)

-- the entry is not there, and belongs at this index: each before it is less, and each from it on is greater
pub record IsPlace (xs : List Record) (entry : Record) (index : ℕ) : Type 0 where
  pub within : index ≤ length xs
  pub less : AllWithin (λ y. record_cmp y entry ≡ Less) xs 0 index
  pub greater : AllWithin (λ y. record_cmp y entry ≡ Greater) xs index (length xs)
