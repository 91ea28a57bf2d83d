-- Lists of records that are cut into blocks.
use Rattle.std.specs.Prelude.{◌≡◌, ℕ, ◌+◌, ◌-◌, ◌*◌, ◌≤◌, ◌<◌, ◌^◌, min, length, take, slice_index_or, nat_le, Bool, true, false, not, List, [], ◌∷◌, ◌++◌, ⊤}
use Rattle.std.specs.List.{AllByRecursion}
use Rattle.std.specs.Ordering.{is_lt}
use Rattle.std.specs.declared.cmp.Ordering.TheVariants.{Less}
use Rattle.krb_replay.specs.declared.record.Record.{Record}
use Rattle.krb_replay.specs.Records.{record_cmp}
use Rattle.krb_replay.specs.Order.{Ascends}

-- the records of all blocks, one block after another
abbrev pub flat : List (List Record) → List Record
flat [] = []
flat (b ∷ bs) = b ++ flat bs

abbrev pub is_none : List Record → Bool
is_none [] = true
is_none (x ∷ xs) = false

-- whether the last record is less than the entry; no record is not less
abbrev pub ends_below : Record → List Record → Bool
ends_below entry [] = true
ends_below entry (x ∷ []) = is_lt (record_cmp x entry)
ends_below entry (x ∷ y ∷ ys) = ends_below entry (y ∷ ys)

-- whether the last block ends below the entry
abbrev pub are_below : Record → List (List Record) → Bool
are_below entry [] = true
are_below entry (b ∷ []) = ends_below entry b
are_below entry (b ∷ c ∷ cs) = are_below entry (c ∷ cs)

-- whether there is a last block, and it has room
abbrev pub has_room : List (List Record) → Bool
has_room [] = false
has_room (b ∷ []) = not (nat_le 512 (length b))
has_room (b ∷ c ∷ cs) = has_room (c ∷ cs)

-- each record is less than the entry
abbrev pub AllBelow : Record → List Record → Type 0
AllBelow entry records = AllByRecursion (λ x. record_cmp x entry ≡ Less) records

-- this block has the entry or its place: those before it are less, and its own last record is not
pub record IsBlockOf (entry : Record) (blocks : List (List Record)) (index : ℕ) : Type 0 where
  pub within : index < length blocks
  pub below : AllBelow entry (flat (take index blocks))
  pub here : (d : List Record) → ends_below entry (slice_index_or blocks index d) ≡ false

-- the first of several blocks has at least `least` records, each between it and the last at least 256, and the last at least one
abbrev pub Filled : ℕ → List (List Record) → Type 0
Filled least [] = ⊤
Filled least (b ∷ []) = 1 ≤ length b
Filled least (b ∷ c ∷ cs) = (least ≤ length b) × Filled 256 (c ∷ cs)

-- no block has a record
abbrev pub AllNone : List (List Record) → Type 0
AllNone blocks = AllByRecursion (λ b. b ≡ []) blocks

-- how many records a number of blocks hold, however these are cut
abbrev pub room_of : ℕ → ℕ
room_of blocks = min ((blocks - 2) * 256) (2 ^ 64 - 1)

-- the records, and how many more the blocks at hand hold
pub record Kept : Type 0 where
  pub items : List Record
  pub spare : ℕ

-- records in order, in well filled blocks and no more than these hold, and spare blocks that are empty; both lists have
-- room for all blocks
pub record IsHeld (blocks spare : List (List Record)) (n blocks_capacity spare_capacity : ℕ) : Type 0 where
  pub ordered : Ascends (flat blocks)
  pub filled : Filled 1 blocks
  pub none : AllNone spare
  pub len : n ≡ length (flat blocks)
  pub room : length (flat blocks) ≤ room_of (length blocks + length spare)
  pub blocks_room : length blocks + length spare ≤ blocks_capacity
  pub spare_room : length blocks + length spare ≤ spare_capacity

-- the same blocks, filled with these records
pub record IsRecut (blocks spare new_blocks new_spare : List (List Record)) (records : List Record) : Type 0 where
  pub items : flat new_blocks ≡ records
  pub filled : Filled 1 new_blocks
  pub none : AllNone new_spare
  pub count : length new_blocks + length new_spare ≡ length blocks + length spare
