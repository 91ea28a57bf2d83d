-- The rules by which lines are taken.
use Rattle.std.specs.Prelude.{◌≡◌, ℕ, Bool, List}

-- `takes`: a line is taken, with the text that is written for it and the state after it; `refuses`: a line is bad; `lines`: how
-- many lines were taken; `answered`: how many replies were written; `can_end`: whether the input may end here; `end_line`: the
-- last line if it does
pub record Rules (T : Type 0) : Type 1 where
  pub takes : T → List ℕ → List ℕ → T → Type 0
  pub refuses : T → List ℕ → Type 0
  pub lines : T → ℕ
  pub answered : T → ℕ
  pub can_end : T → Bool
  pub end_line : T → List ℕ

-- the same counts
pub record AreCountsOf {T : Type 0} (rules : Rules T) (old new : T) : Type 0 where
  pub lines_are : rules.lines new ≡ rules.lines old
  pub answered_are : rules.answered new ≡ rules.answered old
