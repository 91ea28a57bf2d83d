-- The kept part of an input.
use Rattle.std.specs.Prelude.{◌≡◌, ℕ, ◌+◌, ◌-◌, ◌^◌, ◌==◌, ◌||◌, min, Bool, false, List, [], ◌∷◌, ◌++◌, codes, if◌then◌else◌}
use Rattle.std.specs.List.{fold, starts_with}
use Rattle.krb_text.specs.Lines.{cut, lines, is_skipped}

-- the lines before the last piece: those that are kept, each with its 0A, their numbers from 1, and how many lines there were
pub record Head : Type 0 where
  pub octets : List ℕ
  pub numbers : List ℕ
  pub lines : ℕ
  pub has_event : Bool

abbrev pub no_head : Head
no_head = record { octets = []; numbers = []; lines = 0; has_event = false }

-- the line of an event
abbrev pub is_event : List ℕ → Bool
is_event line = starts_with ◌==◌ line (codes "event ")

-- the number of the next line, which is counted to 2^64 - 1
abbrev pub number_after : ℕ → ℕ
number_after lines = min (lines + 1) (2 ^ 64 - 1)

-- the head after one more line: the line is counted, and kept if it is not skipped and comes after no event
abbrev pub with_line : Head → List ℕ → Head
with_line head line =
    if head.has_event || is_skipped line then record head { lines = number_after head.lines }
    else record {
      octets = head.octets ++ (line ++ 10 ∷ []);
      numbers = head.numbers ++ number_after head.lines ∷ [];
      lines = number_after head.lines;
      has_event = is_event line;
    }

abbrev pub with_lines : Head → List (List ℕ) → Head
with_lines head lines = fold with_line head lines

-- the kept lines before the last piece, and the last piece, from the beginning of its first line on
pub record Keeping : Type 0 where
  pub head : Head
  pub tail : List ℕ
  pub is_lost : Bool

abbrev pub nothing_kept : Keeping
nothing_kept = record { head = no_head; tail = []; is_lost = false }

-- the kept part after one more piece: the lines before the piece are in the head
abbrev pub kept_with : Keeping → List ℕ → Keeping
kept_with kept piece = record {
  head = with_lines kept.head (cut kept.tail).whole;
  tail = (cut kept.tail).rest ++ piece;
  is_lost = kept.is_lost;
}

-- the kept part of an input that comes in these pieces
abbrev pub kept_of : List (List ℕ) → Keeping
kept_of pieces = fold kept_with nothing_kept pieces

-- the input's lines are the lines that the head has or counts, and then the lines of the tail
pub record KeepsLines (input : List ℕ) (kept : Keeping) : Type 0 where
  pub before : List (List ℕ)
  pub head_is : kept.head ≡ with_lines no_head before
  pub lines_are : lines input ≡ before ++ lines kept.tail
