-- The end of a call of `serve_lines`, and the octets that it has read and written then.
use Rattle.std.specs.Prelude.{◌≡◌, ◌≤◌, ◌+◌, ℕ, false, true, List, [], ◌∷◌, ◌++◌, length, Option, Some, IfSome}
use Rattle.std.specs.Io.KnownBytes.{Appends, Consumes}
use Rattle.krb_text.specs.Limits.{max_line, max_input, is_long}
use Rattle.krb_text.specs.Lines.{cut, lines}
use Rattle.krb_text.specs.Output.{IsFront}
use Rattle.krb_text.specs.declared.status.Status.{Status}
use Rattle.krb_text.specs.declared.status.Status.TheVariants.{Done, BadWords, BadLine, TooLong, ReadFault, WriteFault, OutOfMemory}
use Rattle.krb_lines.specs.Rules.{Rules}
use Rattle.krb_lines.specs.Text.{bad_line, long_line, stopped_line}

-- one line, and then those after it
pub record FirstThen {T : Type 0} (rules : Rules T) (line : List ℕ) (rest : T → List ℕ → Type 0) (taker : T) (text : List ℕ) : Type 0 where
  pub own : List ℕ
  pub next : T
  pub takes : rules.takes taker line own next
  pub later : List ℕ
  pub follows : rest next later
  pub text_is : text ≡ own ++ later

-- lines are taken in their order: this text is written, and this is known then
abbrev pub Runs : {T : Type 0} → Rules T → T → List (List ℕ) → List ℕ → T → Type 0
Runs rules taker [] text after = (text ≡ []) × (after ≡ taker)
Runs rules taker (line ∷ more) text after = FirstThen rules line (λ next later. Runs rules next more later after) taker text

-- the octets of lines, each with its 0A
abbrev pub octet_count : List (List ℕ) → ℕ
octet_count [] = 0
octet_count (line ∷ more) = (length line + 1) + octet_count more

-- no line is longer than it may be; they come after `at` of `total` octets
abbrev pub AreShort : ℕ → ℕ → List (List ℕ) → Type 0
AreShort total at [] = Unit {0}
AreShort total at (line ∷ more) = (is_long total at line ≡ false) × AreShort total (at + length line + 1) more

-- the first lines of an input are taken, none of them is longer than it may be, others come after them, and this text is written
pub record Reaches {T : Type 0} (rules : Rules T) (new : T) (input : List ℕ) (others : List (List ℕ)) (text : List ℕ) (taker : T) : Type 0 where
  pub first : List (List ℕ)
  pub lines_are : lines input ≡ first ++ others
  pub short : AreShort (length input) 0 first
  pub runs : Runs rules new first text taker

-- the next line is bad, and no longer than it may be; or none is left, and the input may not end here
abbrev pub IsBad : {T : Type 0} → Rules T → ℕ → ℕ → T → List (List ℕ) → Type 0
IsBad rules total at taker [] = rules.can_end taker ≡ false
IsBad rules total at taker (line ∷ more) = (is_long total at line ≡ false) × rules.refuses taker line

-- the next line is longer than it may be, or ends past the longest input
abbrev pub IsLong : ℕ → ℕ → List (List ℕ) → Type 0
IsLong total at [] = ⊥
IsLong total at (line ∷ more) = is_long total at line ≡ true

-- the whole text of an input, by the status
pub record EndsDone {T : Type 0} (rules : Rules T) (new : T) (input text : List ℕ) : Type 0 where
  pub front : List ℕ
  pub taker : T
  pub reaches : Reaches rules new input [] front taker
  pub can_end : rules.can_end taker ≡ true
  pub is : text ≡ front ++ rules.end_line taker

pub record EndsBad {T : Type 0} (rules : Rules T) (new : T) (input text : List ℕ) : Type 0 where
  pub others : List (List ℕ)
  pub front : List ℕ
  pub taker : T
  pub reaches : Reaches rules new input others front taker
  pub bad : IsBad rules (length input) (octet_count reaches.first) taker others
  pub is : text ≡ front ++ bad_line (rules.lines taker + 1)

pub record EndsLong {T : Type 0} (rules : Rules T) (new : T) (input text : List ℕ) : Type 0 where
  pub others : List (List ℕ)
  pub front : List ℕ
  pub taker : T
  pub reaches : Reaches rules new input others front taker
  pub long : IsLong (length input) (octet_count reaches.first) others
  pub is : text ≡ front ++ long_line (rules.lines taker + 1)

pub record EndsStopped {T : Type 0} (rules : Rules T) (new : T) (input text : List ℕ) : Type 0 where
  pub others : List (List ℕ)
  pub front : List ℕ
  pub taker : T
  pub reaches : Reaches rules new input others front taker
  pub is : text ≡ front ++ stopped_line (rules.answered taker)

abbrev pub IsWholeText : {T : Type 0} → Rules T → T → List ℕ → Status → List ℕ → Type 0
IsWholeText rules new input Done text = EndsDone rules new input text
IsWholeText rules new input BadLine text = EndsBad rules new input text
IsWholeText rules new input TooLong text = EndsLong rules new input text
IsWholeText rules new input OutOfMemory text = EndsStopped rules new input text
IsWholeText rules new input BadWords text = ⊥
IsWholeText rules new input ReadFault text = ⊥
IsWholeText rules new input WriteFault text = ⊥

-- the whole lines of what was taken are answered, nothing of it is longer than it may be, and no last line is written
pub record EndsUnread {T : Type 0} (rules : Rules T) (new : T) (taken text : List ℕ) : Type 0 where
  pub taker : T
  pub runs : Runs rules new (cut taken).whole text taker
  pub short : AreShort (length taken) 0 (cut taken).whole
  pub rest : length (cut taken).rest ≤ max_line
  pub total : length taken ≤ max_input

-- a front of a whole text
pub record EndsUnwritten {T : Type 0} (rules : Rules T) (new : T) (input text : List ℕ) : Type 0 where
  pub status : Status
  pub whole : List ℕ
  pub is : IsWholeText rules new input status whole
  pub front : IsFront text whole

-- the octets taken of this input and the text written for it, by the status
abbrev pub Written : {T : Type 0} → Rules T → T → List ℕ → List ℕ → Status → List ℕ → Type 0
Written rules new input taken Done written = EndsDone rules new input written × (taken ≡ input)
Written rules new input taken BadLine written = EndsBad rules new input written
Written rules new input taken TooLong written = EndsLong rules new input written
Written rules new input taken OutOfMemory written = EndsStopped rules new input written
Written rules new input taken ReadFault written = EndsUnread rules new taken written
Written rules new input taken WriteFault written = EndsUnwritten rules new input written
Written rules new input taken BadWords written = (taken ≡ []) × (written ≡ [])

-- a front of the input is taken, of which no more is looked at than one octet past the limit
abbrev pub IsTaken : List ℕ → Option (List ℕ) → List ℕ → Type 0
IsTaken input left_after taken = Consumes (Some input) left_after taken × (length taken ≤ max_input + 1)

-- a front of the input that the source had left is taken, and the sink has taken the text that the status allows, if the octets
-- of both are known
abbrev pub AnswersLines : {T : Type 0} → Rules T → T → Option (List ℕ) → Option (List ℕ) → Option (List ℕ) → Option (List ℕ) → Status → Type 0
AnswersLines rules new left left_after before after status =
    IfSome left (λ input. (taken written : List ℕ) × IsTaken input left_after taken × Appends before after written × Written rules new input taken status written)
