-- The end of the taking of lines, the octets that it has read and written then, and the last line.
use Rattle.std.specs.Prelude.{◌≡◌, ◌+◌, ℕ, false, List, [], ◌∷◌, Option, IfSome, length, if◌then◌else◌}
use Rattle.std.specs.Io.KnownBytes.{Appends}
use Rattle.krb_text.specs.Limits.{is_long}
use Rattle.krb_text.specs.declared.status.Status.{Status}
use Rattle.krb_text.specs.declared.status.Status.TheVariants.{Done, BadLine as BadStatus, TooLong, ReadFault as ReadStatus, WriteFault as WriteStatus, OutOfMemory as MemoryStatus}
use Rattle.krb_lines.specs.Answering.{octet_count, Reaches, IsLong, EndsUnread, EndsUnwritten, IsTaken}
use Rattle.krb_lines.specs.Rules.{Rules, AreCountsOf}
use Rattle.krb_lines.specs.Text.{bad_line, long_line, stopped_line}
use Rattle.krb_lines.specs.declared.halt.Halt.{Halt}
use Rattle.krb_lines.specs.declared.halt.Halt.TheVariants.{End, BadLine, LongLine, ReadFault, WriteFault, OutOfMemory}

-- the last line, which a fault leaves out
abbrev pub closing : {T : Type 0} → Rules T → T → Halt → List ℕ
closing rules taker End = if rules.can_end taker then rules.end_line taker else bad_line (rules.lines taker + 1)
closing rules taker BadLine = bad_line (rules.lines taker + 1)
closing rules taker LongLine = long_line (rules.lines taker + 1)
closing rules taker ReadFault = []
closing rules taker WriteFault = []
closing rules taker OutOfMemory = stopped_line (rules.answered taker)

abbrev pub status_at : {T : Type 0} → Rules T → T → Halt → Status
status_at rules taker End = if rules.can_end taker then Done else BadStatus
status_at rules taker BadLine = BadStatus
status_at rules taker LongLine = TooLong
status_at rules taker ReadFault = ReadStatus
status_at rules taker WriteFault = WriteStatus
status_at rules taker OutOfMemory = MemoryStatus

-- the next line is bad: the counts are those after the lines before it
pub record StopsAtBad {T : Type 0} (rules : Rules T) (new : T) (input written : List ℕ) (taker : T) : Type 0 where
  pub before : T
  pub line : List ℕ
  pub more : List (List ℕ)
  pub reaches : Reaches rules new input (line ∷ more) written before
  pub fits : is_long (length input) (octet_count reaches.first) line ≡ false
  pub refuses : rules.refuses before line
  pub counts : AreCountsOf rules before taker

pub record StopsAtLong {T : Type 0} (rules : Rules T) (new : T) (input written : List ℕ) (taker : T) : Type 0 where
  pub others : List (List ℕ)
  pub reaches : Reaches rules new input others written taker
  pub long : IsLong (length input) (octet_count reaches.first) others

-- memory ran out at the next line, or before it was read
pub record StopsAtMemory {T : Type 0} (rules : Rules T) (new : T) (input written : List ℕ) (taker : T) : Type 0 where
  pub before : T
  pub others : List (List ℕ)
  pub reaches : Reaches rules new input others written before
  pub counts : AreCountsOf rules before taker

abbrev pub HaltsAt : {T : Type 0} → Rules T → T → List ℕ → List ℕ → List ℕ → T → Halt → Type 0
HaltsAt rules new input taken written taker End = Reaches rules new input [] written taker × (taken ≡ input)
HaltsAt rules new input taken written taker BadLine = StopsAtBad rules new input written taker
HaltsAt rules new input taken written taker LongLine = StopsAtLong rules new input written taker
HaltsAt rules new input taken written taker ReadFault = EndsUnread rules new taken written
HaltsAt rules new input taken written taker WriteFault = EndsUnwritten rules new input written
HaltsAt rules new input taken written taker OutOfMemory = StopsAtMemory rules new input written taker

abbrev pub Halts : {T : Type 0} → Rules T → T → Option (List ℕ) → Option (List ℕ) → Option (List ℕ) → Option (List ℕ) → T → Halt → Type 0
Halts rules new left left_after before after taker halt =
    IfSome left (λ input. (taken written : List ℕ) × IsTaken input left_after taken × Appends before after written × HaltsAt rules new input taken written taker halt)
