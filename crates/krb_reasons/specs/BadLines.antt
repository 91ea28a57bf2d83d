-- The first bad line of the kept part of an input.
use Rattle.std.specs.Prelude.{◌≡◌, ℕ, if◌then◌else◌, List, [], ◌∷◌, ◌++◌, Option, Some, None, is_some, option_map, Result, Ok, Err}
use Rattle.std.specs.List.{zip}
use Rattle.std.specs.Option.{option_map_or}
use Rattle.krb_text.specs.Lines.{lines}
use Rattle.krb_der.specs.Reading.{◌>>=◌}
use Rattle.krb_reasons.specs.Judged.{Judged, nothing_judged, after, why}
use Rattle.krb_reasons.specs.Kept.{Keeping, number_after}
use Rattle.krb_reasons.specs.declared.bad_line.BadLine.{BadLine}
use Rattle.krb_reasons.specs.declared.judge.Complaint.{Complaint}
use Rattle.krb_reasons.specs.declared.judge.Complaint.TheVariants.{Bad, OutOfMemory}
use Rattle.krb_reasons.specs.declared.reason.Reason.TheVariants.{NoSkew}

-- lines with their numbers, the first with this one
abbrev pub numbered : ℕ → List (List ℕ) → List (List ℕ × ℕ)
numbered number [] = []
numbered number (line ∷ more) = (line, number) ∷ numbered (number_after number) more

-- the number after those
abbrev pub number_past : ℕ → List (List ℕ) → ℕ
number_past number [] = number
number_past number (line ∷ more) = number_past (number_after number) more

-- the kept lines with their numbers: those of the head, and then those of the tail
abbrev pub kept_lines : Keeping → List (List ℕ × ℕ)
kept_lines kept = zip (lines kept.head.octets) kept.head.numbers ++ numbered (number_after kept.head.lines) (lines kept.tail)

-- the number of the line after the last
abbrev pub last_number : Keeping → ℕ
last_number kept = number_past (number_after kept.head.lines) (lines kept.tail)

-- The first line that is not allowed after the lines before it, with the reason why. If each is allowed, an input without a skew has a
-- bad line after its last.
abbrev pub first_bad : Judged → List (List ℕ × ℕ) → ℕ → Option BadLine
first_bad judged [] end = if is_some judged.setup.skew then None else Some (record { number = end; reason = NoSkew })
first_bad judged (line ∷ more) end =
    option_map_or (λ later. first_bad later more end) (after judged line.0) (option_map (λ reason. record { number = line.1; reason = reason }) (why judged line.0))

abbrev pub first_bad_of : Keeping → Option BadLine
first_bad_of kept = first_bad nothing_judged (kept_lines kept) (last_number kept)

-- the state after lines, if each is allowed after those before it
abbrev pub after_lines : Judged → List (List ℕ) → Option Judged
after_lines judged [] = Some judged
after_lines judged (line ∷ more) = do
  later ← after judged line
  after_lines later more

-- the first bad line of a whole input, whose lines are numbered from 1
abbrev pub first_bad_in : List ℕ → Option BadLine
first_bad_in input = first_bad nothing_judged (numbered 1 (lines input)) (number_past 1 (lines input))

-- the number of a bad line
abbrev pub number_of : Option BadLine → Option ℕ
number_of found = option_map (λ bad. bad.number) found

-- For proofs: lines before others are taken, and the first bad line is among the others; or it is this line.
abbrev pub Walks : Judged → List (List ℕ × ℕ) → Result (Unit {0}) Complaint → Judged → ℕ → Type 0
Walks old passed (Ok done) new number = (more : List (List ℕ × ℕ)) (end : ℕ) → first_bad old (passed ++ more) end ≡ first_bad new more end
Walks old passed (Err (Bad reason)) new number =
    (more : List (List ℕ × ℕ)) (end : ℕ) → first_bad old (passed ++ more) end ≡ Some (record { number = number; reason = reason })
Walks old passed (Err OutOfMemory) new number = Unit {0}

-- For proofs: this is the first bad line, unless memory runs out.
abbrev pub Finds : Option BadLine → Result (Unit {0}) Complaint → ℕ → Type 0
Finds found (Ok done) number = found ≡ None
Finds found (Err (Bad reason)) number = found ≡ Some (record { number = number; reason = reason })
Finds found (Err OutOfMemory) number = Unit {0}
