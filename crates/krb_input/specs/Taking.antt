-- The declarations of lines that come after others, and the place at which a reading stops among them.
use Rattle.std.specs.Prelude.{◌≡◌, ◌≤◌, ◌+◌, ℕ, false, List, ◌++◌, length, take, drop}
use Rattle.krb_text.specs.Limits.{is_long}
use Rattle.krb_text.specs.Lines.{cut, lines, unended}
use Rattle.krb_text.specs.Pieces.{Pieces}
use Rattle.krb_script.specs.Script.{Reading, read_lines}
use Rattle.krb_script.specs.declared.stop.Stop.{Stop}
use Rattle.krb_script.specs.declared.stop.Stop.TheVariants.{Whole as WholeStop, Bad as BadStop, Long as LongStop}
use Rattle.krb_input.specs.Known.{Known}
use Rattle.krb_input.specs.declared.ending.Ending.{Ending}
use Rattle.krb_input.specs.declared.ending.Ending.TheVariants.{Whole, Bad, Long, Fault, OutOfMemory}

-- the octets are whole lines, which were taken: a reading goes on after them with the lines that follow
pub record Takes (at : ℕ) (old : Known) (octets : List ℕ) (new : Known) : Type 0 where
  pub taken_lines : List (List ℕ)
  pub cuts : (rest : List ℕ) → cut (octets ++ rest) ≡ record { whole = taken_lines ++ (cut rest).whole; rest = (cut rest).rest }
  pub reads : (total : ℕ) (more : List (List ℕ)) → at + length octets ≤ total
      → read_lines total at (old.lines + 1) old.so_far (taken_lines ++ more) ≡ read_lines total (at + length octets) (new.lines + 1) new.so_far more
  pub few : new.lines ≤ old.lines + length octets

-- whole lines of the held octets were taken, and the rest of these octets is still held
abbrev pub TakesWhole : Known → Pieces → Known → Pieces → Type 0
TakesWhole old before new after = (count : ℕ) × (count ≤ length before.held) × Takes before.taken old (take count before.held) new
    × (after ≡ record { held = drop count before.held; taken = before.taken + count })

-- a reading before its next line
abbrev pub stopped : Known → Stop → Reading
stopped known stop = record { so_far = known.so_far; number = known.lines + 1; stop = stop }

-- the octets come after `at` others, with anything after them: the reading stops at a line that begins among them
abbrev pub StopsAt : ℕ → Known → List ℕ → Stop → Known → Type 0
StopsAt at old octets stop new = (rest : List ℕ)
    → read_lines (at + length (octets ++ rest)) at (old.lines + 1) old.so_far (lines (octets ++ rest)) ≡ stopped new stop

-- the reason why a reading stops among these octets
abbrev pub StopsIn : ℕ → Known → List ℕ → Known → Ending → Type 0
StopsIn at old octets new Bad = StopsAt at old octets BadStop new
StopsIn at old octets new Long = StopsAt at old octets LongStop new
StopsIn at old octets new OutOfMemory = Unit {0}
StopsIn at old octets new Whole = ⊥
StopsIn at old octets new Fault = ⊥

-- the reading of the octets after the last 0A of an input, which are its last line if there are any
abbrev pub StopsWith : Known → List ℕ → Stop → Known → Type 0
StopsWith old rest stop new = (total at : ℕ) → is_long total at rest ≡ false → read_lines total at (old.lines + 1) old.so_far (unended rest) ≡ stopped new stop

-- the end of a reading with the octets after the last 0A
abbrev pub EndsWith : Known → List ℕ → Known → Ending → Type 0
EndsWith old rest new Whole = StopsWith old rest WholeStop new
EndsWith old rest new Bad = StopsWith old rest BadStop new
EndsWith old rest new OutOfMemory = Unit {0}
EndsWith old rest new Long = ⊥
EndsWith old rest new Fault = ⊥
