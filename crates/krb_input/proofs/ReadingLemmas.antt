-- The state of the reading of an input between two pieces, and its end.
use Rattle.std.proofs.Common.{◌≡◌, ℕ, ◌+◌, ◌-◌, ◌<◌, ◌≤◌, ◌⊎◌, inl, inr, ⊎_elim, true, false, List, [], ◌∷◌, ◌++◌, length, length-append, length-drop, take, drop, Option, Some, None, IfSome, refl, ap, sym, ◌∙◌, subst, append_assoc, arith}
use Rattle.std.specs.Prelude.{nat_lt, ◌||◌, option_to_list, IsSome, IsTrue}
use Rattle.std.specs.Io.KnownBytes.{Consumes, IsAtEnd, prepend_known}
use Rattle.std.proofs.lemmas.List.{append-nil, take_all, take_at, length-take-le, drop-drop, take-append-drop, nil_from_length}
use Rattle.std.proofs.Math.Seq.{take-add}
use Rattle.std.proofs.lemmas.Grind.{common_steps}
use Rattle.std.proofs.lemmas.Bool.Decides.{nat_tests}
use Rattle.krb_text.specs.Limits.{max_line, max_input, is_long}
use Rattle.krb_text.specs.Lines.{Cut, cut, lines, unended}
use Rattle.krb_text.specs.Cutter.{Cutting, is_unbroken, first_end, line_to, part_to, is_past}
use Rattle.krb_text.specs.Reader.{LongComes}
use Rattle.krb_text.specs.Pieces.{Pieces, no_pieces, ahead, IsWithin, IsBegun}
use Rattle.krb_text.proofs.CutLemmas.{has_end, no_end, cut_line, cut_rest, unbroken-append, lines_line, lines_rest, long_comes}
use Rattle.krb_text.proofs.ReaderLemmas.{Consumes-trans, Consumes-same, Consumes-pending}
use Rattle.krb_script.specs.Script.{Declared, nothing_declared, Reading, declare_line, read_lines, read_on, reading_at, reading_of}
use Rattle.krb_script.specs.declared.item.Item.{Item}
use Rattle.krb_script.specs.declared.stop.Stop.{Stop}
use Rattle.krb_script.specs.declared.stop.Stop.TheVariants.{Whole as WholeStop, Bad as BadStop, Long as LongStop}
use Rattle.krb_input.proofs.ShortLemmas.{short, read-short, read-next}
use Rattle.krb_input.specs.Ahead.{AreOf, Declares}
use Rattle.krb_input.specs.Known.{Known, nothing_known, Ends}
use Rattle.krb_input.specs.Taking.{Takes, TakesWhole, stopped, StopsAt, StopsIn, StopsWith, EndsWith}
use Rattle.krb_input.specs.declared.ending.Ending.{Ending}
use Rattle.krb_input.specs.declared.ending.Ending.TheVariants.{Whole, Bad, Long, Fault, OutOfMemory}
use Rattle.std.proofs.lemmas.Bool.{lt-ltb, cases_lt}

-- nothing is taken yet
pub takes-none : (at : ℕ) (known : Known) → Takes at known [] known
takes-none at known = record {
  taken_lines = [];
  cuts = λ rest. refl;
  reads = λ total more low. ap (λ p. read_lines total p (known.lines + 1) known.so_far more) (omega arith);
  few = omega arith;
}

-- one more line is taken
pub takes-line : (at : ℕ) (old now after : Known) (front line : List ℕ) → Takes at old front now → is_unbroken line ≡ true → length line ≤ max_line → at + length front + length line + 1 ≤ max_input
    → declare_line now.so_far line ≡ Some after.so_far → after.lines ≡ now.lines + 1 → Takes at old (front ++ (line ++ 10 ∷ [])) after
takes-line at old now after front line t unbroken fits within declares lines_is =
    let ended = line ++ 10 ∷ [] in
    let ended_len : length ended ≡ length line + 1 = length-append line (10 ∷ []) in
    let len : length (front ++ ended) ≡ length front + (length line + 1) = length-append front ended ∙ ap (λ n. length front + n) ended_len in
    let at_is : at + length front + length line + 1 ≡ at + length (front ++ ended) = omega (arith, len) in
    let few = t.few in
    record {
      taken_lines = t.taken_lines ++ line ∷ [];
      cuts = λ rest.
          ap cut (append_assoc front ended rest ∙ ap (λ l. front ++ l) (append_assoc line (10 ∷ []) rest))
          ∙ t.cuts (line ++ 10 ∷ rest)
          ∙ ap (λ (c : Cut). record { whole = t.taken_lines ++ c.whole; rest = c.rest }) (cut_line line rest unbroken)
          ∙ ap (λ w. record { whole = w; rest = (cut rest).rest }) (sym (append_assoc t.taken_lines (line ∷ []) (cut rest).whole));
      reads = λ total more enough.
          ap (λ l. read_lines total at (old.lines + 1) old.so_far l) (append_assoc t.taken_lines (line ∷ []) more)
          ∙ t.reads total (line ∷ more) (omega (arith, len))
          ∙ read-next total (at + length front) (now.lines + 1) now.so_far after.so_far line more (short total (at + length front) line fits (omega (arith, len))) declares
          ∙ ap (λ p. read_lines total p (now.lines + 1 + 1) after.so_far more) at_is
          ∙ ap (λ n. read_lines total (at + length (front ++ ended)) (n + 1) after.so_far more) (sym lines_is);
      few = omega (arith, len);
    }

-- the lines of `front`, and then those of `back`
pub takes-both : (at : ℕ) (old now after : Known) (front back : List ℕ) → Takes at old front now → Takes (at + length front) now back after → Takes at old (front ++ back) after
takes-both at old now after front back t u =
    let len = length-append front back in
    let few = t.few in let more_few = u.few in
    record {
      taken_lines = t.taken_lines ++ u.taken_lines;
      cuts = λ rest.
          ap cut (append_assoc front back rest) ∙ t.cuts (back ++ rest)
          ∙ ap (λ (c : Cut). record { whole = t.taken_lines ++ c.whole; rest = c.rest }) (u.cuts rest)
          ∙ ap (λ w. record { whole = w; rest = (cut rest).rest }) (sym (append_assoc t.taken_lines u.taken_lines (cut rest).whole));
      reads = λ total more enough.
          ap (λ l. read_lines total at (old.lines + 1) old.so_far l) (append_assoc t.taken_lines u.taken_lines more)
          ∙ t.reads total (u.taken_lines ++ more) (omega (arith, len))
          ∙ u.reads total more (omega (arith, len))
          ∙ ap (λ p. read_lines total p (after.lines + 1) after.so_far more) (omega (arith, len));
      few = omega (arith, len);
    }

-- the lines of octets that begin with those that were taken
lines-behind : (at : ℕ) (old now : Known) (front back : List ℕ) (t : Takes at old front now) → lines (front ++ back) ≡ t.taken_lines ++ lines back
lines-behind at old now front back t = ap (λ (c : Cut). c.whole ++ unended c.rest) (t.cuts back) ∙ append_assoc t.taken_lines (cut back).whole (unended (cut back).rest)

-- the reading of all lines is the reading from the lines after the taken ones on
pub reads-behind : (at total : ℕ) (old now : Known) (front back : List ℕ) → Takes at old front now → total ≡ at + length (front ++ back)
    → read_lines total at (old.lines + 1) old.so_far (lines (front ++ back)) ≡ read_lines total (at + length front) (now.lines + 1) now.so_far (lines back)
reads-behind at total old now front back t is =
    let len = length-append front back in
    ap (λ l. read_lines total at (old.lines + 1) old.so_far l) (lines-behind at old now front back t) ∙ t.reads total (lines back) (omega (arith, len))

-- the reading stops after the octets that were taken
pub stops-behind : (at : ℕ) (old now new : Known) (front back : List ℕ) (stop : Stop) → Takes at old front now → StopsAt (at + length front) now back stop new → StopsAt at old (front ++ back) stop new
stops-behind at old now new front back stop t s rest =
    let same : (front ++ back) ++ rest ≡ front ++ (back ++ rest) = append_assoc front back rest in
    let len = length-append front (back ++ rest) in
    let total : at + length ((front ++ back) ++ rest) ≡ at + length (front ++ (back ++ rest)) = ap (λ l. at + length l) same in
    let total_is : at + length (front ++ (back ++ rest)) ≡ at + length front + length (back ++ rest) = omega (arith, len) in
    ap (λ l. read_lines (at + length l) at (old.lines + 1) old.so_far (lines l)) same
    ∙ reads-behind at (at + length (front ++ (back ++ rest))) old now front (back ++ rest) t refl
    ∙ ap (λ n. read_lines n (at + length front) (now.lines + 1) now.so_far (lines (back ++ rest))) total_is
    ∙ s rest

-- the next line is bad
pub stops-bad : (at : ℕ) (known : Known) (line more : List ℕ) → is_unbroken line ≡ true → length line ≤ max_line → at + length line + 1 ≤ max_input → declare_line known.so_far line ≡ None
    → StopsAt at known (line ++ 10 ∷ more) BadStop known
stops-bad at known line more unbroken fits within none rest =
    let octets = (line ++ 10 ∷ more) ++ rest in
    let total = at + length octets in
    let lines_are : lines octets ≡ line ∷ lines (more ++ rest) = ap lines (append_assoc line (10 ∷ more) rest) ∙ lines_line line (more ++ rest) unbroken in
    ap (λ l. read_lines total at (known.lines + 1) known.so_far l) lines_are
    ∙ read-short total at (known.lines + 1) known.so_far line (lines (more ++ rest)) (short total at line fits (omega arith))
    ∙ ap (λ o. read_on o (λ next. read_lines total (at + length line + 1) (known.lines + 1 + 1) next (lines (more ++ rest))) (stopped known BadStop)) none

read-long : (total at n : ℕ) (so_far : Declared) (line : List ℕ) (rest : List (List ℕ)) → is_long total at line ≡ true
    → read_lines total at n so_far (line ∷ rest) ≡ record { so_far = so_far; number = n; stop = LongStop }
read-long total at n so_far line rest e = rw e refl

stops-at_long : (at : ℕ) (known : Known) (octets : List ℕ) → LongComes at octets → read_lines (at + length octets) at (known.lines + 1) known.so_far (lines octets) ≡ stopped known LongStop
stops-at_long at known octets long =
    ap (λ l. read_lines (at + length octets) at (known.lines + 1) known.so_far l) long.2
    ∙ read-long (at + length octets) at (known.lines + 1) known.so_far long.0 long.1 long.3

pub end_within : (octets : List ℕ) (o : Option ℕ) → o ≡ first_end octets → IfSome o (λ at. at < length octets)
end_within octets None is = tt
end_within octets (Some at) is = (has_end octets at (sym is)).low

-- one more line was read ahead
pub are-more : (octets rest : List ℕ) (items after : List (Option Item)) (ahead : Option Item) (end : ℕ) → first_end rest ≡ Some end → Declares (take end rest) ahead → after ≡ items ++ ahead ∷ []
    → ((more : List (Option Item)) → AreOf more (cut rest).whole → AreOf (items ++ more) (cut octets).whole)
    → (more : List (Option Item)) → AreOf more (cut (take (length rest - (end + 1)) (drop (end + 1) rest))).whole → AreOf (after ++ more) (cut octets).whole
are-more octets rest items after ahead end is declares grown so_far more are =
    let ends = has_end rest end is in
    let behind : take (length rest - (end + 1)) (drop (end + 1) rest) ≡ drop (end + 1) rest = take_all _ (drop (end + 1) rest) (omega (arith, length-drop (end + 1) rest)) in
    let lines_are : (cut rest).whole ≡ take end rest ∷ (cut (take (length rest - (end + 1)) (drop (end + 1) rest))).whole =
    ap (λ l. (cut l).whole) ends.splits ∙ ap (λ (c : Cut). c.whole) (cut_line (take end rest) (drop (end + 1) rest) ends.unbroken)
    ∙ ap (λ l. take end rest ∷ (cut l).whole) (sym behind) in
    let P : List (List ℕ) → Type 0 = λ l. AreOf (ahead ∷ more) l in
    let Q : List (Option Item) → Type 0 = λ l. AreOf l (cut octets).whole in
    subst Q (sym (ap (λ l. l ++ more) grown ∙ append_assoc items (ahead ∷ []) more)) (so_far (ahead ∷ more) (subst P (sym lines_are) (declares, are)))

pub are-all : (octets : List ℕ) (items after : List (Option Item)) → after ≡ items → AreOf (items ++ []) (cut octets).whole → AreOf after (cut octets).whole
are-all octets items after same are = let Q : List (Option Item) → Type 0 = λ l. AreOf l (cut octets).whole in subst Q (sym same) (subst Q (append-nil items) are)

-- the next item that was read ahead is that of the next line
pub next-of : (items left : List (Option Item)) (next : Option (Option Item)) (line : List ℕ) (more : List (List ℕ)) → items ≡ option_to_list next ++ left → (0 < length items → IsSome next) → AreOf items (line ∷ more)
    → IfSome next (λ ahead. Declares line ahead) × AreOf left more
next-of [] left None line more is some are = (tt, subst (λ l. AreOf l more) is tt)
next-of [] left (Some ahead) line more is some are = absurd (cc)
next-of (item ∷ items) left None line more is some are = let e = some (omega arith) in absurd (cc)
next-of (item ∷ items) left (Some ahead) line more is some are =
    let both : (item ≡ ahead) × (items ≡ left) = (cc, cc) in
    (subst (λ a. Declares line a) both.0 are.0, subst (λ l. AreOf l more) both.1 are.1)

-- the next line after the first `done` octets, which are taken, ends after `end` more octets
pub record Next (octets : List ℕ) (done end : ℕ) : Type 0 where
  pub low : done + end + 1 ≤ length octets
  pub len : length (take end (drop done octets)) ≡ end
  pub unbroken : is_unbroken (take end (drop done octets)) ≡ true
  pub line : drop done octets ≡ take end (drop done octets) ++ 10 ∷ drop (done + (end + 1)) octets
  pub front : take (done + (end + 1)) octets ≡ take done octets ++ (take end (drop done octets) ++ 10 ∷ [])
  pub whole : octets ≡ take done octets ++ drop done octets

pub next-is : (octets : List ℕ) (done end : ℕ) → done ≤ length octets → first_end (drop done octets) ≡ Some end → Next octets done end
next-is octets done end fits is =
    let rest = drop done octets in
    let ends = has_end rest end is in
    let low = ends.low in
    let rest_len = length-drop done octets in
    let behind : drop (end + 1) rest ≡ drop (done + (end + 1)) octets = drop-drop (end + 1) done octets ∙ ap (λ n. drop n octets) (omega arith) in
    let line_len : length (take end rest) ≡ end = length-take-le end rest (omega arith) in
    let first : take (end + 1) rest ≡ take end rest ++ 10 ∷ [] =
    ap (take (end + 1)) (ends.splits ∙ sym (append_assoc (take end rest) (10 ∷ []) (drop (end + 1) rest)))
    ∙ take_at (take end rest ++ 10 ∷ []) (drop (end + 1) rest) (end + 1) (length-append (take end rest) (10 ∷ []) ∙ ap (λ n. n + 1) line_len) in
    record {
      low = omega (arith, rest_len);
      len = line_len;
      unbroken = ends.unbroken;
      line = ends.splits ∙ ap (λ l. take end rest ++ 10 ∷ l) behind;
      front = take-add done (end + 1) octets ∙ ap (λ l. take done octets ++ l) first;
      whole = sym (take-append-drop done octets);
    }

-- the items that were read ahead, for the next line and for the lines after it
pub are-next : (octets : List ℕ) (done end : ℕ) (items left : List (Option Item)) (next : Option (Option Item)) → Next octets done end → items ≡ option_to_list next ++ left → (0 < length items → IsSome next)
    → AreOf items (cut (drop done octets)).whole → IfSome next (λ ahead. Declares (take end (drop done octets)) ahead) × AreOf left (cut (drop (done + (end + 1)) octets)).whole
are-next octets done end items left next n is some are =
    let lines_are : (cut (drop done octets)).whole ≡ take end (drop done octets) ∷ (cut (drop (done + (end + 1)) octets)).whole =
    ap (λ l. (cut l).whole) n.line ∙ ap (λ (c : Cut). c.whole) (cut_line (take end (drop done octets)) (drop (done + (end + 1)) octets) n.unbroken) in
    next-of items left next (take end (drop done octets)) (cut (drop (done + (end + 1)) octets)).whole is some (subst (λ l. AreOf items l) lines_are are)

-- the next line is taken
pub takes-next : (at : ℕ) (old now after : Known) (octets : List ℕ) (done end : ℕ) → Takes at old (take done octets) now → done ≤ length octets → Next octets done end → end ≤ max_line → at + done + end + 1 ≤ max_input
    → declare_line now.so_far (take end (drop done octets)) ≡ Some after.so_far → after.lines ≡ now.lines + 1 → Takes at old (take (done + (end + 1)) octets) after
takes-next at old now after octets done end t fits n short_line within declares lines_is =
    let len = n.len in let done_len = length-take-le done octets fits in
    subst (λ l. Takes at old l after) (sym n.front)
    (takes-line at old now after (take done octets) (take end (drop done octets)) t n.unbroken (omega arith) (omega arith) declares lines_is)

-- the next line is bad
pub next-bad : (at : ℕ) (old now new : Known) (octets : List ℕ) (done end : ℕ) → Takes at old (take done octets) now → done ≤ length octets → Next octets done end → end ≤ max_line → at + done + end + 1 ≤ max_input
    → declare_line now.so_far (take end (drop done octets)) ≡ None → new ≡ now → StopsAt at old octets BadStop new
next-bad at old now new octets done end t fits n short_line within none same =
    let len = n.len in let done_len = length-take-le done octets fits in
    let line = take end (drop done octets) in
    let bad : StopsAt (at + length (take done octets)) now (line ++ 10 ∷ drop (done + (end + 1)) octets) BadStop now =
    stops-bad (at + length (take done octets)) now line (drop (done + (end + 1)) octets) n.unbroken (omega arith) (omega arith) none in
    subst (λ k. StopsAt at old octets BadStop k) (sym same) (subst (λ l. StopsAt at old l BadStop now) (sym n.whole)
    (stops-behind at old now now (take done octets) (drop done octets) BadStop t (subst (λ l. StopsAt (at + length (take done octets)) now l BadStop now) (sym n.line) bad)))

past-of : (a b c d : ℕ) → (a < b) ⊎ (c < d) → (nat_lt a b || nat_lt c d) ≡ true
past-of a b c d (inl low) = rw (lt-ltb a b low) refl
past-of a b c d (inr low) = grind (arith, common_steps, nat_tests, lt-ltb c d low)

-- a line, or the beginning of one, that is longer than it may be, or whose input is
pub stops-long : (at : ℕ) (known : Known) (octets : List ℕ) (o : Option ℕ) → 0 < length octets → first_end octets ≡ o
    → (max_line < length (line_to o octets)) ⊎ (max_input < at + length (part_to o octets)) → StopsAt at known octets LongStop known
stops-long at known octets o some is past rest =
    let state : Cutting = record { rest = []; ready = None; taken = at } in
    let is_far : is_past state octets ≡ true =
    ap (λ o. nat_lt max_line (0 + length (line_to o octets)) || nat_lt max_input (at + length (part_to o octets))) is
    ∙ past-of max_line (0 + length (line_to o octets)) max_input (at + length (part_to o octets)) (⊎_elim (λ long. inl (omega arith)) (λ far. inr far) past) in
    stops-at_long at known (octets ++ rest) (long_comes at [] octets rest state o refl refl (omega arith) some is is_far)

-- the next line is long
pub next-long : (at : ℕ) (old now : Known) (octets : List ℕ) (done end : ℕ) → Takes at old (take done octets) now → done ≤ length octets → Next octets done end → first_end (drop done octets) ≡ Some end
    → (max_line < end) ⊎ (max_input < at + done + end + 1) → StopsAt at old octets LongStop now
next-long at old now octets done end t fits n is past =
    let len = n.len in let low = n.low in let done_len = length-take-le done octets fits in let rest_len = length-drop done octets in
    let part_len : length (take (end + 1) (drop done octets)) ≡ end + 1 = length-take-le (end + 1) (drop done octets) (omega arith) in
    subst (λ l. StopsAt at old l LongStop now) (sym n.whole)
    (stops-behind at old now now (take done octets) (drop done octets) LongStop t
    (stops-long (at + length (take done octets)) now (drop done octets) (Some end) (omega arith) is (⊎_elim (λ long. inl (omega arith)) (λ far. inr (omega arith)) past)))

pub not-past : (a b c d : ℕ) → ((a < b) ⊎ (c < d) → IsTrue false) → (b ≤ a) × (d ≤ c)
not-past a b c d past = (
  ⊎_elim (λ low. let e = past (inl low) in absurd (cc)) (λ fits. fits) (cases_lt a b),
  ⊎_elim (λ low. let e = past (inr low) in absurd (cc)) (λ fits. fits) (cases_lt c d),
)

pub no_first : (octets : List ℕ) (o : Option ℕ) → first_end octets ≡ o → is_unbroken octets ≡ true → o ≡ None
no_first octets None is e = refl
no_first octets (Some at) is e =
    let ends = has_end octets at is in
    let none : (cut octets).whole ≡ [] = ap (λ (c : Cut). c.whole) (cut_rest octets e) in
    let some : (cut octets).whole ≡ take at octets ∷ (cut (drop (at + 1) octets)).whole = ap (λ l. (cut l).whole) ends.splits ∙ ap (λ (c : Cut). c.whole) (cut_line (take at octets) (drop (at + 1) octets) ends.unbroken) in
    absurd (cc)

-- none of the held octets is taken
pub whole-none : (known : Known) (pieces : Pieces) → TakesWhole known pieces known pieces
whole-none known pieces = (0, omega arith, takes-none pieces.taken known, ap (λ n. record { held = pieces.held; taken = n }) (omega arith))

-- the held octets after the whole lines are the beginning of one line
pub begun-rest : (pieces : Pieces) → is_unbroken pieces.held ≡ true → ((max_line < length pieces.held) ⊎ (max_input < pieces.taken + length pieces.held) → IsTrue false) → IsBegun pieces
begun-rest pieces unbroken past = let fits = not-past max_line (length pieces.held) max_input (pieces.taken + length pieces.held) past in ((unbroken, fits.0), fits.1)

-- the held octets after the whole lines are longer than a line or an input may be
pub rest-long : (old new : Known) (before after : Pieces) → TakesWhole old before new after → is_unbroken after.held ≡ true → after.taken ≤ max_input → (max_line < length after.held) ⊎ (max_input < after.taken + length after.held)
    → StopsAt before.taken old before.held LongStop new
rest-long old new before after t unbroken low past =
    let back = drop t.0 before.held in
    let held_is : after.held ≡ back = ap (λ (p : Pieces). p.held) t.3 in
    let taken_is : after.taken ≡ before.taken + t.0 = ap (λ (p : Pieces). p.taken) t.3 in
    let len = length-take-le t.0 before.held t.1 in
    let back_len = ap length held_is in
    let none = no_first back (first_end back) refl (subst (λ l. is_unbroken l ≡ true) held_is unbroken) in
    subst (λ l. StopsAt before.taken old l LongStop new) (take-append-drop t.0 before.held)
    (stops-behind before.taken old new new (take t.0 before.held) back LongStop t.2
    (stops-long (before.taken + length (take t.0 before.held)) new back None (⊎_elim (λ long. omega arith) (λ far. omega arith) past) none
    (⊎_elim (λ long. inl (omega arith)) (λ far. inr (omega arith)) past)))

-- the octets of the input that were taken, and their declarations
pub record Standing (left b : Option (List ℕ)) (pieces : Pieces) (known : Known) : Type 0 where
  pub handled : List ℕ
  pub consumed : Consumes left (ahead pieces b) handled
  pub count : pieces.taken ≡ length handled
  pub takes : Takes 0 nothing_known handled known

Consumes-nothing : (a : Option (List ℕ)) → Consumes a (prepend_known [] a) []
Consumes-nothing None = tt
Consumes-nothing (Some u) = refl

pub standing-first : (left : Option (List ℕ)) (pieces : Pieces) (known : Known) → pieces ≡ no_pieces → known ≡ nothing_known → Standing left left pieces known
standing-first left pieces known p k =
    subst (λ p. Standing left left p known) (sym p) (subst (λ k. Standing left left no_pieces k) (sym k)
    (record { handled = []; consumed = Consumes-nothing left; count = refl; takes = takes-none 0 nothing_known }))

pub standing-read : (left a b : Option (List ℕ)) (old new : Pieces) (known : Known) → Standing left a old known → Consumes (ahead old a) (ahead new b) [] → new.taken ≡ old.taken → Standing left b new known
standing-read left a b old new known s moved same = record {
  handled = s.handled;
  consumed = Consumes-same left (ahead old a) (ahead new b) s.handled s.consumed moved;
  count = same ∙ s.count;
  takes = s.takes;
}

pub standing-whole : (left b : Option (List ℕ)) (old new : Known) (before after : Pieces) → Standing left b before old → TakesWhole old before new after → Standing left b after new
standing-whole left b old new before after s t =
    let front = take t.0 before.held in
    let back = drop t.0 before.held in
    let len = length-append s.handled front in
    let front_len = length-take-le t.0 before.held t.1 in
    let count = s.count in
    let moved : Consumes (ahead before b) (prepend_known back b) front = Consumes-pending before.held front back b (sym (take-append-drop t.0 before.held)) in
    subst (λ p. Standing left b p new) (sym t.3) (record {
      handled = s.handled ++ front;
      consumed = Consumes-trans left (ahead before b) (prepend_known back b) s.handled front s.consumed moved;
      count = omega arith;
      takes = takes-both 0 nothing_known old new s.handled front s.takes (subst (λ n. Takes n old front new) (s.count ∙ omega arith) t.2);
    })

known_ahead : (left b : Option (List ℕ)) (held handled : List ℕ) → Consumes left (prepend_known held b) handled
    → IfSome left (λ input. (more : List ℕ) × (input ≡ handled ++ (held ++ more)) × Consumes (Some input) b (handled ++ held) × (IsAtEnd b → more ≡ []))
known_ahead None b held handled p = tt
known_ahead (Some input) None held handled p = absurd p
known_ahead (Some input) (Some l) held handled p = (l, p, p ∙ sym (append_assoc handled held l), λ e. e)

map_some : (P Q : List ℕ → Type 0) (o : Option (List ℕ)) → ((x : List ℕ) → P x → Q x) → IfSome o P → IfSome o Q
map_some P Q None f p = tt
map_some P Q (Some x) f p = f x p

reading-ahead : (left b : Option (List ℕ)) (pieces : Pieces) (known : Known) (s : Standing left b pieces known) (input coming : List ℕ) → input ≡ s.handled ++ coming
    → reading_of input ≡ read_lines (pieces.taken + length coming) pieces.taken (known.lines + 1) known.so_far (lines coming)
unfolding reading_of
reading-ahead left b pieces known s input coming is =
    let count = s.count in
    let len = length-append s.handled coming in
    let total : length (s.handled ++ coming) ≡ pieces.taken + length coming = omega (arith, len) in
    ap (λ l. read_lines (length l) 0 1 nothing_declared (lines l)) is
    ∙ reads-behind 0 (length (s.handled ++ coming)) nothing_known known s.handled coming s.takes (omega arith)
    ∙ ap (λ n. read_lines n (0 + length s.handled) (known.lines + 1) known.so_far (lines coming)) total
    ∙ ap (λ n. read_lines (pieces.taken + length coming) n (known.lines + 1) known.so_far (lines coming)) (omega arith)

-- the reading stops at a line
pub exit-at : (left b : Option (List ℕ)) (pieces : Pieces) (known new : Known) (stop : Stop) → Standing left b pieces known → IsWithin pieces → StopsAt pieces.taken known pieces.held stop new
    → IfSome left (λ input. (taken : List ℕ) × (Consumes (Some input) b taken × (length taken ≤ max_input + 1)) × (reading_of input ≡ stopped new stop))
exit-at left b pieces known new stop s within stops =
    let count = s.count in let len = length-append s.handled pieces.held in
    map_some _ _ left (λ input k. (
      s.handled ++ pieces.held,
      (k.2, omega (arith, len)),
      reading-ahead left b pieces known s input (pieces.held ++ k.0) k.1 ∙ stops k.0,
    )) (known_ahead left b pieces.held s.handled s.consumed)

pub exit-memory : (left b : Option (List ℕ)) (pieces : Pieces) (known new : Known) → Standing left b pieces known → IsWithin pieces → Ends left b new OutOfMemory
exit-memory left b pieces known new s within =
    let count = s.count in let len = length-append s.handled pieces.held in
    map_some _ _ left (λ input k. (s.handled ++ pieces.held, (k.2, omega (arith, len)), tt)) (known_ahead left b pieces.held s.handled s.consumed)

pub exit-stops : (left b : Option (List ℕ)) (pieces : Pieces) (known new : Known) (ending : Ending) → Standing left b pieces known → IsWithin pieces → StopsIn pieces.taken known pieces.held new ending → Ends left b new ending
exit-stops left b pieces known new Bad s within stops = exit-at left b pieces known new BadStop s within stops
exit-stops left b pieces known new Long s within stops = exit-at left b pieces known new LongStop s within stops
exit-stops left b pieces known new OutOfMemory s within stops = exit-memory left b pieces known new s within
exit-stops left b pieces known new Whole s within stops = absurd stops
exit-stops left b pieces known new Fault s within stops = absurd stops

-- a read fails
pub exit-fault : (left b : Option (List ℕ)) (pieces : Pieces) (known : Known) → Standing left b pieces known → IsBegun pieces → Ends left b known Fault
exit-fault left b pieces known s begun =
    let t = s.takes in
    let taken = s.handled ++ pieces.held in
    let count = s.count in let len = length-append s.handled pieces.held in let low = begun.0.1 in let fits = begun.1 in
    let cut_is : cut taken ≡ record { whole = t.taken_lines ++ []; rest = pieces.held } =
    t.cuts pieces.held ∙ ap (λ (c : Cut). record { whole = t.taken_lines ++ c.whole; rest = c.rest }) (cut_rest pieces.held begun.0.0) in
    let is : reading_at (length taken) (cut taken).whole ≡ record { so_far = known.so_far; number = known.lines + 1; stop = WholeStop } =
    ap (λ (c : Cut). reading_at (length taken) c.whole) cut_is ∙ t.reads (length taken) [] (omega (arith, len)) in
    let rest_is = ap (λ (c : Cut). length c.rest) cut_is in
    map_some _ _ left (λ input k. (taken, (k.2, omega (arith, len)), (ap (λ (r : Reading). r.stop) is, omega (arith, rest_is), omega (arith, len))))
    (known_ahead left b pieces.held s.handled s.consumed)

-- the input is at its end
exit-with : (left b : Option (List ℕ)) (pieces : Pieces) (known new : Known) (stop : Stop) → Standing left b pieces known → IsBegun pieces → IsAtEnd b → StopsWith known pieces.held stop new
    → IfSome left (λ input. (taken : List ℕ) × (Consumes (Some input) b taken × (length taken ≤ max_input + 1)) × (reading_of input ≡ stopped new stop) × (taken ≡ input))
exit-with left b pieces known new stop s begun at_end stops =
    let taken = s.handled ++ pieces.held in
    let count = s.count in let len = length-append s.handled pieces.held in let low = begun.0.1 in let fits = begun.1 in
    map_some _ _ left (λ input k.
    let whole : input ≡ taken = k.1 ∙ ap (λ m. s.handled ++ (pieces.held ++ m)) (k.3 at_end) ∙ ap (λ l. s.handled ++ l) (append-nil pieces.held) in (
      taken,
      (k.2, omega (arith, len)),
      reading-ahead left b pieces known s input pieces.held whole
          ∙ ap (λ l. read_lines (pieces.taken + length pieces.held) pieces.taken (known.lines + 1) known.so_far l) (lines_rest pieces.held begun.0.0)
          ∙ stops (pieces.taken + length pieces.held) pieces.taken (short (pieces.taken + length pieces.held) pieces.taken pieces.held low (omega arith)),
      sym whole,
    ))
    (known_ahead left b pieces.held s.handled s.consumed)

pub exit-rest : (left b : Option (List ℕ)) (pieces : Pieces) (known new : Known) (ending : Ending) → Standing left b pieces known → IsBegun pieces → IsAtEnd b → EndsWith known pieces.held new ending → Ends left b new ending
exit-rest left b pieces known new Whole s begun at_end ends =
    map_some _ _ left (λ input e. (e.0, e.1, (e.2, e.3))) (exit-with left b pieces known new WholeStop s begun at_end ends)
exit-rest left b pieces known new Bad s begun at_end ends =
    map_some _ _ left (λ input e. (e.0, e.1, e.2)) (exit-with left b pieces known new BadStop s begun at_end ends)
exit-rest left b pieces known new OutOfMemory s begun at_end ends = let fits = begun.1 in exit-memory left b pieces known new s (omega arith)
exit-rest left b pieces known new Long s begun at_end ends = absurd ends
exit-rest left b pieces known new Fault s begun at_end ends = absurd ends

-- octets with no 0A in their first `count`, and none after them
pub unbroken-behind : (octets behind : List ℕ) (count : ℕ) → is_unbroken (take count octets) ≡ true → behind ≡ drop count octets → first_end behind ≡ None → is_unbroken octets ≡ true
unbroken-behind octets behind count front is none =
    subst (λ l. is_unbroken l ≡ true) (take-append-drop count octets)
    (unbroken-append (take count octets) (drop count octets) front (subst (λ l. is_unbroken l ≡ true) is (no_end behind none)))

-- nothing was read
pub begun-same : (old new : Pieces) (more : List ℕ) → IsBegun old → new.held ≡ old.held ++ more → length more ≡ 0 → new.taken ≡ old.taken → IsBegun new
begun-same old new more begun is none same =
    let nothing : more ≡ [] = nil_from_length more none in
    let held : new.held ≡ old.held = is ∙ ap (λ m. old.held ++ m) nothing ∙ append-nil old.held in
    let len = ap length held in let low = begun.0.1 in let fits = begun.1 in
    ((subst (λ l. is_unbroken l ≡ true) (sym held) begun.0.0, omega arith), omega arith)
