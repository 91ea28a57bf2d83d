-- The octets that were read and the text that was written between two lines.
use Rattle.std.proofs.Common.{◌≡◌, ℕ, ◌+◌, ◌<◌, ◌≤◌, min, true, false, List, [], ◌∷◌, ◌++◌, length, length-append, Option, Some, None, refl, ap, sym, ◌∙◌, subst, append_assoc, arith}
use Rattle.std.specs.Prelude.{◌==◌}
use Rattle.std.specs.Io.KnownBytes.{Consumes, Appends, prepend_known}
use Rattle.std.proofs.lemmas.Bool.{le-ltb, eqb-true, true≢false}
use Rattle.std.proofs.lemmas.List.{append-nil}
use Rattle.krb_text.specs.Limits.{max_line, max_input, is_long}
use Rattle.krb_text.specs.Lines.{Cut, cut, lines, unended}
use Rattle.krb_text.specs.Reader.{Reader, new_reader, ahead, TakesLine, TakesRest}
use Rattle.krb_text.proofs.CutLemmas.{cut_line}
use Rattle.krb_text.proofs.ReaderLemmas.{Consumes-trans}
use Rattle.krb_text.proofs.OutputLemmas.{Appends-trans}
use Rattle.krb_lines.specs.Answering.{octet_count, AreShort, Runs}
use Rattle.krb_lines.specs.Rules.{Rules}
use Rattle.krb_lines.proofs.RunLemmas.{runs_push, octet_count_push, short_push}

-- only whole lines were taken, none of them is too long, and the replies to them are written
pub record Standing {T : Type 0} (rules : Rules T) (new : T) (left front before now : Option (List ℕ)) (octets : ℕ) (taker : T) : Type 0 where
  pub handled : List ℕ
  pub first : List (List ℕ)
  pub text : List ℕ
  pub consumed : Consumes left front handled
  pub count : octets ≡ length handled
  pub size : octets ≡ octet_count first
  pub cuts : (rest : List ℕ) → cut (handled ++ rest) ≡ record { whole = first ++ (cut rest).whole; rest = (cut rest).rest }
  pub short : (total : ℕ) → length handled ≤ total → AreShort total 0 first
  pub runs : Runs rules new first text taker
  pub low : rules.lines taker ≤ octets
  pub written : Appends before now text

Consumes-nothing : (a : Option (List ℕ)) → Consumes a (prepend_known [] a) []
Consumes-nothing None = tt
Consumes-nothing (Some u) = refl

Appends-nothing : (a : Option (List ℕ)) → Appends a a []
Appends-nothing None = tt
Appends-nothing (Some xs) = sym (append-nil xs)

pub standing-first : {T : Type 0} (rules : Rules T) (new : T) (left before : Option (List ℕ)) (reader : Reader) → reader ≡ new_reader → rules.lines new ≡ 0
    → Standing rules new left (ahead reader left) before before reader.cutting.taken new
standing-first rules new left before reader r none =
    let P : Reader → Type 0 = λ r. Standing rules new left (ahead r left) before before r.cutting.taken new in
    subst P (sym r) (record {
      handled = [];
      first = [];
      text = [];
      consumed = Consumes-nothing left;
      count = refl;
      size = refl;
      cuts = λ rest. refl;
      short = λ total low. tt;
      runs = (refl, refl);
      low = omega arith;
      written = Appends-nothing before;
    })

-- a line within the limits
pub short-line : (total at : ℕ) (line : List ℕ) → length line ≤ max_line → min (at + length line + 1) total ≤ max_input → is_long total at line ≡ false
short-line total at line l t = rw (le-ltb max_line (length line) l, le-ltb max_input (min (at + length line + 1) total) t) refl

-- one more whole line is answered
pub standing-line : {T : Type 0} (rules : Rules T) (new : T) (left front before between now after_front : Option (List ℕ)) (old reader : Reader) (a b : Option (List ℕ)) (taker after : T) (line written : List ℕ)
    → front ≡ ahead old a → after_front ≡ ahead reader b → Standing rules new left front before between old.cutting.taken taker → TakesLine old reader a b line
    → rules.takes taker line written after → rules.lines after ≤ rules.lines taker + 1 → Appends between now written → Standing rules new left after_front before now reader.cutting.taken after
standing-line rules new left front before between now after_front old reader a b taker after line written front_is after_is s t takes counts wrote =
    let ended = line ++ 10 ∷ [] in
    let ended_len : length ended ≡ length line + 1 = length-append line (10 ∷ []) in
    let handled = s.handled ++ ended in
    let len : length handled ≡ length s.handled + (length line + 1) = length-append s.handled ended ∙ ap (λ n. length s.handled + n) ended_len in
    let taken_is : reader.cutting.taken ≡ old.cutting.taken + (length line + 1) = ap (λ c. c.taken) t.ready in
    let octets_is = octet_count_push s.first line in
    let count = s.count in let size = s.size in let low = s.low in let within = t.within in
    let moved : Consumes front after_front ended = rw (front_is, after_is) t.consumed in
    record {
      handled = handled;
      first = s.first ++ line ∷ [];
      text = s.text ++ written;
      consumed = Consumes-trans left front after_front s.handled ended s.consumed moved;
      count = omega arith;
      size = omega arith;
      cuts = λ rest.
          ap cut (append_assoc s.handled ended rest ∙ ap (λ l. s.handled ++ l) (append_assoc line (10 ∷ []) rest))
          ∙ s.cuts (line ++ 10 ∷ rest)
          ∙ ap (λ (c : Cut). record { whole = s.first ++ c.whole; rest = c.rest }) (cut_line line rest t.is_line.0)
          ∙ ap (λ w. record { whole = w; rest = (cut rest).rest }) (sym (append_assoc s.first (line ∷ []) (cut rest).whole));
      short = λ total enough. short_push total 0 s.first line (s.short total (omega (arith, len))) (short-line total (0 + octet_count s.first) line t.is_line.1 (omega (arith, len)));
      runs = runs_push rules new s.first s.text taker line written after s.runs takes;
      low = omega arith;
      written = Appends-trans before between now s.text written s.written wrote;
    }

-- the lines of the input are those that were taken and those ahead
pub lines-ahead : {T : Type 0} (rules : Rules T) (new : T) (left front before now : Option (List ℕ)) (octets : ℕ) (taker : T) (s : Standing rules new left front before now octets taker) (input coming : List ℕ)
    → input ≡ s.handled ++ coming → lines input ≡ s.first ++ lines coming
lines-ahead rules new left front before now octets taker s input coming is =
    ap lines is ∙ ap (λ (c : Cut). c.whole ++ unended c.rest) (s.cuts coming) ∙ append_assoc s.first (cut coming).whole (unended (cut coming).rest)

some_same : (x y : List ℕ) (o : Option (List ℕ)) → o ≡ Some x → o ≡ Some y → x ≡ y
some_same x y o p q = cc

-- the line that is lent is the one that was taken
pub takes_lent : (old new : Reader) (a b : Option (List ℕ)) (line lent : List ℕ) → TakesLine old new a b line → new.cutting.ready ≡ Some lent → TakesLine old new a b lent
takes_lent old new a b line lent t is =
    let P : List ℕ → Type 0 = λ l. TakesLine old new a b l in subst P (some_same line lent new.cutting.ready (ap (λ c. c.ready) t.ready) is) t

pub rest_lent : (old new : Reader) (a b : Option (List ℕ)) (rest lent : List ℕ) → TakesRest old new a b rest → lent ≡ new.cutting.rest → TakesRest old new a b lent
rest_lent old new a b rest lent t is =
    let P : List ℕ → Type 0 = λ l. TakesRest old new a b l in subst P (sym (is ∙ ap (λ (r : Reader). r.cutting.rest) t.held)) t

pub empty_list : (xs : List ℕ) → (length xs == 0) ≡ true → xs ≡ []
empty_list [] e = refl
empty_list (x ∷ xs) e = absurd (omega (arith, eqb-true _ _ e))

pub some_list : (xs : List ℕ) → (length xs == 0) ≡ false → 0 < length xs
some_list [] e = absurd (true≢false e)
some_list (x ∷ xs) e = omega arith
