-- The end of the taking of lines.
use Rattle.std.proofs.Common.{◌≡◌, ℕ, ◌+◌, ◌<◌, ◌≤◌, true, false, List, [], ◌∷◌, ◌++◌, length, length-append, Option, Some, None, refl, ap, sym, ◌∙◌, subst, append_assoc, arith}
use Rattle.std.specs.Prelude.{IfSome}
use Rattle.std.specs.Io.KnownBytes.{Consumes, Appends, IsAtEnd, prepend_known}
use Rattle.std.proofs.lemmas.List.{append-nil}
use Rattle.krb_text.specs.Limits.{max_line, max_input, is_long}
use Rattle.krb_text.specs.Lines.{Cut, cut, lines}
use Rattle.krb_text.specs.Output.{AppendsFront}
use Rattle.krb_text.specs.Reader.{Reader, ahead, IsWithin, CutsOn, TakesLine, TakesRest, LongComes}
use Rattle.krb_text.specs.declared.status.Status.TheVariants.{OutOfMemory as MemoryStatus}
use Rattle.krb_text.proofs.CutLemmas.{lines_line, lines_rest, cut_rest, some_end}
use Rattle.krb_text.proofs.OutputLemmas.{Appends-trans, AppendsFront-next}
use Rattle.krb_lines.specs.Answering.{octet_count, AreShort, Runs, Reaches, IsTaken}
use Rattle.krb_lines.specs.Halts.{Halts}
use Rattle.krb_lines.specs.Rules.{Rules, AreCountsOf}
use Rattle.krb_lines.specs.Text.{stopped_line}
use Rattle.krb_lines.specs.declared.halt.Halt.{Halt}
use Rattle.krb_lines.specs.declared.halt.Halt.TheVariants.{End, BadLine, LongLine, ReadFault, WriteFault, OutOfMemory}
use Rattle.krb_lines.proofs.RunLemmas.{runs_push, short_push}
use Rattle.krb_lines.proofs.StandingLemmas.{Standing, short-line, lines-ahead}

known_cut : (left front b : Option (List ℕ)) (pending handled bytes : List ℕ) → Consumes left front handled → Consumes front (prepend_known pending b) bytes
    → IfSome left (λ input. (rest : List ℕ) × (input ≡ handled ++ (bytes ++ rest)) × Consumes (Some input) b ((handled ++ bytes) ++ pending))
known_cut None front b pending handled bytes p q = tt
known_cut (Some input) None b pending handled bytes p q = absurd p
known_cut (Some input) (Some coming) None pending handled bytes p q = absurd q
known_cut (Some input) (Some coming) (Some l) pending handled bytes p q =
    let whole : input ≡ handled ++ (bytes ++ (pending ++ l)) = p ∙ ap (λ c. handled ++ c) q in
    (pending ++ l, whole, whole ∙ sym (append_assoc handled bytes (pending ++ l)) ∙ sym (append_assoc (handled ++ bytes) pending l))

known_rest : (left front b : Option (List ℕ)) (handled rest : List ℕ) → Consumes left front handled → Consumes front b rest
    → IfSome left (λ input. (more : List ℕ) × (input ≡ handled ++ (rest ++ more)) × Consumes (Some input) b (handled ++ rest) × (IsAtEnd b → more ≡ []))
known_rest None front b handled rest p q = tt
known_rest (Some input) None b handled rest p q = absurd p
known_rest (Some input) (Some coming) None handled rest p q = absurd q
known_rest (Some input) (Some coming) (Some l) handled rest p q =
    let whole : input ≡ handled ++ (rest ++ l) = p ∙ ap (λ c. handled ++ c) q in
    (l, whole, whole ∙ sym (append_assoc handled rest l), λ e. e)

taken_length : (handled bytes pending : List ℕ) → length ((handled ++ bytes) ++ pending) ≡ length handled + length bytes + length pending
taken_length handled bytes pending = length-append (handled ++ bytes) pending ∙ ap (λ n. n + length pending) (length-append handled bytes)

map_some : (P Q : List ℕ → Type 0) (o : Option (List ℕ)) → ((x : List ℕ) → P x → Q x) → IfSome o P → IfSome o Q
map_some P Q None f p = tt
map_some P Q (Some x) f p = f x p

long_input : (left front b : Option (List ℕ)) (F : List ℕ → Type 0) (pending handled bytes : List ℕ) → Consumes left front handled → IfSome front F → Consumes front (prepend_known pending b) bytes
    → IfSome left (λ input. (coming : List ℕ) × (input ≡ handled ++ coming) × F coming × Consumes (Some input) b ((handled ++ bytes) ++ pending))
long_input None front b F pending handled bytes p f q = tt
long_input (Some input) None b F pending handled bytes p f q = absurd p
long_input (Some input) (Some coming) b F pending handled bytes p f q = (coming, p, f, (known_cut (Some input) (Some coming) b pending handled bytes p q).2)

-- a line comes after the first ones, and neither they nor it are too long
pub record Coming (b : Option (List ℕ)) (input : List ℕ) (first : List (List ℕ)) (line : List ℕ) : Type 0 where
  pub taken : List ℕ
  pub more : List (List ℕ)
  pub consumed : IsTaken input b taken
  pub is : lines input ≡ first ++ line ∷ more
  pub short : AreShort (length input) 0 first
  pub fits : is_long (length input) (octet_count first) line ≡ false

-- the last line comes, and nothing after it
pub record Last (b : Option (List ℕ)) (input : List ℕ) (first : List (List ℕ)) (line : List ℕ) : Type 0 where
  pub coming : Coming b input first line
  pub none : coming.more ≡ []
  pub all : coming.taken ≡ input

module _ {T : Type 0} (rules : Rules T) (new : T) (left front before now : Option (List ℕ)) where
  pub comes-whole : (old reader : Reader) (a b : Option (List ℕ)) (taker : T) (line : List ℕ) → front ≡ ahead old a
      → (s : Standing rules new left front before now old.cutting.taken taker) → TakesLine old reader a b line → IfSome left (λ input. Coming b input s.first line)
  comes-whole old reader a b taker line front_is s t =
      let moved : Consumes front (ahead reader b) (line ++ 10 ∷ []) = rw front_is t.consumed in
      map_some _ (λ input. Coming b input s.first line) left (λ input k.
      let coming : (line ++ 10 ∷ []) ++ k.0 ≡ line ++ 10 ∷ k.0 = append_assoc line (10 ∷ []) k.0 in
      let count = s.count in let size = s.size in let within = t.within in
      let bound = t.bound in let taken_is = ap (λ c. c.taken) t.ready in
      let len = taken_length s.handled (line ++ 10 ∷ []) reader.pending in let line_len = length-append line (10 ∷ []) in
      let all = ap length k.1 ∙ length-append s.handled ((line ++ 10 ∷ []) ++ k.0) in
      record {
        taken = (s.handled ++ (line ++ 10 ∷ [])) ++ reader.pending;
        more = lines k.0;
        consumed = (k.2, omega arith);
        is = lines-ahead rules new left front before now old.cutting.taken taker s input (line ++ 10 ∷ k.0) (k.1 ∙ ap (λ l. s.handled ++ l) coming)
            ∙ ap (λ l. s.first ++ l) (lines_line line k.0 t.is_line.0);
        short = s.short (length input) (omega (arith, all));
        fits = short-line (length input) (octet_count s.first) line t.is_line.1 (omega arith);
      }) (known_cut left front b reader.pending s.handled (line ++ 10 ∷ []) s.consumed moved)

  last_line_comes : (old reader : Reader) (a b : Option (List ℕ)) (taker : T) (line : List ℕ) → front ≡ ahead old a
      → (s : Standing rules new left front before now old.cutting.taken taker) → TakesRest old reader a b line → 0 < length line → IsAtEnd b
      → IfSome left (λ input. Last b input s.first line)
  last_line_comes old reader a b taker line front_is s t some at_end =
      let moved : Consumes front b line = rw front_is t.consumed in
      map_some _ (λ input. Last b input s.first line) left (λ input k.
      let whole : input ≡ s.handled ++ line = k.1 ∙ ap (λ m. s.handled ++ (line ++ m)) (k.3 at_end) ∙ ap (λ l. s.handled ++ l) (append-nil line) in
      let count = s.count in let size = s.size in let within = t.within in
      let l = length-append s.handled line in let all = ap length whole in
      record {
        coming = record {
          taken = s.handled ++ line;
          more = [];
          consumed = (k.2, omega arith);
          is = lines-ahead rules new left front before now old.cutting.taken taker s input line whole
              ∙ ap (λ l. s.first ++ l) (lines_rest line t.is_line.0 ∙ some_end line some);
          short = s.short (length input) (omega arith);
          fits = short-line (length input) (octet_count s.first) line t.is_line.1 (omega arith);
        };
        none = refl;
        all = sym whole;
      }) (known_rest left front b s.handled line s.consumed moved)

  pub comes-last : (old reader : Reader) (a b : Option (List ℕ)) (taker : T) (line : List ℕ) → front ≡ ahead old a
      → (s : Standing rules new left front before now old.cutting.taken taker) → TakesRest old reader a b line → 0 < length line → IsAtEnd b
      → IfSome left (λ input. Coming b input s.first line)
  comes-last old reader a b taker line front_is s t some at_end =
      map_some (λ input. Last b input s.first line) (λ input. Coming b input s.first line) left (λ input l. l.coming)
      (last_line_comes old reader a b taker line front_is s t some at_end)

  reaches : (octets : ℕ) (taker : T) (s : Standing rules new left front before now octets taker) (b : Option (List ℕ)) (input line : List ℕ) (c : Coming b input s.first line)
      → Reaches rules new input (line ∷ c.more) s.text taker
  reaches octets taker s b input line c = record { first = s.first; lines_are = c.is; short = c.short; runs = s.runs }

  -- one more line is taken
  reaches-next : (octets : ℕ) (taker : T) (s : Standing rules new left front before now octets taker) (b : Option (List ℕ)) (input line written : List ℕ) (after : T) (c : Coming b input s.first line)
      → rules.takes taker line written after → Reaches rules new input c.more (s.text ++ written) after
  reaches-next octets taker s b input line written after c takes = record {
    first = s.first ++ line ∷ [];
    lines_are = c.is ∙ sym (append_assoc s.first (line ∷ []) c.more);
    short = short_push (length input) 0 s.first line c.short (let P : ℕ → Type 0 = λ n. is_long (length input) n line ≡ false in subst P (omega arith) c.fits);
    runs = runs_push rules new s.first s.text taker line written after s.runs takes;
  }

  -- the line is bad
  exit-bad : (b : Option (List ℕ)) (octets : ℕ) (taker after : T) (line : List ℕ) (s : Standing rules new left front before now octets taker)
      → IfSome left (λ input. Coming b input s.first line) → rules.refuses taker line → AreCountsOf rules taker after → Halts rules new left b before now after BadLine
  unfolding reaches
  exit-bad b octets taker after line s comes refuses counts =
      map_some (λ input. Coming b input s.first line) _ left (λ input c. (
        c.taken,
        s.text,
        c.consumed,
        s.written,
        record { before = taker; line = line; more = c.more; reaches = reaches octets taker s b input line c; fits = c.fits; refuses = refuses; counts = counts },
      )) comes

  -- memory runs out at the line
  exit-memory : (b : Option (List ℕ)) (octets : ℕ) (taker after : T) (line : List ℕ) (s : Standing rules new left front before now octets taker)
      → IfSome left (λ input. Coming b input s.first line) → AreCountsOf rules taker after → Halts rules new left b before now after OutOfMemory
  exit-memory b octets taker after line s comes counts =
      map_some (λ input. Coming b input s.first line) _ left (λ input c. (
        c.taken,
        s.text,
        c.consumed,
        s.written,
        record { before = taker; others = line ∷ c.more; reaches = reaches octets taker s b input line c; counts = counts },
      )) comes

  -- memory runs out at the reading of a line
  pub exit-read_memory : (old reader : Reader) (a b : Option (List ℕ)) (taker : T) (bytes : List ℕ) → front ≡ ahead old a
      → (s : Standing rules new left front before now old.cutting.taken taker) → CutsOn old reader a b bytes → IsWithin reader → Halts rules new left b before now taker OutOfMemory
  exit-read_memory old reader a b taker bytes front_is s moved within =
      let bound : length ((s.handled ++ bytes) ++ reader.pending) ≤ max_input + 1 = let count = s.count in let cut_count = moved.1 in let len = taken_length s.handled bytes reader.pending in omega arith in
      map_some _ _ left (λ input k.
      let all = ap length k.1 ∙ length-append s.handled (bytes ++ k.0) in (
        (s.handled ++ bytes) ++ reader.pending,
        s.text,
        (k.2, bound),
        s.written,
        record {
          before = taker;
          others = lines (bytes ++ k.0);
          reaches = record {
            first = s.first;
            lines_are = lines-ahead rules new left front before now old.cutting.taken taker s input (bytes ++ k.0) k.1;
            short = s.short (length input) (omega (arith, all));
            runs = s.runs;
          };
          counts = record { lines_are = refl; answered_are = refl };
        },
      ))
      (known_cut left front b reader.pending s.handled bytes s.consumed (rw front_is moved.0))

  -- a write fails at the reply to the line
  exit-write : (last b : Option (List ℕ)) (octets : ℕ) (taker after : T) (line written : List ℕ) (s : Standing rules new left front before now octets taker)
      → IfSome left (λ input. Coming b input s.first line) → rules.takes taker line written after → AppendsFront now last written → Halts rules new left b before last after WriteFault
  exit-write last b octets taker after line written s comes takes wrote =
      let all = s.text ++ written in
      let stopped = stopped_line (rules.answered after) in
      let front = AppendsFront-next before now last (all ++ stopped) s.text written stopped (append_assoc s.text written stopped) s.written wrote in
      map_some (λ input. Coming b input s.first line) _ left (λ input c. (
        c.taken,
        front.0,
        c.consumed,
        front.2,
        record {
          status = MemoryStatus;
          whole = all ++ stopped;
          is = record { others = c.more; front = all; taker = after; reaches = reaches-next octets taker s b input line written after c takes; is = refl };
          front = front.1;
        },
      )) comes

  -- a long line comes
  pub exit-long : (old reader : Reader) (a b : Option (List ℕ)) (taker : T) (bytes : List ℕ) → front ≡ ahead old a
      → (s : Standing rules new left front before now old.cutting.taken taker) → IfSome (ahead old a) (λ octets. LongComes old.cutting.taken octets) → CutsOn old reader a b bytes → IsWithin reader
      → Halts rules new left b before now taker LongLine
  exit-long old reader a b taker bytes front_is s long moved within =
      let bound : length ((s.handled ++ bytes) ++ reader.pending) ≤ max_input + 1 = let count = s.count in let cut_count = moved.1 in let len = taken_length s.handled bytes reader.pending in omega arith in
      let F : List ℕ → Type 0 = λ octets. LongComes old.cutting.taken octets in
      let Q : Option (List ℕ) → Type 0 = λ o. IfSome o F in
      map_some _ _ left (λ input k.
      let len = ap length k.1 ∙ length-append s.handled k.0 in
      let total : old.cutting.taken + length k.0 ≡ length input = let count = s.count in omega (arith, len) in
      let L : ℕ → Type 0 = λ n. is_long n (octet_count s.first) k.2.0 ≡ true in
      let M : ℕ → Type 0 = λ n. is_long (old.cutting.taken + length k.0) n k.2.0 ≡ true in (
        (s.handled ++ bytes) ++ reader.pending,
        s.text,
        (k.3, bound),
        s.written,
        record {
          others = k.2.0 ∷ k.2.1;
          reaches = record {
            first = s.first;
            lines_are = lines-ahead rules new left front before now old.cutting.taken taker s input k.0 k.1 ∙ ap (λ l. s.first ++ l) k.2.2;
            short = s.short (length input) (omega (arith, len));
            runs = s.runs;
          };
          long = subst L total (subst M s.size k.2.3);
        },
      ))
      (long_input left front b F reader.pending s.handled bytes s.consumed (subst Q (sym front_is) long) (rw front_is moved.0))

  -- a read fails
  pub exit-read : (old reader : Reader) (a b : Option (List ℕ)) (taker : T) (rest : List ℕ) → front ≡ ahead old a
      → (s : Standing rules new left front before now old.cutting.taken taker) → TakesRest old reader a b rest → Halts rules new left b before now taker ReadFault
  exit-read old reader a b taker rest front_is s t =
      let taken = s.handled ++ rest in
      let cut_is : cut taken ≡ record { whole = s.first ++ []; rest = rest } = s.cuts rest ∙ ap (λ (c : Cut). record { whole = s.first ++ c.whole; rest = c.rest }) (cut_rest rest t.is_line.0) in
      let len = length-append s.handled rest in
      let count = s.count in let within = t.within in
      let R : List (List ℕ) → Type 0 = λ w. Runs rules new w s.text taker in
      let A : List (List ℕ) → Type 0 = λ w. AreShort (length taken) 0 w in
      let L : List ℕ → Type 0 = λ l. length l ≤ max_line in
      let whole_is : (cut taken).whole ≡ s.first = ap (λ (c : Cut). c.whole) cut_is ∙ append-nil s.first in
      map_some _ _ left (λ input k. (
        taken,
        s.text,
        (k.2, omega (arith, len)),
        s.written,
        record {
          taker = taker;
          runs = subst R (sym whole_is) s.runs;
          short = subst A (sym whole_is) (s.short (length taken) (omega (arith, len)));
          rest = subst L (sym (ap (λ (c : Cut). c.rest) cut_is)) t.is_line.1;
          total = omega (arith, len);
        },
      ))
      (known_rest left front b s.handled rest s.consumed (rw front_is t.consumed))

  -- the input is at its end, and no octets come after the last 0A
  pub exit-end : (old reader : Reader) (a b : Option (List ℕ)) (taker : T) (rest : List ℕ) → front ≡ ahead old a
      → (s : Standing rules new left front before now old.cutting.taken taker) → TakesRest old reader a b rest → IsAtEnd b → rest ≡ [] → Halts rules new left b before now taker End
  exit-end old reader a b taker rest front_is s t at_end none =
      map_some _ _ left (λ input k.
      let whole : input ≡ s.handled ++ rest = k.1 ∙ ap (λ m. s.handled ++ (rest ++ m)) (k.3 at_end) ∙ ap (λ l. s.handled ++ l) (append-nil rest) in
      let is = lines-ahead rules new left front before now old.cutting.taken taker s input rest whole ∙ ap (λ l. s.first ++ lines l) none in
      let count = s.count in let within = t.within in let l = length-append s.handled rest in let all = ap length whole in
      (s.handled ++ rest, s.text, (k.2, omega arith), s.written, (record { first = s.first; lines_are = is; short = s.short (length input) (omega arith); runs = s.runs }, sym whole)))
      (known_rest left front b s.handled rest s.consumed (rw front_is t.consumed))

  -- the last line is answered
  pub exit-last : (last : Option (List ℕ)) (old reader : Reader) (a b : Option (List ℕ)) (taker after : T) (line written : List ℕ) → front ≡ ahead old a
      → (s : Standing rules new left front before now old.cutting.taken taker) → TakesRest old reader a b line → 0 < length line → IsAtEnd b
      → rules.takes taker line written after → Appends now last written → Halts rules new left b before last after End
  exit-last last old reader a b taker after line written front_is s t some at_end takes wrote =
      map_some (λ input. Last b input s.first line) _ left (λ input l.
      let c = l.coming in
      let R : List (List ℕ) → Type 0 = λ more. Reaches rules new input more (s.text ++ written) after in (
        c.taken,
        s.text ++ written,
        c.consumed,
        Appends-trans before now last s.text written s.written wrote,
        (subst R l.none (reaches-next old.cutting.taken taker s b input line written after c takes), l.all),
      ))
      (last_line_comes old reader a b taker line front_is s t some at_end)

  -- a line is not answered
  pub exit-line : (last b : Option (List ℕ)) (octets : ℕ) (taker after : T) (line : List ℕ) (halt : Halt) (s : Standing rules new left front before now octets taker)
      → IfSome left (λ input. Coming b input s.first line)
      → (halt ≡ BadLine → rules.refuses taker line × AreCountsOf rules taker after × (last ≡ now))
      → (halt ≡ OutOfMemory → AreCountsOf rules taker after × (last ≡ now))
      → (halt ≡ WriteFault → (written : List ℕ) × rules.takes taker line written after × AppendsFront now last written)
      → (halt ≡ End → ⊥) → (halt ≡ LongLine → ⊥) → (halt ≡ ReadFault → ⊥) → Halts rules new left b before last after halt
  exit-line last b octets taker after line End s comes bad memory write end long read = absurd (end refl)
  exit-line last b octets taker after line LongLine s comes bad memory write end long read = absurd (long refl)
  exit-line last b octets taker after line ReadFault s comes bad memory write end long read = absurd (read refl)
  exit-line last b octets taker after line BadLine s comes bad memory write end long read =
      let r = bad refl in
      let Q : Option (List ℕ) → Type 0 = λ k. Halts rules new left b before k after BadLine in
      subst Q (sym r.2) (exit-bad b octets taker after line s comes r.0 r.1)
  exit-line last b octets taker after line OutOfMemory s comes bad memory write end long read =
      let r = memory refl in
      let Q : Option (List ℕ) → Type 0 = λ k. Halts rules new left b before k after OutOfMemory in
      subst Q (sym r.1) (exit-memory b octets taker after line s comes r.0)
  exit-line last b octets taker after line WriteFault s comes bad memory write end long read =
      let r = write refl in
      exit-write last b octets taker after line r.0 s comes r.1 r.2
