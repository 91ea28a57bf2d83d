-- Reading an input stops at its first bad line.
use Rattle.std.proofs.Common.{◌≡◌, ℕ, ◌+◌, ◌-◌, ◌^◌, ◌<◌, ◌≤◌, min, Bool, true, false, List, [], ◌∷◌, ◌++◌, length, length-append, Option, Some, None, refl, sym, ap, ◌∙◌, arith}
use Rattle.std.specs.Prelude.{if◌then◌else◌, is_some, option_map, unwrap_or}
use Rattle.std.specs.List.{concat}
use Rattle.krb_text.specs.Limits.{is_long}
use Rattle.krb_text.specs.Lines.{cut, lines, fields}
use Rattle.krb_script.specs.Items.{item_of}
use Rattle.krb_script.specs.Script.{Declared, nothing_declared, declare_line, Reading, read_on, read_lines, reading_of}
use Rattle.krb_script.specs.declared.item.Item.{Item}
use Rattle.krb_script.specs.declared.stop.Stop.TheVariants.{Whole, Bad, Long}
use Rattle.krb_reasons.specs.BadLines.{numbered, number_past, first_bad, first_bad_of, after_lines, number_of}
use Rattle.krb_reasons.specs.Judged.{Judged, judged_of, after, refusal, refusal_of}
use Rattle.krb_reasons.specs.Kept.{kept_of, number_after}
use Rattle.krb_reasons.specs.Shapes.{reason_of, wrong_in_fields}
use Rattle.krb_reasons.specs.declared.reason.Reason.{Reason}
use Rattle.krb_reasons.specs.declared.reason.Reason.TheVariants.{Buffers}
use Rattle.krb_reasons.proofs.BadLineLemmas.{taken, stopped}
use Rattle.krb_reasons.proofs.JudgedLemmas.{judged}
use Rattle.krb_reasons.proofs.WholeLemmas.{whole_first, lines_are}

-- a number, counted to the last that fits
abbrev counted : ℕ → ℕ
counted n = min n (2 ^ 64 - 1)

next_counted : (n : ℕ) → number_after (counted n) ≡ counted (n + 1)
next_counted n = omega arith

takes_next : (so_far next : Declared) (line : List ℕ) → declare_line so_far line ≡ Some next → after (judged_of so_far) line ≡ Some (judged_of next)
takes_next so_far next line is = sym (judged so_far line) ∙ ap (λ (o : Option Declared). option_map judged_of o) is

takes_none : (so_far : Declared) (line : List ℕ) → declare_line so_far line ≡ None → after (judged_of so_far) line ≡ None
takes_none so_far line is = sym (judged so_far line) ∙ ap (λ (o : Option Declared). option_map judged_of o) is

-- a line that is not allowed has a reason
abbrev HasReason : Option Reason → Type 0
HasReason reason = (it : Reason) × (reason ≡ Some it)

no_item : (line : List ℕ) → item_of line ≡ None → HasReason (reason_of line)
unfolding reason_of
no_item line is = from (is_some (item_of line)) (wrong_in_fields (fields line)) (ap is_some is)
  where
    from : (known : Bool) (wrong : Option Reason) → known ≡ false → HasReason (if known then None else Some (unwrap_or wrong Buffers))
    from true wrong e = absurd cc
    from false wrong e = (unwrap_or wrong Buffers, refl)

has_reason : (state : Judged) (line : List ℕ) (item : Option Item) → item_of line ≡ item → HasReason (refusal_of state line item)
has_reason state line None is = no_item line is
has_reason state line (Some item) is = (refusal state item, refl)

abbrev went : ℕ → ℕ → ℕ → Declared → List ℕ → (Declared → Reading) → Bool → Option Declared → Reading
went total at n so_far line later long next =
    if long then record { so_far = so_far; number = n; stop = Long }
    else read_on next later (record { so_far = so_far; number = n; stop = Bad })

module _ (total at n : ℕ) (so_far : Declared) (line : List ℕ) (rest : List (List ℕ)) where
  abbrev later : Declared → Reading
  later next = read_lines total (at + length line + 1) (n + 1) next rest

  abbrev reads : Bool → Option Declared → Reading
  reads long next = went total at n so_far line later long next

  -- lines before the one at which reading stops are allowed
  before_by : (before : List (List ℕ)) → ((next : Declared) → n + 1 + length before ≤ (later next).number → is_some (after_lines (judged_of next) before) ≡ true)
      → (long : Bool) (next : Option Declared) → declare_line so_far line ≡ next → n + (1 + length before) ≤ (reads long next).number
      → is_some (after_lines (judged_of so_far) (line ∷ before)) ≡ true
  before_by before goes true next is low = absurd (omega arith)
  before_by before goes false None is low = absurd (omega arith)
  before_by before goes false (Some next) is low = rw (takes_next so_far next line is) (goes next (omega arith))

  bad_by : (end : ℕ) → ((next : Declared) → (later next).stop ≡ Bad → number_of (first_bad (judged_of next) (numbered (counted (n + 1)) rest) end) ≡ Some (counted (later next).number))
      → (long : Bool) (next : Option Declared) → declare_line so_far line ≡ next → (reads long next).stop ≡ Bad
      → number_of (first_bad (judged_of so_far) (numbered (counted n) (line ∷ rest)) end) ≡ Some (counted (reads long next).number)
  bad_by end goes true next is stop = absurd cc
  bad_by end goes false None is stop =
      let why = has_reason (judged_of so_far) line (item_of line) refl in
      ap number_of (stopped (judged_of so_far) line (counted n) why.0 (numbered (number_after (counted n)) rest) end (takes_none so_far line is) why.1)
  bad_by end goes false (Some next) is stop =
      ap number_of (taken (judged_of so_far) (judged_of next) line (counted n) (numbered (number_after (counted n)) rest) end (takes_next so_far next line is))
      ∙ ap (λ (k : ℕ). number_of (first_bad (judged_of next) (numbered k rest) end)) (next_counted n)
      ∙ goes next stop

  abbrev lacks : Declared → ℕ → List (List ℕ) → Reading → Type 0
  lacks declared n ls reading = reading.stop ≡ Whole → reading.so_far.setup.skew ≡ None
      → number_of (first_bad (judged_of declared) (numbered (counted n) ls) (number_past (counted n) ls)) ≡ Some (counted reading.number)

  whole_by : ((next : Declared) → lacks next (n + 1) rest (later next))
      → (long : Bool) (next : Option Declared) → declare_line so_far line ≡ next → lacks so_far n (line ∷ rest) (reads long next)
  whole_by goes true next is stop skew = absurd cc
  whole_by goes false None is stop skew = absurd cc
  whole_by goes false (Some next) is stop skew =
      ap number_of (taken (judged_of so_far) (judged_of next) line (counted n) (numbered (number_after (counted n)) rest) (number_past (number_after (counted n)) rest) (takes_next so_far next line is))
      ∙ ap (λ (k : ℕ). number_of (first_bad (judged_of next) (numbered k rest) (number_past k rest))) (next_counted n)
      ∙ goes next stop skew

  counts_by : ((next : Declared) → (later next).stop ≡ Whole → (later next).number ≡ n + 1 + length rest)
      → (long : Bool) (next : Option Declared) → (reads long next).stop ≡ Whole → (reads long next).number ≡ n + (1 + length rest)
  counts_by goes true next stop = absurd cc
  counts_by goes false None stop = absurd cc
  counts_by goes false (Some next) stop = goes next stop ∙ omega arith

before_is : (total at n : ℕ) (so_far : Declared) (before rest : List (List ℕ)) → n + length before ≤ (read_lines total at n so_far (before ++ rest)).number
    → is_some (after_lines (judged_of so_far) before) ≡ true
before_is total at n so_far [] rest low = refl
before_is total at n so_far (line ∷ before) rest low =
    before_by total at n so_far line (before ++ rest) before (λ next low. before_is total (at + length line + 1) (n + 1) next before rest low)
    (is_long total at line) (declare_line so_far line) refl (omega (arith, low))

bad_is : (total at n : ℕ) (so_far : Declared) (ls : List (List ℕ)) (end : ℕ) → (read_lines total at n so_far ls).stop ≡ Bad
    → number_of (first_bad (judged_of so_far) (numbered (counted n) ls) end) ≡ Some (counted (read_lines total at n so_far ls).number)
bad_is total at n so_far [] end stop = absurd cc
bad_is total at n so_far (line ∷ rest) end stop =
    bad_by total at n so_far line rest end (λ next stop. bad_is total (at + length line + 1) (n + 1) next rest end stop) (is_long total at line) (declare_line so_far line) refl stop

whole_is : (total at n : ℕ) (so_far : Declared) (ls : List (List ℕ)) → (read_lines total at n so_far ls).stop ≡ Whole
    → (read_lines total at n so_far ls).so_far.setup.skew ≡ None
    → number_of (first_bad (judged_of so_far) (numbered (counted n) ls) (number_past (counted n) ls)) ≡ Some (counted (read_lines total at n so_far ls).number)
whole_is total at n so_far [] stop skew = rw skew refl
whole_is total at n so_far (line ∷ rest) stop skew =
    whole_by total at n so_far line rest (λ next stop skew. whole_is total (at + length line + 1) (n + 1) next rest stop skew)
    (is_long total at line) (declare_line so_far line) refl stop skew

counts : (total at n : ℕ) (so_far : Declared) (ls : List (List ℕ)) → (read_lines total at n so_far ls).stop ≡ Whole → (read_lines total at n so_far ls).number ≡ n + length ls
counts total at n so_far [] stop = omega arith
counts total at n so_far (line ∷ rest) stop =
    counts_by total at n so_far line rest (λ next stop. counts total (at + length line + 1) (n + 1) next rest stop) (is_long total at line) (declare_line so_far line) stop
    ∙ ap (λ (k : ℕ). n + k) (omega arith)

module _ (pieces : List (List ℕ)) (last : List ℕ) where
  abbrev input : List ℕ
  input = concat (pieces ++ last ∷ [])

  abbrev before : List (List ℕ)
  before = (cut (concat pieces)).whole

  abbrev tail_lines : List (List ℕ)
  tail_lines = lines ((cut (concat pieces)).rest ++ last)

  abbrev reading : Reading
  reading = read_lines (length input) 0 1 nothing_declared (lines input)

  abbrev told : Option ℕ
  told = number_of (first_bad_of (kept_of (pieces ++ last ∷ [])))

  allowed : length before < reading.number → is_some (after_lines (judged_of nothing_declared) before) ≡ true
  allowed low =
      let at : read_lines (length input) 0 1 nothing_declared (before ++ tail_lines) ≡ reading = ap (λ ls. read_lines (length input) 0 1 nothing_declared ls) (sym (lines_are pieces last)) in
      before_is (length input) 0 1 nothing_declared before tail_lines (rw at (omega (arith, low)))

  bad_here : length before < reading.number → reading.stop ≡ Bad → told ≡ Some (counted reading.number)
  bad_here low stop =
      ap number_of (whole_first pieces last (allowed low)) ∙ bad_is (length input) 0 1 nothing_declared (lines input) (number_past 1 (lines input)) stop

  skew_here : reading.stop ≡ Whole → reading.so_far.setup.skew ≡ None → told ≡ Some (counted reading.number)
  skew_here stop skew =
      let number = counts (length input) 0 1 nothing_declared (lines input) stop in
      let long : length (lines input) ≡ length before + length tail_lines = ap length (lines_are pieces last) ∙ length-append before tail_lines in
      ap number_of (whole_first pieces last (allowed (omega (arith, number, long)))) ∙ whole_is (length input) 0 1 nothing_declared (lines input) stop skew

  pub bad_line : length before < (reading_of input).number → (reading_of input).stop ≡ Bad → told ≡ Some (counted (reading_of input).number)
  unfolding reading_of
  bad_line low stop = bad_here low stop

  pub no_skew : (reading_of input).stop ≡ Whole → (reading_of input).so_far.setup.skew ≡ None → told ≡ Some (counted (reading_of input).number)
  unfolding reading_of
  no_skew stop skew = skew_here stop skew
