-- The kept part of an input represents all its lines.
use Rattle.std.proofs.Common.{◌≡◌, ℕ, Bool, true, false, List, [], ◌∷◌, ◌++◌, refl, sym, ap, ◌∙◌, append_assoc}
use Rattle.std.specs.Prelude.{◌==◌}
use Rattle.std.specs.List.{concat, fold}
use Rattle.std.proofs.lemmas.List.{append-nil}
use Rattle.std.proofs.lemmas.List.Sums.{fold-append}
use Rattle.krb_text.specs.Lines.{Cut, cut, in_front, unended, lines}
use Rattle.krb_reasons.specs.Kept.{Head, no_head, with_line, with_lines, Keeping, nothing_kept, kept_with, kept_of, KeepsLines}

-- the lines of a text, and of the text that follows it
abbrev onto : Cut → List ℕ → Cut
onto c more = record { whole = c.whole ++ (cut (c.rest ++ more)).whole; rest = (cut (c.rest ++ more)).rest }

-- one more octet at the front, which ends no line
front_onto : (b : ℕ) (c : Cut) (more : List ℕ) → (b == 10) ≡ false → in_front b (onto c more).whole (onto c more).rest ≡ onto (in_front b c.whole c.rest) more
front_onto b c more inside = by c.whole c.rest
  where
    by : (whole : List (List ℕ)) (rest : List ℕ)
        → in_front b (whole ++ (cut (rest ++ more)).whole) (cut (rest ++ more)).rest ≡ onto (in_front b whole rest) more
    by [] rest = rw inside refl
    by (line ∷ whole) rest = refl

cut_step : (b : ℕ) (bs more : List ℕ) (ends : Bool) → (b == 10) ≡ ends → cut (bs ++ more) ≡ onto (cut bs) more → cut (b ∷ (bs ++ more)) ≡ onto (cut (b ∷ bs)) more
cut_step b bs more true is later = rw (is, later) refl
cut_step b bs more false is later = rw (is, later) (front_onto b (cut bs) more is)

cut_onto : (text more : List ℕ) → cut (text ++ more) ≡ onto (cut text) more
cut_onto [] more = refl
cut_onto (b ∷ bs) more = cut_step b bs more (b == 10) refl (cut_onto bs more)

lines_onto : (head : Head) (before more : List (List ℕ)) → with_lines (with_lines head before) more ≡ with_lines head (before ++ more)
lines_onto head [] more = refl
lines_onto head (line ∷ before) more = lines_onto (with_line head line) before more

-- the head represents the lines so far, whatever follows
record StandsFor (input : List ℕ) (kept : Keeping) : Type 0 where
  pub before : List (List ℕ)
  pub head_is : kept.head ≡ with_lines no_head before
  pub cuts : (more : List ℕ) → cut (input ++ more) ≡ record { whole = before ++ (cut (kept.tail ++ more)).whole; rest = (cut (kept.tail ++ more)).rest }

piece_stands : (input piece : List ℕ) (kept : Keeping) → StandsFor input kept → StandsFor (input ++ piece) (kept_with kept piece)
piece_stands input piece kept s =
    let whole = (cut kept.tail).whole in
    let rest = (cut kept.tail).rest in record {
      before = s.before ++ whole;
      head_is = ap (λ (h : Head). with_lines h whole) s.head_is ∙ lines_onto no_head s.before whole;
      cuts = λ more.
          let tail : cut (kept.tail ++ (piece ++ more)) ≡ record { whole = whole ++ (cut ((rest ++ piece) ++ more)).whole; rest = (cut ((rest ++ piece) ++ more)).rest } =
          cut_onto kept.tail (piece ++ more) ∙ ap (λ (l : List ℕ). record { whole = whole ++ (cut l).whole; rest = (cut l).rest }) (sym (append_assoc rest piece more)) in
          ap cut (append_assoc input piece more) ∙ s.cuts (piece ++ more)
          ∙ ap (λ (c : Cut). record { whole = s.before ++ c.whole; rest = c.rest }) tail
          ∙ ap (λ (w : List (List ℕ)). record { whole = w; rest = (cut ((rest ++ piece) ++ more)).rest }) (sym (append_assoc s.before whole (cut ((rest ++ piece) ++ more)).whole));
    }

pieces_stand : (input : List ℕ) (kept : Keeping) (pieces : List (List ℕ)) → StandsFor input kept → StandsFor (input ++ concat pieces) (fold kept_with kept pieces)
pieces_stand input kept [] s = rw append-nil s
pieces_stand input kept (piece ∷ pieces) s =
    rw (sym (append_assoc input piece (concat pieces))) (pieces_stand (input ++ piece) (kept_with kept piece) pieces (piece_stands input piece kept s))

lines_of : (input : List ℕ) (kept : Keeping) → StandsFor input kept → KeepsLines input kept
lines_of input kept s = record {
  before = s.before;
  head_is = s.head_is;
  lines_are =
      let cuts : cut input ≡ record { whole = s.before ++ (cut kept.tail).whole; rest = (cut kept.tail).rest } =
      ap cut (sym (append-nil input)) ∙ s.cuts []
      ∙ ap (λ (l : List ℕ). record { whole = s.before ++ (cut l).whole; rest = (cut l).rest }) (append-nil kept.tail) in
      ap (λ (c : Cut). c.whole ++ unended c.rest) cuts ∙ append_assoc s.before (cut kept.tail).whole (unended (cut kept.tail).rest);
}

pub kept_lines : (pieces : List (List ℕ)) → KeepsLines (concat pieces) (kept_of pieces)
kept_lines pieces =
    lines_of (concat pieces) (kept_of pieces) (pieces_stand [] nothing_kept pieces (record { before = []; head_is = refl; cuts = λ more. refl }))

-- ---- the last piece

pub lines_onto_last : (text last : List ℕ) → lines (text ++ last) ≡ (cut text).whole ++ lines ((cut text).rest ++ last)
lines_onto_last text last =
    let again = cut ((cut text).rest ++ last) in
    ap (λ (c : Cut). c.whole ++ unended c.rest) (cut_onto text last) ∙ append_assoc (cut text).whole again.whole (unended again.rest)

pub kept_last : (pieces : List (List ℕ)) (last : List ℕ) → kept_of (pieces ++ last ∷ []) ≡ kept_with (kept_of pieces) last
kept_last pieces last = fold-append kept_with nothing_kept pieces (last ∷ [])

module _ (pieces : List (List ℕ)) where
  abbrev kept : Keeping
  kept = kept_of pieces

  stands : StandsFor (concat pieces) kept
  stands = pieces_stand [] nothing_kept pieces (record { before = []; head_is = refl; cuts = λ more. refl })

  cuts : cut (concat pieces) ≡ record { whole = stands.before ++ (cut kept.tail).whole; rest = (cut kept.tail).rest }
  cuts =
      ap cut (sym (append-nil (concat pieces))) ∙ stands.cuts []
      ∙ ap (λ (l : List ℕ). record { whole = stands.before ++ (cut l).whole; rest = (cut l).rest }) (append-nil kept.tail)

  -- the head has or counts all lines that ended
  pub head_before : with_lines kept.head (cut kept.tail).whole ≡ with_lines no_head (cut (concat pieces)).whole
  head_before =
      ap (λ (h : Head). with_lines h (cut kept.tail).whole) stands.head_is ∙ lines_onto no_head stands.before (cut kept.tail).whole
      ∙ sym (ap (λ (c : Cut). with_lines no_head c.whole) cuts)

  pub tail_before : (cut kept.tail).rest ≡ (cut (concat pieces)).rest
  tail_before = sym (ap (λ (c : Cut). c.rest) cuts)
