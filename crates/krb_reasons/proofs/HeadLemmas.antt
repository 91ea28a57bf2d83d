-- The whole lines of a text, taken one after another.
use Rattle.std.proofs.Common.{◌≡◌, ℕ, ◌+◌, ◌<◌, ◌≤◌, List, [], ◌∷◌, length, length-drop, take, drop, Option, Some, None, IfSome, ap, sym, ◌∙◌, arith}
use Rattle.std.proofs.lemmas.List.{drop-drop}
use Rattle.krb_text.specs.Lines.{Cut, cut}
use Rattle.krb_text.specs.Cutter.{first_end}
use Rattle.krb_text.proofs.CutLemmas.{has_end, no_end, cut_line, cut_rest}
use Rattle.krb_reasons.specs.Kept.{Head, with_line, with_lines}

pub end_within : (text : List ℕ) (r : Option ℕ) → r ≡ first_end text → IfSome r (λ end. end < length text)
end_within text None e = tt
end_within text (Some end) e = (has_end text end (sym e)).low

-- the lines in the first `done` octets of a text are taken
pub record IsTaken (text : List ℕ) (done : ℕ) (begun head : Head) : Type 0 where
  pub within : done ≤ length text
  pub lines : with_lines begun (cut text).whole ≡ with_lines head (cut (drop done text)).whole
  pub end : (cut text).rest ≡ (cut (drop done text)).rest

pub taken_on : (text : List ℕ) (done end : ℕ) (begun head : Head) → IsTaken text done begun head → first_end (drop done text) ≡ Some end
    → IsTaken text (done + (end + 1)) begun (with_line head (take end (drop done text)))
taken_on text done end begun head t is =
    let rest = drop done text in
    let ends = has_end rest end is in
    let low = ends.low in
    let rest_len = length-drop done text in
    let behind : drop (end + 1) rest ≡ drop (done + (end + 1)) text = drop-drop (end + 1) done text in
    let next : cut rest ≡ record { whole = take end rest ∷ (cut (drop (done + (end + 1)) text)).whole; rest = (cut (drop (done + (end + 1)) text)).rest } =
    ap cut ends.splits ∙ cut_line (take end rest) (drop (end + 1) rest) ends.unbroken
    ∙ ap (λ (l : List ℕ). record { whole = take end rest ∷ (cut l).whole; rest = (cut l).rest }) behind in
    record {
      within = omega (arith, rest_len);
      lines = t.lines ∙ ap (λ (c : Cut). with_lines head c.whole) next;
      end = t.end ∙ ap (λ (c : Cut). c.rest) next;
    }

-- no whole line is left
module _ (text : List ℕ) (done : ℕ) (begun head : Head) (t : IsTaken text done begun head) (is : first_end (drop done text) ≡ None) where
  none_left : cut (drop done text) ≡ record { whole = []; rest = drop done text }
  none_left = cut_rest (drop done text) (no_end (drop done text) is)

  pub rest_is : drop done text ≡ (cut text).rest
  rest_is = sym (t.end ∙ ap (λ (c : Cut). c.rest) none_left)

  pub taken_is : head ≡ with_lines begun (cut text).whole
  taken_is = sym (t.lines ∙ ap (λ (c : Cut). with_lines head c.whole) none_left)
