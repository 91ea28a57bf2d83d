-- Steps of the fold over the lines.
use Rattle.std.proofs.Common.{arith, ◌≡◌, ℕ, ◌+◌, ◌<◌, true, false, List, [], ◌∷◌, ◌++◌, length, take, get_or, refl, sym, ap, ◌∙◌, Bor}
use Rattle.std.specs.Prelude.{◌==◌, fold}
use Rattle.std.specs.List.{slice_split}
use Rattle.std.specs.Str.{trim}
use Rattle.std.proofs.lemmas.List.{length_push, take_all}
use Rattle.std.proofs.lemmas.List.Sums.{fold_more}
use Rattle.krb_conf.specs.Line.{is_skipped}
use Rattle.krb_conf.specs.Krb5Conf.{Reading, Effect, Adds, read_line, nothing_read, effect, after, values_of}

-- the lines of a text
abbrev pub lines_of : List ℕ → List (List ℕ)
lines_of text = slice_split (λ octet. octet == 10) text

-- the fold over one more line
pub one_more : (text : List ℕ) (yielded : List (Bor (List ℕ))) (line : Bor (List ℕ)) (before next : Reading)
    → fold read_line nothing_read (take (length yielded) (lines_of text)) ≡ before
    → (length yielded < length (lines_of text)) × (line.now ≡ get_or (lines_of text) (length yielded) line.now)
    → read_line before line.now ≡ next
    → fold read_line nothing_read (take (length (yielded ++ line ∷ [])) (lines_of text)) ≡ next
one_more text yielded line before next so_far turn is =
    ap (λ n. fold read_line nothing_read (take n (lines_of text))) (length_push yielded line)
    ∙ fold_more read_line nothing_read (lines_of text) (length yielded) line.now turn.0
    ∙ ap (λ r. read_line r (get_or (lines_of text) (length yielded) line.now)) so_far
    ∙ ap (λ l. read_line before l) (sym turn.1)
    ∙ is

-- a line that is skipped
pub read_line-skipped : (before : Reading) (line trimmed : List ℕ) → trimmed ≡ trim line → true ≡ is_skipped trimmed → read_line before line ≡ before
read_line-skipped before line trimmed t s = rw (sym (s ∙ ap is_skipped t)) refl

-- a line with an effect
pub read_line-effect : (before : Reading) (line trimmed : List ℕ) (does : Effect) → trimmed ≡ trim line → false ≡ is_skipped trimmed
    → does ≡ effect before.place trimmed → read_line before line ≡ after before does
read_line-effect before line trimmed does t s e =
    rw (sym (s ∙ ap is_skipped t)) (ap (after before) (sym (e ∙ ap (effect before.place) t)))

-- the fold over all lines
pub all_lines : (text : List ℕ) (n : ℕ) (all : Reading) → fold read_line nothing_read (take n (lines_of text)) ≡ all
    → n ≡ length (lines_of text) → all.values ≡ values_of text
all_lines text n all so_far end =
    ap (λ r. r.values) (sym so_far ∙ ap (λ lines. fold read_line nothing_read lines) (take_all n (lines_of text) (omega (arith, end))))

-- a line that adds a value
pub read_line-adds : (before : Reading) (line trimmed key value : List ℕ) (entry : List ℕ × List ℕ) (values : List (List ℕ × List ℕ))
    → trimmed ≡ trim line → false ≡ is_skipped trimmed → Adds key value ≡ effect before.place trimmed
    → entry ≡ (key, value) → values ≡ before.values ++ entry ∷ [] → read_line before line ≡ record before { values = values }
read_line-adds before line trimmed key value entry values t s e is pushed =
    read_line-effect before line trimmed (Adds key value) t s e
    ∙ ap (λ (vs : List (List ℕ × List ℕ)). record before { values = vs }) (sym (pushed ∙ ap (λ (x : List ℕ × List ℕ). before.values ++ x ∷ []) is))
