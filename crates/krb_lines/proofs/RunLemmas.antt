-- A run after one more line.
use Rattle.std.proofs.Common.{◌≡◌, ℕ, ◌+◌, false, List, [], ◌∷◌, ◌++◌, length, refl, ap, sym, ◌∙◌, subst, append_assoc, arith}
use Rattle.std.proofs.lemmas.List.{append-nil}
use Rattle.krb_text.specs.Limits.{is_long}
use Rattle.krb_lines.specs.Answering.{octet_count, AreShort, Runs}
use Rattle.krb_lines.specs.Rules.{Rules}

-- one more line after those that were taken
pub runs_push : {T : Type 0} (rules : Rules T) (before : T) (lines : List (List ℕ)) (text : List ℕ) (now : T) (line own : List ℕ) (after : T) → Runs rules before lines text now
    → rules.takes now line own after → Runs rules before (lines ++ line ∷ []) (text ++ own) after
runs_push {T} rules before [] text now line own after r t = record {
  own = own;
  next = after;
  takes = let P : T → Type 0 = λ p. rules.takes p line own after in subst P r.1 t;
  later = [];
  follows = (refl, refl);
  text_is = ap (λ l. l ++ own) r.0 ∙ sym (append-nil own);
}
runs_push rules before (x ∷ lines) text now line own after r t = record {
  own = r.own;
  next = r.next;
  takes = r.takes;
  later = r.later ++ own;
  follows = runs_push rules r.next lines r.later now line own after r.follows t;
  text_is = ap (λ l. l ++ own) r.text_is ∙ append_assoc r.own r.later own;
}

pub octet_count_push : (lines : List (List ℕ)) (line : List ℕ) → octet_count (lines ++ line ∷ []) ≡ octet_count lines + (length line + 1)
octet_count_push [] line = omega arith
octet_count_push (x ∷ lines) line = let again = octet_count_push lines line in omega arith

pub short_push : (total at : ℕ) (lines : List (List ℕ)) (line : List ℕ) → AreShort total at lines → is_long total (at + octet_count lines) line ≡ false → AreShort total at (lines ++ line ∷ [])
short_push total at [] line short fits = let P : ℕ → Type 0 = λ n. is_long total n line ≡ false in (subst P (omega arith) fits, tt)
short_push total at (x ∷ lines) line short fits =
    let P : ℕ → Type 0 = λ n. is_long total n line ≡ false in
    (short.0, short_push total (at + length x + 1) lines line short.1 (subst P (omega arith) fits))
