-- The counts of a whole answer to the demonstration's input.
use Rattle.std.proofs.Common.{◌≡◌, ℕ, ◌+◌, List, [], Option, Some, ap, ◌∙◌, subst}
use Rattle.krb_demo.specs.Input.{demonstration}
use Rattle.krb_lines.specs.Halts.{Halts}
use Rattle.krb_lines.specs.declared.halt.Halt.{Halt}
use Rattle.krb_lines.specs.declared.halt.Halt.TheVariants.{End}
use Rattle.krb_machine.specs.LineRules.{line_rules, kept_by}
use Rattle.krb_machine.specs.Demo.{demo_line, Counts}
use Rattle.krb_machine.specs.Progress.{Progress, new_progress}
use Rattle.krb_machine.specs.Reply.{admissions}
use Rattle.krb_machine.proofs.CloseLemmas.{ends_with}
use Rattle.krb_machine.proofs.ReadingLemmas.{input-reaches, reading-from}

counts : (n : ℕ) (left_after before after : Option (List ℕ)) (progress : Progress) (line : List ℕ) → Halts line_rules new_progress (Some (demonstration n)) left_after before after progress End
    → line ≡ demo_line n progress.admitted (kept_by progress.service) → Counts n line
counts n left_after before after progress line h is =
    let r = h.4.0 in
    let k = input-reaches (demonstration n) [] h.1 progress r in
    let with_line = ends_with progress k.so_far k.replies k.follows in
    record {
      so_far = k.so_far;
      number = progress.lines + 1;
      reading = reading-from (demonstration n) [] h.1 progress r k;
      replies = k.replies;
      after = with_line.after;
      answered = with_line.answered;
      is = is ∙ ap (λ a. demo_line n a (kept_by progress.service)) k.follows.admitted ∙ ap (λ m. demo_line n (admissions k.replies) m) with_line.kept_is;
    }

-- a session that is at the end of the demonstration's input counts what the answers end with
pub demo-counts : (n : ℕ) (left left_after before after : Option (List ℕ)) (new progress : Progress) (halt : Halt) (line : List ℕ) (admitted kept : ℕ) → new ≡ new_progress → left ≡ Some (demonstration n)
    → halt ≡ End → Halts line_rules new left left_after before after progress halt → line ≡ demo_line n admitted kept → admitted ≡ progress.admitted → kept ≡ kept_by progress.service → Counts n line
demo-counts n left left_after before after new progress halt line admitted kept new_is left_is end h is a k =
    let N : Progress → Type 0 = λ p. Halts line_rules p left left_after before after progress End in
    let L : Option (List ℕ) → Type 0 = λ l. Halts line_rules new_progress l left_after before after progress End in
    let H : Halt → Type 0 = λ t. Halts line_rules new left left_after before after progress t in
    counts n left_after before after progress line (subst L left_is (subst N new_is (subst H end h))) (is ∙ ap (λ x. demo_line n x kept) a ∙ ap (λ x. demo_line n progress.admitted x) k)
