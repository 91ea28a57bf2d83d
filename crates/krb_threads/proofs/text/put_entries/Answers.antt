use Rattle.std.proofs.Common.{◌≡◌, ◌+◌, ◌++◌, ◌∷◌, [], sym, ap, ◌∙◌, arith, take, append_assoc}
use Rattle.std.specs.Prelude.{string_bytes}
use Rattle.std.proofs.lemmas.List.{append-nil, take_more, take_all, length-take-le}
use Rattle.krb_threads.specs.Answers.{entry_line, entries_text}
use Rattle.krb_threads.proofs.TextLemmas.{entries-push}
use Rattle.krb_threads.proofs.text.put_entries.Goals as goal

pub loop-index-init : goal.loop-index-init
loop-index-init c = sym (append-nil (string_bytes c.args.text.now))

pub loop-index-preserved : goal.loop-index-preserved
loop-index-preserved c =
    let k = c.loop-index.index in
    let entries = c.args.entries.now in
    let inside = c.loop-index-test.true in
    let e = c.index-entries-index in
    let grown : entries_text 1 (take (k + 1) entries) ≡ entries_text 1 (take k entries) ++ entry_line (k + 1) e.result =
    ap (entries_text 1) (take_more entries k e.result inside ∙ ap (λ x. take k entries ++ x ∷ []) (sym e.is)) ∙ entries-push 1 (take k entries) e.result
    ∙ ap (λ n. entries_text 1 (take k entries) ++ entry_line n e.result) (omega (arith, length-take-le k entries (omega (arith, inside)))) in
    c.in_ok-put_entry.ensures ∙ ap (λ l. l ++ entry_line (k + 1) e.result) c.loop-index.invariant
    ∙ append_assoc (string_bytes c.args.text.now) (entries_text 1 (take k entries)) (entry_line (k + 1) e.result)
    ∙ ap (λ l. string_bytes c.args.text.now ++ l) (sym grown)

pub returns : goal.returns
returns c =
    c.loop-index.invariant ∙ ap (λ l. string_bytes c.args.text.now ++ entries_text 1 l) (take_all c.loop-index.index c.args.entries.now (omega (arith, c.loop-index-test.false)))
