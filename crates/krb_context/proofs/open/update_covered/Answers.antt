use Rattle.std.proofs.Common.{◌≡◌, ◌++◌, ◌+◌, ℕ, List, take, sym, ap, subst, ◌∙◌, arith}
use Rattle.std.proofs.lemmas.List.{append_assoc}
use Rattle.krb_crypto.specs.Keyed.{IsHmacOf}
use Rattle.krb_context.specs.Spelled.{covered, covered_of}
use Rattle.krb_context.proofs.TextLemmas.{covered_more}
use Rattle.krb_context.proofs.open.update_covered.Goals as goal

pub loop-buffer-preserved : goal.loop-buffer-preserved
loop-buffer-preserved c = λ key message of.
    let one_more = covered_more c.args.plain.now c.args.buffers.now c.loop-buffer.buffer-index c.buffer-item.result (omega arith) in
    let so = c.update.ensures key _ (c.loop-buffer.invariant key message of) in
    let before : List ℕ = covered c.args.plain.now (take c.loop-buffer.buffer-index c.args.buffers.now) in
    let whole : message ++ before ++ c.covered_of.result.now ≡ message ++ covered c.args.plain.now (take (c.loop-buffer.buffer-index + 1) c.args.buffers.now) =
    append_assoc message before c.covered_of.result.now
    ∙ ap (λ (l : List ℕ). message ++ l)
    (ap (λ (l : List ℕ). before ++ l) (c.covered_of.ensures ∙ ap (covered_of c.args.plain.now) c.buffer-item.is) ∙ sym one_more) in
    subst (λ (l : List ℕ). IsHmacOf key l c.update.new.self) whole so
