use Rattle.std.proofs.Common.{rules, ◌^◌, ◌*◌, ◌%◌, sym, subst, arith}
use Rattle.std.specs.Prelude.{ℕ, IsTrue, bit_or}
use Rattle.krb_context.specs.Window.{has_newest}
use Rattle.krb_context.proofs.WindowLemmas.{moved_up-newest, added-newest, notes_from}
use Rattle.krb_context.proofs.window.NumberWindow.note.Goals as goal
use Rattle.std.proofs.lemmas.Bool.{ne_eqb}

pub invariant_of-self-then-is_ahead : goal.invariant_of-self-then-is_ahead
invariant_of-self-then-is_ahead c =
    let P : ℕ → Type 0 = λ m. IsTrue (has_newest (record { newest = c.args.number; mask = m })) in
    subst P (sym c.moved_up-self-inside.ensures) (moved_up-newest c.self.inside.mask c.ahead-distance.result c.args.number)

pub invariant_of-self-else-is_ahead : goal.invariant_of-self-else-is_ahead
invariant_of-self-else-is_ahead c =
    added-newest c.self.inside.mask (1 * 2 ^ c.ahead.result % 2 ^ 64) c.self.inside.newest (ne_eqb c.self.inside.mask 0 c.if-self-eq0.false) c.self.invariant

pub returns-then-self-eq0-clause-notes : goal.returns-then-self-eq0-clause-notes
returns-then-self-eq0-clause-notes c = λ places stands.
    notes_from c.args.self.now (record { newest = c.args.number; mask = 1 }) places c.args.number (search rules) (omega arith) c.requires stands

pub returns-then-is_ahead-clause-notes : goal.returns-then-is_ahead-clause-notes
returns-then-is_ahead-clause-notes c = λ places stands.
    notes_from c.args.self.now (record { newest = c.args.number; mask = c.moved_up-self-inside.result }) places c.args.number (search rules) (omega arith)
    c.requires stands

pub returns-else-is_ahead-clause-notes : goal.returns-else-is_ahead-clause-notes
returns-else-is_ahead-clause-notes c = λ places stands.
    notes_from c.args.self.now (record { newest = c.self.inside.newest; mask = bit_or c.self.inside.mask (1 * 2 ^ c.ahead.result % 2 ^ 64) }) places c.args.number
    (search rules) (omega arith) c.requires stands
