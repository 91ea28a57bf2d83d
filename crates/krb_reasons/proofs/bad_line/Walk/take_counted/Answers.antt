use Rattle.std.proofs.Common.{◌+◌, ℕ, List, sym, subst}
use Rattle.std.specs.Prelude.{map}
use Rattle.std.specs.Borrow.{Bor}
use Rattle.krb_reasons.specs.BadLines.{numbered}
use Rattle.krb_reasons.proofs.BadLineLemmas.{Onward, onward_begins, onward_next, onward_stops, onward_ends, number_at_end, err_walks}
use Rattle.krb_reasons.proofs.bad_line.Walk.take_counted.Goals as goal

pub loop-line-init : goal.loop-line-init
loop-line-init c = onward_begins c.args.self.now.judge c.args.self.now.number c.args.lines.now

pub loop-line-preserved : goal.loop-line-preserved
loop-line-preserved c =
    subst (λ (n : ℕ). Onward c.args.self.now.judge c.take.new.self c.args.self.now.number n c.args.lines.now (c.loop-line.line-index + 1)) (sym c.saturating_add-self.ensures)
    (onward_next c.args.self.now.judge c.loop-line.self.judge c.args.self.now.number c.loop-line.self.number c.args.lines.now c.loop-line.line-index c.loop-line.invariant
    _ c.loop-line-test.true c.take.new.self c.in-Ok.ensures)

pub returns-in-Err-clause-walks : goal.returns-in-Err-clause-walks
returns-in-Err-clause-walks c =
    err_walks c.args.self.now.judge c.take.new.self (numbered c.args.self.now.number (map (λ (line : Bor (List ℕ)). line.now) c.args.lines.now)) c.loop-line.self.number c.in-Err.complaint (λ reason is.
    let why = c.in-Err.ensures reason is in
    onward_stops c.args.self.now.judge c.loop-line.self.judge c.args.self.now.number c.loop-line.self.number c.args.lines.now c.loop-line.line-index c.loop-line.invariant
    _ c.loop-line-test.true reason why.0 why.1)

pub returns-clause-walks : goal.returns-clause-walks
returns-clause-walks c =
    onward_ends c.args.self.now.judge c.loop-line.self.judge c.args.self.now.number c.loop-line.self.number c.args.lines.now c.loop-line.line-index c.loop-line.invariant
    c.loop-line-test.false

pub returns-clause-end : goal.returns-clause-end
returns-clause-end c =
    number_at_end c.args.self.now.judge c.loop-line.self.judge c.args.self.now.number c.loop-line.self.number c.args.lines.now c.loop-line.line-index c.loop-line.invariant
    c.loop-line-test.false
