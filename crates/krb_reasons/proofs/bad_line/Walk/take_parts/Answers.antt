use Rattle.std.proofs.Common.{ℕ, subst}
use Rattle.std.specs.List.{zip}
use Rattle.krb_text.specs.Lines.{lines}
use Rattle.krb_reasons.specs.BadLines.{numbered, Walks}
use Rattle.krb_reasons.specs.Kept.{number_after}
use Rattle.krb_reasons.proofs.BadLineLemmas.{walks_on, fails_on}
use Rattle.krb_reasons.proofs.bad_line.Walk.take_parts.Goals as goal

pub returns-in-Err-clause-walks : goal.returns-in-Err-clause-walks
returns-in-Err-clause-walks c =
    fails_on c.args.self.now.judge c.take_head.new.self.judge (zip (lines c.args.head.now.octets) c.args.head.now.numbers)
    (numbered (number_after c.args.head.now.lines) (lines c.args.tail.now)) c.take_head.new.self.number c.in-Err.complaint c.in-Err.ensures

pub returns-clause-walks : goal.returns-clause-walks
returns-clause-walks c =
    walks_on c.args.self.now.judge c.take_head.new.self.judge c.take_tail.new.self.judge (zip (lines c.args.head.now.octets) c.args.head.now.numbers)
    (numbered (number_after c.args.head.now.lines) (lines c.args.tail.now)) c.take_head.new.self.number c.take_tail.new.self.number c.in-Ok.field-0 c.take_tail.result c.in-Ok.ensures
    (subst (λ (before : ℕ). Walks c.take_head.new.self.judge (numbered (number_after before) (lines c.args.tail.now)) c.take_tail.result c.take_tail.new.self.judge c.take_tail.new.self.number)
    c.lines.ensures c.take_tail.ensures.walks)
