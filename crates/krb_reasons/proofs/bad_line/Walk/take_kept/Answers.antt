use Rattle.krb_reasons.proofs.BadLineLemmas.{kept_fails, kept_lacks, kept_has}
use Rattle.krb_reasons.proofs.bad_line.Walk.take_kept.Goals as goal

pub returns-in-Err : goal.returns-in-Err
returns-in-Err c =
    kept_fails c.args.self.now.judge c.take_parts.new.self.judge c.args.kept.now c.head.result.now c.tail.result.now c.take_parts.new.self.number c.head.ensures c.tail.ensures
    c.in-Err.complaint c.in-Err.ensures.walks

pub returns-in-Some : goal.returns-in-Some
returns-in-Some c =
    kept_lacks c.args.self.now.judge c.take_parts.new.self.judge c.args.kept.now c.head.result.now c.tail.result.now c.take_parts.new.self.number c.head.ensures c.tail.ensures
    c.in-Ok.field-0 c.in-Some.reason c.in-Ok.ensures.walks c.in-Ok.ensures.end c.in-Some.ensures.missing c.in-Some.ensures.reason

pub returns-in-None : goal.returns-in-None
returns-in-None c =
    kept_has c.args.self.now.judge c.take_parts.new.self.judge c.args.kept.now c.head.result.now c.tail.result.now c.take_parts.new.self.number c.head.ensures c.tail.ensures
    c.in-Ok.field-0 c.in-Ok.ensures.walks c.in-None.ensures.missing
