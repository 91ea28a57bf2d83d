use Rattle.std.proofs.Common.{◌≡◌, ◌∙◌, ap, sym, arith}
use Rattle.std.proofs.lemmas.Iterator.Consumers.{YieldsList-turn, YieldsList-end}
use Rattle.std.proofs.lemmas.Iterator.Splits.{YieldsList-from_str_split}
use Rattle.std.proofs.lemmas.List.{length_push}
use Rattle.krb_conf.specs.Krb5Conf.{Reading}
use Rattle.krb_conf.proofs.ReadingLemmas.{one_more, all_lines, read_line-skipped, read_line-effect, read_line-adds}
use Rattle.krb_conf.proofs.krb5_conf.Krb5Conf.new_from_data.Goals as goal

pub loop-whole-preserved-then-is_skipped : goal.loop-whole-preserved-then-is_skipped
loop-whole-preserved-then-is_skipped c =
    let turn = YieldsList-turn (YieldsList-from_str_split 10 c.args.text.now (omega arith) (cc) (cc) (cc)) c.loop-whole.yielded _ c.loop-whole.yielded_by _ _ c.in-Some.whole c.in-Some.is c.next.ensures.steps in (
      tt,
      tt,
      one_more c.args.text.now c.loop-whole.yielded c.in-Some.whole _ _ c.loop-whole.invariant.2 turn (read_line-skipped _ _ _ c.trim-line.ensures.trim c.if-is_skipped.ensures),
      omega (arith, length_push c.loop-whole.yielded c.in-Some.whole, c.loop-whole.invariant.3),
    )

pub loop-whole-preserved-in-Nothing : goal.loop-whole-preserved-in-Nothing
loop-whole-preserved-in-Nothing c =
    let turn = YieldsList-turn (YieldsList-from_str_split 10 c.args.text.now (omega arith) (cc) (cc) (cc)) c.loop-whole.yielded _ c.loop-whole.yielded_by _ _ c.in-Some.whole c.in-Some.is c.next.ensures.steps in (
      tt,
      tt,
      one_more c.args.text.now c.loop-whole.yielded c.in-Some.whole _ _ c.loop-whole.invariant.2 turn (read_line-effect _ _ _ _ c.trim-line.ensures.trim c.if-is_skipped.ensures c.in-Nothing.ensures.does),
      omega (arith, length_push c.loop-whole.yielded c.in-Some.whole, c.loop-whole.invariant.3),
    )

pub loop-whole-preserved-in-LeadsTo : goal.loop-whole-preserved-in-LeadsTo
loop-whole-preserved-in-LeadsTo c =
    let turn = YieldsList-turn (YieldsList-from_str_split 10 c.args.text.now (omega arith) (cc) (cc) (cc)) c.loop-whole.yielded _ c.loop-whole.yielded_by _ _ c.in-Some.whole c.in-Some.is c.next.ensures.steps in (
      tt,
      tt,
      one_more c.args.text.now c.loop-whole.yielded c.in-Some.whole _ _ c.loop-whole.invariant.2 turn (read_line-effect _ _ _ _ c.trim-line.ensures.trim c.if-is_skipped.ensures c.in-LeadsTo.ensures.does),
      omega (arith, length_push c.loop-whole.yielded c.in-Some.whole, c.loop-whole.invariant.3, c.in-LeadsTo.ensures.depth),
    )

pub loop-whole-preserved : goal.loop-whole-preserved
loop-whole-preserved c =
    let turn = YieldsList-turn (YieldsList-from_str_split 10 c.args.text.now (omega arith) (cc) (cc) (cc)) c.loop-whole.yielded _ c.loop-whole.yielded_by _ _ c.in-Some.whole c.in-Some.is c.next.ensures.steps in (
      tt,
      tt,
      one_more c.args.text.now c.loop-whole.yielded c.in-Some.whole _ _ c.loop-whole.invariant.2 turn
          (read_line-adds _ _ _ _ _ _ _ c.trim-line.ensures.trim c.if-is_skipped.ensures c.in-Adds.ensures.does c.in_ok-entry-in-Adds.ensures c.in_ok-push-in-Adds.ensures.items),
      omega (arith, length_push c.loop-whole.yielded c.in-Some.whole, c.loop-whole.invariant.3),
    )

pub returns : goal.returns
returns c =
    let end = YieldsList-end (YieldsList-from_str_split 10 c.args.text.now (omega arith) (cc) (cc) (cc)) c.loop-whole.yielded _ c.loop-whole.yielded_by _ _ c.in-None.is c.next.ensures.steps in
    all_lines c.args.text.now _ _ c.loop-whole.invariant.2 end.1
