use Rattle.krb_keyring.proofs.JudgingLemmas.{one_more}
use Rattle.krb_keyring.proofs.judging.singles.Goals as goal

pub loop-entry-preserved : goal.loop-entry-preserved
loop-entry-preserved c =
    one_more c.args.token_limit c.args.entries.now c.loop-entry.entry-index c.entry-item.result c.loop-entry.keys.items c.push.new.self.items c.in_ok-single.field-0
    c.loop-entry-test.true c.entry-item.is c.loop-entry.invariant c.in_ok-single.ensures c.in_ok-push.ensures.items
