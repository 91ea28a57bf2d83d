use Rattle.std.proofs.Common.{Bool, subst}
use Rattle.krb_replies.specs.Keys.{HasSuite}
use Rattle.krb_replies.proofs.keys.suite_of_key.Goals as goal

pub returns : goal.returns
returns c = subst (λ (b : Bool). HasSuite b c.args.suite c.args.key_type.now c.suite_by.result) c.has-is_own.ensures c.suite_by.ensures
