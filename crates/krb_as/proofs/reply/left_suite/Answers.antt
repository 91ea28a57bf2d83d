use Rattle.std.proofs.Common.{Bool, subst}
use Rattle.sspi_core.specs.Checks.{Answers}
use Rattle.krb_as.specs.Replied.{LeavesSuite}
use Rattle.krb_as.proofs.reply.left_suite.Goals as goal

pub returns : goal.returns
returns c = subst (λ (b : Bool). Answers (LeavesSuite b c.args.asker.now c.args.error.now) c.suite_by.result) c.has-is_told.ensures c.suite_by.ensures
