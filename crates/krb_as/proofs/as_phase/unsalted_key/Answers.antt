use Rattle.std.proofs.Common.{ℕ, List, subst}
use Rattle.sspi_core.specs.Checks.{Answers}
use Rattle.krb_as.specs.ReplyKeys.{TakesReplyKey}
use Rattle.krb_as.proofs.as_phase.unsalted_key.Goals as goal

pub returns : goal.returns
returns c =
    subst (λ (salt : List ℕ). Answers (TakesReplyKey c.args.asker.now.rules c.args.asker.now.credentials salt c.args.as_rep.now) c.reply_key.result)
    c.in_ok-salt.ensures c.reply_key.ensures
