use Rattle.std.proofs.Common.{Bool, subst}
use Rattle.sspi_core.specs.Checks.{Answers, Gives}
use Rattle.sspi_core.proofs.Chain.{goes, answers}
use Rattle.krb_ap.specs.Answered.{replied, Replies}
use Rattle.krb_ap.proofs.service.reply.Goals as goal

pub returns : goal.returns
unfolding Replies
returns c =
    goes _ _ _ _ c.in_ok-subkey.ensures (goes _ _ _ _ (answers _ _ c.in_ok-number.ensures.step)
    (subst (λ (b : Bool). Answers (Gives (replied c.args.initiator.now c.args.key.now b c.in_ok-subkey.subkey c.in_ok-number.number c.args.draw.now)) c.replied.result)
    c.is_some-from_service.ensures c.replied.ensures))
