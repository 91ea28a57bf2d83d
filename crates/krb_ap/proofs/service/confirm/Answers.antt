use Rattle.std.proofs.Common.{Bool, subst}
use Rattle.sspi_core.specs.Checks.{Answers, Gives}
use Rattle.sspi_core.proofs.Chain.{goes}
use Rattle.krb_ap.specs.Answered.{confirmed, Confirms}
use Rattle.krb_ap.proofs.service.confirm.Goals as goal

pub returns : goal.returns
unfolding Confirms
returns c =
    goes _ _ _ _ c.in_ok-subkey.ensures
    (subst (λ (b : Bool). Answers (Gives (confirmed c.args.initiator.now b c.in_ok-subkey.subkey)) c.confirmed.result) c.is_some-from_service.ensures c.confirmed.ensures)
