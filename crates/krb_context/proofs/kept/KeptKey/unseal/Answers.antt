use Rattle.std.proofs.Common.{◌≡◌, ap, subst, ◌∙◌}
use Rattle.krb_crypto.specs.Sealed.{IsSealedUnder}
use Rattle.krb_crypto.specs.SealingPair.{SealingPair, sealing_pair}
use Rattle.sspi_core.specs.Checks.{Answers, Finds}
use Rattle.sspi_core.specs.declared.cause.Cause.TheVariants.{Altered}
use Rattle.krb_context.specs.declared.kept.Kept.{Kept}
use Rattle.krb_context.proofs.kept.KeptKey.unseal.Goals as goal

pub returns : goal.returns
returns c =
    let same : c.deref.result.now.sealing ≡ sealing_pair c.args.suite c.args.key.now c.args.usage = ap (λ (k : Kept). k.sealing) c.deref.ensures ∙ c.in_ok-kept.ensures in
    subst (λ (k : SealingPair). Answers (Finds Altered (IsSealedUnder k c.args.text.now)) c.unseal-unsealed.result) same c.unseal-unsealed.ensures
