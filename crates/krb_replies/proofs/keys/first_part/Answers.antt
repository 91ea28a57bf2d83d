use Rattle.std.proofs.Common.{Bool, subst}
use Rattle.sspi_core.specs.declared.cause.Cause.TheVariants.{Inner}
use Rattle.sspi_core.specs.Checks.{Answers, Finds}
use Rattle.krb_replies.specs.Keys.{IsFirstPart}
use Rattle.krb_replies.proofs.keys.first_part.Goals as goal

pub returns : goal.returns
returns c =
    subst (λ (b : Bool). Answers (Finds Inner (IsFirstPart b c.args.plain.now)) c.read_first.result) c.is_allowed_tag-is_tagged.ensures c.read_first.ensures
