use Rattle.std.proofs.Common.{refl}
use Rattle.sspi_core.specs.declared.error.Place.TheVariants.{Elsewhere}
use Rattle.krb_context.specs.ClearWraps.{WrapsClear}
use Rattle.krb_context.proofs.ChainLemmas.{handed_on}
use Rattle.krb_context.proofs.ClearLemmas.{length-clear}
use Rattle.krb_context.proofs.context.Kerberos.wrap_in_clear.Goals as goal

pub returns-in_err-token-clause-refused : goal.returns-in_err-token-clause-refused
returns-in_err-token-clause-refused c =
    handed_on Elsewhere (WrapsClear c.args.self.now c.args.plain.now) _ c.from_residual.result c.in_err-token.ensures c.from_residual.ensures.1

pub returns-clause-wrapped : goal.returns-clause-wrapped
returns-clause-wrapped c = (c.in_ok-token.ensures.so (λ z. absurd cc), refl)

pub returns-clause-size : goal.returns-clause-size
returns-clause-size c = length-clear c.args.self.now c.args.plain.now _ (c.in_ok-token.ensures.so (λ z. absurd cc))
