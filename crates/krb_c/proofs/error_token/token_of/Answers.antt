use Rattle.krb_context.proofs.ChainLemmas.{refuses}
use Rattle.sspi_core.specs.declared.error.Place.TheVariants.{Elsewhere}
use Rattle.krb_c.proofs.error_token.token_of.Goals as goal

pub returns-in-Ok-clause-told : goal.returns-in-Ok-clause-told
returns-in-Ok-clause-told c = c.in-Ok.ensures.so (λ z. absurd cc)

pub returns-in-Err-clause-refused : goal.returns-in-Err-clause-refused
returns-in-Err-clause-refused c = refuses Elsewhere _ c.in-Err.cause _ c.in-Err.ensures c.from.ensures
