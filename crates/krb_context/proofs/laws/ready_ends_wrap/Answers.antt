use Rattle.krb_context.proofs.CompleteLemmas.{ready_wraps}
use Rattle.krb_context.proofs.laws.ready_ends_wrap.Goals as goal

pub returns : goal.returns
returns c = ready_wraps
