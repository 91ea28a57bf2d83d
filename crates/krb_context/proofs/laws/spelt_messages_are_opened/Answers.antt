use Rattle.krb_context.proofs.OpenableLemmas.{openable, unwraps_openable}
use Rattle.krb_context.proofs.laws.spelt_messages_are_opened.Goals as goal

pub returns : goal.returns
returns c = λ context key p buffers plain ready sized found.
    (openable context key p buffers plain ready found, unwraps_openable context key p buffers plain ready sized found)
