use Rattle.krb_context.proofs.ClearLemmas.{clear_opens_there}
use Rattle.krb_context.proofs.laws.clear_messages_open.Goals as goal

pub returns : goal.returns
returns c = λ sender receiver p token received plain peers wraps text found room fresh.
    clear_opens_there sender receiver p token received plain peers wraps text found room fresh
