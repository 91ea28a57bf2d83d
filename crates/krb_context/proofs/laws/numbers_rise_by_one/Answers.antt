use Rattle.krb_context.proofs.SizeLemmas.{number_after_messages-is}
use Rattle.krb_context.proofs.laws.numbers_rise_by_one.Goals as goal

pub returns : goal.returns
returns c = λ number times small. number_after_messages-is number times small
