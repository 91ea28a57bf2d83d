use Rattle.krb_context.proofs.OnceLemmas.{spelt_once}
use Rattle.krb_context.proofs.laws.sealed_texts_are_one.Goals as goal

pub returns : goal.returns
returns c = λ keys acceptor ec buffers p q s t. spelt_once keys acceptor ec buffers p q s t
