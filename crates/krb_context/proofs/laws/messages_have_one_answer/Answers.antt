use Rattle.krb_context.specs.Contexts.{is_peer_acceptor}
use Rattle.krb_context.specs.Spelled.{spelled}
use Rattle.krb_context.proofs.OnceLemmas.{unwraps_once}
use Rattle.krb_context.proofs.laws.messages_have_one_answer.Goals as goal

pub returns : goal.returns
returns c = λ context buffers one other h k. (unwraps_once context (is_peer_acceptor context) buffers (spelled buffers)).same one other h k
