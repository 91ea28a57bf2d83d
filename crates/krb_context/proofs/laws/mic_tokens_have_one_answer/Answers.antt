use Rattle.krb_context.specs.Contexts.{is_peer_acceptor}
use Rattle.krb_context.proofs.MicTokenLemmas.{reads_once}
use Rattle.krb_context.proofs.laws.mic_tokens_have_one_answer.Goals as goal

pub returns : goal.returns
returns c = λ context token payload one other h k.
    (reads_once context.encryption_params (is_peer_acceptor context) token payload).same one other h k
