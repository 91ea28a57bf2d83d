use Rattle.krb_context.specs.Contexts.{is_peer_acceptor}
use Rattle.krb_context.proofs.MicTokenLemmas.{accepted_is, is_accepted}
use Rattle.krb_context.proofs.laws.peers_mic_tokens_are_accepted.Goals as goal

pub returns : goal.returns
returns c = λ context key payload token there sized. (
  accepted_is context.encryption_params key (is_peer_acceptor context) payload token there,
  is_accepted context.encryption_params key (is_peer_acceptor context) payload token there sized,
)
