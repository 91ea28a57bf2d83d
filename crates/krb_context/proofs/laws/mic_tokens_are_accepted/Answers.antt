use Rattle.krb_context.proofs.MicLemmas.{mic_accepted}
use Rattle.krb_context.proofs.laws.mic_tokens_are_accepted.Goals as goal

pub returns : goal.returns
returns c = λ maker other payload token roles key suite made. mic_accepted maker other payload token roles key suite made
