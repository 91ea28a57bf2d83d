use Rattle.krb_context.proofs.MicLemmas.{mic_refused}
use Rattle.krb_context.proofs.laws.own_mic_tokens_are_refused.Goals as goal

pub returns : goal.returns
returns c = λ maker payload token made. mic_refused maker payload token made
