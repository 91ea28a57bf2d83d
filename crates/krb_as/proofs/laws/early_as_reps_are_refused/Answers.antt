use Rattle.krb_as.proofs.Early.{refused_early}
use Rattle.krb_as.proofs.laws.early_as_reps_are_refused.Goals as goal

pub returns : goal.returns
returns c = λ asker kdc body reply draw as_rep answer off replies h. refused_early asker.rules _ as_rep answer off kdc.protocol _ reply replies h
