use Rattle.krb_context.proofs.WindowLemmas.{judged_is, noted_is}
use Rattle.krb_context.proofs.laws.windows_follow_the_list.Goals as goal

pub returns : goal.returns
returns c = λ window places number small stands. (judged_is window places number stands, λ fresh. noted_is window places number small stands fresh)
