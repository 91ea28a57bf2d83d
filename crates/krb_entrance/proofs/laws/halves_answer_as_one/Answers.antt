use Rattle.krb_entrance.proofs.OneCall.{as_one}
use Rattle.krb_entrance.proofs.laws.halves_answer_as_one.Goals as goal

pub returns : goal.returns
returns c = λ keys channel token draw prepared connection left old new answer passes admits. as_one keys channel token draw prepared connection left old new answer passes admits
