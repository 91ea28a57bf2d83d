use Rattle.krb_reasons.proofs.WholeLemmas.{whole_first}
use Rattle.krb_reasons.proofs.laws.the_first_bad_line_is_that_of_the_input.Goals as goal

pub returns : goal.returns
returns c = λ pieces last allowed. whole_first pieces last allowed
