use Rattle.std.proofs.Common.{◌+◌, arith}
use Rattle.std.proofs.lemmas.Bool.Decides.{nat_tests}
use Rattle.std.proofs.lemmas.Grind.{common_steps}
use Rattle.krb_text.proofs.DecimalLemmas.{decimal_value-take}
use Rattle.krb_text.proofs.decimal.decimal_up_to.Goals as goal

pub returns-then-value-limit : goal.returns-then-value-limit
returns-then-value-limit c =
    let no_smaller = decimal_value-take c.args.text.now (c.loop-digit.digit-index + 1) in
    grind (arith, common_steps, nat_tests, no_smaller)
