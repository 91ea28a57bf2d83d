use Rattle.krb_ap.proofs.OptionLemmas as options
use Rattle.krb_ap.proofs.laws.first_numbers.Goals as goal

pub returns : goal.returns
returns c = record { as_shown = options.as_shown; without = options.without }
