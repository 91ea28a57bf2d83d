use Rattle.krb_ccache.proofs.NoOptions.{no_option, no_option_of_either}
use Rattle.krb_ccache.proofs.laws.tickets_that_are_found_are_no_options.Goals as goal

pub returns : goal.returns
returns c = record { service = no_option; either = no_option_of_either }
