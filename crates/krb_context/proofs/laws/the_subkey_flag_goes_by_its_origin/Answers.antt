use Rattle.krb_context.proofs.OptionLemmas.{writes_by_origin}
use Rattle.krb_context.proofs.laws.the_subkey_flag_goes_by_its_origin.Goals as goal

pub returns : goal.returns
returns c = writes_by_origin
