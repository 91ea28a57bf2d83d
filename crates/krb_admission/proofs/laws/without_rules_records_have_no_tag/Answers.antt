use Rattle.std.proofs.Common.{refl}
use Rattle.krb_admission.proofs.laws.without_rules_records_have_no_tag.Goals as goal

pub returns : goal.returns
returns c = λ request. refl
