use Rattle.std.proofs.Common.{◌≡◌, Bool, true, false, refl}
use Rattle.std.specs.Prelude.{◌==◌, ◌||◌}
use Rattle.std.specs.Cmp.Lexicographic.{pointwise}
use Rattle.krb_admission.specs.Admission.{next_number_octets}
use Rattle.krb_admission.proofs.laws.without_rules_last_words_are_compared_by_octets.Goals as goal

or_false : (b : Bool) → (b || false) ≡ b
or_false true = refl
or_false false = refl

pub returns : goal.returns
returns c = λ own number. or_false (pointwise ◌==◌ number (next_number_octets own))
