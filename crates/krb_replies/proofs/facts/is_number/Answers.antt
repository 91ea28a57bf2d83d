use Rattle.std.proofs.Common.{ℤ, ap, ◌∙◌}
use Rattle.std.specs.Prelude.{Some}
use Rattle.std.specs.Int.{w64}
use Rattle.std.specs.Option.{option_eq}
use Rattle.std.specs.Ordering.{int_eq}
use Rattle.std.proofs.lemmas.Int.{to_z-of_z}
use Rattle.krb_der.specs.Integer.{integer_value}
use Rattle.krb_replies.proofs.Numbers.{found_number}
use Rattle.krb_replies.proofs.facts.is_number.Goals as goal

pub returns : goal.returns
returns c =
    c.eq.ensures ∙ ap (λ (n : ℤ). option_eq int_eq c.value.result (Some n)) (to_z-of_z w64 c.args.number c.ranges.number)
    ∙ found_number c.value.result (integer_value c.args.octets.now) c.args.number c.value.ensures c.ranges.number
