use Rattle.std.proofs.Common.{◌≡◌, ◌≤◌, take}
use Rattle.krb_text.specs.Decimals.{decimal_value}
use Rattle.krb_text.proofs.decimal.decimal_up_to.Given as goal

abbrev pub invariant-loop-digit : goal.invariant-loop-digit
invariant-loop-digit l = (l.value ≡ decimal_value (take l.digit-index l.text)) × (l.value ≤ l.limit)
