-- Numbers of 64 bits that were found, or do not fit.
use Rattle.std.proofs.Common.{◌≡◌, ℤ, FitsSigned, sym, subst, ap}
use Rattle.std.specs.Prelude.{Option, Some, None}
use Rattle.std.specs.Int.{w64}
use Rattle.std.specs.Option.{SomeIff, option_eq}
use Rattle.std.specs.Ordering.{int_eq}
use Rattle.krb_context.proofs.PlaceLemmas.{int_eq-apart}

-- one that does not fit is no number that does
pub found_number : (found : Option ℤ) (value number : ℤ) → SomeIff found (FitsSigned w64 value) value → FitsSigned w64 number
    → option_eq int_eq found (Some number) ≡ int_eq value number
found_number (Some x) value number known fits = ap (λ (y : ℤ). int_eq y number) known.1
found_number None value number known fits = sym (int_eq-apart value number (λ same. known (subst (FitsSigned w64) (sym same) fits)))
