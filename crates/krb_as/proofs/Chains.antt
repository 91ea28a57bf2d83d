-- Steps of ordered checks in which memory runs out.
use Rattle.std.proofs.Common.{◌≡◌, Result}
use Rattle.std.specs.Result.{IsErrAnd}
use Rattle.sspi_core.specs.declared.cause.Cause.{Cause}
use Rattle.sspi_core.specs.declared.cause.Cause.TheVariants.{Memory}
use Rattle.sspi_core.specs.Checks.{Answers}
use Rattle.sspi_core.proofs.Chain.{is_err, stops, goes, answers, given}

-- memory ran out, so nothing is said
pub wants : {A : Type 0} (checks : Result A Cause → Type 0) (answer : Result A Cause) → IsErrAnd answer (λ d. d ≡ Memory) → Answers checks answer
wants checks answer is = record { so = λ ne. absurd (ne (is_err answer Memory is)) }

pub ruleset chains = (stops, goes, answers, given, wants)
