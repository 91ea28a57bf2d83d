-- The result of a public call, from the answer of its checks.
use Rattle.std.proofs.Common.{◌≡◌, Result, ap, ◌∙◌}
use Rattle.sspi_core.specs.declared.cause.Cause.{Cause}
use Rattle.sspi_core.specs.declared.error.Error.{Error}
use Rattle.sspi_core.specs.declared.error.Place.TheVariants.{Elsewhere}
use Rattle.sspi_core.specs.Checks.{Answers, told}
use Rattle.krb_replies.specs.Told.{Tells}

pub tells : {A : Type 0} (checks : Result A Cause → Type 0) (answer : Result A Cause) (result : Result A Error) → Answers checks answer
    → result ≡ told Elsewhere answer → Tells checks result
tells checks answer result h is = record { so = λ ne. (answer, h.so (λ z. ne (is ∙ ap (told Elsewhere) z)), is) }
