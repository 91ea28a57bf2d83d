-- A ring refuses where memory runs out.
use Rattle.std.proofs.Common.{◌≡◌, ℕ, List, inl}
use Rattle.std.specs.Prelude.{Option}
use Rattle.krb_keyring.specs.Judging.{RefusesByRing}
use Rattle.krb_keyring.specs.declared.keyring.Keyring.{Keyring}
use Rattle.sspi_core.specs.Kinds.{error_of}
use Rattle.sspi_core.specs.declared.cause.Cause.TheVariants.{Memory}
use Rattle.sspi_core.specs.declared.draw.Draw.{Draw}
use Rattle.sspi_core.specs.declared.error.Error.{Error}

pub out_of_memory : (ring : Keyring) (channel : Option (List ℕ)) (token : List ℕ) (draw : Draw) (error : Error) → error ≡ error_of Memory
    → RefusesByRing ring channel token draw error
out_of_memory ring channel token draw error is = inl (record { so = λ ne. absurd (ne is) })
