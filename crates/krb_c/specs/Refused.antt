-- The token that names to a client the cause of its refusal.
use Rattle.std.specs.Prelude.{◌≡◌, ◌⊎◌, ℕ, List, Ok}
use Rattle.krb_c.specs.Calls.{HasNoCause}
use Rattle.krb_c.specs.Codes.{cause_code}
use Rattle.krb_c.specs.declared.reply.Failure.{Failure}
use Rattle.krb_c.specs.declared.reply.Failure.TheVariants.{Refused, Room, Argument, Handle}
use Rattle.krb_c.specs.Failures.{IsNoText}
use Rattle.krb_context.specs.Refusals.{Refuses}
use Rattle.krb_refusals.specs.ErrorTokens.{TellsRefusal}
use Rattle.krb_sessions.specs.Gives.{IsShort}
use Rattle.sspi_core.specs.declared.cause.Cause.{Cause}
use Rattle.sspi_core.specs.declared.error.Error.{Error}
use Rattle.sspi_core.specs.declared.error.Place.TheVariants.{Elsewhere}

-- the token of the cause with this number
pub record IsErrorToken (code : ℕ) (service realm : List ℕ) (moment : ℕ) (token : List ℕ) : Type 0 where
  pub cause : Cause
  pub has_code : cause_code cause ≡ code
  pub told : TellsRefusal cause service realm moment (Ok token)

-- there is none: the moment is late, or a text is too long or not ASCII
pub record HasNoToken (code : ℕ) (service realm : List ℕ) (moment : ℕ) (error : Error) : Type 0 where
  pub cause : Cause
  pub has_code : cause_code cause ≡ code
  pub refuses : Refuses Elsewhere (TellsRefusal cause service realm moment) error

-- why no token is returned
abbrev pub TokenNot : ℕ → List ℕ → List ℕ → ℕ → ℕ → Failure → Type 0
TokenNot code service realm moment room (Refused error) = HasNoToken code service realm moment error
TokenNot code service realm moment room (Room count) = IsShort (IsErrorToken code service realm moment) room count
TokenNot code service realm moment room Argument = HasNoCause code ⊎ (IsNoText service ⊎ IsNoText realm)
TokenNot code service realm moment room Handle = ⊥
