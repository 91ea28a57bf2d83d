-- Ordered checks, whatever their refusals are. A check is said by the answers that it may give: Ok with what it found, or its refusal.
use Rattle.std.specs.Prelude.{◌≡◌, Bool, if◌then◌else◌, Option, Some, None, Result, Ok, Err}
use Rattle.sspi_core.specs.declared.cause.Cause.{Cause}
use Rattle.sspi_core.specs.declared.cause.Cause.TheVariants.{Memory}
use Rattle.sspi_core.specs.declared.error.Error.{Error}
use Rattle.sspi_core.specs.declared.error.Place.{Place}
use Rattle.sspi_core.specs.Kinds.{error_at}

-- one with the property, or the refusal where none has it
abbrev pub FoundOr : {A E : Type 0} → E → (A → Type 0) → Result A E → Type 0
FoundOr refusal P (Ok x) = P x
FoundOr {A} {E} refusal P (Err e) = (e ≡ refusal) × ((x : A) → P x → ⊥)

pub record Finds {A E : Type 0} (refusal : E) (P : A → Type 0) (answer : Result A E) : Type 0 where
  pub is : FoundOr refusal P answer

-- the value that is there, or the refusal where there is none
abbrev pub ok_or : {A E : Type 0} → E → Option A → Result A E
ok_or refusal (Some x) = Ok x
ok_or refusal None = Err refusal

pub record Takes {A E : Type 0} (refusal : E) (value : Option A) (answer : Result A E) : Type 0 where
  pub is : answer ≡ ok_or refusal value

-- the refusal where the test fails
pub record Holds {E : Type 0} (refusal : E) (test : Bool) (answer : Result (Unit {0}) E) : Type 0 where
  pub is : answer ≡ (if test then Ok tt else Err refusal)

-- the refusal that is there
abbrev pub err_of : {E : Type 0} → Option E → Result (Unit {0}) E
err_of None = Ok tt
err_of (Some e) = Err e

pub record Passes {E : Type 0} (refusal : Option E) (answer : Result (Unit {0}) E) : Type 0 where
  pub is : answer ≡ err_of refusal

-- this value
pub record Gives {A E : Type 0} (value : A) (answer : Result A E) : Type 0 where
  pub is : answer ≡ Ok value

-- the rest of a chain: more checks after what was found, the refusal itself after a refusal
abbrev pub Goes : {A B E : Type 0} → (A → Result B E → Type 0) → Result A E → Result B E → Type 0
Goes next (Ok x) answer = next x answer
Goes next (Err e) answer = answer ≡ Err e

-- one check and then another
pub record Then {A B E : Type 0} (first : Result A E → Type 0) (next : A → Result B E → Type 0) (answer : Result B E) : Type 0 where
  pub middle : Result A E
  pub held : first middle
  pub rest : Goes next middle answer

-- a `do` block over these is a relation: it holds of each answer that its checks, in their order, may give
infixl 10 ◌>>=◌
abbrev pub ◌>>=◌ : {A B E : Type 0} → (Result A E → Type 0) → (A → Result B E → Type 0) → Result B E → Type 0
first >>= next = λ answer. Then first next answer

infixl 10 ◌>>◌
abbrev pub ◌>>◌ : {A B E : Type 0} → (Result A E → Type 0) → (Result B E → Type 0) → Result B E → Type 0
◌>>◌ {A} {B} {E} first next = λ answer. Then first (λ (x : A). next) answer

-- what a function answers is what the checks answer, unless memory runs out
pub record Answers {A : Type 0} (checks : Result A Cause → Type 0) (answer : Result A Cause) : Type 0 where
  pub so : (answer ≡ Err Memory → ⊥) → checks answer

-- an answer with the kind that its cause has at the place
abbrev pub told : {A : Type 0} → Place → Result A Cause → Result A Error
told place (Ok x) = Ok x
told place (Err cause) = Err (error_at place cause)
