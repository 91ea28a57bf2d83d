-- Counting at one element, for proofs.
use Rattle.std.specs.Prelude.{◌≡◌, ℕ, ◌-◌, List, length, Option, Some, None, slice_get}
use Rattle.krb_authorization.specs.Elements.{Encloses, EnclosesNone, CountsAs}
use Rattle.krb_authorization.specs.declared.elements.Step.{Step}
use Rattle.krb_authorization.specs.declared.elements.Step.TheVariants.{Found, Further}
use Rattle.krb_messages.specs.declared.authorization_data.AuthorizationDataElement.{AuthorizationDataElement}

abbrev pub EnclosedIn : AuthorizationDataElement → Option (List AuthorizationDataElement) → Type 0
EnclosedIn element None = EnclosesNone element
EnclosedIn element (Some inner) = Encloses element inner

-- the element at the place of these, or the place after them
abbrev pub Takes : List AuthorizationDataElement → ℕ → Step → Type 0
Takes counted place (Found element) = slice_get counted place ≡ Some element
Takes counted place (Further rest) = (slice_get counted place ≡ None) × (rest ≡ place - length counted)

abbrev pub Steps : AuthorizationDataElement → ℕ → Step → Type 0
Steps element place step = (counted : List AuthorizationDataElement) × CountsAs element counted × Takes counted place step
