-- The elements of authorization data (RFC 4120, section 5.2.6).
use Rattle.std.specs.Prelude.{◌≡◌, ◌⊎◌, ℕ, ◌-◌, Bool, List, [], ◌∷◌, length, map, Option, Some, None, MatchOption, slice_get, pos}
use Rattle.std.specs.Ordering.{int_eq}
use Rattle.krb_der.specs.Integer.{integer_value}
use Rattle.krb_der.specs.Schema.{Spells, sequence_of}
use Rattle.krb_messages.specs.Layouts.{authorization_data_element_row}
use Rattle.krb_messages.specs.Table.{authorization_data_element}
use Rattle.krb_messages.specs.declared.authorization_data.AuthorizationDataElement.{AuthorizationDataElement}

-- AD-IF-RELEVANT is type 1 (5.2.6.1 and 7.5.4).
abbrev pub is_if_relevant : AuthorizationDataElement → Bool
is_if_relevant element = int_eq (integer_value element.ad_type) (pos 1)

-- The element is an AD-IF-RELEVANT, and its octets are the AuthorizationData of these elements (5.2.6.1).
pub record Encloses (element : AuthorizationDataElement) (inner : List AuthorizationDataElement) : Type 0 where
  pub type : integer_value element.ad_type ≡ pos 1
  pub octets : Spells (sequence_of authorization_data_element) (map authorization_data_element_row inner) element.ad_data

-- The element encloses nothing: it is of another type, or its octets are no AuthorizationData.
abbrev pub EnclosesNone : AuthorizationDataElement → Type 0
EnclosesNone element = (inner : List AuthorizationDataElement) → Encloses element inner → ⊥

-- An element counts as those that it encloses, otherwise as itself. An AD-IF-RELEVANT inside another counts as itself.
abbrev pub CountsAs : AuthorizationDataElement → List AuthorizationDataElement → Type 0
CountsAs element counted = Encloses element counted ⊎ (EnclosesNone element × (counted ≡ element ∷ []))

-- The element at a place, counted from 0, of all that these elements count as, in their order; None past the last.
abbrev pub ElementAt : List AuthorizationDataElement → ℕ → Option AuthorizationDataElement → Type 0
ElementAt [] place result = result ≡ None
ElementAt (element ∷ elements) place result = (counted : List AuthorizationDataElement) × CountsAs element counted
    × MatchOption (slice_get counted place) (ElementAt elements (place - length counted) result) (λ found. result ≡ Some found)
