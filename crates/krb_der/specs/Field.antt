-- A field of a SEQUENCE in its context tag (X.690 8.14, as RFC 4120 5.1 has it: EXPLICIT).
use Rattle.std.specs.Prelude.{◌≡◌, ℕ, ◌+◌, List, true, false, Option, Some, None}
use Rattle.krb_der.specs.Der.{StandsNext}
use Rattle.krb_der.specs.Reading.{begins_with}
use Rattle.krb_der.specs.Schema.{Kind, Of, Spells}

-- The value of this kind is in context tag n at the front of the octets, and rest follows it.
pub record FieldNext (n : ℕ) (kind : Kind) (value : Of kind) (octets rest : List ℕ) : Type 0 where
  pub spelling : List ℕ
  pub spells : Spells kind value spelling
  pub stands : StandsNext (0xa0 + n) spelling octets rest

-- No value of this kind is in context tag n at the front.
abbrev pub NoFieldNext : ℕ → Kind → List ℕ → Type 0
NoFieldNext n kind octets = (value : Of kind) (rest : List ℕ) → FieldNext n kind value octets rest → ⊥

-- The value is in context tag n at the front, or that tag isn't the next octet.
abbrev pub OptionalNext : ℕ → (kind : Kind) → Option (Of kind) → List ℕ → List ℕ → Type 0
OptionalNext n kind None octets rest = (begins_with (0xa0 + n) octets ≡ false) × (rest ≡ octets)
OptionalNext n kind (Some value) octets rest = FieldNext n kind value octets rest

-- Context tag n is the next octet, and no value of this kind is in it.
abbrev pub NoOptionalNext : ℕ → Kind → List ℕ → Type 0
NoOptionalNext n kind octets = (begins_with (0xa0 + n) octets ≡ true) × NoFieldNext n kind octets
