-- Records and their spellings.
use Rattle.std.specs.Prelude.{◌≡◌, ℕ, ◌^◌, ◌<◌, List, ◌++◌, length}
use Rattle.krb_der.specs.Schema.{Spells, IsSound, contents}
use Rattle.krb_der.specs.Layout.{Layout}

-- A record of this layout that is sound and short enough has one spelling, a spelling is of one record, and none begins another.
pub record HasOneSpelling {A : Type 0} (layout : Layout A) : Type 0 where
  pub one_record : (x y : A) (a b rest after : List ℕ) → Spells layout.kind (layout.view x) a → Spells layout.kind (layout.view y) b
      → a ++ rest ≡ b ++ after → (a ≡ b) × (x ≡ y)
  pub equal : (x : A) (a b : List ℕ) → Spells layout.kind (layout.view x) a → Spells layout.kind (layout.view x) b → a ≡ b
  pub has : (x : A) → IsSound layout.kind (layout.view x) → length (contents layout.kind (layout.view x)) < 2 ^ 31 → (octets : List ℕ)
      × Spells layout.kind (layout.view x) octets
