-- A reply of a KDC, or a KRB-ERROR in its place (RFC 4120 3.1.3 and 3.3.3).
use Rattle.std.specs.Prelude.{◌≡◌, ℕ, List}
use Rattle.krb_der.specs.Schema.{Spells}
use Rattle.krb_der.specs.Layout.{Layout}
use Rattle.krb_exchange.specs.declared.result.KrbResult.{KrbResult}
use Rattle.krb_exchange.specs.declared.result.KrbResult.TheVariants.{Ok, Err}
use Rattle.krb_exchange.specs.Layouts.{krb_error_layout}

-- the octets spell this reply, or this error
abbrev pub IsResult : {A : Type 0} → Layout A → List ℕ → KrbResult A → Type 0
IsResult layout octets (Ok reply) = Spells layout.kind (layout.view reply) octets
IsResult layout octets (Err error) = Spells krb_error_layout.kind (krb_error_layout.view error) octets

-- Octets are one reply of this kind, or one error, and not both.
abbrev pub HasOneResult : {A : Type 0} → Layout A → Type 0
HasOneResult {A} layout = (octets : List ℕ) (x y : KrbResult A) → IsResult layout octets x → IsResult layout octets y → x ≡ y
