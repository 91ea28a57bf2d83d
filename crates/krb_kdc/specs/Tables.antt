-- The entries of a KDC's maps: private functions have their contracts in these words.
use Rattle.std.specs.Prelude.{ℕ, ◌==◌, Bool, List}
use Rattle.std.specs.Cmp.Lexicographic.{pointwise}
use Rattle.krb_kdc.specs.declared.kdc.Principal.{Principal}
use Rattle.krb_kdc.specs.declared.kdc.Trust.{Trust}
use Rattle.krb_kdc.specs.declared.kdc.Route.{Route}

-- the key of a principal, a trust and a route in its map is its own name
abbrev pub is_keyed_principal : List (List ℕ) × Principal → Bool
is_keyed_principal entry = pointwise (pointwise ◌==◌) entry.1.components entry.0

abbrev pub is_keyed_trust : List ℕ × Trust → Bool
is_keyed_trust entry = pointwise ◌==◌ entry.1.realm entry.0

abbrev pub is_keyed_route : List (List ℕ) × Route → Bool
is_keyed_route entry = pointwise (pointwise ◌==◌) entry.1.service entry.0
