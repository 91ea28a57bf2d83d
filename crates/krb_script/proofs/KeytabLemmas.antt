-- Principals with a key.
use Rattle.std.proofs.Common.{◌≡◌, ℕ, List, Some, Option, ap}
use Rattle.std.specs.Prelude.{◌||◌, ◌==◌, IsTrue}
use Rattle.std.proofs.Math.Bool.{Bool-set}
use Rattle.sspi_core.specs.Usernames.{UserName}
use Rattle.sspi_core.specs.declared.identity.KeytabIdentity.{KeytabIdentity}

-- two identities with the same principal, key and type of key are equal
pub one_identity : (principal : UserName) (key : List ℕ) (enctype : ℕ) (p q : IsTrue (enctype == 17 || enctype == 18))
    → ◌≡◌ {A = Option KeytabIdentity} (Some (record { principal = principal; key = key; key_enctype = enctype; known = p })) (Some (record { principal = principal; key = key; key_enctype = enctype; known = q }))
one_identity principal key enctype p q = ap (λ known. Some (record { principal = principal; key = key; key_enctype = enctype; known = known })) (Bool-set _ _ p q)
