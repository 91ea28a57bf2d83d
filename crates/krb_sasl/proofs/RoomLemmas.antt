-- Octets that do not fit into a room.
use Rattle.std.proofs.Common.{◌≡◌, ℕ, ◌<◌, List, length, Result, ap}
use Rattle.krb_sasl.specs.declared.error.SaslError.{SaslError}
use Rattle.krb_sasl.specs.declared.fault.SaslFault.{SaslFault}
use Rattle.krb_sasl.specs.declared.fault.SaslFault.TheVariants.{Room}
use Rattle.krb_sasl.specs.Rooms.{Faults}

pub too_long : {A : Type 0} (checks : Result A SaslError → Type 0) (gives : List ℕ → Type 0) (octets shown room : List ℕ) (fault : SaslFault) → gives octets
    → shown ≡ octets → fault ≡ Room (length shown) → length room < length shown → Faults checks gives (length room) fault
too_long checks gives octets shown room fault given same is short =
    rw is (record { octets = octets; given = given; counted = ap length same; short = short })
