-- The results of a session, as the call on its handle returns them.
use Rattle.std.proofs.Common.{◌≡◌, ℕ, List}
use Rattle.std.specs.Prelude.{Option, Some, Result}
use Rattle.krb_c.specs.Calls.{ServesNot}
use Rattle.krb_c.specs.Replies.{failure_of}
use Rattle.krb_sessions.specs.declared.fault.Fault.{Fault}
use Rattle.krb_sessions.specs.declared.fault.Fault.TheVariants.{Refused, Room}
use Rattle.krb_sessions.specs.declared.session.Session.{Session}
use Rattle.krb_sessions.specs.Gives.{Faults}
use Rattle.sspi_core.specs.declared.cause.Cause.{Cause}
use Rattle.sspi_core.specs.declared.error.Place.{Place}

-- a fault of the session's is why the octets are not returned
pub serves_not : {A : Type 0} (unfit : Type 0) (place : Place) (checks : Session → Result A Cause → Type 0) (gives : Session → List ℕ → Type 0) (old : Option Session)
    (room : ℕ) (session : Session) (fault : Fault) → old ≡ Some session → Faults place (checks session) (gives session) room fault
    → ServesNot unfit place checks gives old room (failure_of fault)
serves_not unfit place checks gives old room session (Refused error) was refuses = record { session = session; was = was; refuses = refuses }
serves_not unfit place checks gives old room session (Room count) was short = record { session = session; was = was; is_short = short }
