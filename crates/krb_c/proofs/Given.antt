-- The octets that an initiator returns, as the call on its handle returns them.
use Rattle.std.proofs.Common.{◌≡◌, ℕ, List}
use Rattle.std.specs.Prelude.{Option, Some, Result, Ok}
use Rattle.krb_c.specs.Dialogues.{HandsNot}
use Rattle.krb_c.specs.Replies.{failure_of}
use Rattle.krb_dialogue.specs.declared.dialogue.Dialogue.{Dialogue}
use Rattle.krb_sessions.specs.declared.fault.Fault.{Fault}
use Rattle.krb_sessions.specs.declared.fault.Fault.TheVariants.{Refused, Room}
use Rattle.krb_sessions.specs.Gives.{Faults}
use Rattle.sspi_core.specs.declared.cause.Cause.{Cause}
use Rattle.sspi_core.specs.declared.error.Place.TheVariants.{Elsewhere}

-- a fault of the dialogue's is why the octets are not returned
pub hands_not : (gives : Dialogue → Result (List ℕ) Cause) (initiator : Option Dialogue) (room : ℕ) (dialogue : Dialogue) (fault : Fault)
    → initiator ≡ Some dialogue → Faults Elsewhere (λ answer. answer ≡ gives dialogue) (λ octets. gives dialogue ≡ Ok octets) room fault
    → HandsNot gives initiator room (failure_of fault)
hands_not gives initiator room dialogue (Refused error) was refuses = record { dialogue = dialogue; was = was; refuses = refuses }
hands_not gives initiator room dialogue (Room count) was short = record { dialogue = dialogue; was = was; is_short = short }
