-- The steps of a connection's exchange with KDCs, and the replies to them. Between the steps the connection awaits the answer of a
-- KDC, and its context is as it was before.
use Rattle.std.specs.Prelude.{◌≡◌, ℕ, Bool, false, List, Option, Some, None, is_some, Result, Ok, Err}
use Rattle.krb_context.specs.Contexts.{settled}
use Rattle.krb_script.specs.declared.input.Input.{Input}
use Rattle.krb_script.specs.declared.input.Input.TheVariants.{Token, Start, KdcReply, KdcFault, Wrap, Unwrap, MakeMic, VerifyMic}
use Rattle.krb_server.specs.declared.accept.Accepted.{Accepted}
use Rattle.krb_server.specs.declared.accept.Accepted.TheVariants as taken
use Rattle.krb_machine.specs.Steps.{BeginsRun, GoesOn as ExchangeGoesOn}
use Rattle.krb_machine.specs.declared.exchange.Step.{Step}
use Rattle.krb_machine.specs.declared.exchange.Step.TheVariants.{Asks, Ends, Refused as Refuses}
use Rattle.krb_machine.specs.declared.run.Run.{Run}
use Rattle.sspi_core.specs.Kinds.{error_of}
use Rattle.sspi_core.specs.declared.cause.Cause.TheVariants.{Memory}
use Rattle.sspi_core.specs.declared.error.Error.{Error}
use Rattle.sspi_core.specs.declared.draw.Draw.{Draw}
use Rattle.sspi_generator.specs.declared.network.NetFault.{NetFault}
use Rattle.sspi_generator.specs.declared.network.NetFault.TheVariants.{Failed}
use Rattle.krb_machine.specs.declared.connection.Connection.{Connection}
use Rattle.krb_machine.specs.declared.reply.Reply.{Reply}
use Rattle.krb_machine.specs.declared.reply.Reply.TheVariants.{Done, Ask, Refused}

-- the connection awaits the answer of a KDC
abbrev pub awaits : Connection → Bool
awaits connection = is_some connection.exchange

-- the answer of the network that an event brings: a KDC's reply, or a fault
abbrev pub answer_of : Input → Option (Result (List ℕ) NetFault)
answer_of (Token octets) = None
answer_of Start = None
answer_of (KdcReply octets) = Some (Ok octets)
answer_of (KdcFault code) = Some (Err (Failed code))
answer_of (Wrap message) = None
answer_of (Unwrap message) = None
answer_of (MakeMic payload) = None
answer_of (VerifyMic token payload) = None

-- the connection after a step of its exchange: at a request to a KDC, it awaits the answer; at the end, its context takes the change;
-- a refusal ends the exchange too and leaves the context
abbrev pub LeadsTo : Connection → Step → Reply → Connection → Type 0
LeadsTo connection (Asks request run) reply next = (reply ≡ Ask request) × (next ≡ record connection { exchange = Some run })
LeadsTo connection (Ends done) reply next =
    (reply ≡ Done done.status done.token false) × (next ≡ record connection { context = settled connection.context done.change; exchange = None })
LeadsTo connection (Refuses error) reply next = (reply ≡ Refused error) × (next ≡ record connection { exchange = None })

-- an exchange begins
pub record OpensExchange (connection : Connection) (run : Run) (draw : Draw) (reply : Reply) (next : Connection) : Type 0 where
  pub step : Step
  pub begins : BeginsRun run draw step
  pub leads : LeadsTo connection step reply next

-- an exchange goes on with what the network brought
pub record GoesOn (connection : Connection) (run : Run) (answer : Result (List ℕ) NetFault) (draw : Draw) (reply : Reply) (next : Connection) : Type 0 where
  pub step : Step
  pub resumes : ExchangeGoesOn run answer draw step
  pub leads : LeadsTo connection step reply next

-- the answers of an acceptor after which memory can run out: for the answer itself, or for the exchange that it begins
abbrev pub StopsAt : Result Accepted Error → Type 0
StopsAt (Ok (taken.Done status token admits)) = ⊥
StopsAt (Ok (taken.Run run)) = Unit {0}
StopsAt (Err error) = error ≡ error_of Memory
