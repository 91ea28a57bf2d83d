-- The change that an event makes to its connection, once the policy machine has found it.
use Rattle.std.specs.Prelude.{◌≡◌, ℕ, Bool, true, false, List, Option, Some, None, is_none, Result, Ok, Err}
use Rattle.krb_conf.specs.declared.env.Env.{Env}
use Rattle.krb_context.specs.declared.context.Kerberos.{Kerberos}
use Rattle.krb_replay.specs.declared.ask.Ask.{Ask}
use Rattle.krb_replay.specs.declared.ask.Verdict.{Verdict}
use Rattle.krb_admission.specs.Accepts.{asks_dce_style}
use Rattle.krb_server.specs.Whole.{AcceptsWhole}
use Rattle.krb_server.specs.declared.accept.Accepted.{Accepted}
use Rattle.krb_script.specs.declared.item.Event.{Event}
use Rattle.sspi_core.specs.Checks.{told}
use Rattle.sspi_core.specs.Kinds.{error_of}
use Rattle.sspi_core.specs.declared.cause.Cause.{Cause}
use Rattle.sspi_core.specs.declared.cause.Cause.TheVariants.{Sequence}
use Rattle.sspi_core.specs.declared.draw.Draw.{Draw}
use Rattle.sspi_core.specs.declared.error.Place.TheVariants.{Elsewhere}
use Rattle.sspi_core.specs.declared.flags.ClientRequestFlags.{ClientRequestFlags}
use Rattle.sspi_generator.specs.declared.network.NetFault.{NetFault}
use Rattle.krb_machine.specs.MessageCalls.{is_call, Calls}
use Rattle.krb_machine.specs.Exchanges.{answer_of, GoesOn}
use Rattle.krb_machine.specs.Initiations.{token_heard, options_of, Undertakes}
use Rattle.krb_machine.specs.Policy.{input_token, server_flags, draw_of, Settles}
use Rattle.krb_machine.specs.declared.connection.Connection.{Connection}
use Rattle.krb_machine.specs.declared.reply.Reply.{Reply}
use Rattle.krb_machine.specs.declared.reply.Reply.TheVariants.{Refused}
use Rattle.krb_machine.specs.declared.run.Run.{Run}

-- a refusal leaves the connection
abbrev pub Refuses : Cause → Connection → Reply → Connection → Type 0
Refuses cause connection reply next = (reply ≡ Refused (error_of cause)) × (next ≡ connection)

-- the connection takes an answer of the network, if it waits for one
abbrev pub TakesAnswerThere : Option Run → Connection → Result (List ℕ) NetFault → Draw → Reply → Connection → Type 0
TakesAnswerThere None connection answer draw reply next = Refuses Sequence connection reply next
TakesAnswerThere (Some run) connection answer draw reply next = GoesOn connection run answer draw reply next

-- a call is answered at its context
pub record CallsThere (connection : Connection) (event : Event) (reply : Reply) (next : Connection) : Type 0 where
  pub calls : Calls event.input connection.context event.random reply next.context
  pub rest : next ≡ record connection { context = next.context }

-- an initiator begins, or takes a token of its peer
abbrev pub InitiatesThere : Connection → Env → ClientRequestFlags → Result (List ℕ) Cause → Draw → Reply → Connection → Type 0
InitiatesThere connection env flags (Ok token) draw reply next = Undertakes connection (options_of connection env flags token) draw reply next
InitiatesThere connection env flags (Err cause) draw reply next = Refuses cause connection reply next

module _ {G : Type 0} (admits : G → Ask → Verdict → G → Type 0) (env : Env) (connection : Connection) (old : G) where
  -- an acceptor judges a token
  pub record JudgesThere (flags : ClientRequestFlags) (token : List ℕ) (draw : Draw) (reply : Reply) (next : Connection) (new : G) : Type 0 where
    pub answer : Result Accepted Cause
    pub server : Kerberos
    pub accepts : AcceptsWhole admits connection.context (asks_dce_style (server_flags flags)) token env draw old answer server new
    pub settles : Settles draw (record connection { context = server }) (told Elsewhere answer) reply next

  -- an acceptor takes an event, if the event brings a token
  abbrev pub AcceptsThere : ClientRequestFlags → Option (List ℕ) → Draw → Reply → Connection → G → Type 0
  AcceptsThere flags None draw reply next new = Refuses Sequence connection reply next × (new ≡ old)
  AcceptsThere flags (Some token) draw reply next new = JudgesThere flags token draw reply next new

  -- an event of the exchange with the peer, by the role: the token that an initiator takes, or the token that an acceptor judges
  abbrev pub TakesPartThere : Bool → ClientRequestFlags → Result (List ℕ) Cause → Option (List ℕ) → Draw → Reply → Connection → G → Type 0
  TakesPartThere true flags heard token draw reply next new = InitiatesThere connection env flags heard draw reply next × (new ≡ old)
  TakesPartThere false flags heard token draw reply next new = AcceptsThere flags token draw reply next new

  -- an event that is no answer of the network: a call, or an event of the exchange with the peer
  abbrev pub ActsThere : Bool → Event → Reply → Connection → G → Type 0
  ActsThere true event reply next new = CallsThere connection event reply next × (new ≡ old)
  ActsThere false event reply next new =
      TakesPartThere (is_none connection.context.server) event.flags (token_heard connection.context.state event.input) (input_token event.input) (draw_of event) reply next new

  -- an event that is no answer of the network is refused while the connection awaits a KDC
  abbrev pub IsTimelyThere : Option Run → Bool → Event → Reply → Connection → G → Type 0
  IsTimelyThere None is_call event reply next new = ActsThere is_call event reply next new
  IsTimelyThere (Some run) is_call event reply next new = Refuses Sequence connection reply next × (new ≡ old)

  abbrev pub StepsBy : Option (Result (List ℕ) NetFault) → Event → Reply → Connection → G → Type 0
  StepsBy (Some answer) event reply next new = TakesAnswerThere connection.exchange connection answer (draw_of event) reply next × (new ≡ old)
  StepsBy None event reply next new = IsTimelyThere connection.exchange (is_call event.input) event reply next new

  -- a possible reply to an event in time, and connection and gate afterwards
  abbrev pub StepsThere : Event → Reply → Connection → G → Type 0
  StepsThere event reply next new = StepsBy (answer_of event.input) event reply next new
