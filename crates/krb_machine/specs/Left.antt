-- The record that an event leaves in the gate, whatever the reply to it is.
use Rattle.std.specs.Prelude.{ℕ, Bool, true, false, List, [], ◌∷◌, ◌++◌, Option, Some, None, Result, Ok, Err, if◌then◌else◌}
use Rattle.krb_replay.specs.Verdicts.{is_admitted}
use Rattle.krb_replay.specs.declared.ask.Ask.{Ask}
use Rattle.krb_replay.specs.declared.ask.Verdict.{Verdict}
use Rattle.krb_replay.specs.declared.record.Record.{Record}
use Rattle.krb_conf.specs.declared.env.Env.{Env}
use Rattle.krb_context.specs.declared.context.Kerberos.{Kerberos}
use Rattle.krb_context.specs.declared.rules.Rules.{Rules}
use Rattle.krb_exchange.specs.declared.user_to_user.TgtReq.{TgtReq}
use Rattle.krb_admission.specs.Requests.{ask_of}
use Rattle.krb_server.specs.Whole.{AcceptsToken}
use Rattle.krb_server.specs.declared.accept.Accepted.{Accepted}
use Rattle.sspi_generator.specs.declared.network.NetFault.{NetFault}
use Rattle.sspi_core.specs.declared.draw.Draw.{Draw}
use Rattle.krb_admission.specs.declared.request.Request.{Request}
use Rattle.krb_script.specs.declared.item.Event.{Event}
use Rattle.sspi_core.specs.declared.cause.Cause.{Cause}
use Rattle.krb_machine.specs.declared.connection.Connection.{Connection}
use Rattle.krb_machine.specs.declared.reply.Reply.{Reply}
use Rattle.krb_machine.specs.MessageCalls.{is_call}
use Rattle.krb_machine.specs.Exchanges.{answer_of}
use Rattle.krb_machine.specs.Policy.{State, Behind, TakesPart, StepsOnward, StepsBy, Steps, Runs, reached, is_initiator}

-- the record of a request which the gate admits, by the rules of the context that judged it
abbrev pub left_by : Rules → Result Request Cause → Verdict → ℕ → List Record
left_by rules (Ok request) verdict moment = if is_admitted verdict then (ask_of rules request moment).entry ∷ [] else []
left_by rules (Err cause) verdict moment = []

module _ {G : Type 0} (admits : G → Ask → Verdict → G → Type 0) where
  -- a TGT-REQ asks no gate
  abbrev pub left_made : (server : Kerberos) (dce : Bool) (token : List ℕ) (env : Env) (draw : Draw) (old : G) (found : Option TgtReq)
      (answer : Result Accepted Cause) (server' : Kerberos) (new : G)
      → AcceptsToken admits server dce token env draw old found answer server' new → List Record
  left_made server dce token env draw old (Some tgt_req) answer server' new made = []
  left_made server dce token env draw old None answer server' new made = left_by server.rules made.accepts.request made.accepts.verdict draw.moment

  abbrev pub left_behind : (state : State G) (event : Event) (found : Result (Connection × List ℕ) Cause) (reply : Reply) (after : State G)
      → Behind admits state event found reply after → List Record
  left_behind state event (Ok found) reply after judges = left_made _ _ _ _ _ _ judges.accepts.tgt_req _ _ _ judges.accepts.made
  left_behind state event (Err cause) reply after refused = []

  -- an initiator asks no gate
  abbrev pub left_by_part : (initiates : Bool) (state : State G) (event : Event) (reply : Reply) (after : State G)
      → TakesPart admits initiates state event reply after → List Record
  left_by_part true state event reply after step = []
  left_by_part false state event reply after step = left_behind state event (reached state.connections event) reply after step

  -- an answer of the network asks no gate
  abbrev pub left_onward : (answer : Option (Result (List ℕ) NetFault)) (state : State G) (event : Event) (reply : Reply) (after : State G)
      → StepsOnward admits answer state event reply after → List Record
  left_onward (Some answer) state event reply after step = []
  left_onward None state event reply after step = left_by_part (is_initiator event.connection state.connections) state event reply after step

  -- the records that one event leaves: one, or none
  abbrev pub left_by_kind : (is_call : Bool) (state : State G) (event : Event) (reply : Reply) (after : State G)
      → StepsBy admits is_call state event reply after → List Record
  left_by_kind true state event reply after step = []
  left_by_kind false state event reply after step = left_onward (answer_of event.input) state event reply after step

  abbrev pub record_left : (state : State G) (event : Event) (reply : Reply) (after : State G) → Steps admits state event reply after → List Record
  record_left state event reply after step = left_by_kind (is_call event.input) state event reply after step

  -- the records that the events of a run leave
  abbrev pub records_left : (state : State G) (events : List Event) (replies : List Reply) (after : State G)
      → Runs admits state events replies after → List Record
  records_left state [] replies after runs = []
  records_left state (event ∷ events) [] after runs = []
  records_left state (event ∷ events) (reply ∷ replies) after runs =
      record_left state event reply runs.0 runs.1 ++ records_left runs.0 events replies after runs.2
