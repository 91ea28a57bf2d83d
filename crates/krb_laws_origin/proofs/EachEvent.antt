-- A fact about an initiator after some events also holds after one more event, whichever connection that event is for, and so after
-- each list of events: if each kind of event at the initiator's own connection keeps the fact.
use Rattle.std.proofs.Common.{◌≡◌, ℕ, inl, inr, Bool, true, false, List, [], ◌∷◌, ◌++◌, Option, Some, None, Result, Ok, Err, refl, sym, ap, ◌∙◌, subst, append_assoc}
use Rattle.std.specs.Prelude.{◌==◌, ◌⊎◌, nat_le, if◌then◌else◌, is_some}
use Rattle.std.specs.Ordering.{nat_cmp}
use Rattle.std.specs.BTreeMap.{is_at}
use Rattle.std.specs.Map.{set_value}
use Rattle.std.specs.Option.{option_to_list}
use Rattle.std.proofs.lemmas.Bool.{eqb-true, true≢false}
use Rattle.std.proofs.lemmas.List.{append-nil}
use Rattle.krb_conf.specs.declared.env.Env.{Env}
use Rattle.krb_context.specs.declared.context.Kerberos.{Kerberos}
use Rattle.krb_context.specs.declared.server.ServerProperties.{ServerProperties}
use Rattle.krb_machine.specs.declared.run.Run.{Run}
use Rattle.krb_replay.specs.declared.ask.Ask.{Ask}
use Rattle.krb_replay.specs.declared.ask.Verdict.{Verdict}
use Rattle.krb_script.specs.Script.{at_id}
use Rattle.krb_script.specs.declared.input.Input.{Input}
use Rattle.krb_script.specs.declared.input.Input.TheVariants.{Token, Start, KdcReply, KdcFault, Wrap, Unwrap, MakeMic, VerifyMic}
use Rattle.krb_script.specs.declared.item.Event.{Event}
use Rattle.sspi_core.specs.declared.cause.Cause.{Cause}
use Rattle.sspi_generator.specs.declared.network.NetFault.{NetFault}
use Rattle.krb_machine.specs.Exchanges.{GoesOn, answer_of}
use Rattle.krb_machine.specs.Initiations.{Undertakes, options_of, token_heard}
use Rattle.krb_machine.specs.MessageCalls.{is_call, Calls}
use Rattle.krb_machine.specs.Policy.{State, AnswersCall, TakesAnswer, TakesTurn, Behind, TakesPart, StepsOnward, StepsBy, Steps, Runs, ready, reached, heard, awaited, is_initiator, draw_of}
use Rattle.sspi_core.specs.Moments.{last_moment}
use Rattle.krb_machine.specs.declared.connection.Connection.{Connection}
use Rattle.krb_machine.specs.declared.reply.Reply.{Reply}
use Rattle.krb_laws_origin.specs.Origins.{is_heard, answer_to}
use Rattle.krb_laws_origin.proofs.Known.{IsQuiet}
use Rattle.krb_laws_origin.proofs.PlaceLemmas.{placed, placed_apart, ready_there, reached_there, hearing_there, awaited_there, awaited_refused}

pub same_connection : (x y : Connection) (o : Option Connection) → o ≡ Some x → o ≡ Some y → x ≡ y
same_connection x y o p q = let e : Some x ≡ Some y = sym p ∙ q in cc

-- an acceptor is no initiator
no_acceptor : (server : Option ServerProperties) → server ≡ None → is_some server ≡ true → ⊥
no_acceptor None e is = absurd (true≢false (sym is))
no_acceptor (Some properties) e is = absurd cc

-- a call brings nothing of the network
call_brings_none : (input : Input) → is_call input ≡ true → answer_of input ≡ None
call_brings_none (Token octets) e = refl
call_brings_none Start e = refl
call_brings_none (KdcReply octets) e = absurd (true≢false (sym e))
call_brings_none (KdcFault code) e = absurd (true≢false (sym e))
call_brings_none (Wrap message) e = refl
call_brings_none (Unwrap message) e = refl
call_brings_none (MakeMic payload) e = refl
call_brings_none (VerifyMic token payload) e = refl

-- an event for another connection, or at a moment out of range, or of another kind, brings nothing
module _ (id : ℕ) (event : Event) where
  unheard : (event.connection == id) ≡ false → answer_to id event ≡ []
  unheard e = rw e refl

  too_late : (event.connection == id) ≡ true → nat_le event.moment last_moment ≡ false → answer_to id event ≡ []
  too_late e late = rw (e, late) refl

  of_none : (heard : Bool) (answer : Option (Result (List ℕ) NetFault)) → answer ≡ None → (if heard then option_to_list answer else []) ≡ []
  of_none true answer e = ap (λ (a : Option (Result (List ℕ) NetFault)). option_to_list a) e
  of_none false answer e = refl

  pub other_kind : answer_of event.input ≡ None → answer_to id event ≡ []
  other_kind e = of_none (is_heard id event) (answer_of event.input) e

  refused_quiet : (connection : Connection) → (event.connection == id) ≡ true → (connection.exchange ≡ None) ⊎ (nat_le event.moment last_moment ≡ false) → IsQuiet id event connection.exchange
  refused_quiet connection here (inl free) = inl free
  refused_quiet connection here (inr late) = inr (too_late here late)

-- a fact about the initiator, which each kind of event keeps
pub record AreKept (id : ℕ) (Stands : List Event → Connection → Type 0) : Type 0 where
  -- the connection is an initiator's
  pub role : (events : List Event) (connection : Connection) → Stands events connection → connection.context.server ≡ None
  -- one more event, which brings the connection nothing, or finds that it awaits no KDC
  pub before : (events : List Event) (event : Event) (connection : Connection) → IsQuiet id event connection.exchange → Stands events connection → Stands (events ++ event ∷ []) connection
  -- a call
  pub called : (events : List Event) (event : Event) (connection : Connection) (reply : Reply) (context : Kerberos) → connection.exchange ≡ None → answer_of event.input ≡ None
      → Calls event.input connection.context event.random reply context → Stands events connection → Stands (events ++ event ∷ []) (record connection { context = context })
  -- an answer of the network
  pub resumed : (events : List Event) (event : Event) → event.connection ≡ id → nat_le event.moment last_moment ≡ true → (connection : Connection) (run : Run) (answer : Result (List ℕ) NetFault) (reply : Reply) (next : Connection)
      → connection.exchange ≡ Some run → answer_of event.input ≡ Some answer → GoesOn connection run answer (draw_of event) reply next → Stands events connection → Stands (events ++ event ∷ []) next
  -- the initiator begins, or takes a token of its peer
  pub undertaken : (events : List Event) (event : Event) → event.connection ≡ id → nat_le event.moment last_moment ≡ true → (env : Env) (connection : Connection) (token : List ℕ) (reply : Reply) (next : Connection)
      → connection.exchange ≡ None → token_heard connection.context.state event.input ≡ Ok token → answer_of event.input ≡ None
      → Undertakes connection (options_of connection env event.flags token) (draw_of event) reply next → Stands events connection → Stands (events ++ event ∷ []) next

module _ (id : ℕ) (Stands : List Event → Connection → Type 0) (kept : AreKept id Stands) where
  -- the connection is at the number, and the fact holds for it
  pub record Known (events : List Event) (connections : List (ℕ × Connection)) : Type 0 where
    pub connection : Connection
    pub there : at_id id connections ≡ Some connection
    pub stands : Stands events connection

  module _ (events : List Event) (event : Event) where
    abbrev now : List Event
    now = events ++ event ∷ []

    abbrev put : List (ℕ × Connection) → Connection → List (ℕ × Connection)
    put connections next = set_value (is_at (nat_cmp event.connection)) connections next

    -- one connection is set, the event's own: that of the initiator, or another
    put_known : (connections : List (ℕ × Connection)) (connection next : Connection) (same : Bool) → (event.connection == id) ≡ same → at_id event.connection connections ≡ Some connection
        → (event.connection ≡ id → Stands events connection → Stands now next) → Known events connections → Known now (put connections next)
    put_known connections connection next true e there keeps known =
        let here : event.connection ≡ id = eqb-true event.connection id e in
        let stands_there : at_id id connections ≡ Some connection = subst (λ (n : ℕ). at_id n connections ≡ Some connection) here there in
        let is : known.connection ≡ connection = same_connection known.connection connection (at_id id connections) known.there stands_there in
        record {
          connection = next;
          there = subst (λ (n : ℕ). at_id n (put connections next) ≡ Some next) here (placed connections event.connection connection next there);
          stands = keeps here (subst (λ (c : Connection). Stands events c) is known.stands);
        }
    put_known connections connection next false e there keeps known = record {
      connection = known.connection;
      there = placed_apart connections event.connection id next e ∙ known.there;
      stands = kept.before events event known.connection (inr (unheard id event e)) known.stands;
    }

    put_there : (connections after : List (ℕ × Connection)) (connection next : Connection) → after ≡ put connections next → at_id event.connection connections ≡ Some connection
        → (event.connection ≡ id → Stands events connection → Stands now next) → Known events connections → Known now after
    put_there connections after connection next is there keeps known =
        subst (λ (c : List (ℕ × Connection)). Known now c) (sym is) (put_known connections connection next (event.connection == id) refl there keeps known)

    -- no connection is set: the event finds the initiator quiet, if it is for the initiator
    same_by : {G : Type 0} (state : State G) (same : Bool) → (event.connection == id) ≡ same
        → ((connection : Connection) → (event.connection == id) ≡ true → at_id event.connection state.connections ≡ Some connection → IsQuiet id event connection.exchange)
        → Known events state.connections → Known now state.connections
    same_by state true e quiet known =
        let there : at_id event.connection state.connections ≡ Some known.connection =
        subst (λ (n : ℕ). at_id n state.connections ≡ Some known.connection) (sym (eqb-true event.connection id e)) known.there in
        record { connection = known.connection; there = known.there; stands = kept.before events event known.connection (quiet known.connection e there) known.stands }
    same_by state false e quiet known =
        record { connection = known.connection; there = known.there; stands = kept.before events event known.connection (inr (unheard id event e)) known.stands }

    same_known : {G : Type 0} (state after : State G) → after ≡ state
        → ((connection : Connection) → (event.connection == id) ≡ true → at_id event.connection state.connections ≡ Some connection → IsQuiet id event connection.exchange)
        → Known events state.connections → Known now after.connections
    same_known {G} state after is quiet known =
        subst (λ (s : State G). Known now s.connections) (sym is) (same_by state (event.connection == id) refl quiet known)

    module _ {G : Type 0} (state after : State G) (reply : Reply) (known : Known events state.connections) where
      call_known : (found : Result Connection Cause) → ready state.connections event ≡ found → answer_of event.input ≡ None → AnswersCall state event found reply after → Known now after.connections
      call_known (Ok connection) is none h =
          let at = ready_there state.connections event connection is in
          put_there state.connections after.connections connection (record connection { context = h.context }) h.connections at.there
          (λ here stands. kept.called events event connection reply h.context at.free none h.calls stands) known
      call_known (Err cause) is none h = same_known state after h.1 (λ connection here there. inr (other_kind id event none)) known

      answer_known : (found : Result (Connection × Run) Cause) (answer : Result (List ℕ) NetFault) → awaited state.connections event ≡ found → answer_of event.input ≡ Some answer
          → TakesAnswer state event found answer reply after → Known now after.connections
      answer_known (Ok found) answer is brings h =
          let at = awaited_there state.connections event found is in
          put_there state.connections after.connections found.0 h.next h.connections at.there
          (λ here stands. kept.resumed events event here at.in_range found.0 found.1 answer reply h.next at.run_is brings h.goes_on stands) known
      answer_known (Err cause) answer is brings h =
          same_known state after h.1 (λ connection here there. refused_quiet id event connection here (awaited_refused state.connections event connection cause there is)) known

      turn_known : (found : Result (Connection × List ℕ) Cause) → heard state.connections event ≡ found → answer_of event.input ≡ None → TakesTurn state event found reply after → Known now after.connections
      turn_known (Ok found) is none h =
          let at = hearing_there state.connections event found is in
          put_there state.connections after.connections found.0 h.next h.connections at.there
          (λ here stands. kept.undertaken events event here at.in_range state.env found.0 found.1 reply h.next at.free at.token_is none h.undertakes stands) known
      turn_known (Err cause) is none h = same_known state after h.1 (λ connection here there. inr (other_kind id event none)) known

      module _ (admits : G → Ask → Verdict → G → Type 0) where
        -- an acceptor judges a token
        judged_known : (found : Result (Connection × List ℕ) Cause) → reached state.connections event ≡ found → answer_of event.input ≡ None → Behind admits state event found reply after → Known now after.connections
        judged_known (Ok found) is none h =
            let at = reached_there state.connections event found is in
            put_there state.connections after.connections found.0 h.next h.connections at.there
            (λ here stands. absurd (no_acceptor found.0.context.server (kept.role events found.0 stands) at.judging)) known
        judged_known (Err cause) is none h = same_known state after h.1 (λ connection here there. inr (other_kind id event none)) known

        part_known : (initiates : Bool) → answer_of event.input ≡ None → TakesPart admits initiates state event reply after → Known now after.connections
        part_known true none h = turn_known (heard state.connections event) refl none h
        part_known false none h = judged_known (reached state.connections event) refl none h

        onward_known : (answer : Option (Result (List ℕ) NetFault)) → answer_of event.input ≡ answer → StepsOnward admits answer state event reply after → Known now after.connections
        onward_known (Some answer) is h = answer_known (awaited state.connections event) answer refl is h
        onward_known None is h = part_known (is_initiator event.connection state.connections) is h

        kind_known : (call : Bool) → is_call event.input ≡ call → StepsBy admits call state event reply after → Known now after.connections
        kind_known true is h = call_known (ready state.connections event) refl (call_brings_none event.input is) h
        kind_known false is h = onward_known (answer_of event.input) refl h

        step_known : Steps admits state event reply after → Known now after.connections
        step_known h = kind_known (is_call event.input) refl h

  -- ---- runs

  module _ {G : Type 0} (admits : G → Ask → Verdict → G → Type 0) where
    run_known : (events : List Event) (replies : List Reply) (past : List Event) (state after : State G) → Known past state.connections → Runs admits state events replies after
        → Known (past ++ events) after.connections
    run_known [] [] past state after known runs =
        subst (λ (e : List Event). Known e after.connections) (sym (append-nil past)) (subst (λ (s : State G). Known past s.connections) (sym runs) known)
    run_known [] (reply ∷ replies) past state after known runs = absurd runs
    run_known (event ∷ events) [] past state after known runs = absurd runs
    run_known (event ∷ events) (reply ∷ replies) past state after known runs =
        let next : Known (past ++ event ∷ []) runs.0.connections = step_known past event state runs.0 reply known admits runs.1 in
        subst (λ (e : List Event). Known e after.connections) (append_assoc past (event ∷ []) events) (run_known events replies (past ++ event ∷ []) runs.0 after next runs.2)

    -- after a whole run, if the fact held at its start
    pub held_behind : (before after : State G) (events : List Event) (replies : List Reply) (first : Connection) → Runs admits before events replies after → at_id id before.connections ≡ Some first
        → Stands [] first → Known events after.connections
    held_behind before after events replies first runs there stands =
        run_known events replies [] before after (record { connection = first; there = there; stands = stands }) runs

  -- the fact holds for the connection at the number then
  pub stands_last : (events : List Event) (connections : List (ℕ × Connection)) (last : Connection) → Known events connections → at_id id connections ≡ Some last → Stands events last
  stands_last events connections last known there =
      subst (λ (c : Connection). Stands events c) (same_connection known.connection last (at_id id connections) known.there there) known.stands
