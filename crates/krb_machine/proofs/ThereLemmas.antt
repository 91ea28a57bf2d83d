-- The change that an event makes to its connection is the policy machine's step.
use Rattle.std.proofs.Common.{◌≡◌, ℕ, ◌<◌, ◌≤◌, nat_le, not, Bool, true, false, List, Option, None, Some, is_some, is_none, Result, Ok, Err, IfOk, refl, sym, ap, ◌∙◌, subst, arith}
use Rattle.std.specs.Ordering.{nat_cmp}
use Rattle.std.specs.BTreeMap.{is_at}
use Rattle.std.specs.Map.{set_value}
use Rattle.std.proofs.lemmas.Bool.Decides.{nat_tests}
use Rattle.krb_context.specs.Contexts.{is_acceptor}
use Rattle.krb_der.specs.declared.memory.OutOfMemory.{OutOfMemory}
use Rattle.krb_context.specs.declared.server.ServerProperties.{ServerProperties}
use Rattle.krb_replay.specs.declared.ask.Ask.{Ask}
use Rattle.krb_replay.specs.declared.ask.Verdict.{Verdict}
use Rattle.krb_script.proofs.ScriptLemmas.{set_same}
use Rattle.krb_script.specs.Script.{at_id}
use Rattle.krb_script.specs.declared.input.Input.{Input}
use Rattle.krb_script.specs.declared.input.Input.TheVariants as inputs
use Rattle.krb_script.specs.declared.item.Event.{Event}
use Rattle.sspi_core.specs.Checks.{ok_or}
use Rattle.sspi_core.specs.Kinds.{error_of}
use Rattle.sspi_core.specs.Moments.{last_moment}
use Rattle.sspi_core.specs.declared.cause.Cause.{Cause}
use Rattle.sspi_core.specs.declared.cause.Cause.TheVariants as causes
use Rattle.sspi_generator.specs.declared.network.NetFault.{NetFault}
use Rattle.krb_machine.proofs.ExchangeLemmas.{same_state}
use Rattle.krb_machine.specs.MessageCalls.{is_call}
use Rattle.krb_machine.specs.Exchanges.{answer_of}
use Rattle.krb_machine.specs.Initiations.{token_heard}
use Rattle.krb_machine.specs.Policy.{State, ◌>>=◌, check, input_token, called, ready, is_initiating, is_initiator, draw_of, AnswersCall, TakesAnswer, TakesTurn, Behind, TakesPart, StepsOnward, StepsBy, Steps}
use Rattle.krb_machine.specs.There.{Refuses, TakesAnswerThere, InitiatesThere, AcceptsThere, TakesPartThere, IsTimelyThere, StepsBy as StepsThereBy, StepsThere}
use Rattle.krb_machine.specs.declared.connection.Connection.{Connection}
use Rattle.krb_machine.specs.declared.reply.Reply.{Reply}
use Rattle.krb_machine.specs.declared.reply.Reply.TheVariants.{Refused}
use Rattle.krb_machine.specs.declared.run.Run.{Run}

-- a call is no answer of the network
no_answer : (input : Input) → is_call input ≡ true → answer_of input ≡ None
no_answer (inputs.Token octets) e = refl
no_answer inputs.Start e = refl
no_answer (inputs.KdcReply octets) e = absurd (cc)
no_answer (inputs.KdcFault code) e = absurd (cc)
no_answer (inputs.Wrap message) e = refl
no_answer (inputs.Unwrap message) e = refl
no_answer (inputs.MakeMic payload) e = refl
no_answer (inputs.VerifyMic token payload) e = refl

-- an end that is no initiator is an acceptor
acceptor_is : (server : Option ServerProperties) → is_none server ≡ false → is_some server ≡ true
acceptor_is None e = absurd (cc)
acceptor_is (Some server) e = refl

-- the checks of a connection, by the run whose answer it awaits
abbrev ready_by : Option Run → Connection → Result Connection Cause
ready_by waits connection = check causes.Sequence (not (is_some waits)) >>= (λ free. Ok connection)

abbrev awaited_by : Option Run → Connection → Result (Connection × Run) Cause
awaited_by waits connection = ok_or causes.Sequence waits >>= (λ run. Ok (connection, run))

abbrev heard_by : Event → Result Connection Cause → Result (Connection × List ℕ) Cause
heard_by event found = found >>= (λ connection. token_heard connection.context.state event.input >>= (λ token. Ok (connection, token)))

abbrev token_by : Connection → Option (List ℕ) → Result (Connection × List ℕ) Cause
token_by connection token = ok_or causes.Sequence token >>= (λ octets. Ok (connection, octets))

abbrev reached_by : Event → Result Connection Cause → Result (Connection × List ℕ) Cause
reached_by event found =
    found >>= (λ connection. check causes.Sequence (is_acceptor connection.context) >>= (λ judges. token_by connection (input_token event.input)))

-- the first checks
pub called-late : (connections : List (ℕ × Connection)) (event : Event) → last_moment < event.moment → called connections event ≡ Err causes.Moment
called-late connections event late =
    let e : nat_le event.moment last_moment ≡ false = grind (arith, nat_tests) in
    ap (λ (test : Bool). check causes.Moment test >>= (λ in_range. ok_or causes.Connection (at_id event.connection connections))) e

pub called-in_time : (connections : List (ℕ × Connection)) (event : Event) → event.moment ≤ last_moment
    → called connections event ≡ ok_or causes.Connection (at_id event.connection connections)
called-in_time connections event in_time =
    let e : nat_le event.moment last_moment ≡ true = grind (arith, nat_tests) in
    ap (λ (test : Bool). check causes.Moment test >>= (λ in_range. ok_or causes.Connection (at_id event.connection connections))) e

module _ {G : Type 0} (admits : G → Ask → Verdict → G → Type 0) (state : State G) (event : Event) where
  -- a refusal of the first checks leaves the service
  refused-part : (cause : Cause) → ready state.connections event ≡ Err cause → (initiates : Bool) → TakesPart admits initiates state event (Refused (error_of cause)) state
  refused-part cause e true =
      let T : Result (Connection × List ℕ) Cause → Type 0 = λ f. TakesTurn state event f (Refused (error_of cause)) state in
      subst T (sym (ap (heard_by event) e)) (refl, refl)
  refused-part cause e false =
      let B : Result (Connection × List ℕ) Cause → Type 0 = λ f. Behind admits state event f (Refused (error_of cause)) state in
      subst B (sym (ap (reached_by event) e)) (refl, refl)

  refused-onward : (cause : Cause) → called state.connections event ≡ Err cause → (answer : Option (Result (List ℕ) NetFault))
      → StepsOnward admits answer state event (Refused (error_of cause)) state
  refused-onward cause e (Some answer) =
      let T : Result (Connection × Run) Cause → Type 0 = λ f. TakesAnswer state event f answer (Refused (error_of cause)) state in
      subst T (sym (ap (λ (found : Result Connection Cause). found >>= (λ connection. awaited_by connection.exchange connection)) e)) (refl, refl)
  refused-onward cause e None =
      refused-part cause (ap (λ (found : Result Connection Cause). found >>= (λ connection. ready_by connection.exchange connection)) e) (is_initiator event.connection state.connections)

  refused-by : (cause : Cause) → called state.connections event ≡ Err cause → (call : Bool) → StepsBy admits call state event (Refused (error_of cause)) state
  refused-by cause e true =
      let A : Result Connection Cause → Type 0 = λ f. AnswersCall state event f (Refused (error_of cause)) state in
      subst A (sym (ap (λ (found : Result Connection Cause). found >>= (λ connection. ready_by connection.exchange connection)) e)) (refl, refl)
  refused-by cause e false = refused-onward cause e (answer_of event.input)

  pub step-refused : (cause : Cause) → called state.connections event ≡ Err cause → Steps admits state event (Refused (error_of cause)) state
  step-refused cause e = refused-by cause e (is_call event.input)

  -- the connections are unchanged if the connection is
  pub connection-stays : (connection next : Connection) → at_id event.connection state.connections ≡ Some connection → next ≡ connection
      → set_value (is_at (nat_cmp event.connection)) state.connections next ≡ state.connections
  connection-stays connection next stands same =
      ap (λ (c : Connection). set_value (is_at (nat_cmp event.connection)) state.connections c) same
      ∙ set_same (is_at (nat_cmp event.connection)) state.connections connection stands

  module _ (connection : Connection) (reply : Reply) (next : Connection) (gate : G) (stands : at_id event.connection state.connections ≡ Some connection) where
    abbrev after : State G
    after = record { connections = set_value (is_at (nat_cmp event.connection)) state.connections next; env = state.env; gate = gate }

    refused-there : (cause : Cause) → Refuses cause connection reply next × (gate ≡ state.gate) → (reply ≡ Refused (error_of cause)) × (after ≡ state)
    refused-there cause h = (
      h.0.0,
      ap (λ (c : List (ℕ × Connection)). record { connections = c; env = state.env; gate = gate }) (connection-stays connection next stands h.0.1)
          ∙ ap (λ (g : G). record { connections = state.connections; env = state.env; gate = g }) h.1,
    )

    call-there : (waits : Option Run) → IsTimelyThere admits state.env connection state.gate waits true event reply next gate → AnswersCall state event (ready_by waits connection) reply after
    call-there None h = record {
      context = next.context;
      calls = h.0.calls;
      connections = ap (λ (c : Connection). set_value (is_at (nat_cmp event.connection)) state.connections c) h.0.rest;
      env = refl;
      gate = h.1;
    }
    call-there (Some run) h = refused-there causes.Sequence h

    answer-there : (waits : Option Run) (answer : Result (List ℕ) NetFault) → TakesAnswerThere waits connection answer (draw_of event) reply next × (gate ≡ state.gate)
        → TakesAnswer state event (awaited_by waits connection) answer reply after
    answer-there None answer h = refused-there causes.Sequence h
    answer-there (Some run) answer h = record { next = next; goes_on = h.0; connections = refl; env = refl; gate = h.1 }

    turn-there : (token : Result (List ℕ) Cause) → InitiatesThere connection state.env event.flags token (draw_of event) reply next × (gate ≡ state.gate)
        → TakesTurn state event (token >>= (λ octets. Ok (connection, octets))) reply after
    turn-there (Ok token) h = record { next = next; undertakes = h.0; connections = refl; env = refl; gate = h.1 }
    turn-there (Err cause) h = refused-there cause h

    token-there : (token : Option (List ℕ)) → AcceptsThere admits state.env connection state.gate event.flags token (draw_of event) reply next gate
        → Behind admits state event (token_by connection token) reply after
    token-there None h = refused-there causes.Sequence h
    token-there (Some token) h = record { answer = h.answer; server = h.server; accepts = h.accepts; next = next; settles = h.settles; connections = refl; env = refl }

    -- by the role
    role-there : (initiates : Bool) → is_none connection.context.server ≡ initiates
        → TakesPartThere admits state.env connection state.gate initiates event.flags (token_heard connection.context.state event.input) (input_token event.input) (draw_of event) reply next gate
        → ready state.connections event ≡ Ok connection → TakesPart admits initiates state event reply after
    role-there true is h found =
        let T : Result (Connection × List ℕ) Cause → Type 0 = λ f. TakesTurn state event f reply after in
        subst T (sym (ap (heard_by event) found)) (turn-there (token_heard connection.context.state event.input) h)
    role-there false is h found =
        let B : Result (Connection × List ℕ) Cause → Type 0 = λ f. Behind admits state event f reply after in
        let judged : Bool → Result (Connection × List ℕ) Cause = λ test. check causes.Sequence test >>= (λ judges. token_by connection (input_token event.input)) in
        subst B (sym (ap (reached_by event) found ∙ ap judged (acceptor_is connection.context.server is))) (token-there (input_token event.input) h)

    initiates-there : is_initiator event.connection state.connections ≡ is_none connection.context.server
    initiates-there = ap is_initiating stands

    part-there : (waits : Option Run) → IsTimelyThere admits state.env connection state.gate waits false event reply next gate
        → ready state.connections event ≡ ready_by waits connection → TakesPart admits (is_initiator event.connection state.connections) state event reply after
    part-there None h found =
        let T : Bool → Type 0 = λ b. TakesPart admits b state event reply after in
        subst T (sym initiates-there) (role-there (is_none connection.context.server) refl h found)
    part-there (Some run) h found =
        let r = refused-there causes.Sequence h in
        let T : Reply → State G → Type 0 = λ answered behind. TakesPart admits (is_initiator event.connection state.connections) state event answered behind in
        subst (λ (s : State G). T reply s) (sym r.1) (subst (λ (y : Reply). T y state) (sym r.0) (refused-part causes.Sequence found (is_initiator event.connection state.connections)))

    ready-there : called state.connections event ≡ Ok connection → ready state.connections event ≡ ready_by connection.exchange connection
    ready-there found = ap (λ (f : Result Connection Cause). f >>= (λ connection. ready_by connection.exchange connection)) found

    onward-there : called state.connections event ≡ Ok connection → is_call event.input ≡ false → (answer : Option (Result (List ℕ) NetFault))
        → StepsThereBy admits state.env connection state.gate answer event reply next gate → StepsOnward admits answer state event reply after
    onward-there found is (Some answer) h =
        let T : Result (Connection × Run) Cause → Type 0 = λ f. TakesAnswer state event f answer reply after in
        subst T (sym (ap (λ (f : Result Connection Cause). f >>= (λ connection. awaited_by connection.exchange connection)) found)) (answer-there connection.exchange answer h)
    onward-there found is None h =
        let I : Bool → Type 0 = λ b. IsTimelyThere admits state.env connection state.gate connection.exchange b event reply next gate in
        part-there connection.exchange (subst I is h) (ready-there found)

    by-there : called state.connections event ≡ Ok connection → (call : Bool) → is_call event.input ≡ call
        → StepsThere admits state.env connection state.gate event reply next gate → StepsBy admits call state event reply after
    by-there found true is h =
        let A : Result Connection Cause → Type 0 = λ f. AnswersCall state event f reply after in
        let S : Option (Result (List ℕ) NetFault) → Type 0 = λ answer. StepsThereBy admits state.env connection state.gate answer event reply next gate in
        let I : Bool → Type 0 = λ b. IsTimelyThere admits state.env connection state.gate connection.exchange b event reply next gate in
        subst A (sym (ready-there found)) (call-there connection.exchange (subst I is (subst S (no_answer event.input is) h)))
    by-there found false is h = onward-there found is (answer_of event.input) h

    pub step-there : called state.connections event ≡ Ok connection → StepsThere admits state.env connection state.gate event reply next gate → Steps admits state event reply after
    step-there found h = by-there found (is_call event.input) refl h

module _ {G : Type 0} (admits : G → Ask → Verdict → G → Type 0) where
  -- the change that an event in time makes to a connection is a step of its service
  pub step-taken : (state last : State G) (event : Event) (connection next : Connection) (made : Result Reply OutOfMemory) → event.moment ≤ last_moment
      → at_id event.connection state.connections ≡ Some connection → last.connections ≡ set_value (is_at (nat_cmp event.connection)) state.connections next → last.env ≡ state.env
      → IfOk made (λ reply. StepsThere admits state.env connection state.gate event reply next last.gate) → IfOk made (λ reply. Steps admits state event reply last)
  step-taken state last event connection next (Ok reply) in_time stands put env h =
      let there : State G = record { connections = set_value (is_at (nat_cmp event.connection)) state.connections next; env = state.env; gate = last.gate } in
      let found = called-in_time state.connections event in_time ∙ ap (λ (o : Option Connection). ok_or causes.Connection o) stands in
      subst (λ (s : State G). Steps admits state event reply s) (sym (same_state last there put env refl)) (step-there admits state event connection reply next last.gate stands found h)
  step-taken state last event connection next (Err memory) in_time stands put env h = tt
