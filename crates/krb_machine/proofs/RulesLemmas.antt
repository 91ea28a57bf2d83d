-- No event changes the rules of a connection, connections that lines describe have none, and a context without rules adds no check.
use Rattle.std.proofs.Common.{◌≡◌, ℕ, Bool, true, false, cond, List, [], ◌∷◌, Option, Some, None, Result, Ok, Err, refl, sym, ap, ◌∙◌, subst}
use Rattle.std.specs.Prelude.{◌==◌}
use Rattle.std.specs.Ordering.{nat_cmp}
use Rattle.std.specs.BTreeMap.{is_at}
use Rattle.std.specs.Map.{set_value}
use Rattle.std.proofs.lemmas.Bool.{eqb-true}
use Rattle.krb_conf.specs.declared.env.Env.{Env}
use Rattle.krb_context.specs.Rules.{no_rules}
use Rattle.krb_context.specs.declared.context.Kerberos.{Kerberos}
use Rattle.krb_context.specs.declared.rules.Rules.{Rules}
use Rattle.krb_exchange.specs.declared.user_to_user.TgtReq.{TgtReq}
use Rattle.krb_replay.specs.declared.ask.Ask.{Ask}
use Rattle.krb_replay.specs.declared.ask.Verdict.{Verdict}
use Rattle.krb_admission.specs.Accepts.{MakesAnswer, Ends, awaits_last_word}
use Rattle.krb_admission.specs.Admission.{settled as admitted}
use Rattle.krb_admission.specs.Allowed.{channel_held}
use Rattle.krb_admission.specs.ThirdLeg.{Closes}
use Rattle.krb_admission.specs.declared.admission.Answer.{Answer}
use Rattle.krb_admission.specs.declared.admission.Admission.{Admission}
use Rattle.krb_admission.specs.declared.request.Request.{Request}
use Rattle.krb_server.specs.Whole.{AcceptsToken}
use Rattle.krb_server.specs.declared.accept.Accepted.{Accepted}
use Rattle.krb_server.specs.declared.accept.Accepted.TheVariants as taken
use Rattle.krb_initiator.specs.declared.seeker.Initiation.{Initiation}
use Rattle.krb_script.specs.Script.{Setup, at_id}
use Rattle.krb_script.specs.declared.endpoint.Endpoint.{Endpoint}
use Rattle.krb_script.specs.declared.endpoint.Role.{Role}
use Rattle.krb_script.specs.declared.endpoint.Role.TheVariants.{Acceptor, Initiator}
use Rattle.krb_script.specs.declared.item.Event.{Event}
use Rattle.krb_script.specs.declared.input.Input.{Input}
use Rattle.krb_script.specs.declared.input.Input.TheVariants.{Token, Start, KdcReply, KdcFault, Wrap, Unwrap, MakeMic, VerifyMic}
use Rattle.sspi_core.specs.Buffer.{Buffer}
use Rattle.sspi_core.specs.declared.cause.Cause.{Cause}
use Rattle.sspi_core.specs.declared.draw.Draw.{Draw}
use Rattle.sspi_core.specs.declared.error.Error.{Error}
use Rattle.sspi_generator.specs.declared.network.NetFault.{NetFault}
use Rattle.krb_machine.specs.Admitted.{IsAllowed, GoBy}
use Rattle.krb_machine.specs.Described.{skew_of, service_of, connection_in, connection_of, connections_with}
use Rattle.krb_machine.specs.Exchanges.{answer_of, LeadsTo}
use Rattle.krb_machine.specs.Initiations.{SetsOut}
use Rattle.krb_machine.specs.MessageCalls.{is_call, IsSealedBy, IsOpenedBy, IsSignedBy, Calls}
use Rattle.krb_machine.specs.Policy.{State, ready, reached, heard, awaited, is_initiator, Settles, AnswersCall, TakesAnswer, TakesTurn, Behind, TakesPart, StepsOnward, StepsBy, Runs}
use Rattle.krb_machine.specs.declared.connection.Connection.{Connection}
use Rattle.krb_machine.specs.declared.exchange.Step.{Step}
use Rattle.krb_machine.specs.declared.exchange.Step.TheVariants.{Asks, Ends as EndsStep, Refused as RefusesStep}
use Rattle.krb_machine.specs.declared.reply.Reply.{Reply}
use Rattle.krb_machine.specs.declared.run.Run.{Run}
use Rattle.krb_machine.proofs.SetLemmas.{set-there, set-apart, ready-found, awaited-found, heard-found, reached-found}

-- ---- the rules of a connection

abbrev rules_of : Connection → Rules
rules_of connection = connection.context.rules

leads_rules : (connection : Connection) (step : Step) (reply : Reply) (next : Connection) → LeadsTo connection step reply next → rules_of next ≡ rules_of connection
leads_rules connection (Asks request run) reply next h = ap rules_of h.1
leads_rules connection (EndsStep done) reply next h = ap rules_of h.1
leads_rules connection (RefusesStep error) reply next h = ap rules_of h.1

sets_out_rules : (connection : Connection) (draw : Draw) (answer : Result Initiation Cause) (reply : Reply) (next : Connection) → SetsOut connection draw answer reply next → rules_of next ≡ rules_of connection
sets_out_rules connection draw (Ok initiation) reply next h = leads_rules connection h.3.step reply next h.3.leads
sets_out_rules connection draw (Err cause) reply next h = ap rules_of h.1

settles_rules : (draw : Draw) (connection : Connection) (answer : Result Accepted Error) (reply : Reply) (next : Connection) → Settles draw connection answer reply next → rules_of next ≡ rules_of connection
settles_rules draw connection (Ok (taken.Done status token admits)) reply next h = ap rules_of h.1
settles_rules draw connection (Ok (taken.Run run)) reply next h = leads_rules connection h.step reply next h.leads
settles_rules draw connection (Err error) reply next h = ap rules_of h.1

admitted_rules : (server : Kerberos) (admission : Admission) → (admitted server admission).rules ≡ server.rules
unfolding admitted
admitted_rules server admission = refl

makes_rules : (server : Kerberos) (outcome : Result Admission Cause) (answer : Result Answer Cause) (after : Kerberos) → MakesAnswer server outcome answer after → after.rules ≡ server.rules
makes_rules server (Ok admission) answer after h = ap (λ (k : Kerberos). k.rules) h.1 ∙ admitted_rules server admission
makes_rules server (Err cause) answer after h = ap (λ (k : Kerberos). k.rules) h.1

closes_rules : (server : Kerberos) (outcome : Result (Unit {0}) Cause) (answer : Result Answer Cause) (after : Kerberos) → Closes server outcome answer after → after.rules ≡ server.rules
closes_rules server (Ok u) answer after h = ap (λ (k : Kerberos). k.rules) h.1
closes_rules server (Err cause) answer after h = ap (λ (k : Kerberos). k.rules) h.1

ends_rules : (last : Bool) (server : Kerberos) (token : List ℕ) (outcome : Result Admission Cause) (answer : Result Answer Cause) (after : Kerberos)
    → Ends last server token outcome answer after → after.rules ≡ server.rules
ends_rules true server token outcome answer after h = closes_rules server h.outcome answer after h.closes
ends_rules false server token outcome answer after h = makes_rules server outcome answer after h

made_rules : {G : Type 0} (admits : G → Ask → Verdict → G → Type 0) (server : Kerberos) (dce : Bool) (token : List ℕ) (env : Env) (draw : Draw) (old : G) (found : Option TgtReq)
    (answer : Result Accepted Cause) (after : Kerberos) (new : G) → AcceptsToken admits server dce token env draw old found answer after new → after.rules ≡ server.rules
made_rules admits server dce token env draw old (Some tgt_req) answer after new h = ap (λ (k : Kerberos). k.rules) h.1
made_rules admits server dce token env draw old None answer after new h =
    ends_rules (awaits_last_word dce server.state) server token h.accepts.outcome h.judged after h.accepts.made

sealed_rules : (context : Kerberos) (answer : Result (List Buffer) Cause) (reply : Reply) (after : Kerberos) → IsSealedBy context answer reply after → after.rules ≡ context.rules
sealed_rules context (Ok message) reply after h = ap (λ (k : Kerberos). k.rules) h.1
sealed_rules context (Err cause) reply after h = ap (λ (k : Kerberos). k.rules) h.1

opened_rules : (context : Kerberos) (message : List Buffer) (answer : Result (List ℕ) Cause) (reply : Reply) (after : Kerberos) → IsOpenedBy context message answer reply after → after.rules ≡ context.rules
opened_rules context message (Ok text) reply after h = ap (λ (k : Kerberos). k.rules) h.1
opened_rules context message (Err cause) reply after h = ap (λ (k : Kerberos). k.rules) h.1

signed_rules : (context : Kerberos) (answer : Result (List ℕ) Cause) (reply : Reply) (after : Kerberos) → IsSignedBy context answer reply after → after.rules ≡ context.rules
signed_rules context (Ok token) reply after h = ap (λ (k : Kerberos). k.rules) h.1
signed_rules context (Err cause) reply after h = ap (λ (k : Kerberos). k.rules) h.1

call_rules : (input : Input) (context : Kerberos) (random : List ℕ) (reply : Reply) (after : Kerberos) → Calls input context random reply after → after.rules ≡ context.rules
call_rules (Token octets) context random reply after h = absurd h
call_rules Start context random reply after h = absurd h
call_rules (KdcReply octets) context random reply after h = absurd h
call_rules (KdcFault code) context random reply after h = absurd h
call_rules (Wrap message) context random reply after h = sealed_rules context h.answer reply after h.made
call_rules (Unwrap message) context random reply after h = opened_rules context message h.answer reply after h.made
call_rules (MakeMic payload) context random reply after h = signed_rules context h.answer reply after h.made
call_rules (VerifyMic token payload) context random reply after h = ap (λ (k : Kerberos). k.rules) h.stays

-- ---- the rules of every connection

some_same : (x y : Connection) (o : Option Connection) → o ≡ Some x → o ≡ Some y → x ≡ y
some_same x y o p q = let e : Some x ≡ Some y = sym p ∙ q in cc

module _ {G : Type 0} (rules : Rules) (state after : State G) (event : Event) (reply : Reply) (by : GoBy rules state) where
  stays_by : after ≡ state → GoBy rules after
  stays_by is = subst (λ (s : State G). GoBy rules s) (sym is) by

  module _ (connection next : Connection) (there : at_id event.connection state.connections ≡ Some connection)
      (put : after.connections ≡ set_value (is_at (nat_cmp event.connection)) state.connections next) (same : rules_of next ≡ rules_of connection) where
    put_at : (id : ℕ) (other : Connection) (here : Bool) → (event.connection == id) ≡ here → at_id id after.connections ≡ Some other → rules_of other ≡ rules
    put_at id other true e at =
        let is_id : event.connection ≡ id = eqb-true event.connection id e in
        let at_next : at_id id after.connections ≡ Some next =
        ap (λ (c : List (ℕ × Connection)). at_id id c) put
        ∙ subst (λ (n : ℕ). at_id n (set_value (is_at (nat_cmp event.connection)) state.connections next) ≡ Some next) is_id (set-there state.connections event.connection connection next there) in
        ap rules_of (some_same other next (at_id id after.connections) at at_next) ∙ same ∙ by event.connection connection there
    put_at id other false e at =
        by id other (sym (ap (λ (c : List (ℕ × Connection)). at_id id c) put ∙ set-apart state.connections event.connection id next e) ∙ at)

    put_by : GoBy rules after
    put_by id other at = put_at id other (event.connection == id) refl at

  call_by : (found : Result Connection Cause) → ready state.connections event ≡ found → AnswersCall state event found reply after → GoBy rules after
  call_by (Ok connection) is h =
      put_by connection (record connection { context = h.context }) (ready-found state.connections event connection is) h.connections (call_rules event.input connection.context event.random reply h.context h.calls)
  call_by (Err cause) is h = stays_by h.1

  answer_by : (found : Result (Connection × Run) Cause) (answer : Result (List ℕ) NetFault) → awaited state.connections event ≡ found → TakesAnswer state event found answer reply after → GoBy rules after
  answer_by (Ok found) answer is h =
      put_by found.0 h.next (awaited-found state.connections event found is) h.connections (leads_rules found.0 h.goes_on.step reply h.next h.goes_on.leads)
  answer_by (Err cause) answer is h = stays_by h.1

  turn_by : (found : Result (Connection × List ℕ) Cause) → heard state.connections event ≡ found → TakesTurn state event found reply after → GoBy rules after
  turn_by (Ok found) is h =
      put_by found.0 h.next (heard-found state.connections event found is) h.connections (sets_out_rules found.0 _ h.undertakes.answer reply h.next h.undertakes.sets_out)
  turn_by (Err cause) is h = stays_by h.1

  module _ (admits : G → Ask → Verdict → G → Type 0) where
    token_by : (found : Result (Connection × List ℕ) Cause) → reached state.connections event ≡ found → Behind admits state event found reply after → GoBy rules after
    token_by (Ok found) is h =
        put_by found.0 h.next (reached-found state.connections event found is) h.connections
        (settles_rules _ (record found.0 { context = h.server }) _ reply h.next h.settles
        ∙ made_rules admits found.0.context _ found.1 state.env _ state.gate h.accepts.tgt_req h.answer h.server after.gate h.accepts.made)
    token_by (Err cause) is h = stays_by h.1

    part_by : (initiates : Bool) → TakesPart admits initiates state event reply after → GoBy rules after
    part_by true h = turn_by (heard state.connections event) refl h
    part_by false h = token_by (reached state.connections event) refl h

    onward_by : (answer : Option (Result (List ℕ) NetFault)) → StepsOnward admits answer state event reply after → GoBy rules after
    onward_by (Some answer) h = answer_by (awaited state.connections event) answer refl h
    onward_by None h = part_by (is_initiator event.connection state.connections) h

    step_by : (call : Bool) → StepsBy admits call state event reply after → GoBy rules after
    step_by true h = call_by (ready state.connections event) refl h
    step_by false h = onward_by (answer_of event.input) h

pub run_by : {G : Type 0} (admits : G → Ask → Verdict → G → Type 0) (rules : Rules) (state after : State G) (events : List Event) (replies : List Reply) → Runs admits state events replies after → GoBy rules state → GoBy rules after
run_by {G} admits rules state after [] [] runs by = subst (λ (s : State G). GoBy rules s) (sym runs) by
run_by admits rules state after [] (reply ∷ replies) runs by = absurd runs
run_by admits rules state after (event ∷ events) [] runs by = absurd runs
run_by admits rules state after (event ∷ events) (reply ∷ replies) runs by =
    run_by admits rules runs.0 after events replies runs.2 (step_by rules state runs.0 event reply by admits (is_call event.input) runs.1)

-- ---- a context without rules

in_role : (skew : ℕ) (endpoint : Endpoint) (role : Role) → rules_of (connection_in skew endpoint role) ≡ no_rules
in_role skew endpoint (Acceptor service) = refl
in_role skew endpoint (Initiator target) = refl

first_or_rest : (passes : Bool) (first : Connection) (rest : Option Connection) (connection : Connection) → rules_of first ≡ no_rules → (rest ≡ Some connection → rules_of connection ≡ no_rules)
    → cond passes (Some first) rest ≡ Some connection → rules_of connection ≡ no_rules
first_or_rest true first rest connection none others e = ap rules_of (some_same connection first (Some first) e refl) ∙ none
first_or_rest false first rest connection none others e = others e

described_without : (skew : ℕ) (endpoints : List (ℕ × Endpoint)) (id : ℕ) (connection : Connection) → at_id id (connections_with skew endpoints) ≡ Some connection → rules_of connection ≡ no_rules
described_without skew [] id connection e = absurd cc
described_without skew (entry ∷ endpoints) id connection e =
    first_or_rest (is_at (nat_cmp id) entry.0) (connection_of skew entry.1) (at_id id (connections_with skew endpoints)) connection (in_role skew entry.1 entry.1.role)
    (λ rest. described_without skew endpoints id connection rest) e

pub service_without : (setup : Setup) → GoBy no_rules (service_of setup)
service_without setup id connection there = described_without (skew_of setup) setup.endpoints id connection there

pub allowed_without : (context : Kerberos) (request : Request) → context.rules ≡ no_rules → IsAllowed context request
allowed_without context request none =
    let held : channel_held context ≡ None = rw none refl in
    record { validated = rw none refl; transit = rw none refl; told = rw held refl; bound = rw held refl }
