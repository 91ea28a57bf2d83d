-- Exchanges with KDCs ask no gate and admit nobody, and each of their steps has one answer.
use Rattle.std.proofs.Common.{◌≡◌, ℕ, Bool, true, List, Option, Some, None, Result, Ok, Err, refl, sym, ap, ◌∙◌, subst}
use Rattle.std.specs.Ordering.{nat_cmp}
use Rattle.std.specs.BTreeMap.{is_at}
use Rattle.std.specs.Map.{set_value}
use Rattle.std.specs.Global.{Box}
use Rattle.krb_server.proofs.Once.{IsSameAnswer}
use Rattle.krb_server.specs.Whole.{accepted_as, answered_as, AcceptsToken, AcceptsWhole}
use Rattle.krb_server.specs.declared.accept.Accepted.{Accepted}
use Rattle.krb_server.specs.declared.accept.Accepted.TheVariants as taken
use Rattle.krb_conf.specs.declared.env.Env.{Env}
use Rattle.krb_machine.proofs.Once.{one_beginning, one_going_on, one_initiation}
use Rattle.krb_machine.specs.declared.exchange.Step.{Step}
use Rattle.krb_machine.specs.declared.exchange.Step.TheVariants.{Asks, Ends, Refused as Refuses}
use Rattle.krb_machine.specs.declared.run.Run.{Run}
use Rattle.krb_machine.specs.declared.run.Run.TheVariants.{Accepts, Initiates as Initiating}
use Rattle.krb_initiator.specs.declared.init_run.InitRun.{InitRun}
use Rattle.krb_initiator.specs.declared.options.InitOptions.{InitOptions}
use Rattle.krb_initiator.specs.declared.seeker.Initiation.{Initiation}
use Rattle.krb_context.specs.declared.context.Kerberos.{Kerberos}
use Rattle.krb_exchange.specs.declared.user_to_user.TgtReq.{TgtReq}
use Rattle.krb_replay.specs.declared.ask.Ask.{Ask}
use Rattle.krb_replay.specs.declared.ask.Verdict.{Verdict}
use Rattle.krb_admission.specs.declared.admission.Answer.{Answer}
use Rattle.krb_script.specs.declared.item.Event.{Event}
use Rattle.krb_user_to_user.specs.declared.accept_run.AcceptRun.{AcceptRun}
use Rattle.sspi_core.specs.Checks.{told}
use Rattle.sspi_core.specs.Kinds.{error_of}
use Rattle.sspi_core.specs.declared.cause.Cause.TheVariants.{Memory}
use Rattle.sspi_core.specs.declared.cause.Cause.{Cause}
use Rattle.sspi_core.specs.declared.draw.Draw.{Draw}
use Rattle.sspi_core.specs.declared.error.Error.{Error}
use Rattle.sspi_core.specs.declared.error.Place.TheVariants.{Elsewhere}
use Rattle.sspi_generator.specs.declared.network.NetFault.{NetFault}
use Rattle.krb_machine.specs.Exchanges.{LeadsTo, OpensExchange, GoesOn, StopsAt}
use Rattle.krb_machine.specs.Initiations.{options_of, SetsOut, Undertakes}
use Rattle.krb_machine.specs.Policy.{State, Settles, TakesAnswer, TakesTurn, draw_of, reply_of}
use Rattle.krb_machine.specs.Reply.{admits_peer}
use Rattle.krb_machine.specs.declared.connection.Connection.{Connection}
use Rattle.krb_machine.specs.declared.reply.Reply.{Reply}

-- nobody is admitted
leads_not : (connection : Connection) (step : Step) (reply : Reply) (next : Connection) → LeadsTo connection step reply next → admits_peer reply ≡ true → ⊥
leads_not connection (Asks request run) reply next h done = let z = ap admits_peer (sym h.0) ∙ done in absurd (cc)
leads_not connection (Ends value) reply next h done = let z = ap admits_peer (sym h.0) ∙ done in absurd (cc)
leads_not connection (Refuses error) reply next h done = let z = ap admits_peer (sym h.0) ∙ done in absurd (cc)

-- a reply that admits its peer is that of an accepted answer
pub record Admitted (answer : Result Accepted Cause) (reply : Reply) : Type 0 where
  pub accepted : Answer
  pub answer_is : answer ≡ Ok (accepted_as accepted)
  pub reply_is : reply ≡ reply_of (Ok accepted)

pub settles_admitted : (draw : Draw) (connection : Connection) (answer : Result Accepted Cause) (reply : Reply) (next : Connection) → Settles draw connection (told Elsewhere answer) reply next
    → admits_peer reply ≡ true → Admitted answer reply
settles_admitted draw connection (Ok (taken.Done status token admits)) reply next h done = record { accepted = record { status = status; token = token; admits = admits }; answer_is = refl; reply_is = h.0 }
settles_admitted draw connection (Ok (taken.Run run)) reply next h done = absurd (leads_not connection h.step reply next h.leads done)
settles_admitted draw connection (Err cause) reply next h done = let z = ap admits_peer (sym h.0) ∙ done in absurd (cc)

-- the reply to an answer that begins no exchange
pub settles_done : (draw : Draw) (connection : Connection) (accepted : Answer) (reply : Reply) (next : Connection) → Settles draw connection (told Elsewhere (Ok (accepted_as accepted))) reply next
    → reply ≡ reply_of (Ok accepted)
settles_done draw connection accepted reply next h = h.0

pub settles_refused : (draw : Draw) (connection : Connection) (cause : Cause) (reply : Reply) (next : Connection) → Settles draw connection (told Elsewhere (Err cause)) reply next
    → reply ≡ reply_of (Err cause)
settles_refused draw connection cause reply next h = h.0

-- one answer
leads_once : (connection : Connection) (step : Step) (r s : Reply) (a b : Connection) → LeadsTo connection step r a → LeadsTo connection step s b → (r ≡ s) × (a ≡ b)
leads_once connection (Asks request run) r s a b h k = (h.0 ∙ sym k.0, h.1 ∙ sym k.1)
leads_once connection (Ends value) r s a b h k = (h.0 ∙ sym k.0, h.1 ∙ sym k.1)
leads_once connection (Refuses error) r s a b h k = (h.0 ∙ sym k.0, h.1 ∙ sym k.1)

opens_once : (connection : Connection) (run : Run) (draw : Draw) (r s : Reply) (a b : Connection) → OpensExchange connection run draw r a → OpensExchange connection run draw s b → (r ≡ s) × (a ≡ b)
opens_once connection run draw r s a b h k =
    let L : Step → Type 0 = λ t. LeadsTo connection t s b in
    leads_once connection h.step r s a b h.leads (subst L (sym (one_beginning run draw h.step k.step h.begins k.begins)) k.leads)

goes_on_once : (connection : Connection) (run : Run) (answer : Result (List ℕ) NetFault) (draw : Draw) (r s : Reply) (a b : Connection) → GoesOn connection run answer draw r a → GoesOn connection run answer draw s b
    → (r ≡ s) × (a ≡ b)
goes_on_once connection run answer draw r s a b h k =
    let L : Step → Type 0 = λ t. LeadsTo connection t s b in
    leads_once connection h.step r s a b h.leads (subst L (sym (one_going_on run answer draw h.step k.step h.resumes k.resumes)) k.leads)

same_initiation : (x y : InitRun) → x.initiation ≡ y.initiation → x.phase ≡ y.phase → x ≡ y
same_initiation x y i p =
    ap (λ z. record { alloc = x.alloc; initiation = z; phase = x.phase }) i ∙ ap (λ z. record { alloc = x.alloc; initiation = y.initiation; phase = z }) p

sets_out_once : (connection : Connection) (draw : Draw) (answer : Result Initiation Cause) (r s : Reply) (a b : Connection) → SetsOut connection draw answer r a → SetsOut connection draw answer s b → (r ≡ s) × (a ≡ b)
sets_out_once connection draw (Ok initiation) r s a b h k =
    let same = same_initiation k.0 h.0 (k.1 ∙ sym h.1) (k.2 ∙ sym h.2) in
    let O : InitRun → Type 0 = λ run. OpensExchange connection (Initiating run) draw s b in
    opens_once connection (Initiating h.0) draw r s a b h.3 (subst O same k.3)
sets_out_once connection draw (Err cause) r s a b h k = (h.0 ∙ sym k.0, h.1 ∙ sym k.1)

undertakes_once : (connection : Connection) (options : InitOptions) (draw : Draw) (r s : Reply) (a b : Connection) → Undertakes connection options draw r a → Undertakes connection options draw s b → (r ≡ s) × (a ≡ b)
undertakes_once connection options draw r s a b h k =
    let S : Result Initiation Cause → Type 0 = λ answer. SetsOut connection draw answer s b in
    sets_out_once connection draw h.answer r s a b h.sets_out (subst S (sym (one_initiation connection.context options h.answer k.answer h.begins k.begins)) k.sets_out)

undertakes_not : (connection : Connection) (draw : Draw) (answer : Result Initiation Cause) (reply : Reply) (next : Connection) → SetsOut connection draw answer reply next → admits_peer reply ≡ true → ⊥
undertakes_not connection draw (Ok initiation) reply next h done = leads_not connection h.3.step reply next h.3.leads done
undertakes_not connection draw (Err cause) reply next h done = let z = ap admits_peer (sym h.0) ∙ done in absurd (cc)

pub settles_once : (draw : Draw) (connection : Connection) (answer : Result Accepted Error) (r s : Reply) (a b : Connection) → Settles draw connection answer r a → Settles draw connection answer s b → (r ≡ s) × (a ≡ b)
settles_once draw connection (Ok (taken.Done status token admits)) r s a b h k = (h.0 ∙ sym k.0, h.1 ∙ sym k.1)
settles_once draw connection (Ok (taken.Run run)) r s a b h k = opens_once connection (Accepts run.value) draw r s a b h k
settles_once draw connection (Err error) r s a b h k = (h.0 ∙ sym k.0, h.1 ∙ sym k.1)

-- the reply does not depend on the place of a run on the heap
pub settles_same : (draw : Draw) (connection : Connection) (answer other : Result Accepted Cause) (reply : Reply) (next : Connection) → IsSameAnswer answer other
    → Settles draw connection (told Elsewhere other) reply next → Settles draw connection (told Elsewhere answer) reply next
settles_same draw connection (Ok (taken.Done status token admits)) (Ok other) reply next same h =
    subst (λ (z : Accepted). Settles draw connection (Ok z) reply next) (sym same) h
settles_same draw connection (Ok (taken.Done status token admits)) (Err cause) reply next same h = absurd same
settles_same draw connection (Ok (taken.Run run)) (Ok (taken.Done status token admits)) reply next same h = absurd same
settles_same draw connection (Ok (taken.Run run)) (Ok (taken.Run other)) reply next same h =
    subst (λ (z : AcceptRun). OpensExchange connection (Accepts z) draw reply next) (sym same) h
settles_same draw connection (Ok (taken.Run run)) (Err cause) reply next same h = absurd same
settles_same draw connection (Err cause) other reply next same h =
    subst (λ (z : Result Accepted Cause). Settles draw connection (told Elsewhere z) reply next) (sym same) h

no_run_judged : (judged : Result Answer Cause) (run : Box AcceptRun) → ◌≡◌ {A = Result Accepted Cause} (Ok (taken.Run run)) (answered_as judged) → ⊥
no_run_judged (Ok judged) run e = absurd (cc)
no_run_judged (Err cause) run e = absurd (cc)

run_told : (answer : Result Accepted Cause) (run : Box AcceptRun) → ◌≡◌ {A = Result Accepted Error} (Ok (taken.Run run)) (told Elsewhere answer) → answer ≡ Ok (taken.Run run)
run_told (Ok x) run e = cc
run_told (Err cause) run e = absurd (cc)

module _ {G : Type 0} (admits : G → Ask → Verdict → G → Type 0) (is_same : G → G → Type 0) (same : (g : G) → is_same g g) (server : Kerberos) (dce : Bool) (token : List ℕ) (env : Env) (draw : Draw) (old : G) (server' : Kerberos) (new : G) where
  run_leaves : (found : Option TgtReq) (answer : Result Accepted Cause) (run : Box AcceptRun) → answer ≡ Ok (taken.Run run) → AcceptsToken admits server dce token env draw old found answer server' new → (server' ≡ server) × is_same old new
  run_leaves (Some tgt_req) answer run is made = (made.1, subst (λ (g : G). is_same old g) (sym made.2) (same old))
  run_leaves None answer run is made = absurd (no_run_judged made.judged run (sym is ∙ made.answer_is))

  -- if memory runs out after an acceptor's answer, context and gate are as before
  pub stopped_leaves : (result : Result Accepted Error) → StopsAt result
      → ((result ≡ Err (error_of Memory) → ⊥) → (answer : Result Accepted Cause) × (result ≡ told Elsewhere answer) × AcceptsWhole admits server dce token env draw old answer server' new)
      → (result ≡ Err (error_of Memory) → (server' ≡ server) × is_same old new) → (server' ≡ server) × is_same old new
  stopped_leaves (Ok (taken.Done status sent admits)) stops step memory = absurd stops
  stopped_leaves (Ok (taken.Run run)) stops step memory =
      let s = step (λ z. absurd (cc)) in run_leaves s.2.tgt_req s.0 run (run_told s.0 run s.1) s.2.made
  stopped_leaves (Err error) stops step memory = memory (ap Err stops)

module _ {G : Type 0} where
  -- services with the same parts are the same
  pub same_state : (a b : State G) → a.connections ≡ b.connections → a.env ≡ b.env → a.gate ≡ b.gate → a ≡ b
  same_state a b connections env gate =
      ap (λ (c : List (ℕ × Connection)). record { connections = c; env = a.env; gate = a.gate }) connections
      ∙ ap (λ (e : Env). record { connections = b.connections; env = e; gate = a.gate }) env
      ∙ ap (λ (g : G). record { connections = b.connections; env = b.env; gate = g }) gate

  -- an answer of the network leaves the gate and the environment
  pub answer-gate : (state : State G) (event : Event) (found : Result (Connection × Run) Cause) (answer : Result (List ℕ) NetFault) (reply : Reply) (after : State G) → TakesAnswer state event found answer reply after
      → after.gate ≡ state.gate
  answer-gate state event (Ok found) answer reply after h = h.gate
  answer-gate state event (Err cause) answer reply after h = ap (λ (s : State G). s.gate) h.1

  pub answer-env : (state : State G) (event : Event) (found : Result (Connection × Run) Cause) (answer : Result (List ℕ) NetFault) (reply : Reply) (after : State G) → TakesAnswer state event found answer reply after
      → after.env ≡ state.env
  answer-env state event (Ok found) answer reply after h = h.env
  answer-env state event (Err cause) answer reply after h = ap (λ (s : State G). s.env) h.1

  pub answer-admits_not : (state : State G) (event : Event) (found : Result (Connection × Run) Cause) (answer : Result (List ℕ) NetFault) (reply : Reply) (after : State G) → TakesAnswer state event found answer reply after
      → admits_peer reply ≡ true → ⊥
  answer-admits_not state event (Ok found) answer reply after h done = leads_not found.0 h.goes_on.step reply h.next h.goes_on.leads done
  answer-admits_not state event (Err cause) answer reply after h done = let z = ap admits_peer (sym h.0) ∙ done in absurd (cc)

  pub answer-once : (state : State G) (event : Event) (found : Result (Connection × Run) Cause) (answer : Result (List ℕ) NetFault) (r s : Reply) (a b : State G) → TakesAnswer state event found answer r a
      → TakesAnswer state event found answer s b → (r ≡ s) × (a ≡ b)
  answer-once state event (Ok found) answer r s a b h k =
      let same = goes_on_once found.0 found.1 answer (draw_of event) r s h.next k.next h.goes_on k.goes_on in
      let put : Connection → List (ℕ × Connection) = λ next. set_value (is_at (nat_cmp event.connection)) state.connections next in
      (same.0, same_state a b (h.connections ∙ ap put same.1 ∙ sym k.connections) (h.env ∙ sym k.env) (h.gate ∙ sym k.gate))
  answer-once state event (Err cause) answer r s a b h k = (h.0 ∙ sym k.0, h.1 ∙ sym k.1)

  -- an initiator leaves the gate and the environment
  pub turn-gate : (state : State G) (event : Event) (found : Result (Connection × List ℕ) Cause) (reply : Reply) (after : State G) → TakesTurn state event found reply after → after.gate ≡ state.gate
  turn-gate state event (Ok found) reply after h = h.gate
  turn-gate state event (Err cause) reply after h = ap (λ (s : State G). s.gate) h.1

  pub turn-env : (state : State G) (event : Event) (found : Result (Connection × List ℕ) Cause) (reply : Reply) (after : State G) → TakesTurn state event found reply after → after.env ≡ state.env
  turn-env state event (Ok found) reply after h = h.env
  turn-env state event (Err cause) reply after h = ap (λ (s : State G). s.env) h.1

  pub turn-admits_not : (state : State G) (event : Event) (found : Result (Connection × List ℕ) Cause) (reply : Reply) (after : State G) → TakesTurn state event found reply after → admits_peer reply ≡ true → ⊥
  turn-admits_not state event (Ok found) reply after h done = undertakes_not found.0 (draw_of event) h.undertakes.answer reply h.next h.undertakes.sets_out done
  turn-admits_not state event (Err cause) reply after h done = let z = ap admits_peer (sym h.0) ∙ done in absurd (cc)

  pub turn-once : (state : State G) (event : Event) (found : Result (Connection × List ℕ) Cause) (r s : Reply) (a b : State G) → TakesTurn state event found r a → TakesTurn state event found s b → (r ≡ s) × (a ≡ b)
  turn-once state event (Ok found) r s a b h k =
      let same = undertakes_once found.0 (options_of found.0 state.env event.flags found.1) (draw_of event) r s h.next k.next h.undertakes k.undertakes in
      let put : Connection → List (ℕ × Connection) = λ next. set_value (is_at (nat_cmp event.connection)) state.connections next in
      (same.0, same_state a b (h.connections ∙ ap put same.1 ∙ sym k.connections) (h.env ∙ sym k.env) (h.gate ∙ sym k.gate))
  turn-once state event (Err cause) r s a b h k = (h.0 ∙ sym k.0, h.1 ∙ sym k.1)
