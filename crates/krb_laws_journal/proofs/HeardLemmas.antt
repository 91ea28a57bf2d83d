-- A run over a gate is also a run over another gate that keeps pace with it.
use Rattle.std.proofs.Common.{◌≡◌, ℕ, ◌+◌, ◌≤◌, Bool, true, false, List, [], ◌∷◌, length, Option, Some, None, Result, Ok, Err, refl, ap, sym, subst, arith}
use Rattle.krb_replay.specs.declared.ask.Ask.{Ask}
use Rattle.krb_replay.specs.declared.ask.Verdict.{Verdict}
use Rattle.krb_admission.specs.Accepts.{Asks}
use Rattle.krb_admission.specs.Requests.{ask_of}
use Rattle.krb_admission.specs.declared.request.Request.{Request}
use Rattle.krb_server.specs.Whole.{AcceptsToken}
use Rattle.krb_server.specs.declared.accept.Accepted.{Accepted}
use Rattle.krb_conf.specs.declared.env.Env.{Env}
use Rattle.krb_context.specs.declared.context.Kerberos.{Kerberos}
use Rattle.krb_context.specs.declared.rules.Rules.{Rules}
use Rattle.krb_exchange.specs.declared.user_to_user.TgtReq.{TgtReq}
use Rattle.sspi_core.specs.declared.cause.Cause.{Cause}
use Rattle.sspi_core.specs.declared.draw.Draw.{Draw}
use Rattle.sspi_generator.specs.declared.network.NetFault.{NetFault}
use Rattle.krb_script.specs.declared.item.Event.{Event}
use Rattle.krb_machine.specs.declared.connection.Connection.{Connection}
use Rattle.krb_machine.specs.declared.reply.Reply.{Reply}
use Rattle.krb_machine.specs.declared.run.Run.{Run}
use Rattle.krb_machine.specs.Described.{with_gate}
use Rattle.krb_machine.specs.Exchanges.{answer_of}
use Rattle.krb_machine.specs.MessageCalls.{is_call}
use Rattle.krb_machine.specs.Policy.{State, Behind, AnswersCall, TakesAnswer, TakesTurn, TakesPart, StepsOnward, StepsBy, Steps, Runs, reached, heard, ready, awaited, is_initiator}
use Rattle.krb_machine.proofs.CallLemmas.{call-gate}
use Rattle.krb_machine.proofs.ExchangeLemmas.{answer-gate, turn-gate}

-- the other gate after it has kept pace: a fact about it, and it has counted at most one more call
pub record Paced {G H : Type 0} (keeps : G → H → Type 0) (count : H → ℕ) (old : H) (new : G) (Holds : H → Type 0) : Type 0 where
  pub next : H
  pub holds : Holds next
  pub paces : keeps new next
  pub one : count next ≤ count old + 1

module _ {G H : Type 0} (admits : G → Ask → Verdict → G → Type 0) (hears : H → Ask → Verdict → H → Type 0) (keeps : G → H → Type 0) (count : H → ℕ)
    (step : (old new : G) (ask : Ask) (verdict : Verdict) (h : H) → keeps old h → admits old ask verdict new → Paced keeps count h new (λ next. hears h ask verdict next)) where
  -- the gate is not asked
  stays : (old new : G) (h : H) (Holds : H → Type 0) → new ≡ old → keeps old h → Holds h → Paced keeps count h new Holds
  stays old new h Holds same k holds = let K : G → Type 0 = λ g. keeps g h in record { next = h; holds = holds; paces = subst K (sym same) k; one = omega arith }

  asks_paced : (rules : Rules) (moment : ℕ) (old new : G) (h : H) (request : Result Request Cause) (verdict : Verdict) → keeps old h → Asks admits rules moment old request verdict new
      → Paced keeps count h new (λ next. Asks hears rules moment h request verdict next)
  asks_paced rules moment old new h (Ok request) verdict k asks = step old new (ask_of rules request moment) verdict h k asks
  asks_paced rules moment old new h (Err cause) verdict k same = stays old new h (λ next. next ≡ h) same k refl

  made_paced : (server : Kerberos) (dce : Bool) (token : List ℕ) (env : Env) (draw : Draw) (old new : G) (h : H) (found : Option TgtReq) (answer : Result Accepted Cause) (server' : Kerberos) → keeps old h
      → AcceptsToken admits server dce token env draw old found answer server' new → Paced keeps count h new (λ next. AcceptsToken hears server dce token env draw h found answer server' next)
  made_paced server dce token env draw old new h (Some tgt_req) answer server' k m =
      stays old new h (λ next. AcceptsToken hears server dce token env draw h (Some tgt_req) answer server' next) m.2 k (m.0, m.1, refl)
  made_paced server dce token env draw old new h None answer server' k m =
      let a = asks_paced server.rules draw.moment old new h m.accepts.request m.accepts.verdict k m.accepts.gate in
      record {
        next = a.next;
        holds = record {
          judged = m.judged;
          accepts = record {
            verdict = m.accepts.verdict;
            request = m.accepts.request;
            begun = m.accepts.begun;
            gate = a.holds;
            outcome = m.accepts.outcome;
            judged = m.accepts.judged;
            made = m.accepts.made;
          };
          answer_is = m.answer_is;
        };
        paces = a.paces;
        one = a.one;
      }

  behind_paced : (state after : State G) (h : H) (event : Event) (found : Result (Connection × List ℕ) Cause) (reply : Reply) → keeps state.gate h → Behind admits state event found reply after
      → Paced keeps count h after.gate (λ next. Behind hears (with_gate state h) event found reply (with_gate after next))
  behind_paced state after h event (Ok found) reply k j =
      let m = made_paced _ _ _ _ _ state.gate after.gate h j.accepts.tgt_req j.answer j.server k j.accepts.made in
      record {
        next = m.next;
        holds = record {
          answer = j.answer;
          server = j.server;
          accepts = record { tgt_req = j.accepts.tgt_req; found = j.accepts.found; made = m.holds };
          next = j.next;
          settles = j.settles;
          connections = j.connections;
          env = j.env;
        };
        paces = m.paces;
        one = m.one;
      }
  behind_paced state after h event (Err cause) reply k b =
      stays state.gate after.gate h (λ next. Behind hears (with_gate state h) event (Err cause) reply (with_gate after next)) (ap (λ (s : State G). s.gate) b.1) k
      (b.0, ap (λ (s : State G). with_gate s h) b.1)

  -- no gate is asked at a call, at an answer of the network, and at an initiator
  call_paced : (state after : State G) (h : H) (event : Event) (found : Result Connection Cause) (reply : Reply) → AnswersCall state event found reply after
      → AnswersCall (with_gate state h) event found reply (with_gate after h)
  call_paced state after h event (Ok connection) reply c = record { context = c.context; calls = c.calls; connections = c.connections; env = c.env; gate = refl }
  call_paced state after h event (Err cause) reply c = (c.0, ap (λ (s : State G). with_gate s h) c.1)

  answer_paced : (state after : State G) (h : H) (event : Event) (found : Result (Connection × Run) Cause) (answer : Result (List ℕ) NetFault) (reply : Reply) → TakesAnswer state event found answer reply after
      → TakesAnswer (with_gate state h) event found answer reply (with_gate after h)
  answer_paced state after h event (Ok found) answer reply s = record { next = s.next; goes_on = s.goes_on; connections = s.connections; env = s.env; gate = refl }
  answer_paced state after h event (Err cause) answer reply s = (s.0, ap (λ (s : State G). with_gate s h) s.1)

  turn_paced : (state after : State G) (h : H) (event : Event) (found : Result (Connection × List ℕ) Cause) (reply : Reply) → TakesTurn state event found reply after
      → TakesTurn (with_gate state h) event found reply (with_gate after h)
  turn_paced state after h event (Ok found) reply s = record { next = s.next; undertakes = s.undertakes; connections = s.connections; env = s.env; gate = refl }
  turn_paced state after h event (Err cause) reply s = (s.0, ap (λ (s : State G). with_gate s h) s.1)

  part_paced : (initiates : Bool) (state after : State G) (h : H) (event : Event) (reply : Reply) → keeps state.gate h → TakesPart admits initiates state event reply after
      → Paced keeps count h after.gate (λ next. TakesPart hears initiates (with_gate state h) event reply (with_gate after next))
  part_paced true state after h event reply k s =
      stays state.gate after.gate h (λ next. TakesPart hears true (with_gate state h) event reply (with_gate after next)) (turn-gate state event (heard state.connections event) reply after s) k
      (turn_paced state after h event (heard state.connections event) reply s)
  part_paced false state after h event reply k s = behind_paced state after h event (reached state.connections event) reply k s

  onward_paced : (answer : Option (Result (List ℕ) NetFault)) (state after : State G) (h : H) (event : Event) (reply : Reply) → keeps state.gate h → StepsOnward admits answer state event reply after
      → Paced keeps count h after.gate (λ next. StepsOnward hears answer (with_gate state h) event reply (with_gate after next))
  onward_paced (Some answer) state after h event reply k s =
      stays state.gate after.gate h (λ next. StepsOnward hears (Some answer) (with_gate state h) event reply (with_gate after next))
      (answer-gate state event (awaited state.connections event) answer reply after s) k (answer_paced state after h event (awaited state.connections event) answer reply s)
  onward_paced None state after h event reply k s = part_paced (is_initiator event.connection state.connections) state after h event reply k s

  by_paced : (called : Bool) (state after : State G) (h : H) (event : Event) (reply : Reply) → keeps state.gate h → StepsBy admits called state event reply after
      → Paced keeps count h after.gate (λ next. StepsBy hears called (with_gate state h) event reply (with_gate after next))
  by_paced true state after h event reply k s =
      stays state.gate after.gate h (λ next. StepsBy hears true (with_gate state h) event reply (with_gate after next)) (call-gate state event (ready state.connections event) reply after s) k
      (call_paced state after h event (ready state.connections event) reply s)
  by_paced false state after h event reply k s = onward_paced (answer_of event.input) state after h event reply k s

  -- a whole run
  pub record RunPaced (state : State G) (h : H) (events : List Event) (replies : List Reply) (after : State G) : Type 0 where
    pub later : H
    pub runs : Runs hears (with_gate state h) events replies (with_gate after later)
    pub paces : keeps after.gate later
    pub few : count later ≤ count h + length events

  pub run-paced : (state : State G) (h : H) (events : List Event) (replies : List Reply) (after : State G) → keeps state.gate h → Runs admits state events replies after → RunPaced state h events replies after
  run-paced state h [] [] after k runs =
      let K : State G → Type 0 = λ s. keeps s.gate h in
      record { later = h; runs = ap (λ (s : State G). with_gate s h) runs; paces = subst K (sym runs) k; few = omega arith }
  run-paced state h [] (reply ∷ replies) after k runs = absurd runs
  run-paced state h (event ∷ events) [] after k runs = absurd runs
  run-paced state h (event ∷ events) (reply ∷ replies) after k runs =
      let first = by_paced (is_call event.input) state runs.0 h event reply k runs.1 in
      let rest = run-paced runs.0 first.next events replies after first.paces runs.2 in
      let one = first.one in
      let few = rest.few in
      record { later = rest.later; runs = (with_gate runs.0 first.next, first.holds, rest.runs); paces = rest.paces; few = omega (arith, one, few) }
