-- A service over any gate: facts that follow from the obligations of every gate alone.
use Rattle.std.proofs.Common.{◌≡◌, ℕ, Bool, true, false, List, [], ◌∷◌, Option, Some, None, MatchOption, Result, Ok, Err, refl, ap, sym, ◌∙◌, subst}
use Rattle.krb_context.specs.declared.context.Kerberos.{Kerberos}
use Rattle.krb_context.specs.declared.rules.Rules.{Rules}
use Rattle.krb_replay.proofs.Window.{admitted_in_time}
use Rattle.krb_replay.specs.Clock.{clock_refusal}
use Rattle.krb_replay.specs.Gate.{IsJudged, IsOpen}
use Rattle.krb_replay.specs.Verdicts.{is_admitted}
use Rattle.krb_replay.specs.declared.ask.Ask.{Ask}
use Rattle.krb_replay.specs.declared.ask.Verdict.{Verdict}
use Rattle.krb_admission.proofs.Once.{begins_once, one_outcome_lem}
use Rattle.krb_admission.specs.Accepts.{Asks, BeginsAdmission, FinishesAdmission, DecidesAdmission, MakesAnswer, Ends, refusal, asks_dce_style}
use Rattle.krb_admission.proofs.Steps.{waits}
use Rattle.krb_admission.specs.Requests.{ask_of}
use Rattle.krb_server.specs.Whole.{JudgesOther, answered_as, AcceptsToken}
use Rattle.krb_server.specs.declared.accept.Accepted.{Accepted}
use Rattle.krb_conf.specs.declared.env.Env.{Env}
use Rattle.krb_exchange.specs.declared.user_to_user.TgtReq.{TgtReq}
use Rattle.sspi_generator.specs.declared.network.NetFault.{NetFault}
use Rattle.krb_admission.specs.declared.admission.Admission.{Admission}
use Rattle.krb_admission.specs.declared.request.Request.{Request}
use Rattle.krb_script.specs.declared.item.Event.{Event}
use Rattle.sspi_core.proofs.Chain.{halts, follows}
use Rattle.sspi_core.specs.Checks.{Passes, Goes, err_of, told, ◌>>◌}
use Rattle.sspi_core.specs.declared.error.Place.TheVariants.{Elsewhere}
use Rattle.sspi_core.specs.declared.cause.Cause.{Cause}
use Rattle.sspi_core.specs.declared.draw.Draw.{Draw}
use Rattle.krb_machine.specs.Exchanges.{answer_of}
use Rattle.krb_machine.specs.Policy.{State, Settles, Judges, Behind, TakesPart, StepsOnward, StepsBy, Steps, Runs, Brings, reached, heard, ready, awaited, is_initiator, reply_of, server_flags, draw_of}
use Rattle.krb_machine.specs.Reply.{admits_peer}
use Rattle.krb_machine.specs.declared.connection.Connection.{Connection}
use Rattle.krb_machine.specs.declared.reply.Reply.{Reply}
use Rattle.krb_machine.specs.MessageCalls.{is_call}
use Rattle.krb_machine.proofs.CallLemmas.{call-gate, token-step}
use Rattle.krb_machine.proofs.ExchangeLemmas.{settles_admitted, settles_refused, answer-gate, turn-gate}
use Rattle.krb_machine.proofs.LeftLemmas.{made_admission, judged-other, passed_admitted}

-- a request that passes is admitted by the gate
admitted_by : (server : Kerberos) (dce : Bool) (token : List ℕ) (draw : Draw) (verdict : Verdict) (request : Request) (admission : Admission) → BeginsAdmission server dce token (Ok request)
    → DecidesAdmission server dce token draw verdict (Ok admission) → is_admitted verdict ≡ true
unfolding DecidesAdmission
admitted_by server dce token draw verdict request admission begun judged =
    let same : judged.middle ≡ Ok request = (begins_once server dce token).same judged.middle (Ok request) judged.held begun in
    let R : Result Request Cause → Type 0 = λ m. Goes (λ (request : Request). Passes (refusal verdict) >> FinishesAdmission server dce draw request) m (Ok admission) in
    let passed : (Passes (refusal verdict) >> FinishesAdmission server dce draw request) (Ok admission) = subst R same judged.rest in
    passed_admitted verdict passed.middle _ admission passed.held.is passed.rest

-- a request that the gate refuses is refused for the gate's cause
refused_by : (server : Kerberos) (dce : Bool) (token : List ℕ) (draw : Draw) (verdict : Verdict) (request : Request) (cause : Cause) → BeginsAdmission server dce token (Ok request) → refusal verdict ≡ Some cause
    → DecidesAdmission server dce token draw verdict (Err cause)
unfolding DecidesAdmission
refused_by server dce token draw verdict request cause begun is = follows _ _ request _ begun (halts _ _ cause (Err cause) (record { is = sym (ap err_of is) }) refl)

open_not : (o : Option Verdict) (verdict v : Verdict) → MatchOption o (IsOpen verdict) (λ w. verdict ≡ w) → o ≡ Some v → verdict ≡ v
open_not None verdict v m e = absurd (cc)
open_not (Some w) verdict v m e = m ∙ some_same w v e
  where
    some_same : (w v : Verdict) → Some w ≡ Some v → w ≡ v
    some_same w v e = cc

-- a run leaves the skew of a gate whose calls leave it
module _ {G : Type 0} (admits : G → Ask → Verdict → G → Type 0) (skew : G → ℕ) (keeps : (old new : G) (ask : Ask) (verdict : Verdict) → admits old ask verdict new → skew new ≡ skew old) where
  asks_skew : (rules : Rules) (at : ℕ) (old new : G) (request : Result Request Cause) (verdict : Verdict) → Asks admits rules at old request verdict new → skew new ≡ skew old
  asks_skew rules at old new (Ok request) verdict step = keeps old new (ask_of rules request at) verdict step
  asks_skew rules at old new (Err cause) verdict same = ap skew same

  made_skew : (server : Kerberos) (dce : Bool) (token : List ℕ) (env : Env) (draw : Draw) (old : G) (found : Option TgtReq) (answer : Result Accepted Cause) (server' : Kerberos) (new : G)
      → AcceptsToken admits server dce token env draw old found answer server' new → skew new ≡ skew old
  made_skew server dce token env draw old (Some tgt_req) answer server' new made = ap skew made.2
  made_skew server dce token env draw old None answer server' new made = asks_skew server.rules draw.moment old new made.accepts.request made.accepts.verdict made.accepts.gate

  behind_skew : (state after : State G) (event : Event) (found : Result (Connection × List ℕ) Cause) (reply : Reply) → Behind admits state event found reply after → skew after.gate ≡ skew state.gate
  behind_skew state after event (Ok found) reply b = made_skew _ _ _ _ _ state.gate b.accepts.tgt_req b.answer b.server after.gate b.accepts.made
  behind_skew state after event (Err cause) reply b = ap (λ (s : State G). skew s.gate) b.1

  part_skew : (initiates : Bool) (state after : State G) (event : Event) (reply : Reply) → TakesPart admits initiates state event reply after → skew after.gate ≡ skew state.gate
  part_skew true state after event reply step = ap skew (turn-gate state event (heard state.connections event) reply after step)
  part_skew false state after event reply step = behind_skew state after event (reached state.connections event) reply step

  onward_skew : (answer : Option (Result (List ℕ) NetFault)) (state after : State G) (event : Event) (reply : Reply) → StepsOnward admits answer state event reply after → skew after.gate ≡ skew state.gate
  onward_skew (Some answer) state after event reply step = ap skew (answer-gate state event (awaited state.connections event) answer reply after step)
  onward_skew None state after event reply step = part_skew (is_initiator event.connection state.connections) state after event reply step

  step_skew : (is_call : Bool) (state after : State G) (event : Event) (reply : Reply) → StepsBy admits is_call state event reply after → skew after.gate ≡ skew state.gate
  step_skew true state after event reply step = ap skew (call-gate state event (ready state.connections event) reply after step)
  step_skew false state after event reply step = onward_skew (answer_of event.input) state after event reply step

  pub run_skew : (state after : State G) (events : List Event) (replies : List Reply) → Runs admits state events replies after → skew after.gate ≡ skew state.gate
  run_skew state after [] [] runs = ap (λ (s : State G). skew s.gate) runs
  run_skew state after [] (reply ∷ replies) runs = absurd runs
  run_skew state after (event ∷ events) [] runs = absurd runs
  run_skew state after (event ∷ events) (reply ∷ replies) runs =
      run_skew runs.0 after events replies runs.2 ∙ step_skew (is_call event.input) state runs.0 event reply runs.1

-- a gate's verdicts are the clock's if the clock refuses
module _ {G : Type 0} (admits : G → Ask → Verdict → G → Type 0) (skew moment : G → ℕ) (judged : (old new : G) (ask : Ask) (verdict : Verdict) → admits old ask verdict new → IsJudged (skew old) (moment new) ask verdict) where
  -- a request that reaches the gate is judged by it
  record GateJudges (state after : State G) (event : Event) (reply : Reply) (request : Request) (connection : Connection) (token : List ℕ) : Type 0 where
    judges : Judges admits state event connection token reply after
    other : JudgesOther admits connection.context (asks_dce_style (server_flags event.flags)) token (draw_of event) state.gate judges.answer judges.server after.gate
    verdict : IsJudged (skew state.gate) (moment after.gate) (ask_of connection.context.rules request event.moment) other.accepts.verdict

  gate_judges : (state after : State G) (event : Event) (reply : Reply) (request : Request) (step : Steps admits state event reply after) (b : Brings state.connections event request)
      → GateJudges state after event reply request b.connection b.token
  gate_judges state after event reply request step b =
      let j = token-step admits state event b.connection b.token reply after b.reaches step in
      let other = judged-other admits state after event reply b.connection b.token request j b.begun in
      let same = (begins_once b.connection.context (asks_dce_style (server_flags event.flags)) b.token).same other.accepts.request (Ok request) other.accepts.begun b.begun in
      let A : Result Request Cause → Type 0 = λ r. Asks admits b.connection.context.rules event.moment state.gate r other.accepts.verdict after.gate in
      record { judges = j; other = other; verdict = judged state.gate after.gate (ask_of b.connection.context.rules request event.moment) other.accepts.verdict (subst A same other.accepts.gate) }

  -- an event that admits its peer was in time
  pub done_in_time : (state after : State G) (event : Event) (reply : Reply) (request : Request) → Steps admits state event reply after → (b : Brings state.connections event request) → admits_peer reply ≡ true
      → clock_refusal (skew state.gate) (moment after.gate) (ask_of b.connection.context.rules request event.moment) ≡ None
  done_in_time state after event reply request step b done =
      let g = gate_judges state after event reply request step b in
      let other = g.other in
      let server = b.connection.context in
      let dce = asks_dce_style (server_flags event.flags) in
      let t = settles_admitted (draw_of event) _ g.judges.answer reply g.judges.next g.judges.settles done in
      let a = made_admission admits server dce b.token (draw_of event) state.gate after.gate g.judges.answer g.judges.server other t.accepted t.answer_is (ap admits_peer (sym t.reply_is) ∙ done) in
      let J : Result Admission Cause → Type 0 = λ o. DecidesAdmission server dce b.token (draw_of event) other.accepts.verdict o in
      admitted_in_time (skew state.gate) (moment after.gate) (ask_of server.rules request event.moment) other.accepts.verdict g.verdict
      (admitted_by server dce b.token (draw_of event) other.accepts.verdict request a.0 b.begun (subst J a.1 other.accepts.judged))

  -- a request that the clock refuses is refused for the clock's cause
  pub clock_refuses : (state after : State G) (event : Event) (reply : Reply) (request : Request) (v : Verdict) (cause : Cause) → Steps admits state event reply after → (b : Brings state.connections event request)
      → clock_refusal (skew state.gate) (moment after.gate) (ask_of b.connection.context.rules request event.moment) ≡ Some v → refusal v ≡ Some cause → reply ≡ reply_of (Err cause)
  clock_refuses state after event reply request v cause step b clock is =
      let g = gate_judges state after event reply request step b in
      let other = g.other in
      let server = b.connection.context in
      let dce = asks_dce_style (server_flags event.flags) in
      let draw = draw_of event in
      let same : other.accepts.verdict ≡ v = open_not (clock_refusal (skew state.gate) (moment after.gate) (ask_of server.rules request event.moment)) other.accepts.verdict v g.verdict.first clock in
      let J : Verdict → Type 0 = λ w. DecidesAdmission server dce b.token draw w other.accepts.outcome in
      let out = one_outcome_lem server dce b.token draw v other.accepts.outcome (Err cause) (subst J same other.accepts.judged) (refused_by server dce b.token draw v request cause b.begun is) in
      let E : Bool → Type 0 = λ last. Ends last server b.token other.accepts.outcome other.judged g.judges.server in
      let M : Result Admission Cause → Type 0 = λ o. MakesAnswer server o other.judged g.judges.server in
      let refused = (subst M out (subst E (waits server dce b.token request b.begun) other.accepts.made)).0 in
      let S : Result Accepted Cause → Type 0 = λ a. Settles draw (record b.connection { context = g.judges.server }) (told Elsewhere a) reply g.judges.next in
      settles_refused draw (record b.connection { context = g.judges.server }) cause reply g.judges.next (subst S (other.answer_is ∙ ap answered_as refused) g.judges.settles)
