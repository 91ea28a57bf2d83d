-- The records that the events of a run leave in the gate that never forgets, and the events that admit their peer.
use Rattle.std.proofs.Common.{◌≡◌, ℕ, Bool, true, false, List, [], ◌∷◌, ◌++◌, length, Option, Some, None, Result, Ok, Err, refl, sym, ap, ◌∙◌, subst, append_assoc}
use Rattle.std.specs.Prelude.{if◌then◌else◌}
use Rattle.std.proofs.lemmas.List.{append-nil}
use Rattle.krb_context.specs.declared.context.Kerberos.{Kerberos}
use Rattle.krb_context.specs.declared.rules.Rules.{Rules}
use Rattle.krb_replay.proofs.Runs.{admits_once}
use Rattle.krb_replay.specs.History.{History, verdict_of}
use Rattle.krb_replay.specs.Records.{IsDistinct}
use Rattle.krb_replay.specs.Verdicts.{is_admitted}
use Rattle.krb_replay.specs.declared.ask.Ask.{Ask}
use Rattle.krb_replay.specs.declared.ask.Verdict.{Verdict}
use Rattle.krb_replay.specs.declared.ask.Verdict.TheVariants.{Admitted, Skew, NotYet, Expired, Replayed}
use Rattle.krb_replay.specs.declared.record.Record.{Record}
use Rattle.krb_admission.proofs.Once.{begins_once}
use Rattle.krb_admission.proofs.Steps.{completed}
use Rattle.krb_admission.specs.Accepts.{BeginsAdmission, FinishesAdmission, DecidesAdmission, Asks, MakesAnswer, Ends, awaits_last_word, refusal, asks_dce_style}
use Rattle.krb_admission.specs.ThirdLeg.{Closes}
use Rattle.krb_admission.specs.Admission.{answer_for}
use Rattle.krb_admission.specs.Requests.{ask_of}
use Rattle.krb_admission.specs.declared.admission.Answer.{Answer}
use Rattle.krb_server.proofs.Once.{ap_req_begins_none}
use Rattle.krb_server.specs.Whole.{RunsAs, JudgesOther, accepted_as, answered_as, AcceptsToken}
use Rattle.krb_server.specs.declared.accept.Accepted.{Accepted}
use Rattle.krb_server.specs.declared.accept.Accepted.TheVariants as taken
use Rattle.krb_user_to_user.specs.declared.request.Beginning.{Beginning}
use Rattle.krb_exchange.specs.declared.user_to_user.TgtReq.{TgtReq}
use Rattle.krb_conf.specs.declared.env.Env.{Env}
use Rattle.sspi_generator.specs.declared.network.NetFault.{NetFault}
use Rattle.krb_admission.specs.declared.admission.Admission.{Admission}
use Rattle.krb_admission.specs.declared.request.Request.{Request}
use Rattle.krb_script.specs.declared.item.Event.{Event}
use Rattle.sspi_core.proofs.Chain.{follows}
use Rattle.sspi_core.specs.Checks.{Passes, Goes, err_of, told, ◌>>◌}
use Rattle.sspi_core.specs.declared.error.Place.TheVariants.{Elsewhere}
use Rattle.sspi_core.specs.declared.cause.Cause.{Cause}
use Rattle.sspi_core.specs.declared.draw.Draw.{Draw}
use Rattle.krb_machine.specs.declared.connection.Connection.{Connection}
use Rattle.krb_machine.specs.declared.reply.Reply.{Reply}
use Rattle.krb_machine.specs.Policy.{State, Settles, Judges, Behind, TakesPart, StepsOnward, StepsBy, Steps, Runs, reached, heard, ready, awaited, is_initiator, reply_of, server_flags, draw_of}
use Rattle.krb_machine.specs.Exchanges.{answer_of}
use Rattle.krb_machine.specs.Described.{Remembers}
use Rattle.krb_machine.specs.Left.{left_by, left_made, left_behind, left_by_part, left_onward, left_by_kind, record_left, records_left}
use Rattle.krb_machine.specs.MessageCalls.{is_call}
use Rattle.krb_machine.proofs.CallLemmas.{call-gate, call-admits_not, token-step}
use Rattle.krb_machine.proofs.ExchangeLemmas.{settles_admitted, settles_done, answer-gate, answer-admits_not, turn-gate, turn-admits_not}
use Rattle.krb_machine.specs.Reply.{admits_peer}

recorded_is : (records : List Record) (entry : Record) (b : Bool) → (if b then records ++ entry ∷ [] else records) ≡ records ++ (if b then entry ∷ [] else [])
recorded_is records entry true = refl
recorded_is records entry false = sym (append-nil records)

-- the records afterwards are those before and the one that is left, and none is there twice
record Leaves (before after : List Record) (left : List Record) : Type 0 where
  is : after ≡ before ++ left
  distinct : IsDistinct after

asks_left : (skew : ℕ) (rules : Rules) (moment : ℕ) (h : History) (request : Result Request Cause) (verdict : Verdict) (after : History) → Asks (Remembers skew) rules moment h request verdict after → IsDistinct h.admitted
    → Leaves h.admitted after.admitted (left_by rules request verdict moment)
asks_left skew rules moment h (Ok request) verdict after step distinct =
    let ask = ask_of rules request moment in
    let given = verdict_of skew h ask in
    let now : after.admitted ≡ h.admitted ++ (if is_admitted given then ask.entry ∷ [] else []) =
    ap (λ (g : History). g.admitted) step.1 ∙ recorded_is h.admitted ask.entry (is_admitted given) in
    let once : IsDistinct (h.admitted ++ (if is_admitted given then ask.entry ∷ [] else [])) = admits_once skew h (ask ∷ []) distinct in
    record {
      is = now ∙ ap (λ (v : Verdict). h.admitted ++ (if is_admitted v then ask.entry ∷ [] else [])) (sym step.0);
      distinct = subst IsDistinct (sym now) once;
    }
asks_left skew rules moment h (Err cause) verdict after same distinct =
    let D : History → Type 0 = λ g. IsDistinct g.admitted in
    record { is = ap (λ (g : History). g.admitted) same ∙ sym (append-nil h.admitted); distinct = subst D (sym same) distinct }

made_left_once : (skew : ℕ) (server : Kerberos) (dce : Bool) (token : List ℕ) (env : Env) (draw : Draw) (h : History) (found : Option TgtReq) (answer : Result Accepted Cause) (server' : Kerberos) (after : History)
    → (made : AcceptsToken (Remembers skew) server dce token env draw h found answer server' after) → IsDistinct h.admitted
    → Leaves h.admitted after.admitted (left_made (Remembers skew) server dce token env draw h found answer server' after made)
made_left_once skew server dce token env draw h (Some tgt_req) answer server' after made distinct =
    let D : History → Type 0 = λ g. IsDistinct g.admitted in
    record { is = ap (λ (g : History). g.admitted) made.2 ∙ sym (append-nil h.admitted); distinct = subst D (sym made.2) distinct }
made_left_once skew server dce token env draw h None answer server' after made distinct =
    asks_left skew server.rules draw.moment h made.accepts.request made.accepts.verdict after made.accepts.gate distinct

behind_left : (skew : ℕ) (state : State History) (event : Event) (found : Result (Connection × List ℕ) Cause) (reply : Reply) (after : State History)
    → (b : Behind (Remembers skew) state event found reply after) → IsDistinct state.gate.admitted
    → Leaves state.gate.admitted after.gate.admitted (left_behind (Remembers skew) state event found reply after b)
behind_left skew state event (Ok found) reply after b distinct = made_left_once skew _ _ _ _ _ state.gate b.accepts.tgt_req b.answer b.server after.gate b.accepts.made distinct
behind_left skew state event (Err cause) reply after b distinct =
    let D : State History → Type 0 = λ s. IsDistinct s.gate.admitted in
    record { is = ap (λ (s : State History). s.gate.admitted) b.1 ∙ sym (append-nil state.gate.admitted); distinct = subst D (sym b.1) distinct }

-- a step that leaves the gate leaves no record
stays_left : (old new : History) → new ≡ old → IsDistinct old.admitted → Leaves old.admitted new.admitted []
stays_left old new gate distinct =
    let D : History → Type 0 = λ h. IsDistinct h.admitted in
    record { is = ap (λ (h : History). h.admitted) gate ∙ sym (append-nil old.admitted); distinct = subst D (sym gate) distinct }

part_left : (skew : ℕ) (initiates : Bool) (state : State History) (event : Event) (reply : Reply) (after : State History) → (step : TakesPart (Remembers skew) initiates state event reply after) → IsDistinct state.gate.admitted
    → Leaves state.gate.admitted after.gate.admitted (left_by_part (Remembers skew) initiates state event reply after step)
part_left skew true state event reply after step distinct = stays_left state.gate after.gate (turn-gate state event (heard state.connections event) reply after step) distinct
part_left skew false state event reply after step distinct = behind_left skew state event (reached state.connections event) reply after step distinct

onward_left : (skew : ℕ) (answer : Option (Result (List ℕ) NetFault)) (state : State History) (event : Event) (reply : Reply) (after : State History)
    → (step : StepsOnward (Remembers skew) answer state event reply after) → IsDistinct state.gate.admitted
    → Leaves state.gate.admitted after.gate.admitted (left_onward (Remembers skew) answer state event reply after step)
onward_left skew (Some answer) state event reply after step distinct =
    stays_left state.gate after.gate (answer-gate state event (awaited state.connections event) answer reply after step) distinct
onward_left skew None state event reply after step distinct = part_left skew (is_initiator event.connection state.connections) state event reply after step distinct

step_left : (skew : ℕ) (b : Bool) (state : State History) (event : Event) (reply : Reply) (after : State History) (step : StepsBy (Remembers skew) b state event reply after) → IsDistinct state.gate.admitted
    → Leaves state.gate.admitted after.gate.admitted (left_by_kind (Remembers skew) b state event reply after step)
step_left skew true state event reply after step distinct = stays_left state.gate after.gate (call-gate state event (ready state.connections event) reply after step) distinct
step_left skew false state event reply after step distinct = onward_left skew (answer_of event.input) state event reply after step distinct

-- no record is left by two events of a run
pub left-once : (skew : ℕ) (state after : State History) (events : List Event) (replies : List Reply) (runs : Runs (Remembers skew) state events replies after)
    → IsDistinct state.gate.admitted → IsDistinct (state.gate.admitted ++ records_left (Remembers skew) state events replies after runs)
left-once skew state after [] replies runs distinct = subst IsDistinct (sym (append-nil state.gate.admitted)) distinct
left-once skew state after (event ∷ events) [] runs distinct = absurd runs
left-once skew state after (event ∷ events) (reply ∷ replies) runs distinct =
    let step = runs.1 in
    let one = step_left skew (is_call event.input) state event reply runs.0 step distinct in
    let left = record_left (Remembers skew) state event reply runs.0 step in
    let rest = records_left (Remembers skew) runs.0 events replies after runs.2 in
    subst IsDistinct (ap (λ l. l ++ rest) one.is ∙ append_assoc state.gate.admitted left rest) (left-once skew runs.0 after events replies runs.2 one.distinct)

-- an admission after the gate was admitted by the gate
pub passed_admitted : (verdict : Verdict) (middle : Result (Unit {0}) Cause) (next : Unit {0} → Result Admission Cause → Type 0) (admission : Admission) → middle ≡ err_of (refusal verdict) → Goes next middle (Ok admission)
    → is_admitted verdict ≡ true
passed_admitted Admitted middle next admission is goes = refl
passed_admitted Skew (Ok u) next admission is goes = absurd (cc)
passed_admitted Skew (Err e) next admission is goes = absurd (cc)
passed_admitted NotYet (Ok u) next admission is goes = absurd (cc)
passed_admitted NotYet (Err e) next admission is goes = absurd (cc)
passed_admitted Expired (Ok u) next admission is goes = absurd (cc)
passed_admitted Expired (Err e) next admission is goes = absurd (cc)
passed_admitted Replayed (Ok u) next admission is goes = absurd (cc)
passed_admitted Replayed (Err e) next admission is goes = absurd (cc)

one_left : (rules : Rules) (verdict : Verdict) (request : Request) (moment : ℕ) → is_admitted verdict ≡ true → length (left_by rules (Ok request) verdict moment) ≡ 1
one_left rules verdict request moment is = rw is refl

goes_left : (server : Kerberos) (dce : Bool) (token : List ℕ) (draw : Draw) (verdict : Verdict) (request : Result Request Cause) (admission : Admission) → BeginsAdmission server dce token request
    → DecidesAdmission server dce token draw verdict (Ok admission) → length (left_by server.rules request verdict draw.moment) ≡ 1
unfolding DecidesAdmission
goes_left server dce token draw verdict (Ok request) admission begun judged =
    let same : judged.middle ≡ Ok request = (begins_once server dce token).same judged.middle (Ok request) judged.held begun in
    let R : Result Request Cause → Type 0 = λ m. Goes (λ (request : Request). Passes (refusal verdict) >> FinishesAdmission server dce draw request) m (Ok admission) in
    let passed : (Passes (refusal verdict) >> FinishesAdmission server dce draw request) (Ok admission) = subst R same judged.rest in
    one_left server.rules verdict request draw.moment (passed_admitted verdict passed.middle _ admission passed.held.is passed.rest)
goes_left server dce token draw verdict (Err cause) admission begun judged =
    let same : judged.middle ≡ Err cause = (begins_once server dce token).same judged.middle (Err cause) judged.held begun in
    let R : Result Request Cause → Type 0 = λ m. Goes (λ (request : Request). Passes (refusal verdict) >> FinishesAdmission server dce draw request) m (Ok admission) in
    let refused : ◌≡◌ {A = Result Admission Cause} (Ok admission) (Err cause) = subst R same judged.rest in
    absurd (cc)

-- the third leg admits nobody
closed_not : (server : Kerberos) (outcome : Result (Unit {0}) Cause) (answer : Result Answer Cause) (after : Kerberos) → Closes server outcome answer after → admits_peer (reply_of answer) ≡ true → ⊥
closed_not server (Ok _) answer after closes done = let z = ap (λ a. admits_peer (reply_of a)) (sym closes.0) ∙ done in absurd cc
closed_not server (Err cause) answer after closes done = let z = ap (λ a. admits_peer (reply_of a)) (sym closes.0) ∙ done in absurd cc

made_left : (server : Kerberos) (outcome : Result Admission Cause) (answer : Result Answer Cause) (after : Kerberos) → MakesAnswer server outcome answer after → admits_peer (reply_of answer) ≡ true
    → (admission : Admission) × (outcome ≡ Ok admission)
made_left server (Ok admission) answer after made done = (admission, refl)
made_left server (Err cause) answer after made done =
    let is = made.0 in let refused : admits_peer (reply_of (Err cause)) ≡ true = ap (λ a. admits_peer (reply_of a)) (sym is) ∙ done in absurd (cc)

ends_left : (last : Bool) (server : Kerberos) (token : List ℕ) (outcome : Result Admission Cause) (answer : Result Answer Cause) (after : Kerberos) → Ends last server token outcome answer after → admits_peer (reply_of answer) ≡ true
    → (admission : Admission) × (outcome ≡ Ok admission)
ends_left true server token outcome answer after concludes done = absurd (closed_not server concludes.outcome answer after concludes.closes done)
ends_left false server token outcome answer after made done = made_left server outcome answer after made done

-- the answer that is reported
answer_in : Answer → Accepted → Answer
answer_in other (taken.Done status token admits) = record { status = status; token = token; admits = admits }
answer_in other (taken.Run run) = other

-- an answer of Ok was judged Ok
judged_ok : (judged : Result Answer Cause) (accepted : Answer) → ◌≡◌ {A = Result Accepted Cause} (Ok (accepted_as accepted)) (answered_as judged) → judged ≡ Ok accepted
unfolding answer_in
judged_ok (Ok judged) accepted e = let same : accepted_as accepted ≡ accepted_as judged = cc in ap Ok (sym (ap (answer_in judged) same))
judged_ok (Err cause) accepted e = absurd (cc)

module _ {G : Type 0} (admits : G → Ask → Verdict → G → Type 0) where
  -- an answer that admits its peer does so by an admission, which leaves a record
  pub made_admission : (server : Kerberos) (dce : Bool) (token : List ℕ) (draw : Draw) (old new : G) (answer : Result Accepted Cause) (server' : Kerberos) (other : JudgesOther admits server dce token draw old answer server' new) (accepted : Answer)
      → answer ≡ Ok (accepted_as accepted) → admits_peer (reply_of (Ok accepted)) ≡ true → (admission : Admission) × (other.accepts.outcome ≡ Ok admission)
  made_admission server dce token draw old new answer server' other accepted is done =
      let judged = judged_ok other.judged accepted (sym is ∙ other.answer_is) in
      let D : Result Answer Cause → Type 0 = λ j. admits_peer (reply_of j) ≡ true in
      ends_left (awaits_last_word dce server.state) server token other.accepts.outcome other.judged server' other.accepts.made (subst D (sym judged) done)

  no_run : (beginning : Result Beginning Cause) (answer : Result Accepted Cause) (accepted : Answer) → RunsAs beginning answer → answer ≡ Ok (accepted_as accepted) → ⊥
  no_run (Ok beginning) answer accepted runs is = let e = sym runs.1 ∙ is in absurd (cc)
  no_run (Err cause) answer accepted runs is = let e = sym runs ∙ is in absurd (cc)

  done_made : (server : Kerberos) (dce : Bool) (token : List ℕ) (env : Env) (draw : Draw) (old : G) (found : Option TgtReq) (answer : Result Accepted Cause) (server' : Kerberos) (new : G)
      → (made : AcceptsToken admits server dce token env draw old found answer server' new) (accepted : Answer) → answer ≡ Ok (accepted_as accepted) → admits_peer (reply_of (Ok accepted)) ≡ true
      → length (left_made admits server dce token env draw old found answer server' new made) ≡ 1
  done_made server dce token env draw old (Some tgt_req) answer server' new made accepted is done = absurd (no_run made.0.beginning answer accepted made.0.runs is)
  done_made server dce token env draw old None answer server' new made accepted is done =
      let a = made_admission server dce token draw old new answer server' made accepted is done in
      let J : Result Admission Cause → Type 0 = λ o. DecidesAdmission server dce token draw made.accepts.verdict o in
      goes_left server dce token draw made.accepts.verdict made.accepts.request a.0 made.accepts.begun (subst J a.1 made.accepts.judged)

  done_behind : (state : State G) (event : Event) (found : Result (Connection × List ℕ) Cause) (reply : Reply) (after : State G) → (b : Behind admits state event found reply after) → admits_peer reply ≡ true
      → length (left_behind admits state event found reply after b) ≡ 1
  done_behind state event (Ok found) reply after b done =
      let a = settles_admitted (draw_of event) _ b.answer reply b.next b.settles done in
      done_made _ _ _ _ _ state.gate b.accepts.tgt_req b.answer b.server after.gate b.accepts.made a.accepted a.answer_is (ap admits_peer (sym a.reply_is) ∙ done)
  done_behind state event (Err cause) reply after b done =
      let refused : admits_peer (reply_of (Err cause)) ≡ true = ap admits_peer (sym b.0) ∙ done in absurd (cc)

  done_part : (initiates : Bool) (state after : State G) (event : Event) (reply : Reply) (step : TakesPart admits initiates state event reply after) → admits_peer reply ≡ true
      → length (left_by_part admits initiates state event reply after step) ≡ 1
  done_part true state after event reply step done = absurd (turn-admits_not state event (heard state.connections event) reply after step done)
  done_part false state after event reply step done = done_behind state event (reached state.connections event) reply after step done

  done_onward : (answer : Option (Result (List ℕ) NetFault)) (state after : State G) (event : Event) (reply : Reply) (step : StepsOnward admits answer state event reply after) → admits_peer reply ≡ true
      → length (left_onward admits answer state event reply after step) ≡ 1
  done_onward (Some answer) state after event reply step done = absurd (answer-admits_not state event (awaited state.connections event) answer reply after step done)
  done_onward None state after event reply step done = done_part (is_initiator event.connection state.connections) state after event reply step done

  done_by : (b : Bool) (state after : State G) (event : Event) (reply : Reply) (step : StepsBy admits b state event reply after) → admits_peer reply ≡ true
      → length (left_by_kind admits b state event reply after step) ≡ 1
  done_by true state after event reply step done = absurd (call-admits_not state event (ready state.connections event) reply after step done)
  done_by false state after event reply step done = done_onward (answer_of event.input) state after event reply step done

  -- an event that admits its peer leaves one record
  pub done-left : (state after : State G) (event : Event) (reply : Reply) (step : Steps admits state event reply after) → admits_peer reply ≡ true → length (record_left admits state event reply after step) ≡ 1
  done-left state after event reply step done = done_by (is_call event.input) state after event reply step done

  -- if an AP-REQ reaches the gate, the token was judged as an AP-REQ
  pub judged-other : (state after : State G) (event : Event) (reply : Reply) (connection : Connection) (token : List ℕ) (request : Request) (j : Judges admits state event connection token reply after)
      → BeginsAdmission connection.context (asks_dce_style (server_flags event.flags)) token (Ok request)
      → JudgesOther admits connection.context (asks_dce_style (server_flags event.flags)) token (draw_of event) state.gate j.answer j.server after.gate
  judged-other state after event reply connection token request j begun =
      let dce = asks_dce_style (server_flags event.flags) in
      let M : Option TgtReq → Type 0 = λ f. AcceptsToken admits connection.context dce token state.env (draw_of event) state.gate f j.answer j.server after.gate in
      subst M (ap_req_begins_none connection.context dce token request begun j.accepts.tgt_req j.accepts.found) j.accepts.made

judged_admitted : (server : Kerberos) (dce : Bool) (token : List ℕ) (draw : Draw) (request : Request) (admission : Admission) → BeginsAdmission server dce token (Ok request) → FinishesAdmission server dce draw request (Ok admission)
    → DecidesAdmission server dce token draw Admitted (Ok admission)
unfolding DecidesAdmission
judged_admitted server dce token draw request admission begun finished = follows _ _ request _ begun (follows _ _ tt _ (record { is = refl }) finished)

asked_verdict : (skew : ℕ) (rules : Rules) (moment : ℕ) (h : History) (p : Result Request Cause) (request : Request) (verdict : Verdict) (after : History) → p ≡ Ok request → Asks (Remembers skew) rules moment h p verdict after
    → verdict ≡ verdict_of skew h (ask_of rules request moment)
asked_verdict skew rules moment h p request verdict after is asks =
    let A : Result Request Cause → Type 0 = λ r. Asks (Remembers skew) rules moment h r verdict after in (subst A is asks).0

-- an event that passes every check, and that the gate admits, is answered Done
pub passing-done : (skew : ℕ) (state after : State History) (event : Event) (reply : Reply) (connection : Connection) (token : List ℕ) (request : Request) (admission : Admission)
    → Steps (Remembers skew) state event reply after → reached state.connections event ≡ Ok (connection, token)
    → BeginsAdmission connection.context (asks_dce_style (server_flags event.flags)) token (Ok request) → verdict_of skew state.gate (ask_of connection.context.rules request event.moment) ≡ Admitted
    → FinishesAdmission connection.context (asks_dce_style (server_flags event.flags)) (draw_of event) request (Ok admission) → reply ≡ reply_of (Ok (answer_for admission))
passing-done skew state after event reply connection token request admission step reaches begun admitted finished =
    let j = token-step (Remembers skew) state event connection token reply after reaches step in
    let dce = asks_dce_style (server_flags event.flags) in
    let draw = draw_of event in
    let other = judged-other (Remembers skew) state after event reply connection token request j begun in
    let same = (begins_once connection.context dce token).same other.accepts.request (Ok request) other.accepts.begun begun in
    let verdict = asked_verdict skew connection.context.rules event.moment state.gate other.accepts.request request other.accepts.verdict after.gate same other.accepts.gate ∙ admitted in
    let done = completed (Remembers skew) connection.context dce token draw state.gate after.gate other.judged j.server admission other.accepts verdict (judged_admitted connection.context dce token draw request admission begun finished) in
    let S : Result Accepted Cause → Type 0 = λ a. Settles draw (record connection { context = j.server }) (told Elsewhere a) reply j.next in
    settles_done draw (record connection { context = j.server }) (answer_for admission) reply j.next (subst S (other.answer_is ∙ ap answered_as done.0) j.settles)
