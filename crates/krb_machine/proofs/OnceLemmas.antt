-- Over a gate whose step is determined, each event has one reply, and each run one list of replies.
use Rattle.std.proofs.Common.{◌≡◌, ℕ, Bool, true, false, List, [], ◌∷◌, ◌++◌, Option, Some, None, Result, Ok, Err, refl, sym, ap, ◌∙◌, subst}
use Rattle.std.specs.Ordering.{nat_cmp}
use Rattle.std.specs.BTreeMap.{is_at}
use Rattle.std.specs.Map.{set_value}
use Rattle.krb_context.specs.declared.context.Kerberos.{Kerberos}
use Rattle.krb_replay.specs.History.{History}
use Rattle.krb_replay.specs.declared.ask.Ask.{Ask}
use Rattle.krb_replay.specs.declared.ask.Verdict.{Verdict}
use Rattle.krb_admission.proofs.Once.{begins_once, one_outcome_lem, concludes_once}
use Rattle.krb_admission.specs.Accepts.{BeginsAdmission, FinishesAdmission, DecidesAdmission, Asks, MakesAnswer, Ends, Accepts, awaits_last_word, refusal, asks_dce_style}
use Rattle.krb_admission.specs.declared.admission.Answer.{Answer}
use Rattle.krb_server.proofs.Once.{IsSameAnswer, same_of_equal, found_once, tgt_req_once}
use Rattle.krb_server.specs.Whole.{answered_as, AcceptsWhole, AcceptsToken}
use Rattle.krb_server.specs.declared.accept.Accepted.{Accepted}
use Rattle.krb_conf.specs.declared.env.Env.{Env}
use Rattle.krb_exchange.specs.declared.user_to_user.TgtReq.{TgtReq}
use Rattle.sspi_generator.specs.declared.network.NetFault.{NetFault}
use Rattle.krb_admission.specs.declared.admission.Admission.{Admission}
use Rattle.krb_admission.specs.declared.request.Request.{Request}
use Rattle.krb_script.specs.declared.item.Event.{Event}
use Rattle.krb_script.specs.Script.{reading_of}
use Rattle.sspi_core.specs.Checks.{Passes, Goes, told, ◌>>◌}
use Rattle.sspi_core.specs.declared.error.Place.TheVariants.{Elsewhere}
use Rattle.sspi_core.specs.declared.cause.Cause.{Cause}
use Rattle.sspi_core.specs.declared.draw.Draw.{Draw}
use Rattle.krb_machine.specs.declared.connection.Connection.{Connection}
use Rattle.krb_machine.specs.declared.reply.Reply.{Reply}
use Rattle.krb_machine.specs.Exchanges.{answer_of}
use Rattle.krb_machine.specs.Policy.{State, Says, Settles, Judges, Behind, TakesPart, StepsOnward, StepsBy, Steps, Runs, reached, heard, ready, awaited, is_initiator, server_flags, draw_of}
use Rattle.krb_machine.specs.MessageCalls.{is_call}
use Rattle.krb_machine.proofs.CallLemmas.{call-once}
use Rattle.krb_machine.proofs.ExchangeLemmas.{settles_once, settles_same, answer-once, turn-once, same_state}
use Rattle.krb_machine.specs.Described.{Remembers, skew_of, service_of}
use Rattle.krb_machine.specs.Reply.{replies_text}
use Rattle.krb_machine.specs.Text.{IsText, last_line}

-- if the checks before the gate refuse, the verdict does not matter
pub judged_refused : (server : Kerberos) (dce : Bool) (token : List ℕ) (draw : Draw) (verdict : Verdict) (cause : Cause) (outcome : Result Admission Cause) → BeginsAdmission server dce token (Err cause)
    → DecidesAdmission server dce token draw verdict outcome → outcome ≡ Err cause
unfolding DecidesAdmission
judged_refused server dce token draw verdict cause outcome begun judged =
    let same : judged.middle ≡ Err cause = (begins_once server dce token).same judged.middle (Err cause) judged.held begun in
    let R : Result Request Cause → Type 0 = λ m. Goes (λ (request : Request). Passes (refusal verdict) >> FinishesAdmission server dce draw request) m outcome in
    subst R same judged.rest

makes_once : (server : Kerberos) (o : Result Admission Cause) (r s : Result Answer Cause) (a b : Kerberos) → MakesAnswer server o r a → MakesAnswer server o s b → (r ≡ s) × (a ≡ b)
makes_once server (Ok admission) r s a b h k = (h.0 ∙ sym k.0, h.1 ∙ sym k.1)
makes_once server (Err cause) r s a b h k = (h.0 ∙ sym k.0, h.1 ∙ sym k.1)

ends_once : (last : Bool) (server : Kerberos) (token : List ℕ) (o : Result Admission Cause) (r s : Result Answer Cause) (a b : Kerberos) → Ends last server token o r a → Ends last server token o s b → (r ≡ s) × (a ≡ b)
ends_once true server token o r s a b h k = concludes_once server token r s a b h k
ends_once false server token o r s a b h k = makes_once server o r s a b h k

-- the gate's step is determined
pub record IsDetermined {G : Type 0} (admits : G → Ask → Verdict → G → Type 0) : Type 0 where
  pub same : (old : G) (ask : Ask) (v w : Verdict) (a b : G) → admits old ask v a → admits old ask w b → (v ≡ w) × (a ≡ b)

pub says-determined : {G : Type 0} (verdict : Verdict) → IsDetermined (Says {G = G} verdict)
says-determined verdict = record { same = λ old ask v w a b h k. (h.0 ∙ sym k.0, h.1 ∙ sym k.1) }

pub remembers-determined : (skew : ℕ) → IsDetermined (Remembers skew)
remembers-determined skew = record { same = λ old ask v w a b h k. (h.0 ∙ sym k.0, h.1 ∙ sym k.1) }

module _ {G : Type 0} (admits : G → Ask → Verdict → G → Type 0) (determined : IsDetermined admits) where
  outcome_once : (server : Kerberos) (dce : Bool) (token : List ℕ) (draw : Draw) (old : G) (p q : Result Request Cause) (v w : Verdict) (a b : G) (o u : Result Admission Cause) → p ≡ q
      → BeginsAdmission server dce token p → Asks admits server.rules draw.moment old p v a → Asks admits server.rules draw.moment old q w b
      → DecidesAdmission server dce token draw v o → DecidesAdmission server dce token draw w u → (o ≡ u) × (a ≡ b)
  outcome_once server dce token draw old (Ok x) (Ok y) v w a b o u e begun h k j l =
      let P : Result Request Cause → Type 0 = λ r. Asks admits server.rules draw.moment old r w b in
      let same = determined.same old _ v w a b h (subst P (sym e) k) in
      let J : Verdict → Type 0 = λ x. DecidesAdmission server dce token draw x o in
      (one_outcome_lem server dce token draw w o u (subst J same.0 j) l, same.1)
  outcome_once server dce token draw old (Err x) (Err y) v w a b o u e begun h k j l =
      (judged_refused server dce token draw v x o begun j ∙ sym (judged_refused server dce token draw w x u begun l), h ∙ sym k)
  outcome_once server dce token draw old (Ok x) (Err y) v w a b o u e begun h k j l = absurd (cc)
  outcome_once server dce token draw old (Err x) (Ok y) v w a b o u e begun h k j l = absurd (cc)

  accepts_once : (server : Kerberos) (dce : Bool) (token : List ℕ) (draw : Draw) (old : G) (r s : Result Answer Cause) (x y : Kerberos) (a b : G) → Accepts admits server dce token draw old r x a
      → Accepts admits server dce token draw old s y b → (r ≡ s) × (x ≡ y) × (a ≡ b)
  accepts_once server dce token draw old r s x y a b h k =
      let asked = (begins_once server dce token).same h.request k.request h.begun k.begun in
      let same = outcome_once server dce token draw old h.request k.request h.verdict k.verdict a b h.outcome k.outcome asked h.begun h.gate k.gate h.judged k.judged in
      let last = awaits_last_word dce server.state in
      let M : Result Admission Cause → Type 0 = λ o. Ends last server token o s y in
      let made = ends_once last server token h.outcome r s x y h.made (subst M (sym same.0) k.made) in
      (made.0, made.1, same.1)

  makes_whole_once : (server : Kerberos) (dce : Bool) (token : List ℕ) (env : Env) (draw : Draw) (old : G) (found : Option TgtReq) (r s : Result Accepted Cause) (x y : Kerberos) (a b : G)
      → AcceptsToken admits server dce token env draw old found r x a → AcceptsToken admits server dce token env draw old found s y b → IsSameAnswer r s × (x ≡ y) × (a ≡ b)
  makes_whole_once server dce token env draw old (Some tgt_req) r s x y a b h k = (tgt_req_once server tgt_req dce env r s h.0 k.0, h.1 ∙ sym k.1, h.2 ∙ sym k.2)
  makes_whole_once server dce token env draw old None r s x y a b h k =
      let same = accepts_once server dce token draw old h.judged k.judged x y a b h.accepts k.accepts in
      (same_of_equal r s (h.answer_is ∙ ap answered_as same.0 ∙ sym k.answer_is), same.1, same.2)

  whole_once : (server : Kerberos) (dce : Bool) (token : List ℕ) (env : Env) (draw : Draw) (old : G) (r s : Result Accepted Cause) (x y : Kerberos) (a b : G)
      → AcceptsWhole admits server dce token env draw old r x a → AcceptsWhole admits server dce token env draw old s y b → IsSameAnswer r s × (x ≡ y) × (a ≡ b)
  whole_once server dce token env draw old r s x y a b h k =
      let M : Option TgtReq → Type 0 = λ f. AcceptsToken admits server dce token env draw old f s y b in
      makes_whole_once server dce token env draw old h.tgt_req r s x y a b h.made (subst M (sym (found_once dce server.state token h.tgt_req k.tgt_req h.found k.found)) k.made)

  judges_once : (state : State G) (event : Event) (connection : Connection) (token : List ℕ) (r s : Reply) (a b : State G) → Judges admits state event connection token r a
      → Judges admits state event connection token s b → (r ≡ s) × (a ≡ b)
  judges_once state event connection token r s a b h k =
      let draw = draw_of event in
      let same = whole_once connection.context (asks_dce_style (server_flags event.flags)) token state.env draw state.gate h.answer k.answer h.server k.server a.gate b.gate h.accepts k.accepts in
      let S : Kerberos → Type 0 = λ server. Settles draw (record connection { context = server }) (told Elsewhere k.answer) s k.next in
      let moved = settles_same draw (record connection { context = h.server }) h.answer k.answer s k.next same.0 (subst S (sym same.1) k.settles) in
      let settled = settles_once draw (record connection { context = h.server }) (told Elsewhere h.answer) r s h.next k.next h.settles moved in
      let put : Connection → List (ℕ × Connection) = λ next. set_value (is_at (nat_cmp event.connection)) state.connections next in
      (settled.0, same_state a b (h.connections ∙ ap put settled.1 ∙ sym k.connections) (h.env ∙ sym k.env) same.2)

  behind_once : (state : State G) (event : Event) (found : Result (Connection × List ℕ) Cause) (r s : Reply) (a b : State G) → Behind admits state event found r a
      → Behind admits state event found s b → (r ≡ s) × (a ≡ b)
  behind_once state event (Ok found) r s a b h k = judges_once state event found.0 found.1 r s a b h k
  behind_once state event (Err cause) r s a b h k = (h.0 ∙ sym k.0, h.1 ∙ sym k.1)

  part_once : (initiates : Bool) (state : State G) (event : Event) (r s : Reply) (a b : State G) → TakesPart admits initiates state event r a → TakesPart admits initiates state event s b → (r ≡ s) × (a ≡ b)
  part_once true state event r s a b h k = turn-once state event (heard state.connections event) r s a b h k
  part_once false state event r s a b h k = behind_once state event (reached state.connections event) r s a b h k

  onward_once : (answer : Option (Result (List ℕ) NetFault)) (state : State G) (event : Event) (r s : Reply) (a b : State G) → StepsOnward admits answer state event r a → StepsOnward admits answer state event s b
      → (r ≡ s) × (a ≡ b)
  onward_once (Some answer) state event r s a b h k = answer-once state event (awaited state.connections event) answer r s a b h k
  onward_once None state event r s a b h k = part_once (is_initiator event.connection state.connections) state event r s a b h k

  step_by_once : (is_call : Bool) (state : State G) (event : Event) (r s : Reply) (a b : State G) → StepsBy admits is_call state event r a → StepsBy admits is_call state event s b → (r ≡ s) × (a ≡ b)
  step_by_once true state event r s a b h k = call-once state event (ready state.connections event) r s a b h k
  step_by_once false state event r s a b h k = onward_once (answer_of event.input) state event r s a b h k

  pub step-once : (state : State G) (event : Event) (r s : Reply) (a b : State G) → Steps admits state event r a → Steps admits state event s b → (r ≡ s) × (a ≡ b)
  step-once state event r s a b h k = step_by_once (is_call event.input) state event r s a b h k

  pub runs-once : (state : State G) (events : List Event) (r s : List Reply) (a b : State G) → Runs admits state events r a → Runs admits state events s b → (r ≡ s) × (a ≡ b)
  runs-once state [] [] [] a b h k = (refl, h ∙ sym k)
  runs-once state [] [] (y ∷ s) a b h k = absurd k
  runs-once state [] (x ∷ r) s a b h k = absurd h
  runs-once state (event ∷ events) [] s a b h k = absurd h
  runs-once state (event ∷ events) (x ∷ r) [] a b h k = absurd k
  runs-once state (event ∷ events) (x ∷ r) (y ∷ s) a b h k =
      let one = step-once state event x y h.0 k.0 h.1 k.1 in
      let R : State G → Type 0 = λ t. Runs admits t events s b in
      let rest = runs-once h.0 events r s a b h.2 (subst R (sym one.1) k.2) in
      (ap (λ z. z ∷ r) one.0 ∙ ap (λ l. y ∷ l) rest.0, rest.1)

-- each input has one text
pub text-once : (input a b : List ℕ) → IsText input a → IsText input b → a ≡ b
text-once input a b h k =
    let so_far = (reading_of input).so_far in
    let same = runs-once (Remembers (skew_of so_far.setup)) (remembers-determined (skew_of so_far.setup)) (service_of so_far.setup) so_far.events h.replies k.replies h.after k.after h.answered.runs k.answered.runs in
    let line : List Reply → History → List ℕ = λ rs g. last_line (reading_of input).stop (reading_of input).number so_far.setup rs g in
    h.is ∙ ap (λ l. l ++ line h.replies h.after.gate) h.answered.is
    ∙ ap (λ rs. replies_text rs ++ line rs h.after.gate) same.0
    ∙ ap (λ (s : State History). replies_text k.replies ++ line k.replies s.gate) same.1
    ∙ sym (ap (λ l. l ++ line k.replies k.after.gate) k.answered.is)
    ∙ sym k.is
