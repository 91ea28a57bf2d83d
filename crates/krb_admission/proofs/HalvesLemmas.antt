-- The two halves of an admission, separately and one after the other.
use Rattle.std.proofs.Common.{◌≡◌, ℕ, Bool, true, false, if◌then◌else◌, List, Option, Some, None, Result, Ok, Err, refl, sym, ap, ap₂, ◌∙◌, subst}
use Rattle.std.proofs.Math.Logic.{∥∥₁_elim}
use Rattle.std.specs.Result.{IsErrAnd}
use Rattle.sspi_core.specs.declared.cause.Cause.{Cause}
use Rattle.sspi_core.specs.declared.cause.Cause.TheVariants.{Memory, Sequence}
use Rattle.sspi_core.specs.declared.draw.Draw.{Draw}
use Rattle.sspi_core.specs.Checks.{Takes, Holds, Passes, Gives, Goes, Then, Answers, ◌>>◌}
use Rattle.sspi_core.proofs.Chain.{halts, follows, stops, goes, answers, given, is_err, same_err}
use Rattle.sspi_core.proofs.Once.{Once, passes_once}
use Rattle.krb_replay.specs.declared.ask.Ask.{Ask}
use Rattle.krb_replay.specs.declared.ask.Verdict.{Verdict}
use Rattle.krb_replay.specs.declared.ask.Verdict.TheVariants as verdicts
use Rattle.krb_context.specs.declared.context.Kerberos.{Kerberos}
use Rattle.krb_context.specs.States.{is_waiting}
use Rattle.krb_context.specs.declared.rules.Rules.{Rules}
use Rattle.krb_admission.specs.declared.request.Request.{Request}
use Rattle.krb_admission.specs.declared.admission.Admission.{Admission}
use Rattle.krb_admission.specs.declared.admission.Answer.{Answer}
use Rattle.krb_context.specs.declared.server.ServerProperties.{ServerProperties}
use Rattle.krb_admission.specs.Allowed.{Allows}
use Rattle.krb_admission.specs.Requests.{Requests, ask_of}
use Rattle.krb_admission.specs.Complete.{Completes}
use Rattle.krb_admission.specs.Accepts.{BeginsAdmission, FinishesAdmission, DecidesAdmission, Asks, Accepts, MakesAnswer, Ends, awaits_last_word, refusal}
use Rattle.krb_admission.specs.Halves.{Prepared, Prepares, IsPrepared, with_keys, JudgesApReq, question, outcome_behind, PassesGate, AdmitsWhere, AdmitsPrepared, AdmitsNext, JudgesAndAdmits}
use Rattle.krb_admission.proofs.Begun.{passed}
use Rattle.krb_admission.proofs.Once.{begins_once}
use Rattle.krb_admission.proofs.Steps.{answered, waits, refused, answered_at_gate, finishes_refuses}

-- ---- the first half

pub refused_half : (server : Kerberos) (dce : Bool) (token : List ℕ) (draw : Draw) (e : Cause) (answer : Result Prepared Cause) → Answers (BeginsAdmission server dce token) (Err e) → IsErrAnd answer (λ d. d ≡ e) → Answers (JudgesApReq server dce token draw) answer
refused_half server dce token draw e answer h is = record {
  so = λ ne. subst (JudgesApReq server dce token draw) (sym (is_err answer e is)) (h.so (λ z. ne (is_err answer e is ∙ ap Err (same_err {A = Request} e Memory z))));
}

pub ready : (server : Kerberos) (dce : Bool) (token : List ℕ) (draw : Draw) (request : Request) (outcome : Result Admission Cause) → Answers (BeginsAdmission server dce token) (Ok request)
    → FinishesAdmission server dce draw request outcome → Prepares server dce token draw (record { request = request; outcome = outcome; moment = draw.moment; rules = server.rules })
ready server dce token draw request outcome begins finishes = record { begins = answered _ _ begins; finishes = finishes; moment = refl; rules = refl }

-- what follows the gate goes by no key
pub finishes_with : (keys : ServerProperties) (server : Kerberos) (dce : Bool) (draw : Draw) (request : Request) (outcome : Result Admission Cause) → FinishesAdmission server dce draw request outcome
    → FinishesAdmission (with_keys keys server) dce draw request outcome
unfolding FinishesAdmission
finishes_with keys server dce draw request outcome h = h

-- a context that waits, with these properties
module _ (server : Kerberos) (dce : Bool) (token : List ℕ) (u : Unit {0}) (properties : ServerProperties) (waits : Holds Sequence (is_waiting server.state) (Ok u)) (has : Takes Sequence server.server (Ok properties)) where
  pub no_request : (e : Cause) (answer : Result Request Cause) → Answers (Requests server.rules properties dce token) (Err e) → IsErrAnd answer (λ d. d ≡ e) → Answers (BeginsAdmission server dce token) answer
  unfolding BeginsAdmission
  no_request e answer h is = goes _ _ u _ (answers _ _ waits) (goes _ _ properties _ (answers _ _ has) (stops _ _ e _ h is))

  pub not_allowed : (request : Request) (e : Cause) (answer : Result Request Cause) → Answers (Requests server.rules properties dce token) (Ok request) → Allows server request (Err e) → IsErrAnd answer (λ d. d ≡ e)
      → Answers (BeginsAdmission server dce token) answer
  unfolding BeginsAdmission
  not_allowed request e answer h allows is =
      goes _ _ u _ (answers _ _ waits) (goes _ _ properties _ (answers _ _ has) (goes _ _ request _ h (stops _ _ e _ (answers _ _ allows) is)))

  pub is_allowed : (request : Request) (v : Unit {0}) → Answers (Requests server.rules properties dce token) (Ok request) → Allows server request (Ok v) → Answers (BeginsAdmission server dce token) (Ok request)
  unfolding BeginsAdmission
  is_allowed request v h allows =
      goes _ _ u _ (answers _ _ waits) (goes _ _ properties _ (answers _ _ has) (goes _ _ request _ h (goes _ _ v _ (answers _ _ allows) (given request))))

pub not_waiting : (server : Kerberos) (dce : Bool) (token : List ℕ) (e : Cause) (answer : Result Request Cause) → Holds Sequence (is_waiting server.state) (Err e) → IsErrAnd answer (λ d. d ≡ e) → Answers (BeginsAdmission server dce token) answer
unfolding BeginsAdmission
not_waiting server dce token e answer h is = stops _ _ e _ (answers _ _ h) is

pub no_properties : (server : Kerberos) (dce : Bool) (token : List ℕ) (u : Unit {0}) (e : Cause) (answer : Result Request Cause) → Holds Sequence (is_waiting server.state) (Ok u) → Takes Sequence server.server (Err e)
    → IsErrAnd answer (λ d. d ≡ e) → Answers (BeginsAdmission server dce token) answer
unfolding BeginsAdmission
no_properties server dce token u e answer waits h is = goes _ _ u _ (answers _ _ waits) (stops _ _ e _ (answers _ _ h) is)

pub prepared_by : (server : Kerberos) (dce : Bool) (token : List ℕ) (draw : Draw) (prepared : Prepared) → Prepares server dce token draw prepared → ∥ IsPrepared prepared ∥₁
prepared_by server dce token draw prepared h = ∣ (server, dce, token, draw, h) ∣₁

-- ---- the second half

waiting_by : (b : Bool) (u : Unit {0}) → Holds Sequence b (Ok u) → b ≡ true
waiting_by true u h = refl
waiting_by false u h = let e = h.is in absurd cc

late_by : (b : Bool) (e : Cause) → Holds Sequence b (Err e) → (b ≡ false) × (e ≡ Sequence)
late_by true e h = let z = h.is in absurd cc
late_by false e h = (refl, same_err {A = Unit {0}} e Sequence h.is)

module _ {G : Type 0} (admits : G → Ask → Verdict → G → Type 0) (prepared : Prepared) (server : Kerberos) (old : G) where
  pub admits_in_time : (u : Unit {0}) (answer : Result Answer Cause) (server' : Kerberos) (new : G) → Holds Sequence (is_waiting server.state) (Ok u) → PassesGate admits prepared server old answer server' new
      → AdmitsPrepared admits prepared server old answer server' new
  admits_in_time u answer server' new h passes =
      let P : Bool → Type 0 = λ b. AdmitsWhere b admits prepared server old answer server' new in
      subst P (sym (waiting_by (is_waiting server.state) u h)) passes

  pub admits_too_late : (e : Cause) (answer : Result Answer Cause) → Holds Sequence (is_waiting server.state) (Err e) → IsErrAnd answer (λ d. d ≡ e) → AdmitsPrepared admits prepared server old answer server old
  admits_too_late e answer h is =
      let late = late_by (is_waiting server.state) e h in
      let P : Bool → Type 0 = λ b. AdmitsWhere b admits prepared server old answer server old in
      subst P (sym late.0) (record { answer_is = is_err answer e is ∙ ap Err late.1; server_stays = refl; gate_stays = refl })

-- no verdict refuses with `Memory`, so if the prepared outcome does not, neither does the outcome after the verdict
behind_refuses : (verdict : Verdict) (outcome : Result Admission Cause) → (outcome ≡ Err Memory → ⊥) → outcome_behind (refusal verdict) outcome ≡ Err Memory → ⊥
behind_refuses verdicts.Admitted outcome ne z = ne z
behind_refuses verdicts.Skew outcome ne z = absurd cc
behind_refuses verdicts.NotYet outcome ne z = absurd cc
behind_refuses verdicts.Expired outcome ne z = absurd cc
behind_refuses verdicts.Replayed outcome ne z = absurd cc

made_refuses : (server server' : Kerberos) (outcome : Result Admission Cause) (answer : Result Answer Cause) → MakesAnswer server outcome answer server' → answer ≡ Err Memory → outcome ≡ Err Memory
made_refuses server server' (Ok admission) answer made z = let e = sym made.0 ∙ z in absurd cc
made_refuses server server' (Err cause) answer made z = ap Err (same_err {A = Answer} cause Memory (sym made.0 ∙ z))

ready_refuses : (prepared : Prepared) → IsPrepared prepared → (outcome : Result Admission Cause) → prepared.outcome ≡ outcome → outcome ≡ Err Memory → ⊥
ready_refuses prepared is (Ok admission) e z = absurd cc
ready_refuses prepared is (Err cause) e z =
    let F : Result Admission Cause → Type 0 = λ o. FinishesAdmission is.0 is.1 is.3 prepared.request o in
    finishes_refuses is.0 is.1 is.3 prepared.request cause (subst F e is.4.finishes) (same_err {A = Admission} cause Memory z)

no_proofs : (x y : ⊥) → x ≡ y
no_proofs x y = absurd x

pub never_memory : (prepared : Prepared) → ∥ IsPrepared prepared ∥₁ → (server server' : Kerberos) (verdict : Verdict) (answer : Result Answer Cause) → MakesAnswer server (outcome_behind (refusal verdict) prepared.outcome) answer server'
    → answer ≡ Err Memory → ⊥
never_memory prepared is server server' verdict answer made z =
    behind_refuses verdict prepared.outcome (λ y. ∥∥₁_elim is no_proofs (λ there. ready_refuses prepared there prepared.outcome refl y)) (made_refuses server server' _ answer made z)

-- ---- one after the other

waiting : (server : Kerberos) (dce : Bool) (token : List ℕ) (request : Request) → BeginsAdmission server dce token (Ok request) → is_waiting server.state ≡ true
unfolding BeginsAdmission
waiting server dce token request h = let p = passed _ _ _ h in waiting_by (is_waiting server.state) p.found p.held

behind : (server : Kerberos) (dce : Bool) (draw : Draw) (refused : Option Cause) (request : Request) (outcome : Result Admission Cause) → FinishesAdmission server dce draw request outcome
    → (Passes refused >> FinishesAdmission server dce draw request) (outcome_behind refused outcome)
behind server dce draw None request outcome h = follows _ _ tt _ (record { is = refl }) h
behind server dce draw (Some cause) request outcome h = halts _ _ cause _ (record { is = refl }) refl

module _ {G : Type 0} (admits : G → Ask → Verdict → G → Type 0) (server : Kerberos) (dce : Bool) (token : List ℕ) (draw : Draw) (old : G) (answer : Result Answer Cause) (server' : Kerberos) (new : G) where
  at_gate : (prepared : Prepared) → Prepares server dce token draw prepared → PassesGate admits prepared server old answer server' new → Accepts admits server dce token draw old answer server' new
  at_gate prepared prepares passes =
      answered_at_gate admits server dce token draw old prepared.request (question prepared) passes.verdict new (outcome_behind (refusal passes.verdict) prepared.outcome) answer server'
      (waits server dce token prepared.request prepares.begins) prepares.begins (ap₂ (λ rules moment. ask_of rules prepared.request moment) prepares.rules prepares.moment) passes.gate
      (behind server dce draw (refusal passes.verdict) prepared.request prepared.outcome prepares.finishes) passes.made

  joined_by : (half : Result Prepared Cause) → awaits_last_word dce server.state ≡ false → JudgesApReq server dce token draw half → AdmitsNext admits half server old answer server' new → Accepts admits server dce token draw old answer server' new
  joined_by (Ok prepared) last prepares next =
      let P : Bool → Type 0 = λ b. AdmitsWhere b admits prepared server old answer server' new in
      at_gate prepared prepares (subst P (waiting server dce token prepared.request prepares.begins) next)
  joined_by (Err cause) last begun next =
      let same = refused admits server dce token draw old cause last begun in
      let A : Result Answer Cause → Type 0 = λ r. Accepts admits server dce token draw old r server old in
      let S : Kerberos → Type 0 = λ s. Accepts admits server dce token draw old answer s old in
      let N : G → Type 0 = λ g. Accepts admits server dce token draw old answer server' g in
      subst N (sym next.gate_stays) (subst S (sym next.server_stays) (subst A (sym next.answer_is) same))

  pub joined : awaits_last_word dce server.state ≡ false → JudgesAndAdmits admits server dce token draw old answer server' new → Accepts admits server dce token draw old answer server' new
  joined last both = joined_by both.half last both.judges both.next

  pub refused_call : (e : Cause) → awaits_last_word dce server.state ≡ false → Answers (JudgesApReq server dce token draw) (Err e) → IsErrAnd answer (λ d. d ≡ e) → server' ≡ server → new ≡ old → (answer ≡ Err Memory → ⊥)
      → Accepts admits server dce token draw old answer server' new
  refused_call e last h is server_stays gate_stays ne =
      let half : Result Prepared Cause = Err e in
      joined_by half last (h.so (λ z. ne (is_err answer e is ∙ ap Err (same_err {A = Prepared} e Memory z)))) (record { answer_is = is_err answer e is; server_stays = server_stays; gate_stays = gate_stays })

  pub admitted_call : (prepared : Prepared) → awaits_last_word dce server.state ≡ false → Answers (JudgesApReq server dce token draw) (Ok prepared) → AdmitsPrepared admits prepared server old answer server' new
      → Accepts admits server dce token draw old answer server' new
  admitted_call prepared last h next = joined_by (Ok prepared) last (h.so (λ z. absurd cc)) next

-- ---- the one call, in halves

-- each chain has an answer
record Has {A : Type 0} (checks : Result A Cause → Type 0) : Type 0 where
  pub found : Result A Cause
  pub is : checks found

then_has : {A B : Type 0} (first : Result A Cause → Type 0) (next : A → Result B Cause → Type 0) → Has first → ((a : A) → Has (next a)) → Has (λ r. Then first next r)
then_has {A} {B} first next one of = by one.found one.is
  where
    by : (m : Result A Cause) → first m → Has (λ (r : Result B Cause). Then first next r)
    by (Ok a) h = record { found = (of a).found; is = follows first next a (of a).found h (of a).is }
    by (Err e) h = record { found = Err e; is = halts first next e (Err e) h refl }

holds_has : (cause : Cause) (test : Bool) → Has (λ r. Holds cause test r)
holds_has cause test = record { found = if test then Ok tt else Err cause; is = record { is = refl } }

gives_has : {A : Type 0} (value : A) → Has (λ r. Gives value r)
gives_has value = record { found = Ok value; is = record { is = refl } }

completes_has : (rules : Rules) (request : Request) → Has (Completes rules request)
unfolding Completes
completes_has rules request = then_has _ _ (holds_has _ _) (λ _. then_has _ _ (holds_has _ _) (λ _. then_has _ _ (holds_has _ _) (λ _. gives_has _)))

finishes_has : (server : Kerberos) (dce : Bool) (draw : Draw) (request : Request) → Has (FinishesAdmission server dce draw request)
unfolding FinishesAdmission
finishes_has server dce draw request = then_has _ _ (completes_has server.rules request) (λ client. gives_has _)

-- a chain goes on from what its first check answers
then_at : {A B : Type 0} (first : Result A Cause → Type 0) (next : A → Result B Cause → Type 0) (m : Result A Cause) (r : Result B Cause) → Once first → first m → Then first next r → Goes next m r
then_at {A} {B} first next m r one h k = let P : Result A Cause → Type 0 = λ x. Goes next x r in subst P (one.same k.middle m k.held h) k.rest

-- the result of the checks after the gate, even if the gate's refusal hides it
pub record Behind (server : Kerberos) (dce : Bool) (draw : Draw) (request : Request) (refused : Option Cause) (outcome : Result Admission Cause) : Type 0 where
  pub ready : Result Admission Cause
  pub finishes : FinishesAdmission server dce draw request ready
  pub is : outcome ≡ outcome_behind refused ready

found_behind : (server : Kerberos) (dce : Bool) (draw : Draw) (request : Request) (refused : Option Cause) (outcome : Result Admission Cause) → (Passes refused >> FinishesAdmission server dce draw request) outcome
    → Behind server dce draw request refused outcome
found_behind server dce draw request None outcome h = record { ready = outcome; finishes = then_at _ _ (Ok tt) outcome (passes_once None) (record { is = refl }) h; is = refl }
found_behind server dce draw request (Some cause) outcome h =
    let has = finishes_has server dce draw request in
    record { ready = has.found; finishes = has.is; is = then_at _ _ (Err cause) outcome (passes_once (Some cause)) (record { is = refl }) h }

module _ {G : Type 0} (admits : G → Ask → Verdict → G → Type 0) (server : Kerberos) (dce : Bool) (token : List ℕ) (draw : Draw) (old : G) (answer : Result Answer Cause) (server' : Kerberos) (new : G) where
  parted_by : (request : Result Request Cause) (verdict : Verdict) (outcome : Result Admission Cause) → BeginsAdmission server dce token request → Asks admits server.rules draw.moment old request verdict new
      → DecidesAdmission server dce token draw verdict outcome → MakesAnswer server outcome answer server' → JudgesAndAdmits admits server dce token draw old answer server' new
  unfolding DecidesAdmission
  parted_by (Err cause) verdict outcome begun gate decides made =
      let M : Result Admission Cause → Type 0 = λ o. MakesAnswer server o answer server' in
      let is = subst M (then_at _ _ (Err cause) outcome (begins_once server dce token) begun decides) made in
      record { half = Err cause; judges = begun; next = record { answer_is = is.0; server_stays = is.1; gate_stays = gate } }
  parted_by (Ok request) verdict outcome begun gate decides made =
      let rest = found_behind server dce draw request (refusal verdict) outcome (then_at _ _ (Ok request) outcome (begins_once server dce token) begun decides) in
      let prepared : Prepared = record { request = request; outcome = rest.ready; moment = draw.moment; rules = server.rules } in
      let M : Result Admission Cause → Type 0 = λ o. MakesAnswer server o answer server' in
      let P : Bool → Type 0 = λ b. AdmitsWhere b admits prepared server old answer server' new in
      record {
        half = Ok prepared;
        judges = record { begins = begun; finishes = rest.finishes; moment = refl; rules = refl };
        next = subst P (sym (waiting server dce token request begun)) (record { verdict = verdict; gate = gate; made = subst M rest.is made });
      }

  pub parted : awaits_last_word dce server.state ≡ false → Accepts admits server dce token draw old answer server' new → JudgesAndAdmits admits server dce token draw old answer server' new
  parted last step =
      let E : Bool → Type 0 = λ b. Ends b server token step.outcome answer server' in
      parted_by step.request step.verdict step.outcome step.begun step.gate step.judged (subst E last step.made)
