-- The ways in which a token is answered.
use Rattle.std.proofs.Common.{◌≡◌, ℕ, Bool, true, false, List, Option, Some, None, Result, Ok, Err, refl, sym, ◌∙◌, subst}
use Rattle.sspi_core.specs.declared.cause.Cause.{Cause}
use Rattle.sspi_core.specs.declared.cause.Cause.TheVariants.{ClientName, ApOptions, SubKey, Memory, Sequence}
use Rattle.sspi_core.specs.declared.draw.Draw.{Draw}
use Rattle.sspi_core.specs.Checks.{Takes, Holds, Passes, Gives, Goes, Then, Answers, ◌>>◌}
use Rattle.sspi_core.proofs.Chain.{halts, follows, same_err}
use Rattle.krb_replay.specs.declared.ask.Ask.{Ask}
use Rattle.krb_replay.specs.declared.ask.Verdict.{Verdict}
use Rattle.krb_replay.specs.declared.ask.Verdict.TheVariants.{Admitted}
use Rattle.krb_context.specs.declared.context.Kerberos.{Kerberos}
use Rattle.krb_admission.specs.declared.request.Request.{Request}
use Rattle.krb_admission.specs.declared.admission.Admission.{Admission}
use Rattle.krb_admission.specs.declared.admission.Answer.{Answer}
use Rattle.krb_admission.specs.Requests.{ask_of}
use Rattle.krb_admission.specs.Complete.{Completes}
use Rattle.krb_admission.specs.Accepts.{BeginsAdmission, FinishesAdmission, DecidesAdmission, Accepts, MakesAnswer, Ends, awaits_last_word, refusal}
use Rattle.krb_admission.specs.ThirdLeg.{Concludes}
use Rattle.krb_context.specs.States.{is_waiting}
use Rattle.krb_context.specs.declared.state.KerberosState.{KerberosState}
use Rattle.krb_context.specs.declared.state.KerberosState.TheVariants.{TgtExchange, Preauthentication, ApExchange, Final}
use Rattle.krb_admission.proofs.Once.{one_outcome_lem}

pub answered : {A : Type 0} (checks : Result A Cause → Type 0) (x : A) → Answers checks (Ok x) → checks (Ok x)
answered checks x h = h.so (λ z. absurd cc)

-- what passes every check passes the first
goes_on : {A B : Type 0} (first : Result A Cause → Type 0) (next : A → Result B Cause → Type 0) (b : B) → Then first next (Ok b) → (a : A) × first (Ok a)
goes_on {A} {B} first next b h = go h.middle h.held h.rest
  where
    go : (m : Result A Cause) → first m → Goes next m (Ok b) → (a : A) × first (Ok a)
    go (Ok a) p q = (a, p)
    go (Err e) p q = absurd cc

-- if the third leg is awaited, no AP-REQ may come
not_waiting : (dce : Bool) (state : KerberosState) → awaits_last_word dce state ≡ true → is_waiting state ≡ false
not_waiting dce TgtExchange h = absurd cc
not_waiting dce Preauthentication h = absurd cc
not_waiting dce ApExchange h = refl
not_waiting dce Final h = absurd cc

waits_at : (dce : Bool) (state : KerberosState) (request : Request) (m : Result (Unit {0}) Cause) (next : Unit {0} → Result Request Cause → Type 0) → Holds Sequence (is_waiting state) m → Goes next m (Ok request)
    → awaits_last_word dce state ≡ false
waits_at dce TgtExchange request m next p q = refl
waits_at dce Preauthentication request m next p q = refl
waits_at dce ApExchange request (Ok u) next p q = let e = p.is in absurd cc
waits_at dce ApExchange request (Err e) next p q = absurd cc
waits_at dce Final request m next p q = refl

-- a request passes the checks before the gate only if no third leg is awaited
pub waits : (server : Kerberos) (dce : Bool) (token : List ℕ) (request : Request) → BeginsAdmission server dce token (Ok request) → awaits_last_word dce server.state ≡ false
unfolding BeginsAdmission
waits server dce token request h = waits_at dce server.state request h.middle _ h.held h.rest

module _ {G : Type 0} (admits : G → Ask → Verdict → G → Type 0) (server : Kerberos) (dce : Bool) (token : List ℕ) (draw : Draw) (old : G) where
  -- the answer to an AP-REQ, if no third leg is awaited
  ends : (outcome : Result Admission Cause) (answer : Result Answer Cause) (server' : Kerberos) → awaits_last_word dce server.state ≡ false → MakesAnswer server outcome answer server'
      → Ends (awaits_last_word dce server.state) server token outcome answer server'
  ends outcome answer server' last made = subst (λ (b : Bool). Ends b server token outcome answer server') (sym last) made

  -- the third leg, for which no gate is asked
  pub last_word : (answer : Result Answer Cause) (server' : Kerberos) → awaits_last_word dce server.state ≡ true → Concludes server token answer server' → Accepts admits server dce token draw old answer server' old
  unfolding DecidesAdmission BeginsAdmission
  last_word answer server' last concludes =
      let begun : BeginsAdmission server dce token (Err Sequence) = halts _ _ Sequence _ (record { is = rw (not_waiting dce server.state last) refl }) refl in record {
        verdict = Admitted;
        request = Err Sequence;
        begun = begun;
        gate = refl;
        outcome = Err Sequence;
        judged = halts _ _ Sequence _ begun refl;
        made = subst (λ (b : Bool). Ends b server token (Err Sequence) answer server') (sym last) concludes;
      }

  -- a refusal before the gate
  pub refused : (e : Cause) → awaits_last_word dce server.state ≡ false → BeginsAdmission server dce token (Err e) → Accepts admits server dce token draw old (Err e) server old
  unfolding DecidesAdmission
  refused e last begun = record {
    verdict = Admitted;
    request = Err e;
    begun = begun;
    gate = refl;
    outcome = Err e;
    judged = halts _ _ e _ begun refl;
    made = ends (Err e) (Err e) server last (refl, refl);
  }

  -- a request that came to the gate: the outcome after the gate's verdict, and the answer made from it
  pub answered_at_gate : (request : Request) (ask : Ask) (verdict : Verdict) (new : G) (outcome : Result Admission Cause) (answer : Result Answer Cause) (server' : Kerberos)
      → awaits_last_word dce server.state ≡ false → BeginsAdmission server dce token (Ok request) → ask ≡ ask_of server.rules request draw.moment → admits old ask verdict new
      → (Passes (refusal verdict) >> FinishesAdmission server dce draw request) outcome → MakesAnswer server outcome answer server' → Accepts admits server dce token draw old answer server' new
  unfolding DecidesAdmission
  answered_at_gate request ask verdict new outcome answer server' last begun asked step judged made = record {
    verdict = verdict;
    request = Ok request;
    begun = begun;
    gate = subst (λ (q : Ask). admits old q verdict new) asked step;
    outcome = outcome;
    judged = follows _ _ request _ begun judged;
    made = ends outcome answer server' last made;
  }

  -- an AP-REQ that passes every check is accepted
  pub completed : (new : G) (answer : Result Answer Cause) (server' : Kerberos) (admission : Admission) (step : Accepts admits server dce token draw old answer server' new) → step.verdict ≡ Admitted → DecidesAdmission server dce token draw Admitted (Ok admission)
      → MakesAnswer server (Ok admission) answer server'
  unfolding DecidesAdmission
  completed new answer server' admission step admits_it passes =
      let begun = goes_on _ _ admission passes in
      let last = waits server dce token begun.0 begun.1 in
      let made = subst (λ (b : Bool). Ends b server token step.outcome answer server') last step.made in
      let e = one_outcome_lem server dce token draw Admitted step.outcome (Ok admission) (subst (λ (v : Verdict). DecidesAdmission server dce token draw v step.outcome) admits_it step.judged) passes in
      subst (λ (r : Result Admission Cause). MakesAnswer server r answer server') e made

-- ---- no check after the gate fails because memory ran out

record Refuses {A : Type 0} (checks : Result A Cause → Type 0) : Type 0 where
  pub not : (e : Cause) → checks (Err e) → e ≡ Memory → ⊥

rest_refuses : {A B : Type 0} (first : Result A Cause → Type 0) (next : A → Result B Cause → Type 0) (m : Result A Cause) (e : Cause) → Refuses first → ((a : A) → Refuses (next a)) → first m → Goes next m (Err e) → e ≡ Memory → ⊥
rest_refuses first next (Ok a) e one of h k z = (of a).not e k z
rest_refuses {A} {B} first next (Err d) e one of h k z = one.not d h (sym (same_err {A = B} e d k) ∙ z)

then_refuses : {A B : Type 0} (first : Result A Cause → Type 0) (next : A → Result B Cause → Type 0) → Refuses first → ((a : A) → Refuses (next a)) → Refuses (λ r. Then first next r)
then_refuses first next one of = record { not = λ e h z. rest_refuses first next h.middle e one of h.held h.rest z }

hold_refuses : (cause : Cause) (test : Bool) → (cause ≡ Memory → ⊥) → (e : Cause) → Holds cause test (Err e) → e ≡ Memory → ⊥
hold_refuses cause false ne e h z = ne (sym (same_err {A = Unit {0}} e cause h.is) ∙ z)
hold_refuses cause true ne e h z = let i = h.is in absurd cc

gives_refuses : {A : Type 0} (value : A) → Refuses (λ r. Gives value r)
gives_refuses value = record { not = λ e h z. let i = h.is in absurd cc }

pub finishes_refuses : (server : Kerberos) (dce : Bool) (draw : Draw) (request : Request) (e : Cause) → FinishesAdmission server dce draw request (Err e) → e ≡ Memory → ⊥
unfolding FinishesAdmission Completes
finishes_refuses server dce draw request =
    (then_refuses _ _ (then_refuses _ _ (record { not = hold_refuses ClientName _ (λ z. cc) }) (λ _. then_refuses _ _ (record { not = hold_refuses ApOptions _ (λ z. cc) })
    (λ _. then_refuses _ _ (record { not = hold_refuses SubKey _ (λ z. cc) }) (λ _. gives_refuses _)))) (λ client. gives_refuses _)).not
