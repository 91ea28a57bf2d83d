-- The steps of a run that does not run out of memory, over a network.
use Rattle.std.proofs.Common.{◌≡◌, ℕ, List, ◌∷◌, Option, Some, refl, subst, ap, ◌∙◌, Result, Err}
use Rattle.url.specs.Parts.{serialize}
use Rattle.krb_der.specs.Layout.{Layout}
use Rattle.krb_exchange.specs.Layouts.{as_rep_layout, tgs_rep_layout}
use Rattle.sspi_core.specs.declared.cause.Cause.{Cause}
use Rattle.sspi_core.specs.declared.cause.Cause.TheVariants.{Memory}
use Rattle.sspi_core.specs.declared.draw.Draw.{Draw}
use Rattle.sspi_core.specs.declared.error.Error.{Error}
use Rattle.sspi_core.specs.declared.protocol.NetworkProtocol.{NetworkProtocol}
use Rattle.sspi_core.specs.Kinds.{error_of}
use Rattle.sspi_core.proofs.Chain.{halts}
use Rattle.sspi_generator.specs.declared.network.NetFault.{NetFault}
use Rattle.sspi_generator.specs.declared.network.NetFault.TheVariants.{OutOfMemory}
use Rattle.sspi_generator.specs.declared.network.NetworkRequest.{NetworkRequest}
use Rattle.sspi_generator.specs.declared.task.GeneratorState.{GeneratorState}
use Rattle.sspi_generator.specs.declared.task.GeneratorState.TheVariants.{Completed}
use Rattle.sspi_generator.specs.Runs.{Finishes}
use Rattle.krb_as.specs.Replies.{Unwraps, Replies}
use Rattle.krb_as.specs.declared.done.InitDone.{InitDone}
use Rattle.krb_as.specs.declared.turn.Turn.{Turn}
use Rattle.krb_as.specs.Replied.{TakesFirst, Grants}
use Rattle.krb_as.specs.AsPhases.{TakesAsRep, TakesReplyWithin}
use Rattle.krb_as.specs.declared.as_phase.AsPhase.{AsPhase}
use Rattle.krb_as.specs.declared.as_phase.AsPhase.TheVariants.{AwaitsError, AwaitsAsRep}
use Rattle.krb_as.specs.Turns.{IsWant, state_of, phase_of}
use Rattle.krb_tgs.specs.Taken.{TakesTgsRep}
use Rattle.krb_initiator.specs.declared.init_run.InitRun.{InitRun}
use Rattle.krb_initiator.specs.declared.seeker.Seeker.{Seeker}
use Rattle.krb_initiator.specs.declared.seeker.TgsLeg.{TgsLeg}
use Rattle.krb_initiator.specs.declared.seeker.Initiation.{Initiation}
use Rattle.krb_initiator.specs.declared.seeker.Initiation.TheVariants.{Seeks}
use Rattle.krb_initiator.specs.declared.seeker.InitPhase.{InitPhase}
use Rattle.krb_initiator.specs.declared.seeker.InitPhase.TheVariants.{InAsExchange, Over}
use Rattle.krb_initiator.specs.InitRuns.{Starts, Next, StartsAt, ResumesAt}
use Rattle.krb_initiator.specs.InitSteps.{TakesNext}
use Rattle.krb_initiator.proofs.Once.{starts_once, next_once}
use Rattle.krb_kdc.specs.declared.kdc.Kdc.{Kdc}
use Rattle.krb_kdc.specs.Nets.{Net, kdc_at, AnswersWith, AnswersAt, rest_of}
use Rattle.krb_laws_kdc.specs.Fetching.{SendsTo}

-- where a step ends that has this outcome
pub record IsTurned (seeker : Seeker) (expected : Result (Turn InitPhase InitDone) Cause) (state : GeneratorState NetworkRequest (Result InitDone Error)) (next : InitRun) : Type 0 where
  pub state_is : state ≡ state_of expected
  pub phase_is : next.phase ≡ phase_of Over expected
  pub stays : next.initiation ≡ Seeks seeker

module _ (seeker : Seeker) (out : Result InitDone Error) (run' : InitRun) (net' : Net) (wanting : IsWant out → ⊥) where
  abbrev pub Runs : GeneratorState NetworkRequest (Result InitDone Error) → InitRun → Net → List Draw → Type 0
  Runs state run net draws = Finishes ResumesAt SendsTo state run net draws out run' net'

  not_want : (state : GeneratorState NetworkRequest (Result InitDone Error)) (next : InitRun) (after : Net) (owns : List Draw) → Runs state next after owns
      → state ≡ Completed (Err (error_of Memory)) → ⊥
  not_want state next after owns ends e =
      wanting (subst (λ (s : GeneratorState NetworkRequest (Result InitDone Error)). Runs s next after owns) e ends).0

  pub started : (run next : InitRun) (draw : Draw) (state : GeneratorState NetworkRequest (Result InitDone Error)) (expected : Result (Turn InitPhase InitDone) Cause)
      (net : Net) (owns : List Draw) → run.initiation ≡ Seeks seeker → StartsAt run draw state next → Starts (Seeks seeker) run.phase draw expected → Runs state next net owns
      → IsTurned seeker expected state next
  started run next draw state expected net owns is starts expects ends =
      let so = starts.turn.so (not_want state next net owns ends) in
      let checks : Starts (Seeks seeker) run.phase draw so.0 = subst (λ (i : Initiation). Starts i run.phase draw so.0) is so.1 in
      let same : so.0 ≡ expected = (starts_once (Seeks seeker) run.phase draw).same so.0 expected checks expects in
      record { state_is = so.2 ∙ ap state_of same; phase_is = so.3 ∙ ap (phase_of Over) same; stays = starts.stays ∙ is }

  pub resumed : (run next : InitRun) (reply : Result (List ℕ) NetFault) (draw : Draw) (state : GeneratorState NetworkRequest (Result InitDone Error))
      (expected : Result (Turn InitPhase InitDone) Cause) (after : Net) (owns : List Draw) → run.initiation ≡ Seeks seeker → ResumesAt run reply draw state next
      → Next (Seeks seeker) run.phase reply draw expected → Runs state next after owns → IsTurned seeker expected state next
  resumed run next reply draw state expected after owns is resumes expects ends =
      let so = resumes.turn.so (not_want state next after owns ends) in
      let checks : Next (Seeks seeker) run.phase reply draw so.0 = subst (λ (i : Initiation). Next i run.phase reply draw so.0) is so.1 in
      let same : so.0 ≡ expected = (next_once (Seeks seeker) run.phase reply draw).same so.0 expected checks expects in
      record { state_is = so.2 ∙ ap state_of same; phase_is = so.3 ∙ ap (phase_of Over) same; stays = resumes.stays ∙ is }

  -- a reply for which memory ran out ends a run so
  pub no_memory : (run next : InitRun) (fault : NetFault) (draw : Draw) (state : GeneratorState NetworkRequest (Result InitDone Error)) (after : Net) (owns : List Draw)
      → run.initiation ≡ Seeks seeker → fault ≡ OutOfMemory → ResumesAt run (Err fault) draw state next
      → Next (Seeks seeker) run.phase (Err OutOfMemory) draw (Err Memory) → Runs state next after owns → ⊥
  no_memory run next fault draw state after owns is e resumes expects ends =
      let turned : IsTurned seeker (Err Memory) state next =
      resumed run next (Err OutOfMemory) draw state (Err Memory) after owns is (subst (λ (f : NetFault). ResumesAt run (Err f) draw state next) e resumes) expects ends in
      not_want state next after owns ends turned.state_is

-- ---- no memory for a reply

grants_want : {A : Type 0} (layout : Layout A) (protocol : NetworkProtocol) → Grants protocol layout (Err OutOfMemory) (Err Memory)
unfolding Grants Replies Unwraps
grants_want layout protocol = halts _ _ Memory _ (halts _ _ Memory _ (halts _ _ Memory _ (record { is = refl }) refl) refl) refl

replies_want : (protocol : NetworkProtocol) → Replies protocol as_rep_layout (Err OutOfMemory) (Err Memory)
unfolding Replies Unwraps
replies_want protocol = halts _ _ Memory _ (halts _ _ Memory _ (record { is = refl }) refl) refl

pub as_wants : (seeker : Seeker) (phase : AsPhase) (draw : Draw) → Next (Seeks seeker) (InAsExchange phase) (Err OutOfMemory) draw (Err Memory)
unfolding TakesReplyWithin TakesFirst TakesAsRep
as_wants seeker (AwaitsError address body) draw =
    halts _ _ Memory _ (halts _ _ Memory _ (replies_want address.protocol) refl) refl
as_wants seeker (AwaitsAsRep sealed) draw = halts _ _ Memory _ (halts _ _ Memory _ (grants_want as_rep_layout sealed.kdc.protocol) refl) refl

pub next_wants : (seeker : Seeker) (leg : TgsLeg) (draw : Draw) → TakesNext seeker leg (Err OutOfMemory) draw (Err Memory)
unfolding TakesNext TakesTgsRep
next_wants seeker leg draw = halts _ _ Memory _ (halts _ _ Memory _ (grants_want tgs_rep_layout leg.kdc.protocol) refl) refl

-- ---- a request is answered

pub record IsAnswered (pairs : List (List ℕ × Kdc)) (kdc : Kdc) (payload : List ℕ) (draw : Draw) (draws : List Draw) (reply : Result (List ℕ) NetFault) (after : Net) : Type 0 where
  pub answers : AnswersWith kdc payload (draw ∷ draws) reply
  pub pairs_are : after.pairs ≡ pairs
  pub draws_are : after.draws ≡ draws

pub answered : (pairs : List (List ℕ × Kdc)) (text : List ℕ) (kdc : Kdc) (request : NetworkRequest) (payload : List ℕ) (draw : Draw) (draws : List Draw) (net after : Net)
    (reply : Result (List ℕ) NetFault) → kdc_at (serialize request.url) pairs ≡ Some (text, kdc) → request.payload ≡ payload → net.pairs ≡ pairs → net.draws ≡ draw ∷ draws
    → SendsTo net request reply after → IsAnswered pairs kdc payload draw draws reply after
answered pairs text kdc request payload draw draws net after reply there is p q sends =
    let a : AnswersAt (kdc_at (serialize request.url) pairs) request.payload net.draws reply =
    subst (λ (ps : List (List ℕ × Kdc)). AnswersAt (kdc_at (serialize request.url) ps) request.payload net.draws reply) p sends.answers in
    let b : AnswersAt (kdc_at (serialize request.url) pairs) request.payload (draw ∷ draws) reply =
    subst (λ (ds : List Draw). AnswersAt (kdc_at (serialize request.url) pairs) request.payload ds reply) q a in
    let c : AnswersAt (Some (text, kdc)) request.payload (draw ∷ draws) reply =
    subst (λ (found : Option (List ℕ × Kdc)). AnswersAt found request.payload (draw ∷ draws) reply) there b in record {
      answers = subst (λ (octets : List ℕ). AnswersWith kdc octets (draw ∷ draws) reply) is c;
      pairs_are = sends.pairs_stay ∙ p;
      draws_are = sends.draws_left ∙ ap rest_of q;
    }
