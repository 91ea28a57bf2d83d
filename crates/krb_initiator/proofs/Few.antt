-- How often an initiation asks.
use Rattle.std.proofs.Common.{◌≡◌, ℕ, ◌+◌, ◌-◌, ◌<◌, List, Option, Some, None, Result, Ok, refl, sym, subst, take, arith, lit<}
use Rattle.std.specs.Prelude.{nat_lt}
use Rattle.std.proofs.lemmas.Bool.{ltb-true}
use Rattle.sspi_core.proofs.Chain.{passed, gave, held}
use Rattle.sspi_core.specs.declared.cause.Cause.TheVariants.{Hops}
use Rattle.sspi_core.specs.declared.draw.Draw.{Draw}
use Rattle.sspi_core.specs.declared.error.Error.{Error}
use Rattle.sspi_generator.specs.declared.network.NetFault.{NetFault}
use Rattle.sspi_generator.specs.declared.network.NetworkRequest.{NetworkRequest}
use Rattle.sspi_generator.specs.Runs.{Resolves}
use Rattle.sspi_generator.proofs.Few.{resolves_in}
use Rattle.krb_as.specs.declared.as_phase.AsPhase.TheVariants.{AwaitsError, AwaitsAsRep}
use Rattle.krb_as.specs.declared.done.InitDone.{InitDone}
use Rattle.krb_as.specs.declared.key.Grant.{Grant}
use Rattle.krb_as.specs.declared.turn.Turn.TheVariants.{Asks}
use Rattle.krb_as.proofs.Few.{asked, first_down, second_down, grant_down}
use Rattle.krb_as.proofs.Tasks.{turns_down}
use Rattle.krb_tgs.specs.Fresh.{referral_of}
use Rattle.krb_tgs.specs.TgsAsked.{Follows}
use Rattle.krb_initiator.specs.declared.init_run.InitRun.{InitRun}
use Rattle.krb_initiator.specs.declared.seeker.Seeker.{Seeker}
use Rattle.krb_initiator.specs.declared.seeker.TgsLeg.{TgsLeg}
use Rattle.krb_initiator.specs.declared.seeker.Initiation.{Initiation}
use Rattle.krb_initiator.specs.declared.seeker.Initiation.TheVariants.{Requests, Seeks, Hears}
use Rattle.krb_initiator.specs.declared.seeker.InitPhase.{InitPhase}
use Rattle.krb_initiator.specs.declared.seeker.InitPhase.TheVariants.{New, InAsExchange, AwaitsTgsRep, Over}
use Rattle.krb_initiator.specs.InitSteps.{body_of, AsksFirstTgs, Refers, Arrives, GoesTo, TakesNext, HearsAnswer}
use Rattle.krb_initiator.specs.InitRuns.{StartsNew, Starts, Continues, Next, IsNewPhase, IsNew, StartsAt, ResumesAt, turns_left}

-- the start
new_down : (initiation : Initiation) (draw : Draw) (request : NetworkRequest) (phase : InitPhase) → StartsNew initiation draw (Ok (Asks request phase)) → turns_left phase < 12
unfolding HearsAnswer
new_down (Requests initiator token) draw request phase h = let f = gave _ _ h in absurd cc
new_down (Seeks seeker) draw request phase h = first_down InitDone InAsExchange turns_left 12 seeker.asker (body_of seeker draw) (λ kdc. lit< tt) request phase h
new_down (Hears initiator token) draw request phase h = let done = passed _ _ _ h in let f = gave _ _ done.rest_held in absurd cc

start_down : (initiation : Initiation) (old : InitPhase) (draw : Draw) (request : NetworkRequest) (phase : InitPhase) → Starts initiation old draw (Ok (Asks request phase))
    → turns_left phase < turns_left old
start_down initiation New draw request phase h = new_down initiation draw request phase h
start_down initiation (InAsExchange phase) draw request next h = absurd h
start_down initiation (AwaitsTgsRep leg) draw request phase h = absurd h
start_down initiation Over draw request phase h = absurd h

module _ (seeker : Seeker) (draw : Draw) (request : NetworkRequest) (phase : InitPhase) where
  -- the ticket-granting service of the client's realm
  tgs_down : (grant : Grant) → AsksFirstTgs seeker grant draw (Ok (Asks request phase)) → turns_left phase < 10
  unfolding AsksFirstTgs
  tgs_down grant h =
      let begun = passed _ _ _ h in
      subst (λ (p : InitPhase). turns_left p < 10) (asked {O = InitDone} request begun.found.request _ phase (sym (gave _ _ begun.rest_held))) (lit< tt)

  -- a referral is followed where there were fewer than nine
  refers_down : (leg : TgsLeg) (realm : List ℕ) (shown : Grant) → Refers seeker leg realm shown draw (Ok (Asks request phase)) → turns_left phase < 9 - leg.hops
  unfolding Refers Follows
  refers_down leg realm shown h =
      let begun = passed _ _ _ h in
      let follows = passed _ _ _ begun.first_held in
      let few : leg.hops < 9 = ltb-true leg.hops 9 (held Hops (nat_lt leg.hops 9) follows.found follows.first_held) in
      subst (λ (p : InitPhase). turns_left p < 9 - leg.hops) (asked {O = InitDone} request begun.found.request _ phase (sym (gave _ _ begun.rest_held))) (omega (arith, few))

  goes_down : (referral : Option (List ℕ)) (leg : TgsLeg) (shown : Grant) → GoesTo referral seeker leg shown draw (Ok (Asks request phase)) → turns_left phase < 9 - leg.hops
  unfolding Arrives
  goes_down None leg shown h = let made = passed _ _ _ h in let f = gave _ _ made.rest_held in absurd cc
  goes_down (Some realm) leg shown h = refers_down leg realm shown h

  -- an answer, in each phase
  next_down : (old : InitPhase) (reply : Result (List ℕ) NetFault) → Continues seeker old reply draw (Ok (Asks request phase)) → turns_left phase < turns_left old
  unfolding TakesNext
  next_down New reply h = absurd h
  next_down (InAsExchange (AwaitsError kdc body)) reply h =
      second_down InitDone InAsExchange turns_left 11 seeker.asker (λ grant. AsksFirstTgs seeker grant draw) reply draw request phase kdc body (λ sealed. lit< tt)
      (λ grant asks. omega (arith, tgs_down grant asks)) h
  next_down (InAsExchange (AwaitsAsRep sealed)) reply h =
      grant_down InitDone InAsExchange turns_left 10 seeker.asker (λ grant. AsksFirstTgs seeker grant draw) reply draw request phase sealed tgs_down h
  next_down (AwaitsTgsRep leg) reply h = let shown = passed _ _ _ h in goes_down (referral_of seeker.asker.rules seeker.wanted.target shown.found.facts shown.found.rep) leg shown.found shown.rest_held
  next_down Over reply h = absurd h

resume_down : (initiation : Initiation) (old : InitPhase) (reply : Result (List ℕ) NetFault) (draw : Draw) (request : NetworkRequest) (phase : InitPhase)
    → Next initiation old reply draw (Ok (Asks request phase)) → turns_left phase < turns_left old
resume_down (Requests initiator token) old reply draw request phase h = absurd h
resume_down (Seeks seeker) old reply draw request phase h = next_down seeker draw request phase old reply h
resume_down (Hears initiator token) old reply draw request phase h = absurd h

twelve : (phase : InitPhase) → IsNewPhase phase → turns_left phase ≡ 12
twelve New new = refl
twelve (InAsExchange phase) new = absurd new
twelve (AwaitsTgsRep leg) new = absurd new
twelve Over new = absurd new

-- so it asks twelve times at most
pub few : {C : Type 0} (sends : C → NetworkRequest → Result (List ℕ) NetFault → C → Type 0) (run run' : InitRun) (client client' : C) (draws : List Draw) (out : Result InitDone Error)
    → IsNew run → Resolves StartsAt ResumesAt sends run client draws out run' client' → Resolves StartsAt ResumesAt sends run client (take 13 draws) out run' client'
few sends run run' client client' draws out new resolves =
    subst (λ (n : ℕ). Resolves StartsAt ResumesAt sends run client (take (n + 1) draws) out run' client') (twelve run.phase new.0)
    (resolves_in StartsAt ResumesAt sends (λ e. Unit {0}) (λ e. Unit {0}) (λ e. turns_left e.phase)
    (λ task draw state next z h. turns_down Over (Starts task.initiation task.phase draw) turns_left (turns_left task.phase) (start_down task.initiation task.phase draw) state next.phase h.turn)
    (λ task reply draw state next z h. turns_down Over (Next task.initiation task.phase reply draw) turns_left (turns_left task.phase) (resume_down task.initiation task.phase reply draw) state next.phase h.turn)
    run client draws out run' client' tt resolves)
