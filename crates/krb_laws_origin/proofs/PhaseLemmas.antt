-- An initiation after its replies: the phase to which they led it, by no more than nine referrals, and the key at its end.
use Rattle.std.proofs.Common.{◌≡◌, inl, inr, ℕ, ◌+◌, ◌<◌, ◌≤◌, suc, Bool, true, false, List, [], ◌∷◌, ◌++◌, length, Option, Some, None, Result, Ok, Err, refl, sym, ap, subst, arith, lit≤, length-append}
use Rattle.std.specs.Prelude.{◌⊎◌, nat_lt}
use Rattle.std.proofs.lemmas.Bool.{ltb-true}
use Rattle.std.proofs.lemmas.List.{length-map}
use Rattle.krb_der.specs.Layout.{Layout}
use Rattle.krb_exchange.specs.declared.kdc_rep.TgsRep.{TgsRep}
use Rattle.krb_exchange.specs.declared.result.KrbResult.{KrbResult}
use Rattle.krb_exchange.specs.declared.result.KrbResult.TheVariants.{Err as Refusal}
use Rattle.sspi_core.proofs.Chain.{passed, gave}
use Rattle.krb_as.proofs.AsTurns.{asked_first, AskedSecond, WentOnEarly, error_taken, as_rep_taken}
use Rattle.krb_as.specs.AsPhases.{TakesReplyWithin}
use Rattle.krb_as.specs.declared.as_phase.AsPhase.{AsPhase}
use Rattle.krb_as.specs.declared.as_phase.AsPhase.TheVariants.{AwaitsError, AwaitsAsRep}
use Rattle.krb_as.specs.Replied.{Grants}
use Rattle.krb_as.specs.declared.done.InitDone.{InitDone}
use Rattle.krb_as.specs.declared.turn.Turn.{Turn}
use Rattle.krb_as.specs.declared.turn.Turn.TheVariants.{Asks, Ends}
use Rattle.krb_initiator.proofs.Chains.{begins, goes_on, ends}
use Rattle.krb_initiator.specs.Came.{Came, CameWithKey, IsSession, AreGranted, LeaveSalt}
use Rattle.krb_initiator.specs.InitRuns.{StartsNew, Continues, Next}
use Rattle.krb_initiator.specs.InitSteps.{body_of, AsksFirstTgs, Refers, Arrives, GoesTo, TakesNext}
use Rattle.krb_initiator.specs.declared.seeker.InitPhase.{InitPhase}
use Rattle.krb_initiator.specs.declared.seeker.InitPhase.TheVariants.{New, InAsExchange, AwaitsTgsRep, Over}
use Rattle.krb_initiator.specs.declared.seeker.Initiation.TheVariants.{Seeks}
use Rattle.krb_initiator.specs.declared.seeker.Seeker.{Seeker}
use Rattle.krb_initiator.specs.declared.seeker.TgsLeg.{TgsLeg}
use Rattle.krb_as.specs.Replies.{brought, Unwraps, Replies}
use Rattle.krb_tgs.specs.Fresh.{referral_of}
use Rattle.krb_tgs.specs.Taken.{TakesTgsRep}
use Rattle.krb_tgs.specs.TgsAsked.{Follows}
use Rattle.krb_as.specs.declared.key.Grant.{Grant}
use Rattle.sspi_core.specs.Checks.{Holds}
use Rattle.sspi_core.specs.declared.cause.Cause.{Cause}
use Rattle.sspi_core.specs.declared.draw.Draw.{Draw}
use Rattle.sspi_core.specs.declared.protocol.NetworkProtocol.{NetworkProtocol}
use Rattle.sspi_generator.specs.declared.network.NetFault.{NetFault}
use Rattle.sspi_generator.specs.declared.network.NetFault.TheVariants.{Failed, OutOfMemory}
use Rattle.sspi_generator.specs.declared.network.NetworkRequest.{NetworkRequest}
use Rattle.krb_laws_origin.specs.Origins.{handed}
use Rattle.krb_laws_origin.proofs.BroughtLemmas.{handed_next}

-- at most nine referrals were followed
abbrev pub IsFew : InitPhase → Type 0
IsFew New = Unit {0}
IsFew (InAsExchange phase) = Unit {0}
IsFew (AwaitsTgsRep leg) = leg.hops ≤ 9
IsFew Over = Unit {0}

-- these replies led an initiation to this phase
pub record Led (seeker : Seeker) (replies : List (List ℕ)) (phase : InitPhase) : Type 0 where
  pub came : Came seeker (handed replies) phase
  pub few : IsFew phase

asked : (request made : NetworkRequest) (next phase : InitPhase) → ◌≡◌ {A = Turn InitPhase InitDone} (Asks made next) (Asks request phase) → next ≡ phase
asked request made next phase e = cc

-- ---- at the start

first_few : (seeker : Seeker) (draw : Draw) (request : NetworkRequest) (phase : InitPhase) → StartsNew (Seeks seeker) draw (Ok (Asks request phase)) → IsFew phase
first_few seeker draw request phase h =
    let first = asked_first InAsExchange seeker.asker (body_of seeker draw) (Asks request phase) h in
    subst (λ (p : InitPhase). IsFew p) (sym (asked _ request phase _ first.is)) tt

pub led_first : (seeker : Seeker) (draw : Draw) (request : NetworkRequest) (phase : InitPhase) → StartsNew (Seeks seeker) draw (Ok (Asks request phase)) → Led seeker [] phase
led_first seeker draw request phase h = record { came = begins seeker draw request phase h; few = first_few seeker draw request phase h }

-- an initiation that fetches a ticket does not end at its start
pub starts_not_ended : (seeker : Seeker) (draw : Draw) (done : InitDone) → StartsNew (Seeks seeker) draw (Ok (Ends done)) → ⊥
starts_not_ended seeker draw done h = let first = asked_first InAsExchange seeker.asker (body_of seeker draw) (Ends done) h in let f = first.is in absurd cc

-- ---- at a reply

held : (cause : Cause) (test : Bool) (u : Unit {0}) → Holds cause test (Ok u) → test ≡ true
held cause true u h = refl
held cause false u h = let e = h.is in absurd cc

module _ (seeker : Seeker) (reply : Result (List ℕ) NetFault) (draw : Draw) (request : NetworkRequest) (next : InitPhase) where
  tgs_few : (grant : Grant) → AsksFirstTgs seeker grant draw (Ok (Asks request next)) → IsFew next
  unfolding AsksFirstTgs
  tgs_few grant h =
      let begun = passed _ _ _ h in
      subst (λ (p : InitPhase). IsFew p) (sym (asked _ request next _ (gave _ _ begun.rest_held))) (lit≤ tt)

  as_few : (phase : AsPhase) → TakesReplyWithin InAsExchange (λ grant. AsksFirstTgs seeker grant draw) seeker.asker phase reply draw (Ok (Asks request next)) → IsFew next
  as_few (AwaitsError kdc body) h = go (error_taken InAsExchange (λ grant. AsksFirstTgs seeker grant draw) seeker.asker reply draw (Asks request next) kdc body h)
    where
      go : AskedSecond {O = InitDone} InAsExchange seeker.asker kdc body reply (Asks request next) ⊎ WentOnEarly (λ grant. AsksFirstTgs seeker grant draw) seeker.asker kdc body draw.moment reply (Asks request next) → IsFew next
      go (inl second) = subst (λ (p : InitPhase). IsFew p) (sym (asked _ request next _ second.is)) tt
      go (inr went) = tgs_few went.on.grant went.on.rest
  as_few (AwaitsAsRep sealed) h =
      let on = as_rep_taken InAsExchange (λ grant. AsksFirstTgs seeker grant draw) seeker.asker reply draw (Asks request next) sealed h in
      tgs_few on.grant on.rest

  followed : (leg : TgsLeg) (realm : List ℕ) (shown : Grant) → Refers seeker leg realm shown draw (Ok (Asks request next)) → IsFew next
  unfolding Refers Follows
  followed leg realm shown h =
      let begun = passed _ _ _ h in
      let hops = passed _ _ _ begun.first_held in
      let few : leg.hops < 9 = ltb-true leg.hops 9 (held _ (nat_lt leg.hops 9) hops.found hops.first_held) in
      let more : leg.hops + 1 ≤ 9 = omega (arith, few) in
      subst (λ (p : InitPhase). IsFew p) (sym (asked _ request next _ (gave _ _ begun.rest_held))) more

  goes_few : (referral : Option (List ℕ)) (leg : TgsLeg) (shown : Grant) → GoesTo referral seeker leg shown draw (Ok (Asks request next)) → IsFew next
  unfolding Arrives
  goes_few None leg shown h = let made = passed _ _ _ h in let f = gave _ _ made.rest_held in absurd cc
  goes_few (Some realm) leg shown h = followed leg realm shown h

  next_few : (leg : TgsLeg) → TakesNext seeker leg reply draw (Ok (Asks request next)) → IsFew next
  unfolding TakesNext
  next_few leg h =
      let shown = passed _ _ _ h in
      goes_few (referral_of seeker.asker.rules seeker.wanted.target shown.found.facts shown.found.rep) leg shown.found shown.rest_held

  few_on : (phase : InitPhase) → Continues seeker phase reply draw (Ok (Asks request next)) → IsFew next
  few_on New h = absurd h
  few_on (InAsExchange phase) h = as_few phase h
  few_on (AwaitsTgsRep leg) h = next_few leg h
  few_on Over h = absurd h

pub led_next : (seeker : Seeker) (replies : List (List ℕ)) (phase : InitPhase) (octets : List ℕ) (draw : Draw) (request : NetworkRequest) (next : InitPhase) → Led seeker replies phase
    → Next (Seeks seeker) phase (Ok octets) draw (Ok (Asks request next)) → Led seeker (replies ++ octets ∷ []) next
led_next seeker replies phase octets draw request next led h = record {
  came = subst (λ (r : List (Result (List ℕ) NetFault)). Came seeker r next) (handed_next replies octets) (goes_on seeker (handed replies) phase (Ok octets) draw request next led.came h);
  few = few_on seeker (Ok octets) draw request next phase h;
}

-- ---- at a fault, which leads nowhere

module _ (fault : NetFault) where
  no_reply : {A : Type 0} (protocol : NetworkProtocol) (layout : Layout A) (result : KrbResult A) → Replies protocol layout (Err fault) (Ok result) → ⊥
  unfolding Replies Unwraps
  no_reply protocol layout result h =
      let message = passed _ _ _ h in
      let octets = passed _ _ _ message.first_held in
      nothing fault octets.found octets.first_held.is
    where
      nothing : (f : NetFault) (octets : List ℕ) → ◌≡◌ {A = Result (List ℕ) Cause} (Ok octets) (brought (Err f)) → ⊥
      nothing (Failed code) octets e = absurd cc
      nothing OutOfMemory octets e = absurd cc

  no_grant : {A : Type 0} (protocol : NetworkProtocol) (layout : Layout A) (rep : A) → Grants protocol layout (Err fault) (Ok rep) → ⊥
  unfolding Grants
  no_grant protocol layout rep h = let result = passed _ _ _ h in no_reply protocol layout result.found result.first_held

  module _ (seeker : Seeker) (draw : Draw) (turn : Turn InitPhase InitDone) where
    no_as : (phase : AsPhase) → TakesReplyWithin InAsExchange (λ grant. AsksFirstTgs seeker grant draw) seeker.asker phase (Err fault) draw (Ok turn) → ⊥
    no_as (AwaitsError kdc body) h = go (error_taken InAsExchange (λ grant. AsksFirstTgs seeker grant draw) seeker.asker (Err fault) draw turn kdc body h)
      where
        go : AskedSecond InAsExchange seeker.asker kdc body (Err fault) turn ⊎ WentOnEarly (λ grant. AsksFirstTgs seeker grant draw) seeker.asker kdc body draw.moment (Err fault) turn → ⊥
        go (inl second) = no_reply kdc.protocol _ (Refusal second.names.error) second.names.replies
        go (inr went) = no_grant kdc.protocol _ went.on.taken.rep went.on.taken.granted
    no_as (AwaitsAsRep sealed) h =
        let on = as_rep_taken InAsExchange (λ grant. AsksFirstTgs seeker grant draw) seeker.asker (Err fault) draw turn sealed h in
        no_grant sealed.kdc.protocol _ on.taken.rep on.taken.granted

    no_next : (leg : TgsLeg) → TakesNext seeker leg (Err fault) draw (Ok turn) → ⊥
    unfolding TakesNext TakesTgsRep
    no_next leg h = let shown = passed _ _ _ h in let rep = passed _ _ _ shown.first_held in no_grant leg.kdc.protocol _ rep.found rep.first_held

    pub faults_lead_nowhere : (phase : InitPhase) → Next (Seeks seeker) phase (Err fault) draw (Ok turn) → ⊥
    faults_lead_nowhere New h = absurd h
    faults_lead_nowhere (InAsExchange phase) h = no_as phase h
    faults_lead_nowhere (AwaitsTgsRep leg) h = no_next leg h
    faults_lead_nowhere Over h = absurd h

-- ---- at the end

pub granted_length : (replies : List (Result (List ℕ) NetFault)) (reps : List TgsRep) → AreGranted replies reps → length replies ≡ length reps
granted_length [] [] h = refl
granted_length [] (rep ∷ reps) h = absurd h
granted_length (reply ∷ replies) [] h = absurd h
granted_length (reply ∷ replies) (rep ∷ reps) h = ap (λ (n : ℕ). suc n) (granted_length replies reps h.1)

before_short : (seeker : Seeker) (before : List (Result (List ℕ) NetFault)) (salt : List ℕ) → LeaveSalt seeker before salt → length before ≤ 1
before_short seeker [] salt h = lit≤ tt
before_short seeker (error ∷ []) salt h = lit≤ tt
before_short seeker (error ∷ (more ∷ rest)) salt h = absurd h

with_key_short : (seeker : Seeker) (replies : List (Result (List ℕ) NetFault)) (leg : TgsLeg) → CameWithKey seeker replies leg → leg.hops ≤ 9 → length replies ≤ 11
with_key_short seeker replies leg came few =
    let has = came.has in
    let all = ap length has.are in
    let rest = granted_length has.rest came.reps has.granted in
    let count = came.count in
    let before = before_short seeker has.before has.salt has.leave in
    let behind : length (has.before ++ has.first ∷ has.rest) ≡ length has.before + length (has.first ∷ has.rest) = length-append has.before (has.first ∷ has.rest) in
    omega (arith, all, rest, count, few, before, behind)

so_far_short : (seeker : Seeker) (replies : List (Result (List ℕ) NetFault)) (phase : InitPhase) (reply : Result (List ℕ) NetFault) (draw : Draw) (answer : Result (Turn InitPhase InitDone) Cause) → Came seeker replies phase → IsFew phase
    → Continues seeker phase reply draw answer → length replies ≤ 11
so_far_short seeker replies New reply draw answer came few h = absurd h
so_far_short seeker replies (InAsExchange (AwaitsError kdc body)) reply draw answer came few h = let all = ap length came in omega (arith, all)
so_far_short seeker replies (InAsExchange (AwaitsAsRep sealed)) reply draw answer came few h = let all = ap length came.are in omega (arith, all)
so_far_short seeker replies (AwaitsTgsRep leg) reply draw answer came few h = with_key_short seeker replies leg came few
so_far_short seeker replies Over reply draw answer came few h = absurd h

-- these replies, at most twelve, led an initiation to its end
pub record LedToEnd (seeker : Seeker) (replies : List (List ℕ)) (done : InitDone) : Type 0 where
  pub session : IsSession seeker (handed replies) done
  pub few : length replies ≤ 12

pub led_to_end : (seeker : Seeker) (replies : List (List ℕ)) (phase : InitPhase) (octets : List ℕ) (draw : Draw) (done : InitDone) → Led seeker replies phase
    → Next (Seeks seeker) phase (Ok octets) draw (Ok (Ends done)) → LedToEnd seeker (replies ++ octets ∷ []) done
led_to_end seeker replies phase octets draw done led h =
    let short : length (handed replies) ≤ 11 = so_far_short seeker (handed replies) phase (Ok octets) draw (Ok (Ends done)) led.came led.few h in
    let mapped : length (handed replies) ≡ length replies = length-map replies (λ (octets : List ℕ). Ok octets) in
    let one_more : length (replies ++ octets ∷ []) ≡ length replies + 1 = length-append replies (octets ∷ []) in
    record {
      session = subst (λ (r : List (Result (List ℕ) NetFault)). IsSession seeker r done) (handed_next replies octets) (ends seeker (handed replies) phase (Ok octets) draw done led.came h);
      few = omega (arith, short, mapped, one_more);
    }
