-- How often an AS exchange asks, also within a run.
use Rattle.std.proofs.Common.{◌≡◌, inl, inr, ℕ, ◌+◌, ◌<◌, List, Result, Ok, refl, sym, subst, take, lit<}
use Rattle.krb_exchange.specs.declared.kdc_req.KdcReqBody.{KdcReqBody}
use Rattle.std.specs.Prelude.{◌⊎◌}
use Rattle.sspi_core.proofs.Chain.{passed, gave}
use Rattle.sspi_core.specs.declared.cause.Cause.{Cause}
use Rattle.sspi_core.specs.declared.draw.Draw.{Draw}
use Rattle.sspi_core.specs.declared.error.Error.{Error}
use Rattle.sspi_generator.specs.declared.network.NetFault.{NetFault}
use Rattle.sspi_generator.specs.declared.network.NetworkRequest.{NetworkRequest}
use Rattle.sspi_generator.specs.Runs.{Resolves}
use Rattle.sspi_generator.proofs.Few.{resolves_in}
use Rattle.krb_as.specs.declared.asker.Asker.{Asker}
use Rattle.krb_as.specs.declared.as_phase.AsPhase.{AsPhase}
use Rattle.krb_as.specs.declared.as_phase.AsPhase.TheVariants.{AwaitsError, AwaitsAsRep}
use Rattle.krb_as.specs.declared.as_exchange.AsDone.{AsDone}
use Rattle.krb_as.specs.declared.as_exchange.AsExchange.{AsExchange}
use Rattle.krb_as.specs.declared.as_exchange.ExchangePhase.{ExchangePhase}
use Rattle.krb_as.specs.declared.as_exchange.ExchangePhase.TheVariants.{New, InAsExchange, Over}
use Rattle.krb_as.specs.declared.kdc.Kdc.{Kdc}
use Rattle.krb_as.specs.declared.key.Grant.{Grant}
use Rattle.krb_as.specs.declared.key.SealedTime.{SealedTime}
use Rattle.krb_as.specs.declared.turn.Turn.{Turn}
use Rattle.krb_as.specs.declared.turn.Turn.TheVariants.{Asks}
use Rattle.krb_as.specs.Askers.{default_salt}
use Rattle.krb_as.specs.AsPhases.{AsksSecond, BeginsWithin, TakesReplyWithin}
use Rattle.krb_as.specs.AsExchanges.{EndsWith, EndsWithAsRep, Starts, Next, StartsAt, ResumesAt, turns_left, IsNewPhase, IsNew}
use Rattle.krb_as.proofs.AsTurns.{CameError, CameEarly, first_taken, asked_first, AskedSecond, asked_second, WentOnEarly, error_taken, as_rep_taken}
use Rattle.krb_as.proofs.Tasks.{turns_down}

-- which turn was given
pub asked : {P O : Type 0} (request made : NetworkRequest) (next phase : P) → ◌≡◌ {A = Turn P O} (Asks made next) (Asks request phase) → next ≡ phase
asked request made next phase e = cc

module _ {P : Type 0} (O : Type 0) (within : AsPhase → P) (left : P → ℕ) (n : ℕ) (asker : Asker) where
  -- fewer turns are left after the first request
  pub first_down : (body : KdcReqBody) → ((kdc : Kdc) → left (within (AwaitsError kdc body)) < n) → (request : NetworkRequest) (phase : P)
      → BeginsWithin {O = O} within asker body (Ok (Asks request phase)) → left phase < n
  first_down body few request phase h =
      let first = asked_first within asker body (Asks request phase) h in
      subst (λ (p : P). left p < n) (asked {O = O} request first.request _ phase (sym first.is)) (few first.kdc)

  module _ (next : Grant → Result (Turn P O) Cause → Type 0) (reply : Result (List ℕ) NetFault) (draw : Draw) (request : NetworkRequest) (phase : P) where
    -- fewer turns are left after the second request, or after the step that follows a ticket that came at once
    pub second_down : (kdc : Kdc) (body : KdcReqBody) → ((sealed : SealedTime) → left (within (AwaitsAsRep sealed)) < n)
        → ((grant : Grant) → next grant (Ok (Asks request phase)) → left phase < n)
        → TakesReplyWithin within next asker (AwaitsError kdc body) reply draw (Ok (Asks request phase)) → left phase < n
    second_down kdc body few early h = go (error_taken within next asker reply draw (Asks request phase) kdc body h)
      where
        go : AskedSecond {O = O} within asker kdc body reply (Asks request phase) ⊎ WentOnEarly next asker kdc body draw.moment reply (Asks request phase) → left phase < n
        go (inl second) = subst (λ (p : P). left p < n) (asked {O = O} request second.request _ phase (sym second.is)) (few second.sealed)
        go (inr went) = early went.on.grant went.on.rest

    -- fewer turns are left after the step that follows the ticket
    pub grant_down : (sealed : SealedTime) → ((grant : Grant) → next grant (Ok (Asks request phase)) → left phase < n)
        → TakesReplyWithin within next asker (AwaitsAsRep sealed) reply draw (Ok (Asks request phase)) → left phase < n
    grant_down sealed few h = let on = as_rep_taken within next asker reply draw (Asks request phase) sealed h in few on.grant on.rest

-- the exchange as a task
start_down : (asker : Asker) (old : ExchangePhase) (request : NetworkRequest) (phase : ExchangePhase) → Starts asker old (Ok (Asks request phase)) → turns_left phase < turns_left old
start_down asker (New body) request phase h = first_down AsDone InAsExchange turns_left 2 asker body (λ kdc. lit< tt) request phase h
start_down asker (InAsExchange phase) request next h = absurd h
start_down asker Over request phase h = absurd h

next_down : (asker : Asker) (old : ExchangePhase) (reply : Result (List ℕ) NetFault) (draw : Draw) (request : NetworkRequest) (phase : ExchangePhase)
    → Next asker old reply draw (Ok (Asks request phase)) → turns_left phase < turns_left old
unfolding EndsWithAsRep
next_down asker (New body) reply draw request phase h = absurd h
next_down asker (InAsExchange (AwaitsError kdc body)) reply draw request phase h = go (first_taken _ _ _ _ _ _ h)
  where
    go : CameError asker.rules kdc.protocol (AsksSecond InAsExchange asker kdc body draw) (EndsWith (default_salt asker.credentials)) reply (Asks request phase)
        ⊎ CameEarly asker.rules kdc.protocol (AsksSecond InAsExchange asker kdc body draw) (EndsWith (default_salt asker.credentials)) reply (Asks request phase)
        → turns_left phase < 1
    go (inl first) =
        let second = asked_second InAsExchange asker kdc body reply draw first.error (Asks request phase) first.replies first.rest in
        subst (λ (p : ExchangePhase). turns_left p < 1) (asked {O = AsDone} request second.request _ phase (sym second.is)) (lit< tt)
    go (inr early) = let f = gave _ _ early.rest in absurd cc
next_down asker (InAsExchange (AwaitsAsRep sealed)) reply draw request phase h = let rep = passed _ _ _ h in let f = gave _ _ rep.rest_held in absurd cc
next_down asker Over reply draw request phase h = absurd h

two : (phase : ExchangePhase) → IsNewPhase phase → turns_left phase ≡ 2
two (New body) new = refl
two (InAsExchange phase) new = absurd new
two Over new = absurd new

-- so it asks twice at most
pub few : {C : Type 0} (sends : C → NetworkRequest → Result (List ℕ) NetFault → C → Type 0) (exchange exchange' : AsExchange) (client client' : C) (draws : List Draw) (out : Result AsDone Error)
    → IsNew exchange → Resolves StartsAt ResumesAt sends exchange client draws out exchange' client' → Resolves StartsAt ResumesAt sends exchange client (take 3 draws) out exchange' client'
few sends exchange exchange' client client' draws out new run =
    subst (λ (n : ℕ). Resolves StartsAt ResumesAt sends exchange client (take (n + 1) draws) out exchange' client') (two exchange.phase new.0)
    (resolves_in StartsAt ResumesAt sends (λ e. Unit {0}) (λ e. Unit {0}) (λ e. turns_left e.phase)
    (λ task draw state next z h. turns_down Over (Starts task.asker task.phase) turns_left (turns_left task.phase) (start_down task.asker task.phase) state next.phase h.turn)
    (λ task reply draw state next z h. turns_down Over (Next task.asker task.phase reply draw) turns_left (turns_left task.phase) (next_down task.asker task.phase reply draw) state next.phase h.turn)
    exchange client draws out exchange' client' tt run)
