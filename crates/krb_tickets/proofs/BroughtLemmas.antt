-- The ticket that a reply brings is the one that the run goes on with.
use Rattle.std.proofs.Common.{◌≡◌, ℕ, List, Option, Some, None, Result, Ok, refl, ap}
use Rattle.sspi_core.specs.declared.draw.Draw.{Draw}
use Rattle.sspi_core.proofs.Chain.{passed, gave, follows}
use Rattle.sspi_generator.specs.declared.network.NetworkRequest.{NetworkRequest}
use Rattle.sspi_generator.specs.declared.network.NetFault.{NetFault}
use Rattle.krb_as.specs.AsPhases.{TakesReply, TakesReplyWithin}
use Rattle.krb_as.specs.Turns.{Within}
use Rattle.krb_as.specs.declared.as_phase.AsPhase.{AsPhase}
use Rattle.krb_as.specs.declared.done.InitDone.{InitDone}
use Rattle.krb_as.specs.declared.key.Grant.{Grant}
use Rattle.krb_as.specs.declared.turn.Turn.{Turn}
use Rattle.krb_as.specs.declared.turn.Turn.TheVariants.{Asks, Ends}
use Rattle.krb_initiator.proofs.Chains.{asked}
use Rattle.krb_initiator.proofs.FreshLemmas.{same_end}
use Rattle.krb_initiator.specs.InitSteps.{AsksFirstTgs, Refers, Arrives, GoesTo, TakesNext}
use Rattle.krb_initiator.specs.InitRuns.{Next}
use Rattle.krb_initiator.specs.declared.seeker.Seeker.{Seeker}
use Rattle.krb_initiator.specs.declared.seeker.TgsLeg.{TgsLeg}
use Rattle.krb_initiator.specs.declared.seeker.Initiation.TheVariants.{Seeks}
use Rattle.krb_initiator.specs.declared.seeker.InitPhase.{InitPhase}
use Rattle.krb_initiator.specs.declared.seeker.InitPhase.TheVariants.{New, InAsExchange, AwaitsTgsRep, Over}
use Rattle.krb_tickets.proofs.Chains.{showed}
use Rattle.krb_tickets.specs.Brought.{BringsFirst, BringsNext, ShowsNext, EndsWith}
use Rattle.krb_tickets.specs.Came.{held_key, HasSessionKey}

same_leg : (x y : TgsLeg) → ◌≡◌ {A = InitPhase} (AwaitsTgsRep x) (AwaitsTgsRep y) → x ≡ y
same_leg x y e = cc

other_phase : (phase : AsPhase) (leg : TgsLeg) → ◌≡◌ {A = InitPhase} (AwaitsTgsRep leg) (InAsExchange phase) → ⊥
other_phase phase leg e = cc

module _ (seeker : Seeker) (reply : Result (List ℕ) NetFault) (draw : Draw) where
  -- a TGS-REP
  module _ (leg : TgsLeg) where
    refers : (to : Option (List ℕ)) (shown : Grant) (request : NetworkRequest) (next : TgsLeg) → GoesTo to seeker leg shown draw (Ok (Asks request (AwaitsTgsRep next)))
        → (next.suite ≡ shown.suite) × (next.key ≡ shown.key)
    unfolding Arrives Refers
    refers None shown request next h = let made = passed _ _ _ h in let f = gave _ _ made.rest_held in absurd cc
    refers (Some realm) shown request next h =
        let begun = passed _ _ _ h in
        let is = same_leg _ _ (asked _ _ _ _ (gave _ _ begun.rest_held)) in
        (ap (λ (l : TgsLeg). l.suite) is, ap (λ (l : TgsLeg). l.key) is)

    arrives : (to : Option (List ℕ)) (shown : Grant) (done : InitDone) → GoesTo to seeker leg shown draw (Ok (Ends done)) → HasSessionKey done (held_key shown)
    unfolding Arrives Refers
    arrives None shown done h = let made = passed _ _ _ h in showed seeker shown leg.home draw done made.found (same_end _ _ (gave _ _ made.rest_held)) made.first_held
    arrives (Some realm) shown done h = let begun = passed _ _ _ h in let f = gave _ _ begun.rest_held in absurd cc

    next_asks : (request : NetworkRequest) (next : TgsLeg) → TakesNext seeker leg reply draw (Ok (Asks request (AwaitsTgsRep next))) → ShowsNext (Seeks seeker) (AwaitsTgsRep leg) reply draw next
    unfolding TakesNext BringsNext
    next_asks request next h =
        let shown = passed _ _ _ h in
        let same = refers _ shown.found request next shown.rest_held in
        record { ticket = shown.found; brings = follows _ _ shown.found _ shown.first_held (record { is = refl }); suite = same.0; key = same.1 }

    next_ends : (done : InitDone) → TakesNext seeker leg reply draw (Ok (Ends done)) → EndsWith (Seeks seeker) (AwaitsTgsRep leg) reply draw done
    unfolding TakesNext BringsNext
    next_ends done h =
        let shown = passed _ _ _ h in
        record { ticket = shown.found; brings = follows _ _ shown.found _ shown.first_held (record { is = refl }); session = arrives _ shown.found done shown.rest_held }

  -- an AS-REP
  module _ (phase : AsPhase) where
    first_turn : (turn : Turn AsPhase Grant) (request : NetworkRequest) (next : TgsLeg) → TakesReply seeker.asker phase reply draw (Ok turn)
        → Within InAsExchange (λ grant. AsksFirstTgs seeker grant draw) turn (Ok (Asks request (AwaitsTgsRep next))) → ShowsNext (Seeks seeker) (InAsExchange phase) reply draw next
    unfolding AsksFirstTgs BringsFirst
    first_turn (Asks sent later) request next taken h = absurd (other_phase later next (asked _ _ _ _ (gave _ _ h)))
    first_turn (Ends grant) request next taken h =
        let begun = passed _ _ _ h in
        let is = same_leg _ _ (asked _ _ _ _ (gave _ _ begun.rest_held)) in
        record {
          ticket = grant;
          brings = follows _ _ (let turn : Turn AsPhase Grant = Ends grant in turn) _ taken (record { is = refl });
          suite = ap (λ (l : TgsLeg). l.suite) is;
          key = ap (λ (l : TgsLeg). l.key) is;
        }

    first_asks : (request : NetworkRequest) (next : TgsLeg) → TakesReplyWithin InAsExchange (λ grant. AsksFirstTgs seeker grant draw) seeker.asker phase reply draw (Ok (Asks request (AwaitsTgsRep next)))
        → ShowsNext (Seeks seeker) (InAsExchange phase) reply draw next
    unfolding TakesReplyWithin
    first_asks request next h = let turn = passed _ _ _ h in first_turn turn.found request next turn.first_held turn.rest_held

    no_end : (turn : Turn AsPhase Grant) (done : InitDone) → Within InAsExchange (λ grant. AsksFirstTgs seeker grant draw) turn (Ok (Ends done)) → ⊥
    unfolding AsksFirstTgs
    no_end (Asks sent later) done h = let f = gave _ _ h in cc
    no_end (Ends grant) done h = let begun = passed _ _ _ h in let f = gave _ _ begun.rest_held in cc

    never_ends : (done : InitDone) → TakesReplyWithin InAsExchange (λ grant. AsksFirstTgs seeker grant draw) seeker.asker phase reply draw (Ok (Ends done)) → ⊥
    unfolding TakesReplyWithin
    never_ends done h = let turn = passed _ _ _ h in no_end turn.found done turn.rest_held

  pub shows_next : (phase : InitPhase) (request : NetworkRequest) (next : TgsLeg) → Next (Seeks seeker) phase reply draw (Ok (Asks request (AwaitsTgsRep next))) → ShowsNext (Seeks seeker) phase reply draw next
  shows_next New request next h = absurd h
  shows_next (InAsExchange phase) request next h = first_asks phase request next h
  shows_next (AwaitsTgsRep leg) request next h = next_asks leg request next h
  shows_next Over request next h = absurd h

  pub ends_with : (phase : InitPhase) (done : InitDone) → Next (Seeks seeker) phase reply draw (Ok (Ends done)) → EndsWith (Seeks seeker) phase reply draw done
  ends_with New done h = absurd h
  ends_with (InAsExchange phase) done h = absurd (never_ends phase done h)
  ends_with (AwaitsTgsRep leg) done h = next_ends leg done h
  ends_with Over done h = absurd h
