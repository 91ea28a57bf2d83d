-- Each reply of a run that began with a ticket answers the request that the run made.
use Rattle.std.proofs.Common.{◌≡◌, ℕ, true, List, [], ◌∷◌, ◌++◌, Option, Some, None, Ok, refl, sym, ap, ◌∙◌, subst}
use Rattle.std.specs.Prelude.{◌&&◌, unwrap_or}
use Rattle.krb_context.specs.Rules.{has_rule, fresh_replies}
use Rattle.sspi_core.specs.declared.draw.Draw.{Draw}
use Rattle.sspi_core.proofs.Chain.{passed, gave}
use Rattle.sspi_generator.specs.declared.network.NetworkRequest.{NetworkRequest}
use Rattle.krb_replies.specs.Realms.{referral_realm}
use Rattle.krb_as.specs.declared.done.InitDone.{InitDone}
use Rattle.krb_as.specs.declared.key.Grant.{Grant}
use Rattle.krb_as.specs.declared.turn.Turn.TheVariants.{Asks, Ends}
use Rattle.krb_tgs.specs.Fresh.{is_for_target, referral_of}
use Rattle.krb_tgs.proofs.Asked.{asked_realm, followed_realm, referred_to}
use Rattle.krb_tgs.proofs.Chains.{taken_tgs, TgsTaken}
use Rattle.krb_ap.specs.Shown.{shown as shown_to, ShowsTicket}
use Rattle.krb_initiator.specs.FreshRuns.{Arrival, next_realm, LeadsOn}
use Rattle.krb_initiator.specs.InitSteps.{Refers, Arrives, GoesTo, TakesNext}
use Rattle.krb_initiator.specs.InitRuns.{Next}
use Rattle.krb_initiator.specs.Tgts.{first_tickets}
use Rattle.krb_initiator.specs.declared.seeker.Seeker.{Seeker}
use Rattle.krb_initiator.specs.declared.seeker.TgsLeg.{TgsLeg}
use Rattle.krb_initiator.specs.declared.seeker.Initiation.TheVariants.{Seeks}
use Rattle.krb_initiator.specs.declared.seeker.InitPhase.{InitPhase}
use Rattle.krb_initiator.specs.declared.seeker.InitPhase.TheVariants.{New, InAsExchange, AwaitsTgsRep, Over}
use Rattle.krb_initiator.proofs.FreshLemmas.{same_turn, same_end, HasShown, answers, brings, leads_more, ends_at_target}
use Rattle.krb_tickets.specs.Steps.{AsksWithHeld, ShowsHeld, GoesWith, StartsHeld}
use Rattle.krb_tickets.specs.FreshRuns.{CameWithTicket, CameFresh, IsFreshSession}

-- the realm that a ticket refers to is asked next
refers_to : (seeker : Seeker) (ticket : Grant) (realm : List ℕ) → referral_of seeker.asker.rules seeker.wanted.target ticket.facts ticket.rep ≡ Some realm → next_realm ticket ≡ realm
refers_to seeker ticket realm e =
    ap (λ (r : Option (List ℕ)). unwrap_or r [])
    (referred_to (has_rule seeker.asker.rules fresh_replies && is_for_target seeker.wanted.target ticket.facts) (referral_realm ticket.rep.ticket.sname) realm e)

-- after the start there is no reply
module _ (seeker : Seeker) (held : Grant) (start : Draw) where
  start_asks : (to : Option (List ℕ)) (request : NetworkRequest) (phase : InitPhase) → referral_of seeker.asker.rules seeker.wanted.target held.facts held.rep ≡ to
      → GoesWith to seeker held start (Ok (Asks request phase)) → CameFresh seeker held start [] phase
  unfolding ShowsHeld AsksWithHeld
  start_asks None request phase e h = let made = passed _ _ _ h in let f = gave _ _ made.rest_held in absurd cc
  start_asks (Some realm) request phase e h =
      let begun = passed _ _ _ h in
      subst (λ (p : InitPhase). CameFresh seeker held start [] p) (sym (same_turn _ request phase _ (gave _ _ begun.rest_held)))
      (record {
        to = realm;
        last = held;
        at = start;
        leads = (refers_to seeker held realm e, refl, refl);
        suite = refl;
        key = refl;
        question = refl;
        realm = asked_realm seeker.asker seeker.wanted held held.rep.crealm realm start begun.found (first_tickets seeker.tgt) begun.first_held;
      })

  pub begins_fresh : (request : NetworkRequest) (phase : InitPhase) → StartsHeld seeker held start (Ok (Asks request phase)) → CameFresh seeker held start [] phase
  begins_fresh request phase h = start_asks (referral_of seeker.asker.rules seeker.wanted.target held.facts held.rep) request phase refl h

module _ (seeker : Seeker) (held : Grant) (start : Draw) (rule : has_rule seeker.asker.rules fresh_replies ≡ true) (arrivals : List Arrival) (arrival : Arrival) where
  abbrev now : List Arrival
  now = arrivals ++ arrival ∷ []

  module _ (leg : TgsLeg) (shown : Grant) (came : CameWithTicket seeker held start arrivals leg)
      (taken : TgsTaken seeker.asker.rules seeker.wanted.target leg.question arrival.draw.moment leg.kdc leg.suite leg.key arrival.reply shown) where
    has_shown : HasShown leg came.to came.last came.at
    has_shown = record { suite = came.suite; key = came.key; question = came.question; realm = came.realm }

    leads : LeadsOn seeker (next_realm held) held start now (next_realm shown) shown arrival.draw
    leads =
        leads_more seeker came.to came.last came.at arrival shown (brings seeker rule arrival leg came.to came.last came.at has_shown shown taken) (next_realm held) held start arrivals came.leads

    abbrev referral : Option (List ℕ)
    referral = referral_of seeker.asker.rules seeker.wanted.target shown.facts shown.rep

    refers : (request : NetworkRequest) (next : InitPhase) (realm : List ℕ) → referral ≡ Some realm → Refers seeker leg realm shown arrival.draw (Ok (Asks request next))
        → CameFresh seeker held start now next
    unfolding Refers
    refers request next realm e h =
        let begun = passed _ _ _ h in
        subst (λ (p : InitPhase). CameFresh seeker held start now p) (sym (same_turn _ request next _ (gave _ _ begun.rest_held)))
        (record {
          to = next_realm shown;
          last = shown;
          at = arrival.draw;
          leads = leads;
          suite = refl;
          key = refl;
          question = refl;
          realm = followed_realm seeker.asker seeker.wanted shown leg.home realm arrival.draw begun.found leg.hops leg.kdc.realm begun.first_held ∙ sym (refers_to seeker shown realm e);
        })

    arrives : (done : InitDone) → referral ≡ None → Arrives seeker leg shown arrival.draw (Ok (Ends done)) → IsFreshSession seeker held start now done
    unfolding Arrives ShowsTicket shown_to
    arrives done e h =
        let made = passed _ _ _ h in
        let key = passed _ _ _ made.first_held in
        let is : done ≡ made.found = same_end _ _ (gave _ _ made.rest_held) in
        let end_is : made.found ≡ shown_to seeker.errand shown.suite shown.key shown.rep leg.home arrival.draw = gave _ _ key.rest_held in
        record {
          to = next_realm shown;
          last = shown;
          at = arrival.draw;
          leads = leads;
          is_service = e;
          for_target = ends_at_target seeker came.to came.last came.at arrival.draw.moment shown rule (answers seeker rule arrival leg came.to came.last came.at has_shown shown taken) e;
          session_key = ap (λ (d : InitDone). d.change.encryption_params.session_key) (is ∙ end_is);
          asked_at = ap (λ (d : InitDone). d.change.asked_at) (is ∙ end_is);
          state = ap (λ (d : InitDone). d.change.state) (is ∙ end_is);
        }

    goes : (to : Option (List ℕ)) (request : NetworkRequest) (next : InitPhase) → referral ≡ to → GoesTo to seeker leg shown arrival.draw (Ok (Asks request next))
        → CameFresh seeker held start now next
    unfolding Arrives
    goes None request next e h = let made = passed _ _ _ h in let f = gave _ _ made.rest_held in absurd cc
    goes (Some realm) request next e h = refers request next realm e h

    ends_at : (to : Option (List ℕ)) (done : InitDone) → referral ≡ to → GoesTo to seeker leg shown arrival.draw (Ok (Ends done))
        → IsFreshSession seeker held start now done
    unfolding Refers
    ends_at None done e h = arrives done e h
    ends_at (Some realm) done e h = let begun = passed _ _ _ h in let f = gave _ _ begun.rest_held in absurd cc

  abbrev TakenNext : TgsLeg → Grant → Type 0
  TakenNext leg shown = TgsTaken seeker.asker.rules seeker.wanted.target leg.question arrival.draw.moment leg.kdc leg.suite leg.key arrival.reply shown

  next_goes : (leg : TgsLeg) (request : NetworkRequest) (next : InitPhase) → CameWithTicket seeker held start arrivals leg
      → TakesNext seeker leg arrival.reply arrival.draw (Ok (Asks request next)) → CameFresh seeker held start now next
  unfolding TakesNext
  next_goes leg request next came h =
      let shown = passed _ _ _ h in
      let taken : TakenNext leg shown.found =
      taken_tgs seeker.asker.rules seeker.wanted.target leg.question arrival.draw.moment leg.kdc leg.suite leg.key arrival.reply shown.found shown.first_held in
      goes leg shown.found came taken _ request next refl shown.rest_held

  next_ends : (leg : TgsLeg) (done : InitDone) → CameWithTicket seeker held start arrivals leg → TakesNext seeker leg arrival.reply arrival.draw (Ok (Ends done))
      → IsFreshSession seeker held start now done
  unfolding TakesNext
  next_ends leg done came h =
      let shown = passed _ _ _ h in
      let taken : TakenNext leg shown.found =
      taken_tgs seeker.asker.rules seeker.wanted.target leg.question arrival.draw.moment leg.kdc leg.suite leg.key arrival.reply shown.found shown.first_held in
      ends_at leg shown.found came taken _ done refl shown.rest_held

  pub goes_on_fresh : (phase : InitPhase) (request : NetworkRequest) (next : InitPhase) → CameFresh seeker held start arrivals phase
      → Next (Seeks seeker) phase arrival.reply arrival.draw (Ok (Asks request next)) → CameFresh seeker held start now next
  goes_on_fresh New request next came h = absurd h
  goes_on_fresh (InAsExchange phase) request next came h = absurd came
  goes_on_fresh (AwaitsTgsRep leg) request next came h = next_goes leg request next came h
  goes_on_fresh Over request next came h = absurd h

  pub ends_fresh : (phase : InitPhase) (done : InitDone) → CameFresh seeker held start arrivals phase → Next (Seeks seeker) phase arrival.reply arrival.draw (Ok (Ends done))
      → IsFreshSession seeker held start now done
  ends_fresh New done came h = absurd h
  ends_fresh (InAsExchange phase) done came h = absurd came
  ends_fresh (AwaitsTgsRep leg) done came h = next_ends leg done came h
  ends_fresh Over done came h = absurd h
