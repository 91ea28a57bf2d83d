-- The keys of the replies to a run that began with a ticket are a chain that begins with the ticket's key.
use Rattle.std.proofs.Common.{◌≡◌, ℕ, ◌+◌, true, List, [], ◌∷◌, ◌++◌, Option, Some, None, Result, Ok, refl, sym, ap, ◌∙◌, subst, length-append}
use Rattle.std.specs.Prelude.{◌&&◌, is_some}
use Rattle.krb_exchange.specs.declared.kdc_rep.KdcRep.{KdcRep}
use Rattle.sspi_core.specs.declared.draw.Draw.{Draw}
use Rattle.sspi_core.proofs.Chain.{passed, gave}
use Rattle.sspi_generator.specs.declared.network.NetworkRequest.{NetworkRequest}
use Rattle.sspi_generator.specs.declared.network.NetFault.{NetFault}
use Rattle.krb_context.specs.Rules.{has_rule, fresh_replies}
use Rattle.krb_replies.specs.Realms.{referral_realm}
use Rattle.krb_as.specs.declared.turn.Turn.TheVariants.{Asks, Ends}
use Rattle.krb_as.specs.declared.done.InitDone.{InitDone}
use Rattle.krb_as.specs.declared.key.Grant.{Grant}
use Rattle.krb_tgs.proofs.Asked.{referred_to}
use Rattle.krb_tgs.proofs.Chains.{key_of, taken_tgs, TgsTaken, one_more}
use Rattle.krb_tgs.specs.Fresh.{is_for_target, referral_of}
use Rattle.krb_ap.specs.Shown.{shown as shown_to, ShowsTicket}
use Rattle.krb_initiator.specs.declared.seeker.Seeker.{Seeker}
use Rattle.krb_initiator.specs.declared.seeker.TgsLeg.{TgsLeg}
use Rattle.krb_initiator.specs.declared.seeker.Initiation.TheVariants.{Seeks}
use Rattle.krb_initiator.specs.declared.seeker.InitPhase.{InitPhase}
use Rattle.krb_initiator.specs.declared.seeker.InitPhase.TheVariants.{New, InAsExchange, AwaitsTgsRep, Over}
use Rattle.krb_initiator.specs.InitSteps.{Refers, Arrives, GoesTo, TakesNext}
use Rattle.krb_initiator.specs.InitRuns.{Next}
use Rattle.krb_initiator.specs.Came.{is_referral}
use Rattle.krb_initiator.proofs.Chains.{asked, more_granted, more_referrals}
use Rattle.krb_initiator.proofs.FreshLemmas.{same_end}
use Rattle.krb_tickets.specs.Steps.{AsksWithHeld, ShowsHeld, GoesWith, StartsHeld}
use Rattle.krb_tickets.specs.Came.{held_key, HasHeldChain, CameToLeg, CameHeld, HasSessionKey, IsHeldSession}

-- a ticket that is shown to the service gives the session key
module _ (seeker : Seeker) (shown : Grant) (home : List ℕ) (draw : Draw) (done : InitDone) where
  given : done ≡ shown_to seeker.errand shown.suite shown.key shown.rep home draw → HasSessionKey done (held_key shown)
  unfolding shown_to
  given is = record {
    session_key = ap (λ (d : InitDone). d.change.encryption_params.session_key) is;
    encryption_type = ap (λ (d : InitDone). d.change.encryption_params.encryption_type) is;
  }

  pub showed : (made : InitDone) → done ≡ made → ShowsTicket seeker.errand shown.suite shown.key shown.rep home draw (Ok made) → HasSessionKey done (held_key shown)
  unfolding ShowsTicket
  showed made is h = let key = passed _ _ _ h in given (is ∙ gave _ _ key.rest_held)

-- the start
module _ (seeker : Seeker) (held : Grant) (draw : Draw) where
  start_asks : (referral : Option (List ℕ)) (request : NetworkRequest) (phase : InitPhase) → GoesWith referral seeker held draw (Ok (Asks request phase)) → CameHeld seeker held [] phase
  unfolding ShowsHeld AsksWithHeld
  start_asks None request phase h = let made = passed _ _ _ h in let f = gave _ _ made.rest_held in absurd cc
  start_asks (Some realm) request phase h =
      let begun = passed _ _ _ h in
      subst (λ (p : InitPhase). CameHeld seeker held [] p) (sym (asked _ request phase _ (gave _ _ begun.rest_held)))
      (record { reps = []; facts = held.facts; has = record { granted = tt; chain = refl }; referrals = refl; count = refl })

  start_ends : (referral : Option (List ℕ)) (done : InitDone) → GoesWith referral seeker held draw (Ok (Ends done)) → HasSessionKey done (held_key held)
  unfolding ShowsHeld AsksWithHeld
  start_ends None done h = let made = passed _ _ _ h in showed seeker held held.rep.crealm draw done made.found (same_end _ _ (gave _ _ made.rest_held)) made.first_held
  start_ends (Some realm) done h = let begun = passed _ _ _ h in let f = gave _ _ begun.rest_held in absurd cc

pub begins : (seeker : Seeker) (held : Grant) (draw : Draw) (request : NetworkRequest) (phase : InitPhase) → StartsHeld seeker held draw (Ok (Asks request phase)) → CameHeld seeker held [] phase
begins seeker held draw request phase h = start_asks seeker held draw (referral_of seeker.asker.rules seeker.wanted.target held.facts held.rep) request phase h

pub shows : (seeker : Seeker) (held : Grant) (draw : Draw) (done : InitDone) → StartsHeld seeker held draw (Ok (Ends done)) → HasSessionKey done (held_key held)
shows seeker held draw done h = start_ends seeker held draw (referral_of seeker.asker.rules seeker.wanted.target held.facts held.rep) done h

-- a reply
module _ (seeker : Seeker) (held : Grant) (reply : Result (List ℕ) NetFault) (draw : Draw) (leg : TgsLeg) (replies : List (Result (List ℕ) NetFault)) (shown : Grant)
    (came : CameToLeg seeker held replies leg)
    (taken : TgsTaken seeker.asker.rules seeker.wanted.target leg.question draw.moment leg.kdc leg.suite leg.key reply shown) where
  longer : HasHeldChain seeker held (replies ++ (reply ∷ [])) (came.reps ++ (taken.rep ∷ [])) (held_key shown)
  longer = record {
    granted = more_granted seeker reply draw replies came.reps taken.rep came.has.granted (record { protocol = leg.kdc.protocol; granted = taken.granted });
    chain =
        one_more seeker.asker.rules taken.rep (record { suite = leg.suite; key = leg.key; facts = came.facts }) (key_of shown) taken.opened (held_key held) came.reps came.has.chain;
  }

  abbrev referral : Option (List ℕ)
  referral = referral_of seeker.asker.rules seeker.wanted.target shown.facts shown.rep

  -- what is followed is a referral
  named_so : (realm : List ℕ) → referral ≡ Some realm → is_referral taken.rep ≡ true
  named_so realm e =
      ap (λ (r : KdcRep). is_some (referral_realm r.ticket.sname)) (sym taken.brought)
      ∙ ap is_some (referred_to (has_rule seeker.asker.rules fresh_replies && is_for_target seeker.wanted.target shown.facts) (referral_realm shown.rep.ticket.sname) realm e)

  refers : (request : NetworkRequest) (next : InitPhase) (realm : List ℕ) → referral ≡ Some realm → Refers seeker leg realm shown draw (Ok (Asks request next))
      → CameHeld seeker held (replies ++ (reply ∷ [])) next
  unfolding Refers
  refers request next realm e h =
      let begun = passed _ _ _ h in
      subst (λ (p : InitPhase). CameHeld seeker held (replies ++ (reply ∷ [])) p) (sym (asked _ request next _ (gave _ _ begun.rest_held)))
      (record {
        reps = came.reps ++ (taken.rep ∷ []);
        facts = shown.facts;
        has = longer;
        referrals = more_referrals seeker reply draw came.reps taken.rep came.referrals (named_so realm e);
        count = length-append came.reps (taken.rep ∷ []) ∙ ap (λ (n : ℕ). n + 1) came.count;
      })

  arrives : (done : InitDone) → referral ≡ None → Arrives seeker leg shown draw (Ok (Ends done)) → IsHeldSession seeker held (replies ++ (reply ∷ [])) done
  unfolding Arrives
  arrives done e h =
      let made = passed _ _ _ h in
      record {
        key = held_key shown;
        referrals = came.reps;
        last = taken.rep;
        has = longer;
        are_referrals = came.referrals;
        is_service = ap (λ (r : KdcRep). referral_of seeker.asker.rules seeker.wanted.target shown.facts r) (sym taken.brought) ∙ e;
        session = showed seeker shown leg.home draw done made.found (same_end _ _ (gave _ _ made.rest_held)) made.first_held;
      }

  goes : (to : Option (List ℕ)) (request : NetworkRequest) (next : InitPhase) → referral ≡ to → GoesTo to seeker leg shown draw (Ok (Asks request next))
      → CameHeld seeker held (replies ++ (reply ∷ [])) next
  unfolding Arrives
  goes None request next e h = let made = passed _ _ _ h in let f = gave _ _ made.rest_held in absurd cc
  goes (Some realm) request next e h = refers request next realm e h

  ends_at : (to : Option (List ℕ)) (done : InitDone) → referral ≡ to → GoesTo to seeker leg shown draw (Ok (Ends done))
      → IsHeldSession seeker held (replies ++ (reply ∷ [])) done
  unfolding Refers
  ends_at None done e h = arrives done e h
  ends_at (Some realm) done e h = let begun = passed _ _ _ h in let f = gave _ _ begun.rest_held in absurd cc

module _ (seeker : Seeker) (held : Grant) (reply : Result (List ℕ) NetFault) (draw : Draw) where
  next_goes : (leg : TgsLeg) (replies : List (Result (List ℕ) NetFault)) (request : NetworkRequest) (next : InitPhase) → CameToLeg seeker held replies leg
      → TakesNext seeker leg reply draw (Ok (Asks request next)) → CameHeld seeker held (replies ++ (reply ∷ [])) next
  unfolding TakesNext
  next_goes leg replies request next came h =
      let shown = passed _ _ _ h in
      goes seeker held reply draw leg replies shown.found came
      (taken_tgs seeker.asker.rules seeker.wanted.target leg.question draw.moment leg.kdc leg.suite leg.key reply shown.found shown.first_held) _ request next refl shown.rest_held

  next_ends : (leg : TgsLeg) (replies : List (Result (List ℕ) NetFault)) (done : InitDone) → CameToLeg seeker held replies leg → TakesNext seeker leg reply draw (Ok (Ends done))
      → IsHeldSession seeker held (replies ++ (reply ∷ [])) done
  unfolding TakesNext
  next_ends leg replies done came h =
      let shown = passed _ _ _ h in
      ends_at seeker held reply draw leg replies shown.found came
      (taken_tgs seeker.asker.rules seeker.wanted.target leg.question draw.moment leg.kdc leg.suite leg.key reply shown.found shown.first_held) _ done refl shown.rest_held

pub goes_on : (seeker : Seeker) (held : Grant) (replies : List (Result (List ℕ) NetFault)) (phase : InitPhase) (reply : Result (List ℕ) NetFault) (draw : Draw) (request : NetworkRequest) (next : InitPhase)
    → CameHeld seeker held replies phase → Next (Seeks seeker) phase reply draw (Ok (Asks request next)) → CameHeld seeker held (replies ++ (reply ∷ [])) next
goes_on seeker held replies New reply draw request next came h = absurd h
goes_on seeker held replies (InAsExchange phase) reply draw request next came h = absurd came
goes_on seeker held replies (AwaitsTgsRep leg) reply draw request next came h = next_goes seeker held reply draw leg replies request next came h
goes_on seeker held replies Over reply draw request next came h = absurd h

pub ends : (seeker : Seeker) (held : Grant) (replies : List (Result (List ℕ) NetFault)) (phase : InitPhase) (reply : Result (List ℕ) NetFault) (draw : Draw) (done : InitDone)
    → CameHeld seeker held replies phase → Next (Seeks seeker) phase reply draw (Ok (Ends done)) → IsHeldSession seeker held (replies ++ (reply ∷ [])) done
ends seeker held replies New reply draw done came h = absurd h
ends seeker held replies (InAsExchange phase) reply draw done came h = absurd came
ends seeker held replies (AwaitsTgsRep leg) reply draw done came h = next_ends seeker held reply draw leg replies done came h
ends seeker held replies Over reply draw done came h = absurd h
