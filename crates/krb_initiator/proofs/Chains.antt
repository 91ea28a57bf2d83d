-- The keys of a run's replies are a chain.
use Rattle.std.proofs.Common.{◌≡◌, inl, inr, ℕ, ◌+◌, Bool, true, false, List, [], ◌∷◌, ◌++◌, Option, Some, None, Result, Ok, refl, sym, ap, ◌∙◌, subst, append_assoc, length-append}
use Rattle.std.specs.Prelude.{◌&&◌, ◌⊎◌, is_some}
use Rattle.std.specs.List.{list_all}
use Rattle.krb_exchange.specs.declared.kdc_rep.KdcRep.{KdcRep}
use Rattle.krb_exchange.specs.declared.kdc_rep.TgsRep.{TgsRep}
use Rattle.krb_exchange.specs.declared.kdc_req.KdcReqBody.{KdcReqBody}
use Rattle.sspi_core.specs.declared.cause.Cause.{Cause}
use Rattle.sspi_core.specs.declared.draw.Draw.{Draw}
use Rattle.sspi_core.specs.declared.protocol.NetworkProtocol.{NetworkProtocol}
use Rattle.sspi_generator.specs.declared.network.NetworkRequest.{NetworkRequest}
use Rattle.sspi_generator.specs.declared.network.NetFault.{NetFault}
use Rattle.krb_as.specs.declared.kdc.Kdc.{Kdc}
use Rattle.sspi_core.proofs.Chain.{passed, gave}
use Rattle.krb_context.specs.Rules.{has_rule, fresh_replies}
use Rattle.krb_replies.specs.Realms.{referral_realm}
use Rattle.krb_as.specs.declared.turn.Turn.{Turn}
use Rattle.krb_as.specs.declared.turn.Turn.TheVariants.{Asks, Ends}
use Rattle.krb_as.specs.declared.done.InitDone.{InitDone}
use Rattle.krb_as.specs.declared.as_phase.AsPhase.{AsPhase}
use Rattle.krb_as.specs.declared.as_phase.AsPhase.TheVariants.{AwaitsError, AwaitsAsRep}
use Rattle.krb_as.specs.declared.key.SealedTime.{SealedTime}
use Rattle.krb_as.specs.Askers.{default_salt}
use Rattle.krb_as.specs.AsPhases.{TakesReplyWithin}
use Rattle.krb_as.proofs.AsTurns.{asked_first, AskedSecond, WentOn, WentOnEarly, error_taken, as_rep_taken}
use Rattle.krb_as.specs.declared.key.Grant.{Grant}
use Rattle.krb_tgs.proofs.Asked.{referred_to}
use Rattle.krb_tgs.specs.Fresh.{is_for_target, referral_of}
use Rattle.krb_tgs.proofs.Chains.{key_of, chain_begins, chain_goes_on, taken_tgs, TgsTaken}
use Rattle.krb_ap.specs.Shown.{shown as shown_to, ShowsTicket}
use Rattle.krb_initiator.specs.declared.seeker.Seeker.{Seeker}
use Rattle.krb_initiator.specs.declared.seeker.TgsLeg.{TgsLeg}
use Rattle.krb_initiator.specs.declared.seeker.Initiation.TheVariants.{Seeks}
use Rattle.krb_initiator.specs.declared.seeker.InitPhase.{InitPhase}
use Rattle.krb_initiator.specs.declared.seeker.InitPhase.TheVariants.{New, InAsExchange, AwaitsTgsRep, Over}
use Rattle.krb_initiator.specs.InitSteps.{body_of, AsksFirstTgs, Refers, Arrives, GoesTo, TakesNext}
use Rattle.krb_initiator.specs.InitRuns.{Starts, Next}
use Rattle.krb_initiator.specs.Came.{IsGranted, AreGranted, is_referral, LeaveSalt, HasChain, CameWithSalt, CameWithKey, Came, IsSession}

-- which turn was given
pub asked : (request made : NetworkRequest) (next phase : InitPhase) → ◌≡◌ {A = Turn InitPhase InitDone} (Asks made next) (Asks request phase) → next ≡ phase
asked request made next phase e = cc

-- after the start there is no reply
pub begins : (seeker : Seeker) (draw : Draw) (request : NetworkRequest) (phase : InitPhase) → Starts (Seeks seeker) New draw (Ok (Asks request phase)) → Came seeker [] phase
begins seeker draw request phase h =
    let first = asked_first InAsExchange seeker.asker (body_of seeker draw) (Asks request phase) h in
    subst (λ (p : InitPhase). Came seeker [] p) (sym (asked _ request phase _ first.is)) refl

module _ (seeker : Seeker) (reply : Result (List ℕ) NetFault) (draw : Draw) where
  abbrev AsksTgs : Grant → Result (Turn InitPhase InitDone) Cause → Type 0
  AsksTgs grant answer = AsksFirstTgs seeker grant draw answer

  abbrev Taken : AsPhase → Turn InitPhase InitDone → Type 0
  Taken phase turn = TakesReplyWithin InAsExchange AsksTgs seeker.asker phase reply draw (Ok turn)

  -- a ticket was taken, and the ticket-granting service of the client's realm was asked
  asked_on : (before : List (Result (List ℕ) NetFault)) (salt : List ℕ) (protocol : NetworkProtocol) (body : KdcReqBody) (replies : List (Result (List ℕ) NetFault)) (request : NetworkRequest) (next : InitPhase)
      → replies ≡ before → LeaveSalt seeker before salt → WentOn AsksTgs seeker.asker protocol body draw.moment salt reply (Asks request next) → Came seeker (replies ++ (reply ∷ [])) next
  unfolding AsksFirstTgs
  asked_on before salt protocol body replies request next are leave on =
      let begun = passed _ _ _ on.rest in
      subst (λ (p : InitPhase). Came seeker (replies ++ (reply ∷ [])) p) (sym (asked _ request next _ (gave _ _ begun.rest_held)))
      (record {
        reps = [];
        has = record {
          before = before;
          first = reply;
          rest = [];
          are = ap (λ (r : List (Result (List ℕ) NetFault)). r ++ (reply ∷ [])) are;
          salt = salt;
          leave = leave;
          as_rep = on.taken.rep;
          grants = record { protocol = protocol; granted = on.taken.granted };
          granted = tt;
          facts = on.grant.facts;
          chain = chain_begins seeker.asker.rules seeker.asker.credentials salt on.taken.rep (key_of on.grant) on.taken.opened;
        };
        referrals = refl;
        count = refl;
      })

  -- the error, or an AS-REP at once
  second : (kdc : Kdc) (body : KdcReqBody) (replies : List (Result (List ℕ) NetFault)) (request : NetworkRequest) (next : InitPhase) → replies ≡ [] → Taken (AwaitsError kdc body) (Asks request next)
      → Came seeker (replies ++ (reply ∷ [])) next
  second kdc body replies request next none h = go (error_taken InAsExchange AsksTgs seeker.asker reply draw (Asks request next) kdc body h)
    where
      go : AskedSecond {O = InitDone} InAsExchange seeker.asker kdc body reply (Asks request next) ⊎ WentOnEarly AsksTgs seeker.asker kdc body draw.moment reply (Asks request next) → Came seeker (replies ++ (reply ∷ [])) next
      go (inl second) =
          subst (λ (p : InitPhase). Came seeker (replies ++ (reply ∷ [])) p) (sym (asked _ request next _ second.is))
          (record {
            error = reply;
            are = ap (λ (r : List (Result (List ℕ) NetFault)). r ++ (reply ∷ [])) none;
            names = record { protocol = kdc.protocol; named = second.names };
          })
      go (inr went) = asked_on [] (default_salt seeker.asker.credentials) kdc.protocol body replies request next none (went.allowed, refl) went.on

  -- the AS-REP
  first : (sealed : SealedTime) (replies : List (Result (List ℕ) NetFault)) (request : NetworkRequest) (next : InitPhase) → CameWithSalt seeker replies sealed.salt → Taken (AwaitsAsRep sealed) (Asks request next)
      → Came seeker (replies ++ (reply ∷ [])) next
  first sealed replies request next came h =
      asked_on (came.error ∷ []) sealed.salt sealed.kdc.protocol sealed.body replies request next came.are came.names (as_rep_taken InAsExchange AsksTgs seeker.asker reply draw (Asks request next) sealed h)

  -- neither ends the run
  goes_on_asking : (protocol : NetworkProtocol) (body : KdcReqBody) (salt : List ℕ) (done : InitDone) → WentOn AsksTgs seeker.asker protocol body draw.moment salt reply (Ends done) → ⊥
  unfolding AsksFirstTgs
  goes_on_asking protocol body salt done on = let begun = passed _ _ _ on.rest in let f = gave _ _ begun.rest_held in absurd cc

  no_end : (phase : AsPhase) (done : InitDone) → Taken phase (Ends done) → ⊥
  no_end (AwaitsError kdc body) done h = go (error_taken InAsExchange AsksTgs seeker.asker reply draw (Ends done) kdc body h)
    where
      go : AskedSecond {O = InitDone} InAsExchange seeker.asker kdc body reply (Ends done) ⊎ WentOnEarly AsksTgs seeker.asker kdc body draw.moment reply (Ends done) → ⊥
      go (inl second) = let f = second.is in absurd cc
      go (inr went) = goes_on_asking kdc.protocol body (default_salt seeker.asker.credentials) done went.on
  no_end (AwaitsAsRep sealed) done h =
      goes_on_asking sealed.kdc.protocol sealed.body sealed.salt done (as_rep_taken InAsExchange AsksTgs seeker.asker reply draw (Ends done) sealed h)

  -- one more TGS-REP
  pub more_granted : (replies : List (Result (List ℕ) NetFault)) (reps : List TgsRep) (rep : TgsRep) → AreGranted replies reps → IsGranted reply rep → AreGranted (replies ++ (reply ∷ [])) (reps ++ (rep ∷ []))
  more_granted [] [] rep h one = (one, tt)
  more_granted [] (x ∷ reps) rep h one = absurd h
  more_granted (x ∷ replies) [] rep h one = absurd h
  more_granted (x ∷ replies) (y ∷ reps) rep h one = (h.0, more_granted replies reps rep h.1 one)

  pub more_referrals : (reps : List TgsRep) (rep : TgsRep) → list_all is_referral reps ≡ true → is_referral rep ≡ true → list_all is_referral (reps ++ (rep ∷ [])) ≡ true
  more_referrals [] rep h one = rw one refl
  more_referrals (x ∷ reps) rep h one = step (is_referral x) (list_all is_referral reps) (list_all is_referral (reps ++ (rep ∷ []))) h (λ all. more_referrals reps rep all one)
    where
      step : (a b c : Bool) → (a && b) ≡ true → (b ≡ true → c ≡ true) → (a && c) ≡ true
      step true b c h goes = goes h
      step false b c h goes = h

  module _ (leg : TgsLeg) (replies : List (Result (List ℕ) NetFault)) (shown : Grant) (came : CameWithKey seeker replies leg)
      (taken : TgsTaken seeker.asker.rules seeker.wanted.target leg.question draw.moment leg.kdc leg.suite leg.key reply shown) where
    one_more : HasChain seeker (replies ++ (reply ∷ [])) shown.suite (came.reps ++ (taken.rep ∷ [])) shown.key
    one_more = record {
      before = came.has.before;
      first = came.has.first;
      rest = came.has.rest ++ (reply ∷ []);
      are =
          ap (λ (r : List (Result (List ℕ) NetFault)). r ++ (reply ∷ [])) came.has.are
          ∙ append_assoc came.has.before (came.has.first ∷ came.has.rest) (reply ∷ []);
      salt = came.has.salt;
      leave = came.has.leave;
      as_rep = came.has.as_rep;
      grants = came.has.grants;
      granted = more_granted came.has.rest came.reps taken.rep came.has.granted (record { protocol = leg.kdc.protocol; granted = taken.granted });
      facts = shown.facts;
      chain =
          chain_goes_on seeker.asker.rules seeker.asker.credentials came.has.salt came.has.as_rep came.reps taken.rep (record { suite = leg.suite; key = leg.key; facts = came.has.facts }) (key_of shown)
          came.has.chain taken.opened;
    }

    -- where it refers to
    abbrev referral : Option (List ℕ)
    referral = referral_of seeker.asker.rules seeker.wanted.target shown.facts shown.rep

    -- what is followed is a referral
    named_so : (realm : List ℕ) → referral ≡ Some realm → is_referral taken.rep ≡ true
    named_so realm e =
        ap (λ (r : KdcRep). is_some (referral_realm r.ticket.sname)) (sym taken.brought)
        ∙ ap is_some (referred_to (has_rule seeker.asker.rules fresh_replies && is_for_target seeker.wanted.target shown.facts) (referral_realm shown.rep.ticket.sname) realm e)

    refers : (request : NetworkRequest) (next : InitPhase) (realm : List ℕ) → referral ≡ Some realm → Refers seeker leg realm shown draw (Ok (Asks request next))
        → Came seeker (replies ++ (reply ∷ [])) next
    unfolding Refers
    refers request next realm e h =
        let begun = passed _ _ _ h in
        subst (λ (p : InitPhase). Came seeker (replies ++ (reply ∷ [])) p) (sym (asked _ request next _ (gave _ _ begun.rest_held)))
        (record {
          reps = came.reps ++ (taken.rep ∷ []);
          has = one_more;
          referrals = more_referrals came.reps taken.rep came.referrals (named_so realm e);
          count = length-append came.reps (taken.rep ∷ []) ∙ ap (λ (n : ℕ). n + 1) came.count;
        })

    arrives : (done : InitDone) → referral ≡ None → Arrives seeker leg shown draw (Ok (Ends done)) → IsSession seeker (replies ++ (reply ∷ [])) done
    unfolding Arrives ShowsTicket shown_to one_more
    arrives done e h =
        let made = passed _ _ _ h in
        let key = passed _ _ _ made.first_held in
        let is : done ≡ made.found = ended _ _ (gave _ _ made.rest_held) in
        let end_is : made.found ≡ shown_to seeker.errand shown.suite shown.key shown.rep leg.home draw = gave _ _ key.rest_held in
        record {
          suite = shown.suite;
          key = shown.key;
          referrals = came.reps;
          last = taken.rep;
          has = one_more;
          are_referrals = came.referrals;
          is_service = ap (λ (r : KdcRep). referral_of seeker.asker.rules seeker.wanted.target shown.facts r) (sym taken.brought) ∙ e;
          session_key = ap (λ (d : InitDone). d.change.encryption_params.session_key) (is ∙ end_is);
          encryption_type = ap (λ (d : InitDone). d.change.encryption_params.encryption_type) (is ∙ end_is);
        }
      where
        ended : (x y : InitDone) → ◌≡◌ {A = Turn InitPhase InitDone} (Ends x) (Ends y) → x ≡ y
        ended x y e = cc

    goes : (to : Option (List ℕ)) (request : NetworkRequest) (next : InitPhase) → referral ≡ to → GoesTo to seeker leg shown draw (Ok (Asks request next))
        → Came seeker (replies ++ (reply ∷ [])) next
    unfolding Arrives
    goes None request next e h = let made = passed _ _ _ h in let f = gave _ _ made.rest_held in absurd cc
    goes (Some realm) request next e h = refers request next realm e h

    ends_at : (to : Option (List ℕ)) (done : InitDone) → referral ≡ to → GoesTo to seeker leg shown draw (Ok (Ends done))
        → IsSession seeker (replies ++ (reply ∷ [])) done
    unfolding Refers
    ends_at None done e h = arrives done e h
    ends_at (Some realm) done e h = let begun = passed _ _ _ h in let f = gave _ _ begun.rest_held in absurd cc

  next_goes : (leg : TgsLeg) (replies : List (Result (List ℕ) NetFault)) (request : NetworkRequest) (next : InitPhase) → CameWithKey seeker replies leg
      → TakesNext seeker leg reply draw (Ok (Asks request next)) → Came seeker (replies ++ (reply ∷ [])) next
  unfolding TakesNext
  next_goes leg replies request next came h =
      let shown = passed _ _ _ h in
      goes leg replies shown.found came (taken_tgs seeker.asker.rules seeker.wanted.target leg.question draw.moment leg.kdc leg.suite leg.key reply shown.found shown.first_held) _ request next refl shown.rest_held

  next_ends : (leg : TgsLeg) (replies : List (Result (List ℕ) NetFault)) (done : InitDone) → CameWithKey seeker replies leg → TakesNext seeker leg reply draw (Ok (Ends done))
      → IsSession seeker (replies ++ (reply ∷ [])) done
  unfolding TakesNext
  next_ends leg replies done came h =
      let shown = passed _ _ _ h in
      ends_at leg replies shown.found came (taken_tgs seeker.asker.rules seeker.wanted.target leg.question draw.moment leg.kdc leg.suite leg.key reply shown.found shown.first_held) _ done refl shown.rest_held

pub goes_on : (seeker : Seeker) (replies : List (Result (List ℕ) NetFault)) (phase : InitPhase) (reply : Result (List ℕ) NetFault) (draw : Draw) (request : NetworkRequest) (next : InitPhase)
    → Came seeker replies phase → Next (Seeks seeker) phase reply draw (Ok (Asks request next)) → Came seeker (replies ++ (reply ∷ [])) next
goes_on seeker replies New reply draw request next came h = absurd h
goes_on seeker replies (InAsExchange (AwaitsError kdc body)) reply draw request next came h = second seeker reply draw kdc body replies request next came h
goes_on seeker replies (InAsExchange (AwaitsAsRep sealed)) reply draw request next came h = first seeker reply draw sealed replies request next came h
goes_on seeker replies (AwaitsTgsRep leg) reply draw request next came h = next_goes seeker reply draw leg replies request next came h
goes_on seeker replies Over reply draw request next came h = absurd h

pub ends : (seeker : Seeker) (replies : List (Result (List ℕ) NetFault)) (phase : InitPhase) (reply : Result (List ℕ) NetFault) (draw : Draw) (done : InitDone)
    → Came seeker replies phase → Next (Seeks seeker) phase reply draw (Ok (Ends done)) → IsSession seeker (replies ++ (reply ∷ [])) done
ends seeker replies New reply draw done came h = absurd h
ends seeker replies (InAsExchange phase) reply draw done came h = absurd (no_end seeker reply draw phase done h)
ends seeker replies (AwaitsTgsRep leg) reply draw done came h = next_ends seeker reply draw leg replies done came h
ends seeker replies Over reply draw done came h = absurd h
