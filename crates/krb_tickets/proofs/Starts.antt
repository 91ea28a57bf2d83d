-- The start with a ticket, from its parts.
use Rattle.std.proofs.Common.{◌≡◌, ℕ, List, Option, Some, None, Result, Ok, Err, ap, ◌∙◌, subst}
use Rattle.std.specs.Prelude.{IfOk}
use Rattle.std.specs.Result.{IsErrAnd}
use Rattle.sspi_core.specs.declared.cause.Cause.{Cause}
use Rattle.sspi_core.specs.declared.draw.Draw.{Draw}
use Rattle.sspi_core.proofs.Chain.{gave, follows}
use Rattle.sspi_core.specs.Checks.{Answers, Gives}
use Rattle.sspi_generator.specs.declared.network.NetworkRequest.{NetworkRequest}
use Rattle.krb_as.specs.declared.turn.Turn.{Turn}
use Rattle.krb_as.specs.declared.turn.Turn.TheVariants.{Asks, Ends}
use Rattle.krb_as.specs.declared.done.InitDone.{InitDone}
use Rattle.krb_as.specs.declared.key.Grant.{Grant}
use Rattle.krb_tgs.specs.TgsAsked.{AsksTgs}
use Rattle.krb_tgs.specs.declared.tgs.Begun.{Begun}
use Rattle.krb_initiator.specs.InitSteps.{leg_of}
use Rattle.krb_initiator.specs.Tgts.{first_tickets}
use Rattle.krb_initiator.specs.declared.seeker.InitPhase.TheVariants.{AwaitsTgsRep}
use Rattle.krb_initiator.specs.declared.seeker.TgsLeg.{TgsLeg}
use Rattle.krb_initiator.specs.declared.init_run.InitRun.{InitRun}
use Rattle.krb_initiator.specs.declared.seeker.InitPhase.{InitPhase}
use Rattle.krb_initiator.specs.declared.seeker.Seeker.{Seeker}
use Rattle.krb_tickets.specs.Steps.{AsksWithHeld, ShowsHeld, GoesWith, answer_of, OnAsked}

module _ (seeker : Seeker) (held : Grant) (draw : Draw) (answer : Result (Turn InitPhase InitDone) Cause) where
  pub showed : (referral : Option (List ℕ)) → referral ≡ None → Answers (ShowsHeld seeker held draw) answer → Answers (λ r. GoesWith referral seeker held draw r) answer
  showed None e h = record { so = λ ne. h.so ne }
  showed (Some realm) e h = absurd cc

  pub asked : (referral : Option (List ℕ)) (realm : List ℕ) → referral ≡ Some realm → Answers (AsksWithHeld seeker realm held draw) answer
      → Answers (λ r. GoesWith referral seeker held draw r) answer
  asked None realm e h = absurd cc
  asked (Some other) realm e h =
      let same : realm ≡ other = cc in record { so = λ ne. subst (λ (r : List ℕ). AsksWithHeld seeker r held draw answer) same (h.so ne) }

-- a request was made, whose reply a run awaits
pub asks : (seeker : Seeker) (realm : List ℕ) (held : Grant) (draw : Draw) (begun : Begun) (sent : NetworkRequest × TgsLeg) (run : InitRun)
    → Answers (AsksTgs seeker.asker seeker.wanted held held.rep.crealm realm (first_tickets seeker.tgt) draw) (Ok begun)
    → Answers (Gives (begun.request, leg_of begun.kdc held held.rep.crealm draw 0)) (Ok sent) → run.phase ≡ AwaitsTgsRep sent.1
    → Answers (AsksWithHeld seeker realm held draw) (Ok (Asks sent.0 run.phase))
unfolding AsksWithHeld
asks seeker realm held draw begun sent run h k awaits = record {
  so =
      λ ne.
      let same : sent ≡ (begun.request, leg_of begun.kdc held held.rep.crealm draw 0) = gave _ _ (k.so (λ z. absurd cc)) in
      let request : sent.0 ≡ begun.request = ap (λ (p : NetworkRequest × TgsLeg). p.0) same in
      let phase : run.phase ≡ AwaitsTgsRep (leg_of begun.kdc held held.rep.crealm draw 0) =
      awaits ∙ ap (λ (p : NetworkRequest × TgsLeg). let made : InitPhase = AwaitsTgsRep p.1 in made) same in
      follows _ _ begun _ (h.so (λ z. absurd cc)) (record { is = cc });
}

-- what ends there asks nothing
pub ended : (answer : Result (Turn InitRun InitDone) Cause) (P : InitRun → Type 0) → IfOk answer (λ turn. OnAsked turn (λ run. ⊥)) → IfOk answer (λ turn. OnAsked turn P)
ended (Ok (Asks request run)) P h = absurd h
ended (Ok (Ends done)) P h = tt
ended (Err cause) P h = tt

-- a refusal is the same of the run and of how far it came
pub refused : (answer : Result (Turn InitRun InitDone) Cause) (cause : Cause) → IsErrAnd answer (λ d. d ≡ cause) → IsErrAnd (answer_of answer) (λ d. d ≡ cause)
refused (Ok turn) cause h = absurd h
refused (Err other) cause h = h

-- the same request of the same initiator
pub moved : (realm : List ℕ) (held : Grant) (draw : Draw) (x y : Seeker) (answer : Result Begun Cause) → x ≡ y
    → Answers (AsksTgs x.asker x.wanted held held.rep.crealm realm (first_tickets x.tgt) draw) answer
    → Answers (AsksTgs y.asker y.wanted held held.rep.crealm realm (first_tickets y.tgt) draw) answer
moved realm held draw x y answer e h = subst (λ (s : Seeker). Answers (AsksTgs s.asker s.wanted held held.rep.crealm realm (first_tickets s.tgt) draw) answer) e h
