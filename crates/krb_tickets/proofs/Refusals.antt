-- A start with a ticket is never refused because the network failed.
use Rattle.std.proofs.Common.{◌≡◌, ℕ, List, Option, Some, None, Result, Ok, Err, sym, ◌∙◌}
use Rattle.std.specs.Prelude.{IfErr}
use Rattle.sspi_core.specs.declared.cause.Cause.{Cause}
use Rattle.sspi_core.specs.declared.cause.Cause.TheVariants.{KeyLength, Memory}
use Rattle.sspi_core.specs.declared.draw.Draw.{Draw}
use Rattle.sspi_core.specs.Checks.{Answers}
use Rattle.krb_as.proofs.Refusals.{Refuses, then_refuses, holds_refuses, gives_refuses}
use Rattle.krb_as.specs.declared.done.InitDone.{InitDone}
use Rattle.krb_as.specs.declared.key.Grant.{Grant}
use Rattle.krb_as.specs.declared.turn.Turn.{Turn}
use Rattle.krb_ap.specs.Shown.{ShowsTicket}
use Rattle.krb_tgs.specs.Fresh.{referral_of}
use Rattle.krb_initiator.proofs.Refusals.{asks_refuse}
use Rattle.krb_initiator.specs.declared.init_run.InitRun.{InitRun}
use Rattle.krb_initiator.specs.declared.seeker.Seeker.{Seeker}
use Rattle.krb_tickets.specs.Steps.{AsksWithHeld, ShowsHeld, GoesWith, StartsHeld, answer_of, IsNetwork}

goes_with_refuses : (referral : Option (List ℕ)) (seeker : Seeker) (held : Grant) (draw : Draw) → Refuses ⊥ (λ r. GoesWith referral seeker held draw r)
unfolding ShowsHeld AsksWithHeld ShowsTicket
goes_with_refuses None seeker held draw = record {
  not =
      λ e h z.
      (then_refuses ⊥ _ _ (then_refuses ⊥ _ _ (holds_refuses ⊥ KeyLength _ (λ y. let i = y.1 in cc)) (λ _. gives_refuses ⊥ _)) (λ done. gives_refuses ⊥ _)).not
      e h z;
}
goes_with_refuses (Some realm) seeker held draw = record {
  not = λ e h z. (then_refuses ⊥ _ _ (asks_refuse ⊥ _ _ held _ _ _ draw) (λ begun. gives_refuses ⊥ _)).not e h z;
}

-- running out of memory is none of the network either
no_want : IsNetwork Memory → ⊥
no_want z = let i = z.1 in cc

is_memory : (cause : Cause) → cause ≡ Memory → IsNetwork cause → ⊥
is_memory cause e z = no_want (z.0, sym e ∙ z.1)

pub starts_refuse : (seeker : Seeker) (held : Grant) (draw : Draw) (answer : Result (Turn InitRun InitDone) Cause) → Answers (StartsHeld seeker held draw) (answer_of answer)
    → IfErr answer (λ cause. IsNetwork cause → ⊥)
starts_refuse seeker held draw (Ok turn) h = tt
starts_refuse seeker held draw (Err cause) h =
    λ network.
    (goes_with_refuses (referral_of seeker.asker.rules seeker.wanted.target held.facts held.rep) seeker held draw).not cause
    (h.so (λ e. let same : cause ≡ Memory = cc in is_memory cause same network)) network
