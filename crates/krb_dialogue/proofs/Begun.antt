-- Facts about the outcome of a run that begins.
use Rattle.std.proofs.Common.{◌≡◌, ℕ, Result, Ok, Err, subst}
use Rattle.std.specs.Prelude.{IfOk}
use Rattle.krb_initiator.specs.InitRuns.{turns_left}
use Rattle.krb_initiator.specs.declared.init_run.InitRun.{InitRun}
use Rattle.krb_initiator.specs.declared.seeker.InitPhase.TheVariants.{New}
use Rattle.krb_initiator.specs.declared.seeker.Initiation.{Initiation}
use Rattle.sspi_core.specs.declared.draw.Draw.{Draw}
use Rattle.krb_dialogue.specs.Outcomes.{Begins, BeginsRun, AsksLess}
use Rattle.krb_dialogue.specs.declared.exchange.Outcome.{Outcome}

-- a run of an initiation
module _ {E : Type 0} (initiation : Initiation) (draw : Draw) (run : InitRun) where
  pub run_begins : (answer : Result Outcome E) → run.initiation ≡ initiation → run.phase ≡ New → IfOk answer (λ outcome. Begins run draw outcome) → IfOk answer (λ outcome. BeginsRun initiation draw outcome)
  run_begins (Ok outcome) does new begins = record { run = run; does = does; new = new; begins = begins }
  run_begins (Err e) does new begins = tt

  pub run_asks : (answer : Result Outcome E) → turns_left run.phase ≡ 12 → IfOk answer (λ outcome. AsksLess (turns_left run.phase) outcome) → IfOk answer (λ outcome. AsksLess 12 outcome)
  run_asks (Ok outcome) twelve less = subst (λ (n : ℕ). AsksLess n outcome) twelve less
  run_asks (Err e) twelve less = tt
