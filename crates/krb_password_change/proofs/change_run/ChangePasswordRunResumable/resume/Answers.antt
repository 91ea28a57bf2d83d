use Rattle.std.proofs.Common.{refl, ap}
use Rattle.krb_as.proofs.Tasks.{turns_of, awaits_of, kept_of, faulted_of, refused}
use Rattle.krb_password_change.specs.declared.phase.ChangePhase.{ChangePhase}
use Rattle.krb_password_change.specs.declared.phase.ChangePhase.TheVariants.{Over}
use Rattle.krb_password_change.specs.Changes.{IsReady}
use Rattle.krb_password_change.specs.ChangeRuns.{IsAwaiting, turns_left}
use Rattle.krb_password_change.proofs.Refusals.{next_refuses}
use Rattle.krb_password_change.proofs.change_run.ChangePasswordRunResumable.resume.Goals as goal

pub returns-clause-step : goal.returns-clause-step
returns-clause-step c = record { turn = turns_of _ _ c.next-answer.result _ _ c.next-answer.ensures.step c.go_on.ensures.state c.go_on.ensures.phase; stays = refl }

pub returns-clause-turns : goal.returns-clause-turns
returns-clause-turns c =
    awaits_of (IsAwaiting c.args.self.now.changer.asker) turns_left (λ phase. IsAwaiting c.args.self.now.changer.asker phase × IsReady c.args.self.now.changer) (λ phase waits. (waits, c.requires.waiting.1)) Over
    c.next-answer.result _ (turns_left c.args.self.now.phase) _ c.go_on.ensures.state c.next-answer.ensures.down c.go_on.ensures.phase

pub returns-clause-want : goal.returns-clause-want
returns-clause-want c = kept_of c.next-answer.result _ _ c.go_on.ensures.state (λ z. ap (λ (p : ChangePhase). record c.args.self.now { phase = p }) (c.go_on.ensures.want z))

pub returns-clause-fault : goal.returns-clause-fault
returns-clause-fault c =
    faulted_of c.next-answer.result _ _ c.go_on.ensures.state (λ cause is network. next_refuses c.args.self.now.changer c.args.self.now.phase _ c.args.draw.now cause (refused _ _ cause c.next-answer.ensures.step is network) network)
