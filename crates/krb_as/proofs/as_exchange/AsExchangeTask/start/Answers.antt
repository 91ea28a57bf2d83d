use Rattle.std.proofs.Common.{refl, ap}
use Rattle.krb_as.specs.declared.as_exchange.ExchangePhase.{ExchangePhase}
use Rattle.krb_as.specs.declared.as_exchange.ExchangePhase.TheVariants.{Over}
use Rattle.krb_as.specs.AsExchanges.{IsAwaiting, turns_left}
use Rattle.krb_as.proofs.Refusals.{starts_refuse}
use Rattle.krb_as.proofs.Tasks.{turns_of, awaits_of, kept_of, faulted_of, refused}
use Rattle.krb_as.proofs.as_exchange.AsExchangeTask.start.Goals as goal

pub returns-clause-step : goal.returns-clause-step
returns-clause-step c = record { turn = turns_of _ _ c.started-answer.result _ _ c.started-answer.ensures.step c.go_on.ensures.state c.go_on.ensures.phase; stays = refl }

pub returns-clause-turns : goal.returns-clause-turns
returns-clause-turns c = awaits_of (IsAwaiting c.args.self.now.asker) turns_left (IsAwaiting c.args.self.now.asker) (λ phase waits. waits) Over c.started-answer.result _ (turns_left c.args.self.now.phase) _ c.go_on.ensures.state c.started-answer.ensures.down c.go_on.ensures.phase

pub returns-clause-want : goal.returns-clause-want
returns-clause-want c = kept_of c.started-answer.result _ _ c.go_on.ensures.state (λ z. ap (λ (p : ExchangePhase). record c.args.self.now { phase = p }) (c.go_on.ensures.want z))

pub returns-clause-fault : goal.returns-clause-fault
returns-clause-fault c =
    faulted_of c.started-answer.result _ _ c.go_on.ensures.state (λ cause is network. starts_refuse _ _ cause (refused _ _ cause c.started-answer.ensures.step is network) network)
