use Rattle.std.proofs.Common.{◌∙◌, subst}
use Rattle.krb_as.specs.declared.key.Grant.{Grant}
use Rattle.sspi_core.specs.Checks.{Answers}
use Rattle.krb_tickets.proofs.Refusals.{starts_refuse}
use Rattle.krb_tickets.specs.Steps.{StartsHeld, answer_of}
use Rattle.krb_tickets.proofs.start.start_held.Goals as goal

pub returns-clause-step : goal.returns-clause-step
returns-clause-step c = subst (λ (g : Grant). Answers (StartsHeld c.args.seeker.value g c.args.draw.now) (answer_of c.go_with.result)) (c.in_ok-shown.ensures ∙ c.as_grant.ensures.same) c.go_with.ensures.step

pub returns-clause-fault : goal.returns-clause-fault
returns-clause-fault c =
    starts_refuse c.args.seeker.value c.args.held.now c.args.draw.now c.go_with.result
    (subst (λ (g : Grant). Answers (StartsHeld c.args.seeker.value g c.args.draw.now) (answer_of c.go_with.result)) (c.in_ok-shown.ensures ∙ c.as_grant.ensures.same) c.go_with.ensures.step)
