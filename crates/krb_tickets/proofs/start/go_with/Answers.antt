use Rattle.std.proofs.Common.{sym, ap, ◌∙◌, subst}
use Rattle.krb_initiator.specs.declared.seeker.Seeker.{Seeker}
use Rattle.krb_tgs.specs.Fresh.{referral_of}
use Rattle.krb_tickets.proofs.Starts.{showed, asked, ended}
use Rattle.krb_tickets.specs.Steps.{ShowsHeld, answer_of}
use Rattle.sspi_core.specs.Checks.{Answers}
use Rattle.krb_tickets.proofs.start.go_with.Goals as goal

pub returns-in-None-clause-step : goal.returns-in-None-clause-step
returns-in-None-clause-step c =
    showed c.args.seeker.value c.args.held c.args.draw.now (answer_of c.show_held.result)
    (referral_of c.args.seeker.value.asker.rules c.args.seeker.value.wanted.target c.args.held.facts c.args.held.rep)
    (sym (ap (λ (s : Seeker). referral_of s.asker.rules s.wanted.target c.args.held.facts c.args.held.rep) c.deref.ensures) ∙ sym c.in_ok-referral_in.ensures.realm ∙ c.in-None.is)
    (subst (λ (s : Seeker). Answers (ShowsHeld s c.args.held c.args.draw.now) (answer_of c.show_held.result)) c.deref-in-None.ensures c.show_held.ensures.step)

pub returns-in-None-clause-run : goal.returns-in-None-clause-run
returns-in-None-clause-run c = ended c.show_held.result _ c.show_held.ensures.ends

pub returns-in-None-clause-waiting : goal.returns-in-None-clause-waiting
returns-in-None-clause-waiting c = ended c.show_held.result _ c.show_held.ensures.ends

pub returns-in-None-clause-turns : goal.returns-in-None-clause-turns
returns-in-None-clause-turns c = ended c.show_held.result _ c.show_held.ensures.ends

pub returns-in-Some-clause-step : goal.returns-in-Some-clause-step
returns-in-Some-clause-step c =
    asked c.args.seeker.value c.args.held c.args.draw.now (answer_of c.ask_with.result)
    (referral_of c.args.seeker.value.asker.rules c.args.seeker.value.wanted.target c.args.held.facts c.args.held.rep) _
    (sym (ap (λ (s : Seeker). referral_of s.asker.rules s.wanted.target c.args.held.facts c.args.held.rep) c.deref.ensures) ∙ sym c.in_ok-referral_in.ensures.realm ∙ c.in-Some.is)
    c.ask_with.ensures.step
