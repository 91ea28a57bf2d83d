use Rattle.std.proofs.Common.{Bool, sym, subst, ◌∙◌}
use Rattle.sspi_core.specs.Checks.{Answers, Finds}
use Rattle.sspi_core.specs.declared.cause.Cause.TheVariants.{Altered}
use Rattle.krb_context.specs.Unwraps.{SpeltBy}
use Rattle.krb_context.proofs.headed.Headed.find.Goals as goal

pub returns-then-is_sealed : goal.returns-then-is_sealed
returns-then-is_sealed c =
    let P : Bool → Type 0 = λ v. Answers (Finds Altered (λ p. SpeltBy v (record c.args.self.now.params.now { ec = c.args.self.now.ec }) c.args.self.now.key.now c.args.self.now.peer c.args.self.now.message.now p)) c.find_sealed.result in
    subst P (sym c.if-is_sealed.true ∙ c.is_sealed.ensures) c.find_sealed.ensures

pub returns-else-is_sealed : goal.returns-else-is_sealed
returns-else-is_sealed c =
    let P : Bool → Type 0 = λ v. Answers (Finds Altered (λ p. SpeltBy v (record c.args.self.now.params.now { ec = c.args.self.now.ec }) c.args.self.now.key.now c.args.self.now.peer c.args.self.now.message.now p)) c.find_clear.result in
    subst P (sym c.if-is_sealed.false ∙ c.is_sealed.ensures) c.find_clear.ensures
