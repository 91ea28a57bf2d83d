use Rattle.std.proofs.Common.{◌≡◌, [], ◌∷◌, refl, sym, ap, ◌∙◌, subst}
use Rattle.krb_machine.specs.Admitted.{service_behind}
use Rattle.krb_machine.specs.Described.{with_gate}
use Rattle.krb_machine.specs.Policy.{State}
use Rattle.krb_replay.specs.Book.{StandsFor}
use Rattle.krb_replay.specs.History.{History}
use Rattle.krb_laws_service.proofs.laws.books_leave_the_service_as_histories_do.Goals as goal

pub returns : goal.returns
returns c = λ before after h event reply stands steps admissible.
    let run = c.runs_never_forget.ensures before after (event ∷ []) (reply ∷ []) h stands (after, steps, refl) in
    let one = run.1 in
    let is : with_gate after run.0 ≡ service_behind admissible =
    one.2 ∙ c.admitted_exactly_where.ensures.service before.gate.skew (with_gate before h) one.0 event reply one.1 admissible in
    let gate : run.0 ≡ (service_behind admissible).gate = ap (λ (state : State History). state.gate) is in
    (subst (StandsFor after.gate) gate run.2, ap (λ (g : History). with_gate after g) (sym gate) ∙ is)
