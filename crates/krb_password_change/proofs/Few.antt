-- How often the change of a password asks.
use Rattle.std.proofs.Common.{◌≡◌, ℕ, ◌+◌, ◌<◌, List, Result, Ok, refl, sym, subst, take, arith, lit<}
use Rattle.sspi_core.proofs.Chain.{passed, gave}
use Rattle.krb_context.specs.declared.context.ContextChange.{ContextChange}
use Rattle.sspi_core.specs.declared.draw.Draw.{Draw}
use Rattle.sspi_core.specs.declared.error.Error.{Error}
use Rattle.sspi_generator.specs.declared.network.NetFault.{NetFault}
use Rattle.sspi_generator.specs.declared.network.NetworkRequest.{NetworkRequest}
use Rattle.sspi_generator.specs.Runs.{Resolves}
use Rattle.sspi_generator.proofs.Few.{resolves_in}
use Rattle.krb_as.specs.declared.as_phase.AsPhase.TheVariants.{AwaitsError, AwaitsAsRep}
use Rattle.krb_as.specs.declared.kdc.Kdc.{Kdc}
use Rattle.krb_as.specs.declared.key.Grant.{Grant}
use Rattle.krb_as.specs.declared.turn.Turn.TheVariants.{Asks}
use Rattle.krb_as.proofs.Few.{asked, first_down, second_down, grant_down}
use Rattle.krb_as.proofs.Tasks.{turns_down}
use Rattle.krb_password_change.specs.declared.change.Changer.{Changer}
use Rattle.krb_password_change.specs.declared.phase.AnswerLeg.{AnswerLeg}
use Rattle.krb_password_change.specs.declared.phase.ChangePhase.{ChangePhase}
use Rattle.krb_password_change.specs.declared.phase.ChangePhase.TheVariants.{New, InAsExchange, AwaitsAnswer, Over}
use Rattle.krb_password_change.specs.declared.change_run.ChangePasswordRun.{ChangePasswordRun}
use Rattle.krb_password_change.specs.ChangeSteps.{body_of, AsksChange, Concludes, TakesAnswer}
use Rattle.krb_password_change.specs.ChangeRuns.{Starts, Next, IsNewPhase, IsNew, StartsAt, ResumesAt, turns_left}

start_down : (changer : Changer) (old : ChangePhase) (draw : Draw) (request : NetworkRequest) (phase : ChangePhase) → Starts changer old draw (Ok (Asks request phase))
    → turns_left phase < turns_left old
start_down changer New draw request phase h = first_down ContextChange InAsExchange turns_left 3 changer.asker (body_of changer.client draw) (λ kdc. lit< tt) request phase h
start_down changer (InAsExchange phase) draw request next h = absurd h
start_down changer (AwaitsAnswer leg) draw request next h = absurd h
start_down changer Over draw request phase h = absurd h

-- the new password
change_down : (changer : Changer) (kdc : Kdc) (draw : Draw) (request : NetworkRequest) (phase : ChangePhase) (grant : Grant) → AsksChange changer kdc draw grant (Ok (Asks request phase))
    → turns_left phase < 1
unfolding AsksChange
change_down changer kdc draw request phase grant h =
    let key = passed _ _ _ h in
    let service = passed _ _ _ key.rest_held in
    subst (λ (p : ChangePhase). turns_left p < 1) (asked {O = ContextChange} request _ _ phase (sym (gave _ _ service.rest_held))) (lit< tt)

-- its answer ends the exchange
no_more : (changer : Changer) (leg : AnswerLeg) (reply : Result (List ℕ) NetFault) (request : NetworkRequest) (phase : ChangePhase) → TakesAnswer changer leg reply (Ok (Asks request phase)) → ⊥
unfolding TakesAnswer Concludes
no_more changer leg reply request phase h =
    let answer = passed _ _ _ h in
    let code = passed _ _ _ answer.rest_held in
    let zero = passed _ _ _ code.rest_held in
    let f = gave _ _ zero.rest_held in
    absurd cc

next_down : (changer : Changer) (old : ChangePhase) (reply : Result (List ℕ) NetFault) (draw : Draw) (request : NetworkRequest) (phase : ChangePhase)
    → Next changer old reply draw (Ok (Asks request phase)) → turns_left phase < turns_left old
next_down changer New reply draw request phase h = absurd h
next_down changer (InAsExchange (AwaitsError kdc body)) reply draw request phase h =
    second_down ContextChange InAsExchange turns_left 2 changer.asker (AsksChange changer kdc draw) reply draw request phase kdc body (λ sealed. lit< tt)
    (λ grant asks. omega (arith, change_down changer kdc draw request phase grant asks)) h
next_down changer (InAsExchange (AwaitsAsRep sealed)) reply draw request phase h =
    grant_down ContextChange InAsExchange turns_left 1 changer.asker (AsksChange changer sealed.kdc draw) reply draw request phase sealed (change_down changer sealed.kdc draw request phase) h
next_down changer (AwaitsAnswer leg) reply draw request phase h = absurd (no_more changer leg reply request phase h)
next_down changer Over reply draw request phase h = absurd h

three : (phase : ChangePhase) → IsNewPhase phase → turns_left phase ≡ 3
three New new = refl
three (InAsExchange phase) new = absurd new
three (AwaitsAnswer leg) new = absurd new
three Over new = absurd new

-- so it asks three times at most
pub few : {C : Type 0} (sends : C → NetworkRequest → Result (List ℕ) NetFault → C → Type 0) (run run' : ChangePasswordRun) (client client' : C) (draws : List Draw)
    (out : Result ContextChange Error) → IsNew run → Resolves StartsAt ResumesAt sends run client draws out run' client'
    → Resolves StartsAt ResumesAt sends run client (take 4 draws) out run' client'
few sends run run' client client' draws out new resolves =
    subst (λ (n : ℕ). Resolves StartsAt ResumesAt sends run client (take (n + 1) draws) out run' client') (three run.phase new.0)
    (resolves_in StartsAt ResumesAt sends (λ e. Unit {0}) (λ e. Unit {0}) (λ e. turns_left e.phase)
    (λ task draw state next z h. turns_down Over (Starts task.changer task.phase draw) turns_left (turns_left task.phase) (start_down task.changer task.phase draw) state next.phase h.turn)
    (λ task reply draw state next z h. turns_down Over (Next task.changer task.phase reply draw) turns_left (turns_left task.phase) (next_down task.changer task.phase reply draw) state next.phase h.turn)
    run client draws out run' client' tt resolves)
