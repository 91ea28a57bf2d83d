-- The number of requests in the exchange of a service.
use Rattle.std.proofs.Common.{◌≡◌, ℕ, ◌+◌, ◌<◌, List, Result, Ok, refl, subst, take, arith, lit<}
use Rattle.sspi_core.proofs.Chain.{gave}
use Rattle.sspi_core.specs.declared.draw.Draw.{Draw}
use Rattle.sspi_core.specs.declared.error.Error.{Error}
use Rattle.sspi_generator.specs.declared.network.NetFault.{NetFault}
use Rattle.sspi_generator.specs.declared.network.NetworkRequest.{NetworkRequest}
use Rattle.sspi_generator.specs.Runs.{Resolves}
use Rattle.sspi_generator.proofs.Few.{resolves_in}
use Rattle.krb_as.specs.declared.as_phase.AsPhase.TheVariants.{AwaitsError, AwaitsAsRep}
use Rattle.krb_as.specs.declared.done.InitDone.{InitDone}
use Rattle.krb_as.specs.declared.key.Grant.{Grant}
use Rattle.krb_as.specs.declared.turn.Turn.TheVariants.{Asks}
use Rattle.krb_as.proofs.Few.{first_down, second_down, grant_down}
use Rattle.krb_as.proofs.Tasks.{turns_down}
use Rattle.krb_user_to_user.specs.declared.request.Acceptor.{Acceptor}
use Rattle.krb_user_to_user.specs.declared.steps.AcceptPhase.{AcceptPhase}
use Rattle.krb_user_to_user.specs.declared.steps.AcceptPhase.TheVariants.{New, InAsExchange, Over}
use Rattle.krb_user_to_user.specs.declared.accept_run.AcceptRun.{AcceptRun}
use Rattle.krb_user_to_user.specs.AcceptSteps.{body_of, EndsWithTicket}
use Rattle.krb_user_to_user.specs.AcceptRuns.{Starts, Next, IsNewPhase, IsNew, StartsAt, ResumesAt, turns_left}

start_down : (acceptor : Acceptor) (old : AcceptPhase) (draw : Draw) (request : NetworkRequest) (phase : AcceptPhase) → Starts acceptor old draw (Ok (Asks request phase))
    → turns_left phase < turns_left old
start_down acceptor (New client) draw request phase h = first_down InitDone InAsExchange turns_left 2 acceptor.asker (body_of client draw) (λ kdc. lit< tt) request phase h
start_down acceptor (InAsExchange phase) draw request next h = absurd h
start_down acceptor Over draw request phase h = absurd h

-- after its ticket, the service sends no request
ticket_down : (acceptor : Acceptor) (request : NetworkRequest) (phase : AcceptPhase) (grant : Grant) → EndsWithTicket acceptor grant (Ok (Asks request phase)) → turns_left phase < 0
ticket_down acceptor request phase grant h = let f = gave _ _ h in absurd cc

next_down : (acceptor : Acceptor) (old : AcceptPhase) (reply : Result (List ℕ) NetFault) (draw : Draw) (request : NetworkRequest) (phase : AcceptPhase)
    → Next acceptor old reply draw (Ok (Asks request phase)) → turns_left phase < turns_left old
next_down acceptor (New client) reply draw request phase h = absurd h
next_down acceptor (InAsExchange (AwaitsError kdc body)) reply draw request phase h =
    second_down InitDone InAsExchange turns_left 1 acceptor.asker (EndsWithTicket acceptor) reply draw request phase kdc body (λ sealed. lit< tt)
    (λ grant ends. omega (arith, ticket_down acceptor request phase grant ends)) h
next_down acceptor (InAsExchange (AwaitsAsRep sealed)) reply draw request phase h =
    grant_down InitDone InAsExchange turns_left 0 acceptor.asker (EndsWithTicket acceptor) reply draw request phase sealed (ticket_down acceptor request phase) h
next_down acceptor Over reply draw request phase h = absurd h

two : (phase : AcceptPhase) → IsNewPhase phase → turns_left phase ≡ 2
two (New client) new = refl
two (InAsExchange phase) new = absurd new
two Over new = absurd new

-- the exchange sends at most two requests
pub few : {C : Type 0} (sends : C → NetworkRequest → Result (List ℕ) NetFault → C → Type 0) (run run' : AcceptRun) (client client' : C) (draws : List Draw) (out : Result InitDone Error)
    → IsNew run → Resolves StartsAt ResumesAt sends run client draws out run' client' → Resolves StartsAt ResumesAt sends run client (take 3 draws) out run' client'
few sends run run' client client' draws out new resolves =
    subst (λ (n : ℕ). Resolves StartsAt ResumesAt sends run client (take (n + 1) draws) out run' client') (two run.phase new.0)
    (resolves_in StartsAt ResumesAt sends (λ e. Unit {0}) (λ e. Unit {0}) (λ e. turns_left e.phase)
    (λ task draw state next z h. turns_down Over (Starts task.acceptor task.phase draw) turns_left (turns_left task.phase) (start_down task.acceptor task.phase draw) state next.phase h.turn)
    (λ task reply draw state next z h. turns_down Over (Next task.acceptor task.phase reply draw) turns_left (turns_left task.phase) (next_down task.acceptor task.phase reply draw) state next.phase h.turn)
    run client draws out run' client' tt resolves)
