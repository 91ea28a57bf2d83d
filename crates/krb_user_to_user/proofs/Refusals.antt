-- Which checks refuse because the network failed: none but the first one on a reply.
use Rattle.std.proofs.Common.{ℕ, List, Result, Err}
use Rattle.sspi_core.specs.declared.cause.Cause.{Cause}
use Rattle.sspi_core.specs.declared.draw.Draw.{Draw}
use Rattle.sspi_generator.specs.declared.network.NetFault.{NetFault}
use Rattle.sspi_generator.specs.Steps.{IsFailure}
use Rattle.krb_as.proofs.Refusals.{IsNetwork, gives_refuses, begins_within_refuses, takes_reply_within_refuses}
use Rattle.krb_user_to_user.specs.declared.request.Acceptor.{Acceptor}
use Rattle.krb_user_to_user.specs.declared.steps.AcceptPhase.{AcceptPhase}
use Rattle.krb_user_to_user.specs.declared.steps.AcceptPhase.TheVariants.{New, InAsExchange, Over}
use Rattle.krb_user_to_user.specs.AcceptSteps.{EndsWithTicket}
use Rattle.krb_user_to_user.specs.AcceptRuns.{Starts, Next}

-- the start never does
pub starts_refuse : (acceptor : Acceptor) (phase : AcceptPhase) (draw : Draw) (e : Cause) → Starts acceptor phase draw (Err e) → IsNetwork e → ⊥
starts_refuse acceptor (New client) draw e h z = (begins_within_refuses InAsExchange acceptor.asker _).not e h z
starts_refuse acceptor (InAsExchange phase) draw e h z = h
starts_refuse acceptor Over draw e h z = h

pub next_refuses : (acceptor : Acceptor) (phase : AcceptPhase) (reply : Result (List ℕ) NetFault) (draw : Draw) (e : Cause) → Next acceptor phase reply draw (Err e) → IsNetwork e → IsFailure reply
next_refuses acceptor (New client) reply draw e h z = absurd h
next_refuses acceptor (InAsExchange phase) reply draw e h z =
    (takes_reply_within_refuses InAsExchange (EndsWithTicket acceptor) reply (λ grant. gives_refuses _ _) acceptor.asker phase draw).not e h z
next_refuses acceptor Over reply draw e h z = absurd h
