-- Each step in which a service fetches its ticket has at most one answer.
use Rattle.std.proofs.Common.{ℕ, Bool, List, Result}
use Rattle.krb_conf.specs.declared.env.Env.{Env}
use Rattle.krb_context.specs.declared.context.Kerberos.{Kerberos}
use Rattle.krb_exchange.specs.declared.user_to_user.TgtReq.{TgtReq}
use Rattle.sspi_core.proofs.Once.{Once, then_once, holds_once, gives_once}
use Rattle.sspi_core.specs.declared.draw.Draw.{Draw}
use Rattle.sspi_core.specs.declared.identity.CredentialsBuffers.{CredentialsBuffers}
use Rattle.sspi_generator.specs.declared.network.NetFault.{NetFault}
use Rattle.krb_as.proofs.Once.{names_client_once, begins_within_once, takes_reply_within_once}
use Rattle.krb_user_to_user.specs.declared.request.Acceptor.{Acceptor}
use Rattle.krb_user_to_user.specs.declared.steps.AcceptPhase.{AcceptPhase}
use Rattle.krb_user_to_user.specs.declared.steps.AcceptPhase.TheVariants.{New, InAsExchange, Over}
use Rattle.krb_user_to_user.specs.TgtRequests.{RequestsTgt}
use Rattle.krb_user_to_user.specs.AcceptSteps.{EndsWithTicket}
use Rattle.krb_user_to_user.specs.AcceptRuns.{Starts, Next}

-- a TGT-REQ is judged to one answer
pub requests_tgt_once : (server : Kerberos) (credentials : CredentialsBuffers) (tgt_req : TgtReq) (dce : Bool) (env : Env) → Once (RequestsTgt server credentials tgt_req dce env)
unfolding RequestsTgt
requests_tgt_once server credentials tgt_req dce env =
    then_once _ _ (holds_once _ _) (λ _. then_once _ _ (holds_once _ _) (λ _. then_once _ _ (names_client_once credentials _ env) (λ client. gives_once _)))

-- a step of the exchange leads to one turn
pub starts_once : (acceptor : Acceptor) (phase : AcceptPhase) (draw : Draw) → Once (λ r. Starts acceptor phase draw r)
starts_once acceptor (New client) draw = record { same = λ r s h k. (begins_within_once InAsExchange acceptor.asker _).same r s h k }
starts_once acceptor (InAsExchange phase) draw = record { same = λ r s h k. absurd h }
starts_once acceptor Over draw = record { same = λ r s h k. absurd h }

pub next_once : (acceptor : Acceptor) (phase : AcceptPhase) (reply : Result (List ℕ) NetFault) (draw : Draw) → Once (λ r. Next acceptor phase reply draw r)
next_once acceptor (New client) reply draw = record { same = λ r s h k. absurd h }
next_once acceptor (InAsExchange phase) reply draw = record {
  same = λ r s h k. (takes_reply_within_once InAsExchange (EndsWithTicket acceptor) (λ grant. gives_once _) acceptor.asker phase reply draw).same r s h k;
}
next_once acceptor Over reply draw = record { same = λ r s h k. absurd h }
