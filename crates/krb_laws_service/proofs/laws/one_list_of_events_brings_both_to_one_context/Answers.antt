use Rattle.krb_laws_service.proofs.ListedLemmas.{plain-run, dce-run}
use Rattle.krb_laws_service.proofs.laws.one_list_of_events_brings_both_to_one_context.Goals as goal

pub returns : goal.returns
returns g c = record {
  plain = λ before after e initiator acceptor target service_key credentials client suite rep part asked again wanted said answered ended ready let_in style run.
      plain-run g.G.ReplayGate.admits before e initiator acceptor target service_key credentials client suite rep part ready
      after asked again wanted said answered ended let_in style run;
  dce = λ before after e initiator acceptor target service_key credentials client suite rep part asked again wanted said answered ended closed ready let_in style run.
      dce-run g.G.ReplayGate.admits before e initiator acceptor target service_key credentials client suite rep part ready
      after asked again wanted said answered ended closed let_in style run;
}
