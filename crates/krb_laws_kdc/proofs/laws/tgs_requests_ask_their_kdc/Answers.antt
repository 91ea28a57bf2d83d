use Rattle.krb_laws_kdc.proofs.AskLemmas.{asks_next, is_holder}
use Rattle.krb_laws_kdc.proofs.laws.tgs_requests_ask_their_kdc.Goals as goal

pub returns : goal.returns
returns c = record {
  asks = λ kdc wanted own target unset d served. asks_next kdc wanted own target unset d served;
  shows = λ wanted rep own body part client d realm name. is_holder wanted rep own body client d part realm name;
}
