use Rattle.krb_laws_ends.proofs.HonestLemmas.{admitted}
use Rattle.krb_laws_ends.proofs.laws.honest_requests_are_admitted.Goals as goal

pub returns : goal.returns
returns c = admitted
