use Rattle.krb_laws_ends.proofs.FetchLemmas.{ends_with_offer}
use Rattle.krb_laws_ends.proofs.laws.honest_kdcs_lead_to_an_offer.Goals as goal

pub returns : goal.returns
returns c = λ context seeker suite service_key draw answers rep part role asks kdcs is.
    ends_with_offer seeker suite service_key draw answers rep part kdcs asks is context role
