use Rattle.std.proofs.Common.{refl}
use Rattle.krb_laws_kdc.proofs.WholeLemmas.{fetched}
use Rattle.krb_laws_kdc.proofs.laws.runs_over_kdcs_fetch_their_ticket.Goals as goal

pub returns : goal.returns
returns c = λ context seeker net net' draws service_key user run run' out role can q is phase resolves wanting.
    fetched seeker net.pairs draws service_key user can out run' net' wanting context role run net is phase refl q resolves
