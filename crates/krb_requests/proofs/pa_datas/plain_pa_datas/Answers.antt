use Rattle.krb_requests.proofs.Lengths.{plain_fits}
use Rattle.krb_requests.proofs.pa_datas.plain_pa_datas.Goals as goal

pub returns-clause-within : goal.returns-clause-within
returns-clause-within c = rw c.in_ok-made.ensures plain_fits
