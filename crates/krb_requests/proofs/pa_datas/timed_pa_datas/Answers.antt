use Rattle.krb_requests.proofs.Lengths.{timed_fits}
use Rattle.krb_requests.proofs.pa_datas.timed_pa_datas.Goals as goal

pub returns-clause-within : goal.returns-clause-within
returns-clause-within c =
    let short = rw c.in_ok-time.ensures.made at c.in_ok-time.ensures.short in
    rw (c.in_ok-made.ensures, c.in_ok-time.ensures.made) (timed_fits _ _ _ _ short)
