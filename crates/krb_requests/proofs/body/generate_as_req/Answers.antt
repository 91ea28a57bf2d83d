use Rattle.krb_requests.proofs.Lengths.{request_fits}
use Rattle.krb_requests.proofs.body.generate_as_req.Goals as goal

pub returns-clause-within : goal.returns-clause-within
returns-clause-within c = λ h k. rw c.in_ok-made.ensures (request_fits _ _ h k)
