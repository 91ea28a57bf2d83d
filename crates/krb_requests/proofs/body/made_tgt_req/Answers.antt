use Rattle.krb_requests.proofs.Lengths.{principal_is, tgt_req_is}
use Rattle.krb_requests.proofs.body.made_tgt_req.Goals as goal

pub returns-clause-within : goal.returns-clause-within
returns-clause-within c = λ short. tgt_req_is _ _ _ (principal_is _ _ _ c.in_ok-server_name.ensures) c.in_ok-made.ensures short
