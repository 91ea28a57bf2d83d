use Rattle.krb_authenticators.proofs.TgsLengths.{over_within}
use Rattle.krb_authenticators.proofs.tgs_req.ap_req_over.Goals as goal

pub seal_ap_req-requires-clause-authenticator : goal.seal_ap_req-requires-clause-authenticator
seal_ap_req-requires-clause-authenticator c = rw c.in_ok-authenticator.ensures (over_within c.args.body.now c.args.authenticator c.requires.authenticator)

pub returns-clause-made : goal.returns-clause-made
returns-clause-made c = rw c.in_ok-authenticator.ensures at c.seal_ap_req.ensures.made
