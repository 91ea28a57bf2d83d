use Rattle.krb_ap.proofs.show.service_request.Goals as goal

pub returns-clause-made : goal.returns-clause-made
returns-clause-made c = rw c.in_ok-authenticator.ensures.made at c.ap_req_by.ensures.made
