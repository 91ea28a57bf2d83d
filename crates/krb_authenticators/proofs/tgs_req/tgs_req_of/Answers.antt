use Rattle.std.proofs.Common.{◌^◌, ◌∙◌}
use Rattle.krb_exchange.specs.Layouts.{tgs_req_layout}
use Rattle.krb_requests.specs.Pieces.{Fits}
use Rattle.krb_authenticators.proofs.Lengths.{ok_is}
use Rattle.krb_authenticators.proofs.TgsLengths.{request_within}
use Rattle.krb_authenticators.proofs.tgs_req.tgs_req_of.Goals as goal

pub returns-clause-made : goal.returns-clause-made
returns-clause-made c = rw (c.deref-2.ensures ∙ c.in_ok-request.ensures ∙ c.in_ok-ap_req_over.ensures.made, c.deref.ensures) at c.tgs_req_with.ensures

pub returns-clause-within : goal.returns-clause-within
returns-clause-within c =
    ok_is (Fits tgs_req_layout (2 ^ 29)) _ _ c.tgs_req_with.ensures
    (request_within c.args.body.value c.deref-2.result.now c.requires.body (rw (c.deref-2.ensures ∙ c.in_ok-request.ensures) c.in_ok-ap_req_over.ensures.within))
