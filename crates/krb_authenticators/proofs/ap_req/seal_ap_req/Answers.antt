use Rattle.std.proofs.Common.{◌^◌}
use Rattle.krb_messages.specs.Layouts.{ap_req_layout}
use Rattle.krb_requests.specs.Pieces.{Fits}
use Rattle.krb_authenticators.proofs.Lengths.{ok_is}
use Rattle.krb_authenticators.proofs.ApLengths.{ap_req_within}
use Rattle.krb_authenticators.proofs.ap_req.seal_ap_req.Goals as goal

pub returns-clause-within : goal.returns-clause-within
returns-clause-within c =
    ok_is (Fits ap_req_layout (2 ^ 28)) _ _ c.ap_req_with.ensures
    (ap_req_within c.args.suite c.args.options c.into_inner.result _ c.in_ok-sealed.sealed c.in_ok-sealed.ensures.made (rw c.into_inner.ensures c.requires.ticket) c.in_ok-sealed.ensures.short)
