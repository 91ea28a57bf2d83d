use Rattle.std.proofs.Common.{◌≡◌, ℕ, List, ap, ◌∙◌, subst}
use Rattle.std.specs.Prelude.{IfOk}
use Rattle.krb_der.specs.Layout.{spelling}
use Rattle.krb_exchange.specs.declared.kdc_req.TgsReq.{TgsReq}
use Rattle.krb_exchange.specs.Layouts.{tgs_req_layout}
use Rattle.krb_as.specs.Requests.{request_to}
use Rattle.krb_tgs.specs.TgsAsked.{tgs_request}
use Rattle.krb_tgs.proofs.tgs.tgs_request.Goals as goal

pub returns : goal.returns
unfolding tgs_request
returns c =
    subst (λ (o : List ℕ). IfOk c.request_to.result (λ r. r ≡ request_to c.args.kdc.now o))
    (c.in_ok-octets.ensures.is ∙ ap (λ (r : TgsReq). spelling tgs_req_layout r) c.in_ok-request.ensures.made) c.request_to.ensures
