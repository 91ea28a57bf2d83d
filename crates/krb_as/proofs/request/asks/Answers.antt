use Rattle.std.proofs.Common.{◌≡◌, ℕ, List, length, refl, ap, ◌∙◌, arith, lit≤}
use Rattle.krb_der.specs.Layout.{spelling}
use Rattle.krb_exchange.specs.declared.kdc_req.AsReq.{AsReq}
use Rattle.krb_exchange.specs.Layouts.{as_req_layout}
use Rattle.krb_as.specs.Requests.{request_to}
use Rattle.krb_requests.specs.Bodies.{as_req_with}
use Rattle.krb_as.proofs.Fitting.{fits_more}
use Rattle.krb_as.proofs.request.asks.Goals as goal

pub write-requires-clause-complete : goal.write-requires-clause-complete
write-requires-clause-complete c =
    let fits = c.in_ok-as_req.ensures.within (fits_more _ _ _ _ (lit≤ tt) c.requires.pa_datas) c.requires.body in
    fits.complete

pub write-requires-clause-short : goal.write-requires-clause-short
write-requires-clause-short c =
    let fits = c.in_ok-as_req.ensures.within (fits_more _ _ _ _ (lit≤ tt) c.requires.pa_datas) c.requires.body in
    let k = fits.short in omega (arith, k)

pub request_to-requires-clause-message : goal.request_to-requires-clause-message
request_to-requires-clause-message c =
    let fits = c.in_ok-as_req.ensures.within (fits_more _ _ _ _ (lit≤ tt) c.requires.pa_datas) c.requires.body in
    let k = fits.short in omega (arith, k, ap (λ (o : List ℕ). length o) c.in_ok-octets.ensures.is)

pub returns : goal.returns
returns c =
    let octets : c.in_ok-octets.octets ≡ spelling as_req_layout (as_req_with c.args.pa_datas c.args.body) =
    c.in_ok-octets.ensures.is ∙ ap (λ (r : AsReq). spelling as_req_layout r) c.in_ok-as_req.ensures.made in
    let request : c.in_ok-request.request ≡ request_to c.args.kdc.now (spelling as_req_layout (as_req_with c.args.pa_datas c.args.body)) =
    c.in_ok-request.ensures ∙ ap (λ (o : List ℕ). request_to c.args.kdc.now o) octets in
    let body : c.in_ok-as_req.as_req.0.req_body ≡ c.args.body = ap (λ (r : AsReq). r.0.req_body) c.in_ok-as_req.ensures.made in
    rw (request, body) refl
