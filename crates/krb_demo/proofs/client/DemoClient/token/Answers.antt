use Rattle.std.proofs.lemmas.Result.{IfOk-weaker}
use Rattle.std.proofs.Common.{◌∙◌, ap}
use Rattle.krb_der.specs.Layout.{spelling}
use Rattle.krb_messages.specs.Layouts.{ap_req_layout}
use Rattle.krb_demo.proofs.Lengths.{request_complete, request_short, request_below, framed_short, frame_is}
use Rattle.krb_demo.proofs.client.DemoClient.token.Goals as goal

pub write-requires-clause-complete : goal.write-requires-clause-complete
write-requires-clause-complete c = rw (c.in_ok-message.ensures, c.in_ok-sealed.ensures.made) (request_complete c.args.ctime c.args.cusec c.args.confounder)

pub write-requires-clause-short : goal.write-requires-clause-short
write-requires-clause-short c =
    let sealed = rw c.in_ok-sealed.ensures.made at c.in_ok-sealed.ensures.short in
    let ticket = rw c.args.self.now.ticket_is at c.args.self.now.ticket_short in
    rw (c.in_ok-message.ensures, c.in_ok-sealed.ensures.made) (request_below c.args.ctime c.args.cusec c.args.confounder sealed ticket)

pub write_framed-requires-clause-short : goal.write_framed-requires-clause-short
write_framed-requires-clause-short c =
    let sealed = rw c.in_ok-sealed.ensures.made at c.in_ok-sealed.ensures.short in
    let ticket = rw c.args.self.now.ticket_is at c.args.self.now.ticket_short in
    framed_short c.as_slice.result.now (rw (c.as_slice.ensures, c.in_ok-octets.ensures.is, c.in_ok-message.ensures, c.in_ok-sealed.ensures.made) (request_short c.args.ctime c.args.cusec c.args.confounder sealed ticket))

pub returns : goal.returns
returns c =
    let is = c.as_slice.ensures ∙ c.in_ok-octets.ensures.is ∙ ap (spelling ap_req_layout) (rw c.in_ok-sealed.ensures.made at c.in_ok-message.ensures) in
    IfOk-weaker _ _ _ (λ octets frame. frame_is c.args.ctime c.args.cusec c.args.confounder c.as_slice.result.now octets is frame) c.write_framed.ensures
