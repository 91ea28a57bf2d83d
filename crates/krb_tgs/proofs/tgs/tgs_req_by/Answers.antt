use Rattle.krb_tgs.proofs.TgsRequests.{is_tgs_req}
use Rattle.krb_tgs.proofs.tgs.tgs_req_by.Goals as goal

pub returns-in-Ok-clause-made : goal.returns-in-Ok-clause-made
returns-in-Ok-clause-made c =
    is_tgs_req c.args.wanted.now c.args.shown.now c.args.realm.now c.args.tickets c.args.draw.now _ _ _ _ _ _ _ _
    c.of_suite-params.ensures.suite c.octets-confounder.ensures c.octets-nonce.ensures c.as_str.ensures.octets c.as_str-2.ensures.octets
    c.in_ok-ticket.ensures c.requires.same c.in-Ok.ensures.made
