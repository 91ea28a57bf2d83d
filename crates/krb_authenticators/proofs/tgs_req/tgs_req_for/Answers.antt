use Rattle.std.proofs.Common.{rules, ◌∙◌}
use Rattle.krb_authenticators.proofs.TgsLengths.{body_within}
use Rattle.krb_authenticators.proofs.tgs_req.tgs_req_for.Goals as goal

pub tgs_req_of-requires-clause-body : goal.tgs_req_of-requires-clause-body
tgs_req_of-requires-clause-body c =
    rw (c.in_ok-body.ensures ∙ c.in_ok-asked.ensures)
    (body_within c.args.options.realm.now c.args.service.now c.args.host.now c.args.options.additional_tickets c.args.options.context_requirements.0 c.args.now c.args.nonce
    c.requires.realm c.requires.service c.requires.host c.requires.tickets (search rules))
