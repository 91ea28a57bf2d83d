use Rattle.std.proofs.Common.{length}
use Rattle.krb_authenticators.proofs.Lengths.{le_trans}
use Rattle.krb_authenticators.proofs.TgsLengths.{AreWithin, target_within}
use Rattle.krb_authenticators.proofs.tgs_req.generate_tgs_req.Goals as goal

pub tgs_req_for-requires-clause-service : goal.tgs_req_for-requires-clause-service
tgs_req_for-requires-clause-service c =
    let target = c.args.options.service_principal.now in
    let parts : AreWithin (length target) (c.in-Ok.service.now, c.in-Ok.host.now) = target_within target c.in-Ok.service.now c.in-Ok.host.now c.in-Ok.ensures.target in
    le_trans _ _ _ parts.service c.requires.service

pub tgs_req_for-requires-clause-host : goal.tgs_req_for-requires-clause-host
tgs_req_for-requires-clause-host c =
    let target = c.args.options.service_principal.now in
    let parts : AreWithin (length target) (c.in-Ok.service.now, c.in-Ok.host.now) = target_within target c.in-Ok.service.now c.in-Ok.host.now c.in-Ok.ensures.target in
    le_trans _ _ _ parts.host c.requires.service
