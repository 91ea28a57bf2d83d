use Rattle.krb_dialogue.proofs.Found.{target_found, target_refused}
use Rattle.krb_dialogue.proofs.tickets.find_for.Goals as goal

pub returns-in-Ok : goal.returns-in-Ok
returns-in-Ok c =
    target_found c.args.target.now _ c.args.cache.now c.args.seconds c.as_str.ensures.octets (c.in-Ok.service.now, c.in-Ok.host.now) c.find_at.result c.in-Ok.ensures.parts c.find_at.ensures

pub returns-in-Err : goal.returns-in-Err
returns-in-Err c = target_refused c.args.target.now _ c.args.cache.now c.args.seconds c.as_str.ensures.octets c.in-Err.ensures.target.0
