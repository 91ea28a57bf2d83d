use Rattle.std.proofs.Common.{sym}
use Rattle.krb_dialogue.proofs.Found.{own_found, tgt_found, none_found}
use Rattle.krb_dialogue.proofs.tickets.find_at.Goals as goal

pub returns-in-Some : goal.returns-in-Some
returns-in-Some c =
    own_found c.args.cache.now c.args.seconds (c.args.service.now, c.args.host.now) _ c.in_ok-components.ensures c.in-Some.own.now c.held_as.result (sym c.in-Some.ensures) c.held_as.ensures

pub returns-in-Some-find_tgt : goal.returns-in-Some-find_tgt
returns-in-Some-find_tgt c =
    tgt_found c.args.cache.now c.args.seconds (c.args.service.now, c.args.host.now) _ c.in_ok-components.ensures c.in-Some-find_tgt.tgt.now c.held_as-in-Some-find_tgt.result
    (sym c.in-None.ensures) (sym c.in-Some-find_tgt.ensures) c.held_as-in-Some-find_tgt.ensures

pub returns : goal.returns
returns c =
    none_found c.args.cache.now c.args.seconds (c.args.service.now, c.args.host.now) _ c.in_ok-components.ensures (sym c.in-None.ensures) (sym c.in-None-find_tgt.ensures)
