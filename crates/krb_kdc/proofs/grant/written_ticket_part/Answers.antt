use Rattle.std.proofs.Common.{◌≤◌, ◌-◌, ◌^◌, ◌∙◌, ℕ, List, length, arith}
use Rattle.std.proofs.lemmas.Result.{IfOk-weaker}
use Rattle.krb_kdc.proofs.GrantLengths.{ticket_part_fits}
use Rattle.krb_kdc.proofs.grant.written_ticket_part.Goals as goal

pub write-requires-clause-complete : goal.write-requires-clause-complete
write-requires-clause-complete c = rw (c.deref.ensures ∙ c.in_ok-part-2.ensures ∙ c.in_ok-part.ensures) (ticket_part_fits c.args.suite c.args.draw.now c.args.grant.now c.requires.grant).complete

pub write-requires-clause-short : goal.write-requires-clause-short
write-requires-clause-short c =
    let k = (ticket_part_fits c.args.suite c.args.draw.now c.args.grant.now c.requires.grant).short in
    rw (c.deref.ensures ∙ c.in_ok-part-2.ensures ∙ c.in_ok-part.ensures) (omega (arith, k))

pub returns-clause-short : goal.returns-clause-short
returns-clause-short c =
    let k = (ticket_part_fits c.args.suite c.args.draw.now c.args.grant.now c.requires.grant).short in
    IfOk-weaker c.write.result _ (λ (plain : List ℕ). length plain ≤ 2 ^ 26 - 64) (λ plain spells. rw (spells.is, (c.deref.ensures ∙ c.in_ok-part-2.ensures ∙ c.in_ok-part.ensures)) k) c.write.ensures
