use Rattle.std.proofs.Common.{◌≤◌, ◌-◌, ◌^◌, ◌∙◌, ℕ, List, length, arith}
use Rattle.std.proofs.lemmas.Result.{IfOk-weaker}
use Rattle.krb_kdc.proofs.GrantLengths.{tgs_part_fits}
use Rattle.krb_kdc.proofs.grant.written_tgs_part.Goals as goal

pub write-requires-clause-complete : goal.write-requires-clause-complete
write-requires-clause-complete c = rw (c.deref.ensures ∙ c.in_ok-part.ensures, c.in_ok-reply_part.ensures) (tgs_part_fits c.args.kdc.now.suite c.args.kdc.now.realm c.args.draw.now c.args.nonce.now c.args.grant.now c.args.kdc.now.realm_short c.requires.some c.requires.nonce c.requires.grant).complete

pub write-requires-clause-short : goal.write-requires-clause-short
write-requires-clause-short c =
    let k = (tgs_part_fits c.args.kdc.now.suite c.args.kdc.now.realm c.args.draw.now c.args.nonce.now c.args.grant.now c.args.kdc.now.realm_short c.requires.some c.requires.nonce c.requires.grant).short in
    rw (c.deref.ensures ∙ c.in_ok-part.ensures, c.in_ok-reply_part.ensures) (omega (arith, k))

pub returns-clause-short : goal.returns-clause-short
returns-clause-short c =
    let k = (tgs_part_fits c.args.kdc.now.suite c.args.kdc.now.realm c.args.draw.now c.args.nonce.now c.args.grant.now c.args.kdc.now.realm_short c.requires.some c.requires.nonce c.requires.grant).short in
    IfOk-weaker c.write.result _ (λ (plain : List ℕ). length plain ≤ 2 ^ 27 - 64) (λ plain spells. rw (spells.is, c.deref.ensures ∙ c.in_ok-part.ensures, c.in_ok-reply_part.ensures) k) c.write.ensures
