use Rattle.std.proofs.Common.{rules, ℕ, ◌+◌, ◌/◌, ◌-◌, length, refl, arith}
use Rattle.std.proofs.lemmas.List.{take_rest}
use Rattle.krb_crypto.proofs.OpenLemmas.{opened_one, opened_end}
use Rattle.krb_crypto.proofs.cts.decrypt_under.Goals as goal

pub returns-then-count-eq1 : goal.returns-then-count-eq1
returns-then-count-eq1 c = λ E undoes.
    opened_one E c.args.text.now _ _ _ c.requires c.if-count-eq1.true c.block_at.ensures (c.decrypt_block-block.ensures E undoes)
    (search rules) c.copy_from_slice.ensures.after

pub returns : goal.returns
returns c = λ E undoes.
    let n : ℕ = (length c.args.text.now + 15) / 16 - 2 in
    opened_end E c.args.text.now c.cbc_decrypt-previous.new.text c.cbc_decrypt-previous.result _ _ _ _ _ _ _ _ _ n _ _ _
    (c.cbc_decrypt-previous.ensures.under E undoes) (omega arith) (omega arith)
    c.block_at-2.ensures (c.decrypt_block-opened.ensures E undoes) (search rules) (take_rest c.cbc_decrypt-previous.new.text _) c.with_front-stolen.ensures
    (c.decrypt_block.ensures E undoes) (search rules) c.xor_octets-plain.ensures c.xor_octets-tail.ensures
    c.copy_from_slice-2.ensures.after (search rules) c.copy_from_slice-3.ensures.after refl (omega arith) refl
