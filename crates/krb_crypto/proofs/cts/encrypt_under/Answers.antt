use Rattle.std.proofs.Common.{rules, ℕ, List, ◌≡◌, ◌+◌, ◌/◌, ◌-◌, length, refl, arith}
use Rattle.krb_aes.specs.Aes.{forward_cipher}
use Rattle.krb_crypto.proofs.CbcLemmas.{zip2-xor_octets}
use Rattle.krb_crypto.proofs.CtsLemmas.{cts_one, IsEncryptedTo, IsEncryptedTo_none, IsEncryptedTo_step, cts_end}
use Rattle.krb_crypto.proofs.cts.encrypt_under.Goals as goal

pub returns-then-count-eq1 : goal.returns-then-count-eq1
returns-then-count-eq1 c =
    cts_one (forward_cipher c.args.key.now) c.args.text.now _ _ _ c.requires c.if-count-eq1.true c.block_at.ensures c.encrypted-block.ensures
    c.copy_from_slice.ensures.after

pub loop-i-init : goal.loop-i-init
loop-i-init c = IsEncryptedTo_none (forward_cipher c.args.key.now) c.args.text.now _ refl

pub loop-i-preserved : goal.loop-i-preserved
loop-i-preserved c =
    IsEncryptedTo_step (forward_cipher c.args.key.now) c.args.text.now c.loop-i.text c.loop-i.previous _ _ _ _ c.loop-i.i _
    c.loop-i.invariant (omega arith) c.block_at-block.ensures (zip2-xor_octets c.loop-i.previous _) c.encrypt_vector.ensures
    (search rules) c.copy_from_slice-in-loop-i.ensures.after (omega arith)

pub returns : goal.returns
returns c =
    let n : ℕ = (length c.args.text.now + 15) / 16 - 2 in
    let all : c.loop-i.i ≡ n = omega arith in
    let E : List ℕ → List ℕ = forward_cipher c.args.key.now in
    let held : IsEncryptedTo E c.args.text.now c.loop-i.text c.loop-i.previous n = rw all at c.loop-i.invariant in
    cts_end E c.args.text.now c.loop-i.text c.loop-i.previous _ _ _ _ _ _ _ _ n _ _ _
    held (omega arith) (omega arith)
    c.block_at-2.ensures c.xor_octets.ensures c.encrypted-stolen.ensures
    c.last_block.ensures c.xor_octets-2.ensures c.encrypted-last.ensures
    c.copy_from_slice-2.ensures.after (search rules) c.copy_from_slice-3.ensures.after refl (omega arith) refl
