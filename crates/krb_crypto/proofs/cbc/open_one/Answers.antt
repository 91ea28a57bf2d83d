use Rattle.std.proofs.Common.{rules, arith}
use Rattle.krb_crypto.proofs.CbcLemmas.{IsDecryptedTo_blocks, one_opened, last_of_one, still_there}
use Rattle.krb_crypto.proofs.cbc.open_one.Goals as goal

pub returns : goal.returns
returns c = λ t opened. record {
  under = λ E undoes.
      let held = opened.under E undoes in
      let there = still_there E t c.args.text.now c.args.previous c.block_at-block.result c.args.i 16 held c.block_at-block.ensures in
      IsDecryptedTo_blocks E t c.args.text.now c.args.previous c.block_at-block.result c.xor_octets-plain.result _ c.block_at-block.result c.args.i 1 _
      held (omega arith) (omega (arith, held.size)) there
      (one_opened E c.args.previous c.block_at-block.result c.decrypt_block.result c.xor_octets-plain.result (search rules) (search rules) (search rules) c.xor_octets-plain.ensures (c.decrypt_block.ensures E undoes))
      (search rules) c.copy_from_slice.ensures.after (omega arith)
      (last_of_one c.args.previous c.block_at-block.result (search rules) (search rules)) (search rules);
}
