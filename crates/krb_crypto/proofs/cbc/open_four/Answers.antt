use Rattle.std.proofs.Common.{rules, arith}
use Rattle.krb_crypto.proofs.CbcLemmas.{IsDecryptedTo_blocks, four_opened, last_of_four, still_there}
use Rattle.krb_crypto.proofs.cbc.open_four.Goals as goal

pub returns : goal.returns
returns c = λ t opened. record {
  under = λ E undoes.
      let held = opened.under E undoes in
      let there = still_there E t c.args.text.now c.args.previous c.four_at-blocks.result c.args.i 64 held c.four_at-blocks.ensures in
      IsDecryptedTo_blocks E t c.args.text.now c.args.previous c.four_at-blocks.result c.unchained-plain.result _ c.block_at.result c.args.i 4 _
      held (omega arith) (omega (arith, held.size)) there
      (four_opened E c.args.previous c.four_at-blocks.result _ c.unchained-plain.result (search rules) (search rules) (search rules) c.unchained-plain.ensures (c.decrypt_four.ensures E undoes))
      (search rules) c.copy_from_slice.ensures.after (omega arith)
      (last_of_four c.args.previous c.four_at-blocks.result c.block_at.result (search rules) c.block_at.ensures) (search rules);
}
