use Rattle.std.proofs.Common.{rules, ◌*◌, ◌+◌, arith}
use Rattle.krb_crypto.proofs.CbcLemmas.{IsDecryptedTo_blocks, IsDecryptedTo_further, four_opened, last_of_four, still_there, next_there}
use Rattle.krb_crypto.proofs.cbc.open_eight.Goals as goal

pub returns : goal.returns
returns c = λ t opened. record {
  under = λ E undoes.
      let held = opened.under E undoes in
      let there = still_there E t c.args.text.now c.args.previous c.four_at-blocks.result c.args.i 64 held c.four_at-blocks.ensures in
      let halfway = IsDecryptedTo_blocks E t c.args.text.now c.args.previous c.four_at-blocks.result c.unchained-plain.result _ c.block_at-middle.result c.args.i 4 _
      held (omega arith) (omega (arith, held.size)) there
      (four_opened E c.args.previous c.four_at-blocks.result _ c.unchained-plain.result (search rules) (search rules) (search rules) c.unchained-plain.ensures (c.decrypt_eight.ensures.front E undoes))
      (search rules) c.copy_from_slice.ensures.after (omega arith)
      (last_of_four c.args.previous c.four_at-blocks.result c.block_at-middle.result (search rules) c.block_at-middle.ensures) (search rules) in
      IsDecryptedTo_further E t _ c.block_at-middle.result c.four_at-others.result c.unchained-after.result _ c.block_at.result (c.args.i + 4) 4 _ (16 * c.args.i + 64) (c.args.i + 8)
      (omega arith) (omega arith) halfway (omega arith) (omega (arith, held.size))
      (next_there E t c.args.text.now c.args.previous c.four_at-others.result c.args.i 64 held c.four_at-others.ensures)
      (four_opened E c.block_at-middle.result c.four_at-others.result _ c.unchained-after.result (search rules) (search rules) (search rules) c.unchained-after.ensures (c.decrypt_eight.ensures.back E undoes))
      (search rules) c.copy_from_slice-2.ensures.after (omega arith)
      (last_of_four c.block_at-middle.result c.four_at-others.result c.block_at.result (search rules) c.block_at.ensures) (search rules);
}
