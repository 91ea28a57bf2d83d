use Rattle.std.proofs.Common.{rules, bit_xor, arith}
use Rattle.krb_aes.proofs.OctetLemmas.{map_from}
use Rattle.krb_crypto.proofs.hmac.xor_each.Goals as goal

pub returns : goal.returns
returns c = map_from (λ b. bit_xor b c.args.octet) c.args.block.now c.loop-i.out 64 (search rules) c.loop-i.invariant.0 (λ k h. c.loop-i.invariant.1 k (omega arith))
