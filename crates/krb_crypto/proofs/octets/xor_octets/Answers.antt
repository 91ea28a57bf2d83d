use Rattle.std.proofs.Common.{rules, arith}
use Rattle.krb_aes.proofs.OctetLemmas.{xor_octets_from}
use Rattle.krb_crypto.proofs.octets.xor_octets.Goals as goal

pub returns : goal.returns
returns g c =
    xor_octets_from c.args.a.now c.args.b.now c.loop-i.out g.row.N (search rules) (search rules) c.loop-i.invariant.0
    (λ k h. c.loop-i.invariant.1 k (omega arith))
