use Rattle.std.proofs.Common.{rules, ℕ, ◌+◌, ◌-◌, ◌*◌, ◌/◌, ◌%◌, ◌^◌, ap₂, ◌∙◌, arith}
use Rattle.krb_crypto.proofs.OctetFold.{start_of, octet_of_copies}
use Rattle.krb_crypto.proofs.fold.copies_octet.Goals as goal

pub returns : goal.returns
returns c =
    ap₂ (λ (x y : ℕ). (256 * x + y) / 2 ^ (8 - start_of c.args.input.now c.args.j % 8) % 256) c.from-first.ensures c.from-second.ensures
    ∙ octet_of_copies c.args.input.now c.args.j (omega arith) (search rules)
