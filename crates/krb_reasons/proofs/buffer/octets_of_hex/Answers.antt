use Rattle.std.proofs.Common.{◌≡◌, [], rules, sym, ◌∙◌}
use Rattle.krb_reasons.proofs.BufferLemmas.{no_digits}
use Rattle.krb_reasons.proofs.buffer.octets_of_hex.Goals as goal

pub returns-then-is_empty : goal.returns-then-is_empty
returns-then-is_empty c =
    let empty : c.new-then-is_empty.result ≡ [] = search rules in
    rw empty (no_digits c.args.digits.now (sym c.is_empty.ensures ∙ c.if-is_empty.true))
