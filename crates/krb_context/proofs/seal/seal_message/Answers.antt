use Rattle.std.proofs.Common.{rules, ◌≡◌, ◌+◌, ◌-◌, ◌≤◌, ◌++◌, ℕ, List, length, take, drop, ap, ◌∙◌, arith}
use Rattle.krb_context.proofs.WrapLemmas.{wrapped_from}
use Rattle.krb_context.proofs.seal.seal_message.Goals as goal

pub returns : goal.returns
returns c =
    let whole : List ℕ = c.in_ok-whole.whole.items in
    let end : ℕ = c.len.result - 28 - c.args.ec in
    let size : c.in_ok-whole.whole.len ≡ length whole = search rules in
    let low : 16 ≤ end = omega (arith, c.in_ok-whole.ensures.size, c.len.ensures) in
    let sizes : end + (28 + c.args.ec) ≡ length whole = omega (arith, c.in_ok-whole.ensures.size, c.len.ensures, size) in
    wrapped_from c.args.sealing.now c.args.flags c.args.ec c.args.number c.args.confounder.now c.args.message.now c.put_sealed.new.message whole c.wrap_header-header.result
    c.new.result c.new-2.result c.wrap_header.result end sizes low
    c.wrap_header-header.ensures c.wrap_header.ensures
    c.in_ok-whole.ensures.whole
    (c.new.ensures ∙ c.in_ok-token.ensures.token ∙ ap (λ (s : List ℕ). c.wrap_header-header.result ++ (drop end s ++ take 16 s)) c.as_slice.ensures.value)
    (c.new-2.ensures ∙ c.middle_of.ensures.items) c.put_sealed.ensures
