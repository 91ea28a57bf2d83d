use Rattle.std.proofs.Common.{rules, ◌≡◌, ◌-◌, ◌≤◌, ◌++◌, ℕ, List, length, take, drop, sym, ap, ◌∙◌, arith}
use Rattle.std.proofs.lemmas.Bool.{both_ways}
use Rattle.krb_crypto.specs.Hmac.{hmac12}
use Rattle.krb_crypto.specs.Suite.{kc}
use Rattle.krb_context.specs.Header.{without_counts, ec_of}
use Rattle.krb_context.proofs.TurnLemmas.{clear_agrees}
use Rattle.krb_context.proofs.open.open_clear.Goals as goal

pub returns-else-is_equal : goal.returns-else-is_equal
returns-else-is_equal c = λ p s.
    let whole : List ℕ = c.args.whole.items in
    let size : c.args.whole.len ≡ length whole = search rules in
    let count : ec_of c.args.header.now ≡ 12 = search rules in
    let long : 12 ≤ length whole = omega (arith, c.requires.long, size, count) in
    let agree = clear_agrees (kc c.args.suite c.args.key.now c.args.usage) c.args.header.now whole p long s in
    let text : take (c.len-end.result - 12) c.as_slice-2.result.now ≡ take (length whole - 12) whole = search rules in
    let code : c.last_twelve-code.result ≡ drop (length whole - 12) whole = search rules in
    both_ways c.is_equal.result c.if-is_equal.false
    (c.is_equal.ensures.1
    (c.clear_code-found.ensures
    ∙ ap (λ (t : List ℕ). hmac12 (kc c.args.suite c.args.key.now c.args.usage) (t ++ without_counts c.args.header.now)) (text ∙ sym agree.0)
    ∙ agree.1 ∙ sym code))
