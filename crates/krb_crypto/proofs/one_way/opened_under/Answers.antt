use Rattle.std.proofs.Common.{rules, ◌≡◌, ◌-◌, List, ℕ, length, drop, take, refl, ap, ◌∙◌, arith}
use Rattle.std.proofs.lemmas.Bool.{both_ways}
use Rattle.std.proofs.lemmas.List.{with_items_is}
use Rattle.krb_aes.specs.Aes.{aes}
use Rattle.krb_crypto.proofs.SealedLemmas.{revealed_is_sealed, not_sealed}
use Rattle.krb_crypto.proofs.one_way.opened_under.Goals as goal

pub returns-then-not-reveal_under-clause-altered : goal.returns-then-not-reveal_under-clause-altered
returns-then-not-reveal_under-clause-altered c = λ keys opens e.
    let same : c.as_mut_slice.result.now ≡ c.args.text.now = c.as_mut_slice.ensures.value ∙ c.in_ok-opened.ensures.items in
    rw same at (not_sealed keys c.as_mut_slice.result.now c.reveal_under.new.text (length c.as_mut_slice.result.now - 12) (omega (arith, ap length same)) (omega (arith, ap length same)) (omega arith)
    (c.reveal_under.ensures.front (aes keys.encryption) opens.schedule) (λ equal. both_ways c.reveal_under.result c.if-not-reveal_under.true ((c.reveal_under.ensures.code keys.integrity opens.hmac).1 equal)) c.reveal_under.ensures.octets)

pub returns-clause-opened : goal.returns-clause-opened
returns-clause-opened c = λ keys opens.
    let same : c.as_mut_slice.result.now ≡ c.args.text.now = c.as_mut_slice.ensures.value ∙ c.in_ok-opened.ensures.items in
    let kept : length c.reveal_under.new.text ≡ c.in_ok-opened.opened.len = search rules in
    let plain : c.cut.result ≡ drop 16 (take (length c.args.text.now - 12) c.reveal_under.new.text) =
    c.cut.ensures ∙ ap (λ (l : List ℕ). drop 16 (take (length c.args.text.now - 12) l)) (with_items_is c.in_ok-opened.opened c.reveal_under.new.text kept) in
    let revealed =
    rw same at (revealed_is_sealed keys c.as_mut_slice.result.now c.reveal_under.new.text (length c.as_mut_slice.result.now - 12) (omega (arith, ap length same)) (omega arith)
    (c.reveal_under.ensures.front (aes keys.encryption) opens.schedule) ((c.if-not-reveal_under.ensures.code keys.integrity opens.hmac).0 refl) c.reveal_under.ensures.octets) in
    rw plain revealed
