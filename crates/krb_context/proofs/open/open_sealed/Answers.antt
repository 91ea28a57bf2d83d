use Rattle.std.proofs.Common.{rules, ◌≡◌, ◌-◌, ℕ, List, length, take, drop, refl, sym, ap, subst, ◌∙◌}
use Rattle.std.proofs.lemmas.Bool.{both_ways}
use Rattle.krb_context.specs.Header.{IsCopyOf}
use Rattle.krb_context.specs.Spelt.{IsSealedAs}
use Rattle.krb_context.proofs.OpenLemmas.{sealed_agrees, agrees_sealed, copy_is}
use Rattle.krb_context.proofs.open.open_sealed.Goals as goal

pub returns-then-not-decrypt : goal.returns-then-not-decrypt
returns-then-not-decrypt c = λ p s.
    let agree =
    sealed_agrees c.args.sealing.now c.args.ec c.args.header.now c.args.message.now c.args.whole.items p c.decrypt.new.text.items c.decrypt.ensures.decrypted s in
    both_ways c.decrypt.result c.if-not-decrypt.true (c.decrypt.ensures.agrees.1 agree.0)

pub returns-then-not-is_copy_of : goal.returns-then-not-is_copy_of
returns-then-not-is_copy_of c = λ p s.
    let o : List ℕ = c.decrypt.new.text.items in
    let n_is : c.len-copy_at.result ≡ length o = search rules in
    let agree = sealed_agrees c.args.sealing.now c.args.ec c.args.header.now c.args.message.now c.args.whole.items p o c.decrypt.ensures.decrypted s in
    let copy = copy_is o c.as_slice.result.now c.len-copy_at.result c.as_slice.ensures.value n_is in
    both_ways c.is_copy_of.result c.if-not-is_copy_of.true (c.is_copy_of.ensures.1 (subst (IsCopyOf c.args.header.now) (sym copy) agree.1))

pub returns : goal.returns
returns c =
    let o : List ℕ = c.decrypt.new.text.items in
    let n_is : c.len-copy_at.result ≡ length o = search rules in
    let copy = copy_is o c.as_slice.result.now c.len-copy_at.result c.as_slice.ensures.value n_is in
    let p_is : c.new.result ≡ take (length o - 16 - c.args.ec - 16) (drop 16 o) =
    c.new.ensures ∙ ap (λ (k : ℕ). take (k - 16 - c.args.ec - 16) (drop 16 o)) n_is in
    subst (IsSealedAs c.args.sealing.now c.args.ec c.args.header.now c.args.message.now c.args.whole.items) (sym p_is)
    (agrees_sealed c.args.sealing.now c.args.ec c.args.header.now c.args.message.now c.args.whole.items o c.decrypt.ensures.decrypted (c.if-not-decrypt.ensures.agrees.0 refl)
    (subst (IsCopyOf c.args.header.now) copy (c.if-not-is_copy_of.ensures.0 refl)))
