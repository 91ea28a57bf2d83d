use Rattle.std.proofs.Common.{◌-◌, List, ℕ, ◌++◌, length, take, drop, ap, ◌∙◌, arith}
use Rattle.std.proofs.lemmas.List.{append-nil, length-append, length-drop, length-take-le}
use Rattle.krb_crypto.specs.Hmac.{hmac12}
use Rattle.krb_crypto.proofs.ListLemmas.{put_mid_end}
use Rattle.krb_crypto.proofs.SealedLemmas.{sealed_of_parts}
use Rattle.krb_crypto.proofs.OneWayLemmas.{cts-forward}
use Rattle.krb_crypto.proofs.one_way.seal_under.Goals as goal

pub returns : goal.returns
returns c = λ keys seals.
    let end : ℕ = length c.args.text.now - 12 in
    put_mid_end c.encrypt_under.new.text _ _ end _ (omega (arith, length-take-le end c.args.text.now))
    (omega (arith, length-append c.encrypt_under.new.text (drop end c.args.text.now), length-drop end c.args.text.now, length-take-le end c.args.text.now))
    ∙ ap (λ (code : List ℕ). c.encrypt_under.new.text ++ code) c.copy_from_slice.ensures.after
    ∙ sealed_of_parts keys (take end c.args.text.now) _ _ (c.encrypt_under.ensures ∙ cts-forward keys.encryption (take end c.args.text.now) c.args.schedule.now seals.schedule)
    (c.short_code-code.ensures keys.integrity seals.hmac ∙ ap (hmac12 keys.integrity) (append-nil (take end c.args.text.now)))
