use Rattle.std.proofs.Common.{◌≡◌, ap, ◌∙◌}
use Rattle.std.specs.String.{string_bytes}
use Rattle.std.proofs.lemmas.Str.{IsUtf8-string_bytes}
use Rattle.krb_der.proofs.text.Text.new.Goals as goal

pub invariant_of-result : goal.invariant_of-result
invariant_of-result c =
    let e : c.new.result ≡ string_bytes c.args.text = c.new.ensures ∙ ap (λ v. v.items) c.into_bytes.ensures.value in
    rw e (IsUtf8-string_bytes c.args.text)
