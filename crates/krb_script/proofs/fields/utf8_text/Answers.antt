use Rattle.std.proofs.Common.{◌≡◌, rules, ap, sym, ◌∙◌, true}
use Rattle.std.specs.Str.{IsUtf8, is_utf8}
use Rattle.std.proofs.lemmas.Str.{IsUtf8-from_is_utf8}
use Rattle.krb_script.proofs.fields.utf8_text.Goals as goal

pub returns : goal.returns
returns c =
    let valid : is_utf8 c.args.octets ≡ true = search rules in
    let text : IsUtf8 c.into_inner.result.items = rw c.into_inner.ensures (IsUtf8-from_is_utf8 c.args.octets valid) in
    let taken = c.from_utf8.ensures.succeeds text in
    search (rules, taken)
