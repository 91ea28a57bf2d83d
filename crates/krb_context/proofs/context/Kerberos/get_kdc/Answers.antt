use Rattle.std.proofs.Common.{sym, ap, ◌∙◌}
use Rattle.std.specs.Prelude.{ℕ, List, Some, option_map}
use Rattle.krb_context.proofs.KdcLemmas.{kdc_found}
use Rattle.krb_context.proofs.context.Kerberos.get_kdc.Goals as goal

pub returns-in_ok-copy-in-Some-2 : goal.returns-in_ok-copy-in-Some-2
returns-in_ok-copy-in-Some-2 c =
    let found = kdc_found c.args.self.now c.args.env.now c.in-Some.realm c.as_str.result.now c.in_ok-config.config c.in_ok-url.field-0 c.in-Some.is
    c.in_ok-config.ensures c.as_str.ensures c.in_ok-url.ensures in
    ap (λ (r : List ℕ). Some (r, c.in-Some-2.url)) c.in_ok-copy-in-Some-2.ensures ∙ sym (found ∙ ap (option_map (λ u. (c.in-Some.realm, u))) c.in-Some-2.is)

pub returns-in-None : goal.returns-in-None
returns-in-None c =
    let found = kdc_found c.args.self.now c.args.env.now c.in-Some.realm c.as_str.result.now c.in_ok-config.config c.in_ok-url.field-0 c.in-Some.is
    c.in_ok-config.ensures c.as_str.ensures c.in_ok-url.ensures in
    sym (found ∙ ap (option_map (λ u. (c.in-Some.realm, u))) c.in-None.is)
