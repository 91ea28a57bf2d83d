use Rattle.std.proofs.Common.{◌≡◌, ap, sym, ◌∙◌}
use Rattle.std.specs.Ordering.{nat_cmp}
use Rattle.std.specs.BTreeMap.{is_at}
use Rattle.std.specs.Map.{set_value}
use Rattle.std.proofs.lemmas.Result.{on_err_weaker}
use Rattle.krb_script.proofs.ScriptLemmas.{set_same}
use Rattle.krb_script.specs.Script.{Setup}
use Rattle.krb_script.proofs.script.Script.add_to.Goals as goal

pub returns-clause-err : goal.returns-clause-err
returns-clause-err c =
    rw (← c.self.view_is) (on_err_weaker c.add.result (λ stays.
    let put = (c.get_mut.follows.holds c.add.new.self).0 in
    ap (λ endpoints. record { skew = c.self.inside.skew; env = record { vars = c.self.inside.vars.items; files = c.self.inside.files.items }; endpoints = endpoints })
    (put
    ∙ ap (set_value (is_at (nat_cmp c.args.id)) c.self.inside.endpoints.entries) stays
    ∙ set_same (is_at (nat_cmp c.args.id)) c.self.inside.endpoints.entries c.in-Some.endpoint.now (sym c.in-Some.ensures.value))) c.add.ensures.err)
