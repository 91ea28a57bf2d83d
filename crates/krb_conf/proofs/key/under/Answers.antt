use Rattle.std.proofs.Common.{◌≡◌, ◌++◌, ◌∷◌, [], None, Some, refl, sym, ◌∙◌, ap, arith}
use Rattle.std.proofs.lemmas.Str.{IsCharBoundary-after_ascii}
use Rattle.krb_conf.specs.Ascii.{bar}
use Rattle.krb_conf.specs.Key as words
use Rattle.krb_conf.proofs.KeyLemmas.{Follows, then_bar, after_bar}
use Rattle.krb_conf.proofs.key.under.Goals as goal

pub returns-in_err-rest : goal.returns-in_err-rest
returns-in_err-rest c =
    rw c.from_residual.ensures (then_bar c.args.path.now c.args.key.now _ _ None None c.as_bytes-2.ensures.value c.as_bytes.ensures.value c.in_err-rest.ensures refl)

pub returns-in_err-after_prefix : goal.returns-in_err-after_prefix
returns-in_err-after_prefix c =
    rw c.from_residual-in_err-after_prefix.ensures (then_bar c.args.path.now c.args.key.now _ _ (Some c.in_ok-rest.rest.now) None c.as_bytes-2.ensures.value c.as_bytes.ensures.value c.in_ok-rest.ensures c.in_err-after_prefix.ensures)

pub range_from-requires : goal.range_from-requires
range_from-requires c =
    let found = then_bar c.args.path.now c.args.key.now _ _ (Some c.in_ok-rest.rest.now) (Some c.in_ok-after_prefix.field-0.now) c.as_bytes-2.ensures.value c.as_bytes.ensures.value c.in_ok-rest.ensures c.in_ok-after_prefix.ensures in
    let follows = after_bar c.args.path.now c.args.key.now c.in_ok-after_prefix.field-0.now (sym found) in
    λ _. IsCharBoundary-after_ascii _ _ c.utf8.key follows.within (omega (arith, follows.at))

pub returns : goal.returns
returns c =
    let found = then_bar c.args.path.now c.args.key.now _ _ (Some c.in_ok-rest.rest.now) (Some c.in_ok-after_prefix.field-0.now) c.as_bytes-2.ensures.value c.as_bytes.ensures.value c.in_ok-rest.ensures c.in_ok-after_prefix.ensures in
    let follows = after_bar c.args.path.now c.args.key.now c.in_ok-after_prefix.field-0.now (sym found) in
    ap Some (c.range_from.ensures.value ∙ sym follows.is) ∙ found
