use Rattle.std.proofs.Common.{◌∙◌, ap, ◌++◌, arith}
use Rattle.std.specs.Prelude.{string_bytes}
use Rattle.krb_conf.proofs.KeyLemmas.{join_step, join_all}
use Rattle.krb_conf.proofs.key.join.Goals as goal

pub loop-name-preserved : goal.loop-name-preserved
loop-name-preserved c =
    join_step _ c.in-Some.names.now c.loop-name.name-index _ _ _ _ c.loop-name-test.true c.loop-name.invariant
    (c.in_ok-push.ensures.bytes ∙ ap (λ x. string_bytes c.loop-name.key ++ x) (c.in_ok-push.ensures.ascii (omega arith)))
    c.in_ok-push_str.ensures.bytes

pub returns : goal.returns
returns c = join_all _ c.in-Some.names.now c.args.path.now c.loop-name.name-index c.in-Some.first.now _ c.loop-name-test.false c.loop-name.invariant c.in_ok-key.ensures.ok c.in-Some.ensures.cases.0
