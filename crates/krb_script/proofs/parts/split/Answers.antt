use Rattle.std.proofs.Common.{◌+◌, ◌-◌, ◌<◌, length, take, drop, length-take, arith}
use Rattle.krb_script.proofs.PartLemmas.{one_more, last_one}
use Rattle.krb_script.proofs.parts.split.Goals as goal

pub overflow_add-rest : goal.overflow_add-rest
overflow_add-rest c = omega (arith, c.in-Some.ensures.within, c.parts.invariant.1)

pub parts-preserved : goal.parts-preserved
parts-preserved c =
    let rest = c.parts.rest.now in
    let next = c.in-Some.at + 1 in
    let fewer : length (take (length rest - next) (drop next rest)) < length rest = omega (arith, c.in-Some.ensures.within, length-take (length rest - next) (drop next rest)) in (
      one_more (λ x. x.now) c.args.separator c.args.text.now rest c.in-Some.at c.parts.parts.items _ c.push.new.self.items c.in_ok-push.ensures.items c.parts.invariant.0 c.in-Some.ensures.parts,
      omega (arith, fewer, c.parts.invariant.1),
    )

pub returns : goal.returns
returns c =
    last_one (λ x. x.now) c.args.separator c.args.text.now c.parts.rest.now c.parts.parts.items c.parts.rest c.push-2.new.self.items c.in_ok-push-2.ensures.items c.parts.invariant.0 c.in_default.ensures.parts
