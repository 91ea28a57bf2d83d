use Rattle.std.proofs.Common.{◌+◌, ◌-◌, ◌≤◌, ◌∷◌, [], ◌++◌, length, take, drop, length-take, refl, ap, sym, ◌∙◌, arith}
use Rattle.krb_input.proofs.ReadingLemmas.{are-more, are-all}
use Rattle.krb_input.proofs.ahead.items_for.Goals as goal

pub overflow_add-rest : goal.overflow_add-rest
overflow_add-rest c = omega (arith, c.in-Some.ensures.within, c.lines.invariant.1)

pub lines-preserved : goal.lines-preserved
lines-preserved c =
    let rest = c.lines.rest.now in
    let next = c.in-Some.end + 1 in
    let fewer : length (take (length rest - next) (drop next rest)) ≤ length rest = omega (arith, length-take (length rest - next) (drop next rest)) in (
      are-more c.args.octets.now rest c.lines.items.items c.push_reserved.new.self.items c.item_for.result c.in-Some.end (sym c.line_end.ensures.end ∙ c.in-Some.is) c.item_for.ensures
          (c.push_reserved.ensures.items ∙ ap (λ l. l ++ c.item_for.result ∷ []) c.reserve.ensures.items) c.lines.invariant.0,
      omega (arith, fewer, c.lines.invariant.1),
    )

pub returns-then-is_err : goal.returns-then-is_err
returns-then-is_err c = are-all c.args.octets.now c.lines.items.items c.reserve.new.self.items c.reserve.ensures.items (c.lines.invariant.0 [] tt)

pub returns-in_default : goal.returns-in_default
returns-in_default c = are-all c.args.octets.now c.lines.items.items c.lines.items.items refl (c.lines.invariant.0 [] tt)
