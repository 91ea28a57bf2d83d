use Rattle.std.proofs.Common.{◌+◌, List, ℕ, IfSome, length, length-drop, take, refl, ap, sym, ◌∙◌, subst, arith}
use Rattle.std.specs.Vec.Iter.{into_iter_items}
use Rattle.krb_text.specs.Cutter.{first_end}
use Rattle.krb_text.specs.Limits.{max_line, max_input}
use Rattle.krb_script.specs.Script.{declare_line}
use Rattle.krb_input.specs.Ahead.{Declares}
use Rattle.krb_input.proofs.ReadingLemmas.{next-is, are-next, takes-next, next-bad, next-long, not-past}
use Rattle.krb_input.proofs.reading.take_lines.Goals as goal

pub is_long-requires : goal.is_long-requires
is_long-requires g c =
    let rest_len = length-drop c.lines.done c.args.octets.now in
    let fits = c.lines.invariant.3 in let low = c.requires.lines in let room = c.requires.room in let at_fits = c.requires.at in
    let within = c.in-Some.ensures.within in let len = ap length c.behind-rest.ensures in
    (omega arith, omega arith)

pub returns-then-is_long-clause-stops : goal.returns-then-is_long-clause-stops
returns-then-is_long-clause-stops g c =
    let octets = c.args.octets.now in
    let is = ap first_end (sym c.behind-rest.ensures) ∙ sym c.line_end.ensures.end ∙ c.in-Some.is in
    let next = next-is octets c.lines.done c.in-Some.end c.lines.invariant.3 is in
    next-long c.args.at c.args.known.now c.lines.known octets c.lines.done c.in-Some.end c.lines.invariant.0 c.lines.invariant.3 next is (c.if-is_long.ensures.0 refl)

pub either-ahead-requires-clause-one : goal.either-ahead-requires-clause-one
either-ahead-requires-clause-one g c =
    let octets = c.args.octets.now in
    let is = ap first_end (sym c.behind-rest.ensures) ∙ sym c.line_end.ensures.end ∙ c.in-Some.is in
    let next = next-is octets c.lines.done c.in-Some.end c.lines.invariant.3 is in
    let P : List ℕ → Type 0 = λ l. IfSome c.next.result (λ ahead. Declares (take c.in-Some.end l) ahead) in
    subst P (sym c.behind-rest.ensures)
    (are-next octets c.lines.done c.in-Some.end (into_iter_items c.lines.even) (into_iter_items c.next.new.self) c.next.result next c.next.ensures.items (λ some. c.next.ensures.variant.1 (omega (arith, some, c.lines.even.rest.ok.0))) c.lines.invariant.1).0

pub either-ahead-requires-clause-other : goal.either-ahead-requires-clause-other
either-ahead-requires-clause-other g c =
    let octets = c.args.octets.now in
    let is = ap first_end (sym c.behind-rest.ensures) ∙ sym c.line_end.ensures.end ∙ c.in-Some.is in
    let next = next-is octets c.lines.done c.in-Some.end c.lines.invariant.3 is in
    let P : List ℕ → Type 0 = λ l. IfSome c.next-in-lines.result (λ ahead. Declares (take c.in-Some.end l) ahead) in
    subst P (sym c.behind-rest.ensures)
    (are-next octets c.lines.done c.in-Some.end (into_iter_items c.lines.odd) (into_iter_items c.next-in-lines.new.self) c.next-in-lines.result next c.next-in-lines.ensures.items (λ some. c.next-in-lines.ensures.variant.1 (omega (arith, some, c.lines.odd.rest.ok.0))) c.lines.invariant.2).0

pub returns-in-Err-Bad-clause-stops : goal.returns-in-Err-Bad-clause-stops
returns-in-Err-Bad-clause-stops g c =
    let octets = c.args.octets.now in
    let is = ap first_end (sym c.behind-rest.ensures) ∙ sym c.line_end.ensures.end ∙ c.in-Some.is in
    let next = next-is octets c.lines.done c.in-Some.end c.lines.invariant.3 is in
    let fits = not-past max_line c.in-Some.end max_input (c.args.at + c.lines.done + c.in-Some.end + 1) c.if-is_long.ensures.1 in
    next-bad c.args.at c.args.known.now c.lines.known c.take_line.new.self octets c.lines.done c.in-Some.end c.lines.invariant.0 c.lines.invariant.3 next fits.0 fits.1
    (ap (λ l. declare_line c.lines.known.so_far (take c.in-Some.end l)) (sym c.behind-rest.ensures) ∙ c.in-Err-Bad.ensures.given c.in-Err-Bad.field-0-is) c.in-Err-Bad.ensures.err

pub lines-preserved : goal.lines-preserved
lines-preserved g c =
    let octets = c.args.octets.now in
    let done = c.lines.done in let end = c.in-Some.end in
    let is = ap first_end (sym c.behind-rest.ensures) ∙ sym c.line_end.ensures.end ∙ c.in-Some.is in
    let next = next-is octets done end c.lines.invariant.3 is in
    let low = next.low in
    let fits = not-past max_line end max_input (c.args.at + done + end + 1) c.if-is_long.ensures.1 in (
      takes-next c.args.at c.args.known.now c.lines.known c.take_line.new.self octets done end c.lines.invariant.0 c.lines.invariant.3 next fits.0 fits.1
          (ap (λ l. declare_line c.lines.known.so_far (take end l)) (sym c.behind-rest.ensures) ∙ c.in-Ok.ensures.given) c.in-Ok.ensures.lines,
      (are-next octets done end (into_iter_items c.lines.even) (into_iter_items c.next.new.self) c.next.result next c.next.ensures.items (λ some. c.next.ensures.variant.1 (omega (arith, some, c.lines.even.rest.ok.0))) c.lines.invariant.1).1,
      (are-next octets done end (into_iter_items c.lines.odd) (into_iter_items c.next-in-lines.new.self) c.next-in-lines.result next c.next-in-lines.ensures.items (λ some. c.next-in-lines.ensures.variant.1 (omega (arith, some, c.lines.odd.rest.ok.0))) c.lines.invariant.2).1,
      omega arith,
      (let within = fits.1 in omega arith),
    )
