use Rattle.std.proofs.Common.{ℕ, List, get_or}
use Rattle.std.specs.Prelude.{map}
use Rattle.std.specs.Borrow.{Bor}
use Rattle.std.specs.List.{zip}
use Rattle.krb_reasons.proofs.BadLineLemmas.{among_next, among_stops, none_left, no_number_left, err_walks}
use Rattle.krb_reasons.proofs.bad_line.Walk.take_numbered.Goals as goal

pub loop-place-preserved : goal.loop-place-preserved
loop-place-preserved c =
    among_next c.args.self.now.judge c.loop-place.self.judge c.args.lines.now c.args.numbers.now c.loop-place.place c.loop-place.invariant
    c.in-Some.line.now c.in-Some.ensures.lookup.3.0 c.in-Some.ensures.lookup.1 c.loop-place-test.true c.take.new.self c.in-Ok.ensures

pub returns-in_default : goal.returns-in_default
returns-in_default c =
    none_left c.args.self.now.judge c.loop-place.self.judge c.args.lines.now c.args.numbers.now c.loop-place.place c.loop-place.invariant c.in_default.ensures.lookup.3

pub returns-in-Err : goal.returns-in-Err
returns-in-Err c =
    err_walks c.args.self.now.judge c.take.new.self (zip (map (λ (line : Bor (List ℕ)). line.now) c.args.lines.now) c.args.numbers.now)
    (get_or c.args.numbers.now c.loop-place.place 0) c.in-Err.complaint (λ reason is.
    let why = c.in-Err.ensures reason is in
    among_stops c.args.self.now.judge c.loop-place.self.judge c.args.lines.now c.args.numbers.now c.loop-place.place c.loop-place.invariant
    c.in-Some.line.now c.in-Some.ensures.lookup.3.0 c.in-Some.ensures.lookup.1 c.loop-place-test.true reason why.0 why.1)

pub returns : goal.returns
returns c =
    no_number_left c.args.self.now.judge c.loop-place.self.judge c.args.lines.now c.args.numbers.now c.loop-place.place c.loop-place.invariant c.loop-place-test.false
