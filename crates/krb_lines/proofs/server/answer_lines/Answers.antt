use Rattle.std.proofs.Common.{◌≡◌, ◌+◌, length, Err, refl, ap, sym, ◌∙◌, subst, arith}
use Rattle.krb_text.specs.Reader.{Reader, ahead, IsBetweenLines}
use Rattle.krb_lines.proofs.StandingLemmas.{Standing, standing-first, standing-line, takes_lent, rest_lent, empty_list, some_list}
use Rattle.krb_lines.proofs.ExitLemmas.{comes-whole, comes-last, exit-line, exit-read_memory, exit-long, exit-read, exit-end, exit-last}
use Rattle.krb_lines.proofs.server.answer_lines.Goals as goal

pub lines-init : goal.lines-init
lines-init g c = (
  standing-first g.T.LineTaker.rules c.args.taker.now (g.S.Source.left c.args.source.now) (g.K.Sink.taken c.args.sink.now) c.args.reader.now c.requires.reader c.requires.none,
  rw c.requires.reader (refl, refl, omega arith, omega arith),
  refl,
  refl,
  c.requires.ready,
)

pub returns-in-Err-Fault-clause-text : goal.returns-in-Err-Fault-clause-text
returns-in-Err-Fault-clause-text g c =
    let rest = c.in-Err-Fault.ensures.fault (ap (λ e. Err e) c.in-Err-Fault.field-0-is) in
    let a = g.S.Source.left c.lines.source in
    exit-read g.T.LineTaker.rules c.args.taker.now (g.S.Source.left c.args.source.now) (ahead c.lines.reader a) (g.K.Sink.taken c.args.sink.now) (g.K.Sink.taken c.lines.sink)
    c.lines.reader c.next_line.new.self a (g.S.Source.left c.next_line.new.source) c.lines.taker rest.0 refl c.lines.invariant.0 rest.1

pub returns-in-Err-Long-clause-text : goal.returns-in-Err-Long-clause-text
returns-in-Err-Long-clause-text g c =
    let long = c.in-Err-Long.ensures.long (ap (λ e. Err e) c.in-Err-Long.field-0-is) in
    let moved = c.in-Err-Long.ensures.ahead in
    let a = g.S.Source.left c.lines.source in
    exit-long g.T.LineTaker.rules c.args.taker.now (g.S.Source.left c.args.source.now) (ahead c.lines.reader a) (g.K.Sink.taken c.args.sink.now) (g.K.Sink.taken c.lines.sink)
    c.lines.reader c.next_line.new.self a (g.S.Source.left c.next_line.new.source) c.lines.taker moved.0 refl c.lines.invariant.0 long moved.1 c.next_line.ensures.within

pub returns-in-Err-OutOfMemory-clause-text : goal.returns-in-Err-OutOfMemory-clause-text
returns-in-Err-OutOfMemory-clause-text g c =
    let moved = c.in-Err-OutOfMemory.ensures.ahead in
    let a = g.S.Source.left c.lines.source in
    exit-read_memory g.T.LineTaker.rules c.args.taker.now (g.S.Source.left c.args.source.now) (ahead c.lines.reader a) (g.K.Sink.taken c.args.sink.now) (g.K.Sink.taken c.lines.sink)
    c.lines.reader c.next_line.new.self a (g.S.Source.left c.next_line.new.source) c.lines.taker moved.0 refl c.lines.invariant.0 moved.1 c.next_line.ensures.within

pub returns-in-Err-clause-text : goal.returns-in-Err-clause-text
returns-in-Err-clause-text g c =
    let left = g.S.Source.left c.args.source.now in
    let a = g.S.Source.left c.lines.source in
    let b = g.S.Source.left c.next_line.new.source in
    let before = g.K.Sink.taken c.args.sink.now in
    let now = g.K.Sink.taken c.lines.sink in
    let found = c.in-Ok-true.ensures.line c.in-Ok-true.field-0-test in
    let t = takes_lent c.lines.reader c.next_line.new.self a b found.0 c.line.result.now found.1 c.line.ensures in
    let e = c.in-Err.ensures in
    exit-line g.T.LineTaker.rules c.args.taker.now left (ahead c.lines.reader a) before now (g.K.Sink.taken c.answer_line.new.sink) b c.lines.reader.cutting.taken c.lines.taker
    c.answer_line.new.taker c.line.result.now c.in-Err.halt c.lines.invariant.0
    (comes-whole g.T.LineTaker.rules c.args.taker.now left (ahead c.lines.reader a) before now c.lines.reader c.next_line.new.self a b c.lines.taker c.line.result.now refl c.lines.invariant.0 t)
    (λ is. let r = e.bad (ap (λ h. Err h) is) in (r.0, r.1, ap (λ k. g.K.Sink.taken k) r.2))
    (λ is. let r = e.memory (ap (λ h. Err h) is) in (r.0, ap (λ k. g.K.Sink.taken k) r.1))
    (λ is. e.write (ap (λ h. Err h) is))
    (λ is. e.own.0 (ap (λ h. Err h) is)) (λ is. e.own.1 (ap (λ h. Err h) is)) (λ is. e.own.2 (ap (λ h. Err h) is))

pub lines-preserved : goal.lines-preserved
lines-preserved g c =
    let rules = g.T.LineTaker.rules in
    let left = g.S.Source.left c.args.source.now in
    let a = g.S.Source.left c.lines.source in
    let b = g.S.Source.left c.next_line.new.source in
    let before = g.K.Sink.taken c.args.sink.now in
    let now = g.K.Sink.taken c.lines.sink in
    let last = g.K.Sink.taken c.answer_line.new.sink in
    let found = c.in-Ok-true.ensures.line c.in-Ok-true.field-0-test in
    let t = takes_lent c.lines.reader c.next_line.new.self a b found.0 c.line.result.now found.1 c.line.ensures in
    let turn = c.in-Ok.ensures.ok in
    let P : Reader → Type 0 = λ r. Standing rules c.args.taker.now left (ahead r b) before last r.cutting.taken c.answer_line.new.taker in
    let Q : Reader → Type 0 = λ r. IsBetweenLines r in
    let taken_is : c.next_line.new.self.cutting.taken ≡ c.lines.reader.cutting.taken + (length c.line.result.now + 1) = ap (λ k. k.taken) t.ready in
    let within = t.within in let bound = t.bound in (
      subst P (sym c.drop_line.ensures)
          (standing-line rules c.args.taker.now left (ahead c.lines.reader a) before now last (ahead c.next_line.new.self b) c.lines.reader c.next_line.new.self a b c.lines.taker
          c.answer_line.new.taker c.line.result.now turn.0 refl refl c.lines.invariant.0 t turn.1 c.answer_line.ensures.lines turn.2),
      subst Q (sym c.drop_line.ensures) (refl, refl, omega arith, omega arith),
      c.in-Ok-true.ensures.still (λ e. cc) ∙ c.lines.invariant.2,
      c.in-Ok.ensures.still (λ e. cc) ∙ c.lines.invariant.3,
      c.in-Ok.ensures.again,
    )

pub returns-then-is_empty-clause-text : goal.returns-then-is_empty-clause-text
returns-then-is_empty-clause-text g c =
    let a = g.S.Source.left c.lines.source in
    let b = g.S.Source.left c.next_line.new.source in
    let found = c.in-Ok-false.ensures.end c.in-Ok-false.field-0-test in
    let t = rest_lent c.lines.reader c.next_line.new.self a b found.1.0 c.rest-rest.result.now found.1.1 c.rest-rest.ensures in
    let p = c.is_empty.ensures in let q = c.if-is_empty.true in let r = c.if-is_empty.ensures in
    exit-end g.T.LineTaker.rules c.args.taker.now (g.S.Source.left c.args.source.now) (ahead c.lines.reader a) (g.K.Sink.taken c.args.sink.now) (g.K.Sink.taken c.lines.sink)
    c.lines.reader c.next_line.new.self a b c.lines.taker c.rest-rest.result.now refl c.lines.invariant.0 t found.0 (empty_list c.rest-rest.result.now (sym p ∙ q))

pub returns-in-Ok-answer_line-clause-text : goal.returns-in-Ok-answer_line-clause-text
returns-in-Ok-answer_line-clause-text g c =
    let a = g.S.Source.left c.lines.source in
    let b = g.S.Source.left c.next_line.new.source in
    let found = c.in-Ok-false.ensures.end c.in-Ok-false.field-0-test in
    let t = rest_lent c.lines.reader c.next_line.new.self a b found.1.0 c.rest-rest.result.now found.1.1 c.rest-rest.ensures in
    let turn = c.in-Ok-answer_line.ensures.ok in
    let p = c.is_empty.ensures in let q = c.if-is_empty.false in let r = c.if-is_empty.ensures in
    exit-last g.T.LineTaker.rules c.args.taker.now (g.S.Source.left c.args.source.now) (ahead c.lines.reader a) (g.K.Sink.taken c.args.sink.now) (g.K.Sink.taken c.lines.sink) (g.K.Sink.taken c.answer_line-2.new.sink)
    c.lines.reader c.next_line.new.self a b c.lines.taker c.answer_line-2.new.taker c.rest-rest.result.now turn.0 refl c.lines.invariant.0 t (some_list c.rest-rest.result.now (sym p ∙ q)) found.0
    turn.1 turn.2

pub returns-in-Err-answer_line-clause-text : goal.returns-in-Err-answer_line-clause-text
returns-in-Err-answer_line-clause-text g c =
    let left = g.S.Source.left c.args.source.now in
    let a = g.S.Source.left c.lines.source in
    let b = g.S.Source.left c.next_line.new.source in
    let before = g.K.Sink.taken c.args.sink.now in
    let now = g.K.Sink.taken c.lines.sink in
    let found = c.in-Ok-false.ensures.end c.in-Ok-false.field-0-test in
    let t = rest_lent c.lines.reader c.next_line.new.self a b found.1.0 c.rest-rest.result.now found.1.1 c.rest-rest.ensures in
    let e = c.in-Err-answer_line.ensures in
    let p = c.is_empty.ensures in let q = c.if-is_empty.false in let r = c.if-is_empty.ensures in
    exit-line g.T.LineTaker.rules c.args.taker.now left (ahead c.lines.reader a) before now (g.K.Sink.taken c.answer_line-2.new.sink) b c.lines.reader.cutting.taken c.lines.taker
    c.answer_line-2.new.taker c.rest-rest.result.now c.in-Err-answer_line.halt c.lines.invariant.0
    (comes-last g.T.LineTaker.rules c.args.taker.now left (ahead c.lines.reader a) before now c.lines.reader c.next_line.new.self a b c.lines.taker c.rest-rest.result.now refl c.lines.invariant.0 t
    (some_list c.rest-rest.result.now (sym p ∙ q)) found.0)
    (λ is. let r = e.bad (ap (λ h. Err h) is) in (r.0, r.1, ap (λ k. g.K.Sink.taken k) r.2))
    (λ is. let r = e.memory (ap (λ h. Err h) is) in (r.0, ap (λ k. g.K.Sink.taken k) r.1))
    (λ is. e.write (ap (λ h. Err h) is))
    (λ is. e.own.0 (ap (λ h. Err h) is)) (λ is. e.own.1 (ap (λ h. Err h) is)) (λ is. e.own.2 (ap (λ h. Err h) is))
