use Rattle.std.proofs.Common.{◌≤◌, ◌+◌, ℕ, List, refl, sym, ap, ◌∙◌, subst, arith, length}
use Rattle.std.proofs.lemmas.Result.{err_from_is_err_and}
use Rattle.std.specs.List.{filter}
use Rattle.krb_replay.specs.declared.record.Record.{Record}
use Rattle.krb_replay.specs.Clock.{clock_refusal, is_current}
use Rattle.krb_replay.specs.Records.{has_record}
use Rattle.krb_replay.specs.Order.{place}
use Rattle.krb_replay.specs.Book.{Book, NeedsRoom}
use Rattle.krb_replay.proofs.Window.{follows_refusal, follows_replay, follows_admission, needs_room, absent_current}
use Rattle.krb_replay.proofs.book.ReplayBookReplayGate.admit.Goals as goal

pub returns-in-Some-clause-step : goal.returns-in-Some-clause-step
returns-in-Some-clause-step c =
    rw (← c.self.view_is) (follows_refusal _ _ _ (record { skew = refl; moment = c.max-moment.ensures; room = omega (arith, c.prune.ensures.room) })
    _ (sym c.clock_refusal.ensures ∙ c.in-Some.is) c.prune.ensures.items)

pub returns-then-contains-clause-step : goal.returns-then-contains-clause-step
returns-then-contains-clause-step c =
    rw (← c.self.view_is) (follows_replay _ _ _ (record { skew = refl; moment = c.max-moment.ensures; room = omega (arith, c.prune-then-contains.ensures.room) })
    (sym c.clock_refusal.ensures ∙ c.in-None.is) (sym c.contains.ensures ∙ c.if-contains.true) c.prune-then-contains.ensures.items)

pub returns-in_err-make_room-in-None-clause-full : goal.returns-in_err-make_room-in-None-clause-full
returns-in_err-make_room-in-None-clause-full c =
    let old = c.self.inside.records in
    let clock = ap (λ (m : ℕ). clock_refusal c.self.inside.skew m c.args.ask) (sym c.max-moment.ensures) ∙ sym c.clock_refusal.ensures ∙ c.in-None.is in
    let full = subst (λ (m : ℕ). old.spare + length old.items ≤ length (filter (is_current c.self.inside.skew m) old.items)) c.max-moment.ensures c.in_err-make_room-in-None.ensures.full in
    let p = err_from_is_err_and c.from_residual.result c.from_residual.ensures.1 in
    rw p.1 (subst (λ (b : Book). NeedsRoom b c.args.ask) c.self.view_is (needs_room _ c.args.ask clock (sym c.contains.ensures ∙ c.if-contains.false) full))

pub insert-requires-clause-absent : goal.insert-requires-clause-absent
insert-requires-clause-absent c =
    ap (λ (l : List Record). has_record l c.args.ask.entry) c.in_ok-make_room-in-None.ensures.items
    ∙ absent_current c.self.inside.skew c.max-moment.result c.self.inside.records.items c.args.ask.entry (sym c.contains.ensures ∙ c.if-contains.false)

pub returns-in_ok-make_room-in-None-clause-step : goal.returns-in_ok-make_room-in-None-clause-step
returns-in_ok-make_room-in-None-clause-step c =
    rw (← c.self.view_is) (follows_admission _ _ _ (record { skew = refl; moment = c.max-moment.ensures; room = omega (arith, c.make_room.ensures.all, c.insert.ensures.room) })
    (sym c.clock_refusal.ensures ∙ c.in-None.is) (sym c.contains.ensures ∙ c.if-contains.false)
    (c.insert.ensures.items ∙ ap (λ (l : List Record). place l c.args.ask.entry) c.in_ok-make_room-in-None.ensures.items))
