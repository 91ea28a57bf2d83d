use Rattle.std.proofs.Common.{rules, ◌+◌, ◌++◌, [], ◌∷◌, List, length, ◌∙◌, ap, refl}
use Rattle.krb_shared.specs.declared.entry.Entry.{Entry}
use Rattle.krb_shared.specs.Passes.{moment_of, entry_of}
use Rattle.krb_shared.specs.Turns.{Moment}
use Rattle.krb_shared.proofs.PassCalls.{on_err, still_number, stays, adds, left_of, admitted_of}
use Rattle.krb_shared.proofs.table_book.TableBook.admit.Goals as goal

pub ask_desk-answer-requires-clause-number : goal.ask_desk-answer-requires-clause-number
ask_desk-answer-requires-clause-number g c = still_number c.pass.inside.seat.me.0 c.take_desk-desk.new.seat.me.0 _ _ c.take_desk-desk.result.journal c.pass.invariant.held c.take_desk-desk.ensures.looked

pub put_desk-requires-clause-place : goal.put_desk-requires-clause-place
put_desk-requires-clause-place g c = let is = c.ask_desk-answer.ensures.number in (search rules, (is.0, is.1))

pub invariant_of-pass-in_err-verdict : goal.invariant_of-pass-in_err-verdict
invariant_of-pass-in_err-verdict g c =
    stays c.pass.inside.seat c.put_desk.new.seat c.take_desk-desk.new.seat.me.0 c.ask_desk-answer.new.seat.me.0 c.pass.inside.number c.pass.inside.seen (length c.entries.result.now) c.pass.inside.receipts.items c.reserve.new.self.items
    c.take_desk-desk.result.journal c.pass.invariant c.take_desk-desk.ensures.looked c.reserve.ensures.items (ap (λ (m : Moment). m.0) c.in_err-verdict.ensures.err) c.put_desk.ensures.served (ap (λ (l : List Entry). length l) (c.entries.ensures.entries ∙ c.ask_desk-answer.ensures.desk.2))

pub returns-in_err-verdict-clause-err : goal.returns-in_err-verdict-clause-err
returns-in_err-verdict-clause-err g c =
    on_err _ _ (left_of c.pass.inside.seat c.put_desk.new.seat c.take_desk-desk.new.seat.me.0 c.ask_desk-answer.new.seat.me.0 c.pass.inside.number c.pass.inside.seen (length c.entries.result.now) c.pass.inside.receipts.items c.reserve.new.self.items
    c.take_desk-desk.result.journal c.pass.invariant c.take_desk-desk.ensures.looked c.args.pass.now c.pass.inside.moment c.pass.view_is c.reserve.ensures.items (ap (λ (m : Moment). m.0) c.in_err-verdict.ensures.err) c.put_desk.ensures.served (search rules))

pub invariant_of-pass-2 : goal.invariant_of-pass-2
invariant_of-pass-2 g c =
    let told = c.in_ok-verdict.ensures in
    let e : Entry = entry_of c.pass.inside.number (c.len.result + 1) c.args.ask.now c.in_ok-verdict.verdict in
    adds c.pass.inside.seat c.put_desk.new.seat c.take_desk-desk.new.seat.me.0 c.ask_desk-answer.new.seat.me.0 c.pass.inside.number c.pass.inside.seen (length c.entries.result.now) c.pass.inside.receipts.items c.push_reserved.new.self.items
    c.take_desk-desk.result.journal c.pass.invariant c.take_desk-desk.ensures.looked e refl (ap (λ (m : Moment). m.0) told.called) c.put_desk.ensures.served (ap (λ (l : List Entry). length l) (c.entries.ensures.entries ∙ c.ask_desk-answer.ensures.desk.2))
    (c.push_reserved.ensures.items ∙ (λ i. c.reserve.ensures.items i ++ record { place = told.counted i; entry = entry_of c.pass.inside.number (c.len.result + 1) (c.in_ok-entered.ensures i) c.in_ok-verdict.verdict } ∷ []))

pub returns-clause-step : goal.returns-clause-step
returns-clause-step g c =
    let told = c.in_ok-verdict.ensures in
    let desk = c.ask_desk-answer.ensures.desk in
    let e : Entry = entry_of c.pass.inside.number (c.len.result + 1) c.args.ask.now c.in_ok-verdict.verdict in
    admitted_of c.pass.inside.seat c.put_desk.new.seat c.take_desk-desk.new.seat.me.0 c.ask_desk-answer.new.seat.me.0 c.pass.inside.number c.pass.inside.seen (length c.entries.result.now) c.pass.inside.receipts.items c.push_reserved.new.self.items
    c.take_desk-desk.result.journal c.pass.invariant c.take_desk-desk.ensures.looked c.args.pass.now c.moment-moment.result c.pass.inside.moment (c.len.result + 1) c.args.ask.now c.in_ok-verdict.verdict c.pass.view_is (search rules) (ap (λ (m : Moment). m.0) told.called) told.legal
    c.put_desk.ensures.served (search rules) (c.moment-moment.ensures ∙ (λ i. moment_of (desk.3 i) (desk.2 i))) (c.push_reserved.ensures.items ∙ (λ i. c.reserve.ensures.items i ++ record { place = told.counted i; entry = entry_of c.pass.inside.number (c.len.result + 1) (c.in_ok-entered.ensures i) c.in_ok-verdict.verdict } ∷ [])) (search rules)
