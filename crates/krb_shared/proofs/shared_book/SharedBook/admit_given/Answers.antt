use Rattle.std.proofs.Common.{length, refl, ap, ◌∙◌, arith}
use Rattle.krb_shared.specs.Seats.{Seat}
use Rattle.krb_shared.proofs.SeatLemmas.{added}
use Rattle.krb_shared.proofs.shared_book.SharedBook.admit_given.Goals as goal

pub returns-clause-receipt : goal.returns-clause-receipt
returns-clause-receipt g c =
    let seat = c.seat.inside in
    let is = c.seat.view_is in
    added g.L.Calls.skew c.args.seat.now _ c.args.ask c.args.ask c.in_ok-entered.entered c.in_ok-verdict.verdict seat.number _ c.in_ok-verdict.place c.reserve.new.self.items
    (ap (λ (s : Seat). s.number) is) (c.in_ok-reserve.ensures.items ∙ ap (λ (s : Seat). s.receipts) is)
    (omega (arith, c.len.ensures, ap length c.in_ok-reserve.ensures.items, ap (λ (s : Seat). length s.receipts) is))
    refl c.in_ok-entered.ensures refl (c.enter.ensures.parts ∙ ap (λ (s : Seat). s.parts) is) c.push_reserved.ensures.items c.in_ok-verdict.ensures.judged
