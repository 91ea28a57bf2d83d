use Rattle.std.proofs.Common.{◌≡◌, ℕ, List, get_or, ap, sym, ◌∙◌, subst, arith, rules}
use Rattle.std.proofs.Math.Seq.{of_parts}
use Rattle.std.proofs.lemmas.List.{places}
use Rattle.krb_shared.specs.Journal.{IsJournal}
use Rattle.krb_shared.specs.Seats.{Seat, Agrees}
use Rattle.krb_shared.proofs.SeatLemmas.{number_at}
use Rattle.krb_threads.proofs.AnswersLemmas.{told, told-whole}
use Rattle.krb_threads.proofs.workers.answers_as.Goals as goal

pub returns-in-Ok : goal.returns-in-Ok
returns-in-Ok g c =
    let e = c.index-high_seat-0.result in
    let d = c.index-low_seat-0.result in
    let seats = c.in_ok-shared.seats in
    let count = c.in_ok-shared.ensures.count in
    let inner = c.into_inner-seats.ensures in
    let split = c.split_at_mut-low_seat.ensures in
    let high_ended : get_or c.new.result 1 e ≡ c.run_seats.new.high = ap (λ (l : List Seat). get_or l 1 e) c.new.ensures ∙ search (rules, places, count, inner, split) in
    let low_is : get_or c.split_at_mut-low_seat.result.0.now 0 d ≡ get_or seats 0 d = search (rules, places) in
    let high_is : get_or c.split_at_mut-low_seat.result.1.now 0 e ≡ get_or seats 1 e = search (rules, places) in
    let front = split.front_len in let back = split.back_len in
    let low_ended : get_or c.new.result 0 d ≡ c.run_seats.new.low = search (rules, of_parts) in
    let low_ended_too : get_or c.new.result 1 d ≡ c.run_seats.new.high = search (rules, places, c.new.ensures, count, inner, front, back) in
    let journal = c.in-Ok.journal.entries in
    let low_agrees = subst (Agrees journal) low_ended (c.in-Ok.ensures.ok 0 d (search (rules, places))) in
    let high_agrees = subst (Agrees journal) high_ended (c.in-Ok.ensures.ok 1 e (search (rules, places))) in
    let low_new = ap (λ (s : Seat). s.receipts) low_is ∙ (c.in_ok-shared.ensures.new 0 d (omega (arith, count))).0 in
    let high_new = ap (λ (s : Seat). s.receipts) high_is ∙ (c.in_ok-shared.ensures.new 1 e (omega (arith, count))).0 in
    let low_at = ap (λ (s : Seat). s.number) low_is ∙ number_at 0 seats 0 d c.in_ok-shared.ensures.all.numbered (omega (arith, count)) in
    let high_at = ap (λ (s : Seat). s.number) high_is ∙ number_at 0 seats 1 e c.in_ok-shared.ensures.all.numbered (omega (arith, count)) in
    record {
      legal = subst (λ (n : ℕ). IsJournal n c.in-Ok.journal) (sym (c.requires.own_skew ∙ c.requires.skew)) c.in-Ok.ensures.journal;
      whole = told-whole journal c.new.result c.run_seats.new.low c.run_seats.new.high d (search (rules, places)) low_ended low_ended_too
          (c.in_ok-one.ensures.first.number ∙ low_at) (c.in_ok-one.ensures.second.number ∙ high_at) low_agrees high_agrees c.in-Ok.ensures.calls;
      low_runs = told journal _ c.run_seats.new.low 0 _ _ _ _ low_new low_at _ c.in_ok-low_ends.ensures.first.env _ c.in_ok-low_ends.ensures.first.connections c.in_ok-one.ensures.first low_agrees;
      high_runs = told journal _ c.run_seats.new.high 1 _ _ _ _ high_new high_at _ c.in_ok-low_ends.ensures.second.env _ c.in_ok-low_ends.ensures.second.connections c.in_ok-one.ensures.second high_agrees;
    }
