use Rattle.std.proofs.Common.{◌≡◌, ◌+◌, ◌++◌, map, length}
use Rattle.std.specs.List.{sum_by}
use Rattle.std.specs.Vec.{vec_len, vec_capacity}
use Rattle.krb_shared.specs.Seats.{Seat, calls_of, receipts_of}
use Rattle.krb_shared.proofs.shared_book.gathered_into.Given as goal

abbrev pub invariant-loop-seat : goal.invariant-loop-seat
invariant-loop-seat g l =
    (l.all.parts ≡ l.fn.rest.parts + sum_by (λ (seat : Seat). seat.parts) l.yielded)
    × (l.all.amount ≡ l.fn.rest.amount + calls_of l.yielded)
    × (map (λ own. own.items) l.receipts.items ≡ map (λ own. own.items) l.fn.receipts.items ++ receipts_of l.yielded)
    × (vec_len l.receipts ≡ vec_len l.fn.receipts + length l.yielded)
    × (vec_capacity l.receipts ≡ vec_capacity l.fn.receipts)
