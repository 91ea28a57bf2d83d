use Rattle.std.proofs.Common.{slice_get}
use Rattle.krb_threads.proofs.WorkedLemmas.{seat-keeps, seat-works}
use Rattle.krb_threads.proofs.seats.run_gates.Goals as goal

pub returns-clause-first_reference : goal.returns-clause-first_reference
returns-clause-first_reference g c =
    seat-keeps _ _ _ (λ gate. gate.gate.seat.now) (λ gate. gate.gate.seat.ghost_name) (λ a ask verdict b s. s) c.args.first.now.service c.args.first.now.events.items _ c.run_two.new.first.replies.items c.run_two.new.first.service
    (slice_get c.run_two.result 0) c.run_two.ensures.first c.requires.first_new (λ a b s. s)

pub returns-clause-second_reference : goal.returns-clause-second_reference
returns-clause-second_reference g c =
    seat-keeps _ _ _ (λ gate. gate.gate.seat.now) (λ gate. gate.gate.seat.ghost_name) (λ a ask verdict b s. s) c.args.second.now.service c.args.second.now.events.items _ c.run_two.new.second.replies.items c.run_two.new.second.service
    (slice_get c.run_two.result 1) c.run_two.ensures.second c.requires.second_new (λ a b s. s)

pub returns-clause-first : goal.returns-clause-first
returns-clause-first g c =
    seat-works _ _ _ (λ gate. gate.gate.seat.now) (λ gate. gate.gate.seat.ghost_name) (λ a ask verdict b s. s) c.args.first.now.service c.args.first.now.events.items _ c.run_two.new.first.replies.items c.run_two.new.first.service
    (slice_get c.run_two.result 0) c.run_two.ensures.first c.requires.first_new

pub returns-clause-second : goal.returns-clause-second
returns-clause-second g c =
    seat-works _ _ _ (λ gate. gate.gate.seat.now) (λ gate. gate.gate.seat.ghost_name) (λ a ask verdict b s. s) c.args.second.now.service c.args.second.now.events.items _ c.run_two.new.second.replies.items c.run_two.new.second.service
    (slice_get c.run_two.result 1) c.run_two.ensures.second c.requires.second_new
