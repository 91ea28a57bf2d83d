use Rattle.std.proofs.Common.{◌≡◌, ℕ, ◌+◌, ◌-◌, length, subst, arith}
use Rattle.krb_threads.specs.Worked.{WorksThere}
use Rattle.krb_threads.proofs.WorkedLemmas.{desk-keeps, desk-works}
use Rattle.krb_threads.proofs.desk.run_gate.Goals as goal

pub returns-in-Ok-clause-reference : goal.returns-in-Ok-clause-reference
returns-in-Ok-clause-reference g c =
    desk-keeps _ (λ gate. record { desk = gate.gate.desk.now; seat = gate.gate.seat; before = gate.gate.before }) (λ gate. gate.gate.desk.ghost_name) (λ gate. gate.gate.some_before) (λ a ask verdict b s. s)
    c.args.part.now.service c.args.part.now.events.items _ c.run.new.self.replies.items c.run.new.self.service c.in-Ok.ensures.run c.requires.new

pub returns-in-Ok-clause-works : goal.returns-in-Ok-clause-works
returns-in-Ok-clause-works g c =
    let gate = c.args.part.now.service.gate.gate in
    let first : length gate.desk.now.journal - gate.before + 1 ≡ 1 = omega (arith, c.requires.fresh) in
    let W : ℕ → Type 0 = λ n. WorksThere gate.desk.now n gate.seat c.args.part.now.service.env c.args.part.now.service.connections c.args.part.now.events.items c.run.new.self.replies.items c.run.new.self.service.gate.gate.desk.now in
    subst W first
    (desk-works _ (λ gate. record { desk = gate.gate.desk.now; seat = gate.gate.seat; before = gate.gate.before }) (λ gate. gate.gate.desk.ghost_name) (λ gate. gate.gate.some_before) (λ a ask verdict b s. s)
    c.args.part.now.service c.args.part.now.events.items _ c.run.new.self.replies.items c.run.new.self.service c.in-Ok.ensures.run c.requires.new)
