use Rattle.std.proofs.Common.{ap, refl, sym, Some, ◌∙◌}
use Rattle.std.proofs.lemmas.Result.{on_err_weaker}
use Rattle.krb_machine.specs.declared.connection.Connection.{Connection}
use Rattle.krb_machine.proofs.ThereLemmas.{connection-stays, step-taken}
use Rattle.krb_machine.proofs.service.Service.step.Goals as goal

pub returns-in-Some-clause-step : goal.returns-in-Some-clause-step
returns-in-Some-clause-step g c =
    let now : Connection = c.deref_mut-connection.result.now in
    let stands = sym c.in-Some.ensures.value ∙ ap Some (sym (c.deref_mut-connection.ensures.value ∙ c.held.view_is)) in
    rw (← c.self.view_is)
    (step-taken g.G.ReplayGate.admits (record { connections = c.self.inside.connections.entries; env = c.self.inside.env; gate = c.self.inside.gate })
    (record { connections = (c.get_mut.follows.lender c.take_event.new.self).entries; env = c.self.inside.env; gate = c.take_event.new.gate })
    c.args.event.now now c.take_event.new.self c.take_event.result c.if-event-gt-MAX_MOMENT.false stands (c.get_mut.follows.holds c.take_event.new.self).0 refl c.take_event.ensures.step)

pub returns-in-Some-clause-err : goal.returns-in-Some-clause-err
returns-in-Some-clause-err g c =
    let now : Connection = c.deref_mut-connection.result.now in
    let stands = sym c.in-Some.ensures.value ∙ ap Some (sym (c.deref_mut-connection.ensures.value ∙ c.held.view_is)) in
    rw (← c.self.view_is) (on_err_weaker c.take_event.result (λ stops.
    record {
      connections =
          (c.get_mut.follows.holds c.take_event.new.self).0
          ∙ connection-stays g.G.ReplayGate.admits (record { connections = c.self.inside.connections.entries; env = c.self.inside.env; gate = c.self.inside.gate }) c.args.event.now now c.take_event.new.self stands stops.0;
      env = refl;
      gate = stops.1;
    }) c.take_event.ensures.err)
