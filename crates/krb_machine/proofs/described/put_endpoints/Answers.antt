use Rattle.std.proofs.Common.{ℕ, refl, ap, ◌∙◌}
use Rattle.krb_script.specs.declared.endpoint.Endpoint.{Endpoint}
use Rattle.krb_machine.specs.Described.{connection_of, connections_with}
use Rattle.krb_machine.proofs.OrderLemmas.{put-none, put-next}
use Rattle.krb_machine.proofs.described.put_endpoints.Goals as goal

pub loop-id-init : goal.loop-id-init
loop-id-init g c = (refl, put-none (λ entry. connection_of c.args.skew entry.1) c.args.service.now.connections c.args.endpoints.entries c.requires)

pub loop-id-preserved : goal.loop-id-preserved
loop-id-preserved g c =
    let f = λ (entry : ℕ × Endpoint). connection_of c.args.skew entry.1 in
    let put = c.in_ok-put_endpoint.ensures in
    let now = c.put_endpoint.new.service in (
      ap (λ env. record { connections = now.connections; env = env; gate = now.gate }) (ap (λ s. s.env) put ∙ ap (λ s. s.env) c.loop-id.invariant.0)
          ∙ ap (λ gate. record { connections = now.connections; env = c.args.service.now.env; gate = gate }) (ap (λ s. s.gate) put ∙ ap (λ s. s.gate) c.loop-id.invariant.0),
      put-next f c.loop-id.service.connections now.connections c.loop-id.endpoints.entries c.pop_first.new.self.entries (connections_with c.args.skew c.args.endpoints.entries)
          c.in-Some.id c.in-Some.endpoint c.in-Some.ensures.removal c.loop-id.invariant.1
          (ap (λ s. s.connections) put) c.in-Some.ensures.all_above,
    )
