use Rattle.std.proofs.Common.{◌≡◌, length}
use Rattle.krb_machine.specs.Described.{connection_of, connections_with}
use Rattle.krb_machine.proofs.OrderLemmas.{IsPut}
use Rattle.krb_machine.proofs.described.put_endpoints.Given as goal

abbrev pub invariant-loop-id : goal.invariant-loop-id
invariant-loop-id g l =
    (l.service ≡ record l.initial.service { connections = l.service.connections })
    × IsPut (λ entry. connection_of l.skew entry.1) l.service.connections l.endpoints.entries (connections_with l.skew l.initial.endpoints.entries)

abbrev pub decreases-loop-id : goal.decreases-loop-id
decreases-loop-id g l = length l.endpoints.entries
