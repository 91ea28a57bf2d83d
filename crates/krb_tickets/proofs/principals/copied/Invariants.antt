use Rattle.std.proofs.Common.{◌≡◌, take}
use Rattle.krb_tickets.proofs.principals.copied.Given as goal

abbrev pub invariant-loop-octets : goal.invariant-loop-octets
invariant-loop-octets l = l.names.items ≡ take l.octets-index l.components
