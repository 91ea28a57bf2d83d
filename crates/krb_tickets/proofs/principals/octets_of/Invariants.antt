use Rattle.std.proofs.Common.{◌≡◌, take}
use Rattle.krb_tickets.proofs.principals.octets_of.Given as goal

abbrev pub invariant-loop-name : goal.invariant-loop-name
invariant-loop-name l = l.components.items ≡ take l.name-index l.names
