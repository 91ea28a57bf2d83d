use Rattle.std.proofs.Common.{◌≡◌, ◌-◌}
use Rattle.krb_keytab.specs.Reading.{parts_at}
use Rattle.krb_keytab.proofs.Loop.{with_front}
use Rattle.krb_keytab.proofs.read.parts_at.Given as goal

abbrev pub invariant-loop : goal.invariant-loop
invariant-loop l = with_front l.parts.items (parts_at (l.count - l.counter) l.rest) ≡ parts_at l.count l.octets
