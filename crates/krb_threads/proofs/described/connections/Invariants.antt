use Rattle.std.proofs.Common.{◌≡◌, map}
use Rattle.std.specs.Map.Iter.{deref_pair}
use Rattle.krb_machine.specs.Described.{connections_with}
use Rattle.krb_threads.specs.Journaled.{connections_of}
use Rattle.krb_threads.proofs.described.connections.Given as goal

abbrev pub invariant-loop-id : goal.invariant-loop-id
invariant-loop-id l = l.made.entries ≡ connections_of l.worker (connections_with l.described.skew (map deref_pair l.yielded))
