-- a write that passed has taken nothing
use Rattle.std.specs.Io.KnownBytes.{Keeps}
use Rattle.krb_console.proofs.calls.write_patiently.Given as goal

abbrev pub invariant-tries : goal.invariant-tries
invariant-tries g l = Keeps (g.W.Write.contents l.initial.writer) (g.W.Write.contents l.writer)
