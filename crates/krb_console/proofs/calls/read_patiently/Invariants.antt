-- a read that passed has consumed nothing
use Rattle.std.proofs.Common.{◌≡◌, length}
use Rattle.std.specs.Io.KnownBytes.{Keeps}
use Rattle.krb_console.proofs.calls.read_patiently.Given as goal

abbrev pub invariant-tries : goal.invariant-tries
invariant-tries g l = (length l.into ≡ length l.initial.into) × Keeps (g.R.Read.remaining l.initial.reader) (g.R.Read.remaining l.reader)
