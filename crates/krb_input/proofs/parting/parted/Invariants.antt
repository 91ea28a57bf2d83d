use Rattle.std.specs.Prelude.{◌≡◌}
use Rattle.krb_input.specs.Parted.{events_of}
use Rattle.krb_input.proofs.parting.parted.Given as goal

abbrev pub invariant-loop-event : goal.invariant-loop-event
invariant-loop-event l = (l.low.items ≡ events_of 0 l.yielded) × (l.high.items ≡ events_of 1 l.yielded)
