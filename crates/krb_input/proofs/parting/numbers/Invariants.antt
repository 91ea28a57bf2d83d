use Rattle.std.proofs.Common.{◌≡◌, take}
use Rattle.krb_input.specs.Parted.{numbers_of}
use Rattle.krb_input.proofs.parting.numbers.Given as goal

abbrev pub invariant-loop-index : goal.invariant-loop-index
invariant-loop-index l = l.numbers.items ≡ numbers_of l.worker (take l.index l.events)
