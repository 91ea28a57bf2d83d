use Rattle.std.proofs.Common.{◌≡◌, fold, take}
use Rattle.krb_machine.specs.Described.{with_key}
use Rattle.krb_machine.proofs.described.add_keys.Given as goal

abbrev pub invariant-loop-key : goal.invariant-loop-key
invariant-loop-key l = l.server ≡ fold (with_key l.service) l.initial.server (take l.key-index l.keys)
