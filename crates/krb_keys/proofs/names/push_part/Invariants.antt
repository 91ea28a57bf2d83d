use Rattle.std.proofs.Common.{◌≡◌, ◌++◌, take}
use Rattle.krb_keys.specs.Names.{part_text}
use Rattle.krb_keys.proofs.names.push_part.Given as goal

abbrev pub invariant-loop-octet : goal.invariant-loop-octet
invariant-loop-octet l = l.text.items ≡ l.fn.text.items ++ part_text (take l.octet-index l.part)
