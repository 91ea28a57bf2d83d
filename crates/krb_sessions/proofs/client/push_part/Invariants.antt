use Rattle.std.proofs.Common.{◌≡◌, ◌++◌, take}
use Rattle.krb_sessions.specs.Principals.{part_text}
use Rattle.krb_sessions.proofs.client.push_part.Given as goal

abbrev pub invariant-loop-octet : goal.invariant-loop-octet
invariant-loop-octet l = l.text.items ≡ l.fn.text.items ++ part_text (take l.octet-index l.part)
