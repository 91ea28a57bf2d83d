use Rattle.std.proofs.Common.{◌≡◌, ◌++◌, take}
use Rattle.std.specs.List.{flat_map}
use Rattle.krb_sessions.specs.Principals.{further_text}
use Rattle.krb_sessions.proofs.client.push_all_further.Given as goal

abbrev pub invariant-loop-part : goal.invariant-loop-part
invariant-loop-part l = l.text.items ≡ l.fn.text.items ++ flat_map further_text (take l.part-index l.parts)
