use Rattle.std.proofs.Common.{◌≡◌, take}
use Rattle.krb_keys.specs.KeyLines.{key_lines_text}
use Rattle.krb_keys.proofs.key_lines.lines_of.Given as goal

abbrev pub invariant-loop-pair : goal.invariant-loop-pair
invariant-loop-pair l = l.text.items ≡ key_lines_text l.acceptor (take l.pair-index l.keys)
