use Rattle.std.proofs.Common.{◌≡◌, ℕ, ◌<◌, length, bit_xor, get_or}
use Rattle.krb_crypto.proofs.octets.xor_octets.Given as goal

abbrev pub invariant-loop-i : goal.invariant-loop-i
invariant-loop-i g l = (length l.out ≡ g.row.N) × ((k : ℕ) → k < l.i → get_or l.out k 0 ≡ bit_xor (get_or l.a k 0) (get_or l.b k 0))
