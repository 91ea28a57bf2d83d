use Rattle.std.proofs.Common.{◌≡◌, ◌↔◌, ◌<◌, ℕ, slice_index}
use Rattle.krb_der.proofs.equal.is_equal.Given as goal

abbrev pub invariant-loop-i : goal.invariant-loop-i
invariant-loop-i l = (l.differences ≡ 0) ↔ ((k : ℕ) → k < l.i → slice_index l.octets k ≡ slice_index l.others k)
