use Rattle.std.proofs.Common.{◌≡◌, ◌-◌, ℕ, List, length}
use Rattle.krb_crypto.specs.Keyed.{IsHmacKeyOf}
use Rattle.krb_crypto.specs.Password.{iterated, summed}
use Rattle.krb_crypto.proofs.password.block.Given as goal

abbrev pub invariant-loop-done : goal.invariant-loop-done
invariant-loop-done l =
    (length l.sum ≡ 20) × (length l.last ≡ 20)
    × ((password : List ℕ) → IsHmacKeyOf password l.key
    → (l.last ≡ iterated password l.salt l.number (l.done - 1)) × (l.sum ≡ summed password l.salt l.number (l.done - 1)))
