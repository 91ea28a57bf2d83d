use Rattle.std.proofs.Common.{◌≡◌, ◌+◌, drop}
use Rattle.std.specs.Prelude.{nat_lt}
use Rattle.std.specs.Borrow.{Bor}
use Rattle.std.specs.List.{position_or_len}
use Rattle.krb_keytab.specs.declared.entry.KeytabEntry.{KeytabEntry}
use Rattle.krb_keyring.proofs.choice.place_of.Given as goal

abbrev pub invariant-loop-place : goal.invariant-loop-place
invariant-loop-place l =
    position_or_len (λ (other : Bor KeytabEntry). nat_lt other.now.version l.version) l.newest
    ≡ l.place + position_or_len (λ (other : Bor KeytabEntry). nat_lt other.now.version l.version) (drop l.place l.newest)
