use Rattle.std.proofs.Common.{◌%◌, ◌/◌, bit_xor}
use Rattle.krb_aes.specs.Tower.{entry, nibble_inverses, nibble_quotients, sum_at, first_quotient, second_quotient}
use Rattle.krb_aes.proofs.LookUps.{entry_at, sum_at_each}
use Rattle.krb_aes.proofs.lanes.quotients.Goals as goal

pub returns-clause-first : goal.returns-clause-first
unfolding first_quotient sum_at
returns-clause-first c =
    let v = c.args.v in
    let q = entry_at nibble_quotients (λ x. x % 16) v _ _ c.low_nibbles-k.ensures c.look_up-q.ensures in
    let i = entry_at nibble_inverses (λ x. x / 16) v _ _ c.high_nibbles-i.ensures c.look_up.ensures in
    let j = sum_at_each (λ x. x / 16) (λ x. x % 16) v _ _ c.high_nibbles-i.ensures c.low_nibbles-k.ensures in
    let u = sum_at_each (λ x. entry nibble_inverses (x / 16)) (λ x. entry nibble_quotients (x % 16)) v _ _ i q in
    sum_at_each (λ x. entry nibble_inverses (sum_at (x / 16) (x % 16))) (λ x. bit_xor (x / 16) (x % 16)) v _ _
    (entry_at nibble_inverses (λ x. sum_at (x / 16) (x % 16)) v _ _ u c.look_up-3.ensures) j

pub returns-clause-second : goal.returns-clause-second
unfolding second_quotient sum_at
returns-clause-second c =
    let v = c.args.v in
    let q = entry_at nibble_quotients (λ x. x % 16) v _ _ c.low_nibbles-k.ensures c.look_up-q.ensures in
    let j = sum_at_each (λ x. x / 16) (λ x. x % 16) v _ _ c.high_nibbles-i.ensures c.low_nibbles-k.ensures in
    let i = entry_at nibble_inverses (λ x. bit_xor (x / 16) (x % 16)) v _ _ j c.look_up-2.ensures in
    let t = sum_at_each (λ x. entry nibble_inverses (bit_xor (x / 16) (x % 16))) (λ x. entry nibble_quotients (x % 16)) v _ _ i q in
    sum_at_each (λ x. entry nibble_inverses (sum_at (bit_xor (x / 16) (x % 16)) (x % 16))) (λ x. x / 16) v _ _
    (entry_at nibble_inverses (λ x. sum_at (bit_xor (x / 16) (x % 16)) (x % 16)) v _ _ t c.look_up-4.ensures) c.high_nibbles-i.ensures
