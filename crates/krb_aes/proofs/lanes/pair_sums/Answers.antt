use Rattle.krb_aes.specs.Tower.{entry, first_quotient, second_quotient, pair_sum}
use Rattle.krb_aes.proofs.LookUps.{entry_at, sum_at_each}
use Rattle.krb_aes.proofs.lanes.pair_sums.Goals as goal

pub returns : goal.returns
unfolding pair_sum
returns c =
    let v = c.args.v in
    sum_at_each (λ x. entry c.args.u (first_quotient x)) (λ x. entry c.args.t (second_quotient x)) v _ _
    (entry_at c.args.u first_quotient v _ _ c.requires.first c.look_up.ensures) (entry_at c.args.t second_quotient v _ _ c.requires.second c.look_up-2.ensures)
