use Rattle.std.proofs.Common.{◌%◌, ◌/◌, ◌∙◌}
use Rattle.krb_aes.specs.Tower.{entry, doubled_back}
use Rattle.krb_aes.proofs.EachOctet.{mapped_octets}
use Rattle.krb_aes.proofs.MixedBack.{twice_entry, twice_entry_agrees}
use Rattle.krb_aes.specs.declared.tables.TheConstants.{BACK_DOUBLE_LOW, BACK_DOUBLE_HIGH}
use Rattle.krb_aes.proofs.LookUps.{entry_at, sum_at_each}
use Rattle.krb_aes.proofs.four_blocks.doubled_back.Goals as goal

pub returns : goal.returns
returns c =
    let v = c.args.v in
    sum_at_each (λ x. entry BACK_DOUBLE_LOW (x % 16)) (λ x. entry BACK_DOUBLE_HIGH (x / 16)) v _ _
    (entry_at BACK_DOUBLE_LOW (λ x. x % 16) v _ _ c.low_nibbles.ensures c.look_up.ensures) (entry_at BACK_DOUBLE_HIGH (λ x. x / 16) v _ _ c.high_nibbles.ensures c.look_up-2.ensures)
    ∙ mapped_octets twice_entry doubled_back twice_entry_agrees v c.fits-v.1
