use Rattle.std.proofs.Common.{◌%◌, ◌/◌, ◌∙◌}
use Rattle.krb_aes.specs.Tower.{entry, linear_back}
use Rattle.krb_aes.proofs.EachOctet.{mapped_octets}
use Rattle.krb_aes.proofs.InverseEntries.{back_entry, back_entry_agrees}
use Rattle.krb_aes.specs.declared.tables.TheConstants.{LINEAR_BACK_LOW, LINEAR_BACK_HIGH}
use Rattle.krb_aes.proofs.LookUps.{entry_at, sum_at_each}
use Rattle.krb_aes.proofs.lanes.linear_back.Goals as goal

pub returns : goal.returns
returns c =
    let v = c.args.v in
    sum_at_each (λ x. entry LINEAR_BACK_LOW (x % 16)) (λ x. entry LINEAR_BACK_HIGH (x / 16)) v _ _
    (entry_at LINEAR_BACK_LOW (λ x. x % 16) v _ _ c.low_nibbles.ensures c.look_up.ensures) (entry_at LINEAR_BACK_HIGH (λ x. x / 16) v _ _ c.high_nibbles.ensures c.look_up-2.ensures)
    ∙ mapped_octets back_entry linear_back back_entry_agrees v c.fits-v.1
