use Rattle.std.proofs.Common.{◌%◌, ◌/◌, ◌∙◌}
use Rattle.krb_aes.specs.Field.{product}
use Rattle.krb_aes.specs.Tower.{entry}
use Rattle.krb_aes.specs.declared.tables.TheConstants.{DOUBLE_LOW, DOUBLE_HIGH}
use Rattle.krb_aes.proofs.EachOctet.{mapped_octets}
use Rattle.krb_aes.proofs.MixedLanes.{double_entry, double_entry_agrees}
use Rattle.krb_aes.proofs.LookUps.{entry_at, sum_at_each}
use Rattle.krb_aes.proofs.lanes.doubled.Goals as goal

pub returns : goal.returns
returns c =
    let v = c.args.v in
    sum_at_each (λ x. entry DOUBLE_LOW (x % 16)) (λ x. entry DOUBLE_HIGH (x / 16)) v _ _
    (entry_at DOUBLE_LOW (λ x. x % 16) v _ _ c.low_nibbles.ensures c.look_up.ensures) (entry_at DOUBLE_HIGH (λ x. x / 16) v _ _ c.high_nibbles.ensures c.look_up-2.ensures)
    ∙ mapped_octets double_entry (product 2) double_entry_agrees v c.fits-v.1
