use Rattle.std.proofs.Common.{◌%◌, ◌/◌, ◌∙◌}
use Rattle.krb_aes.specs.Tower.{entry, tower}
use Rattle.krb_aes.specs.declared.tables.TheConstants.{INTO_LOW, INTO_HIGH}
use Rattle.krb_aes.proofs.EachOctet.{mapped_octets}
use Rattle.krb_aes.proofs.ForwardEntries.{tower_entry, tower_entry_agrees}
use Rattle.krb_aes.proofs.LookUps.{entry_at, sum_at_each}
use Rattle.krb_aes.proofs.lanes.into_tower.Goals as goal

pub returns : goal.returns
returns c =
    let v = c.args.v in
    sum_at_each (λ x. entry INTO_LOW (x % 16)) (λ x. entry INTO_HIGH (x / 16)) v _ _
    (entry_at INTO_LOW (λ x. x % 16) v _ _ c.low_nibbles.ensures c.look_up.ensures) (entry_at INTO_HIGH (λ x. x / 16) v _ _ c.high_nibbles.ensures c.look_up-2.ensures)
    ∙ mapped_octets tower_entry tower tower_entry_agrees v c.fits-v.1
