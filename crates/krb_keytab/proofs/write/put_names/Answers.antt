use Rattle.std.specs.Prelude.{length, ◌++◌}
use Rattle.std.specs.List.{flat_map}
use Rattle.std.specs.Int.{w16, to_be_bytes}
use Rattle.krb_keytab.specs.Format.{counted}
use Rattle.krb_keytab.specs.Writing.{names_octets}
use Rattle.krb_keytab.proofs.Appends.{behind_ok}
use Rattle.krb_keytab.proofs.write.put_names.Goals as goal

pub returns : goal.returns
unfolding names_octets
returns c =
    let entry = c.args.entry.now in
    let first = rw c.as_slice.ensures at c.in_ok-put_u16.ensures in
    let second = rw c.as_slice-2.ensures.octets at c.in_ok-put_counted.ensures in
    let third = rw c.as_slice-3.ensures at c.put_parts.ensures in
    behind_ok c.put_parts.result _ _ _ (to_be_bytes w16 (length entry.components)) (counted entry.realm ++ flat_map counted entry.components) first
    (behind_ok c.put_parts.result _ _ _ (counted entry.realm) (flat_map counted entry.components) second third)
