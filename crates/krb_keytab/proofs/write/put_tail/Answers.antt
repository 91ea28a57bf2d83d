use Rattle.std.specs.Prelude.{◌++◌, ◌∷◌, [], ◌%◌}
use Rattle.std.specs.Int.{w16, w32, to_be_bytes}
use Rattle.krb_keytab.specs.Format.{counted}
use Rattle.krb_keytab.specs.Writing.{tail_octets}
use Rattle.krb_keytab.proofs.Appends.{behind_ok}
use Rattle.krb_keytab.proofs.write.put_tail.Goals as goal

pub returns : goal.returns
unfolding tail_octets
returns c =
    let entry = c.args.entry.now in
    let key = rw (c.as_slice.ensures, c.as_ref.ensures) at c.in_ok-put_counted.ensures in
    let version = to_be_bytes w32 entry.version in
    let behind_type = counted entry.key ++ version in
    let behind_short = to_be_bytes w16 entry.key_type ++ behind_type in
    let behind_time = (entry.version % 256 ∷ []) ++ behind_short in
    behind_ok c.put_u32-3.result _ _ _ (to_be_bytes w32 entry.name_type) (to_be_bytes w32 entry.time ++ behind_time) c.in_ok-put_u32.ensures
    (behind_ok c.put_u32-3.result _ _ _ (to_be_bytes w32 entry.time) behind_time c.in_ok-put_u32-2.ensures
    (behind_ok c.put_u32-3.result _ _ _ (entry.version % 256 ∷ []) behind_short c.in_ok-push.ensures.items
    (behind_ok c.put_u32-3.result _ _ _ (to_be_bytes w16 entry.key_type) behind_type c.in_ok-put_u16.ensures
    (behind_ok c.put_u32-3.result _ _ _ (counted entry.key) version key c.put_u32-3.ensures))))
