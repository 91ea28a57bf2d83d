use Rattle.std.proofs.Common.{◌≡◌, ◌++◌, subst, List, ℕ}
use Rattle.std.specs.Prelude.{OnOk}
use Rattle.krb_keytab.specs.Writing.{names_octets, tail_octets}
use Rattle.krb_keytab.proofs.Appends.{behind_ok, both_parts}
use Rattle.krb_keytab.proofs.write.put_entry.Goals as goal

pub returns : goal.returns
returns c =
    let entry = c.args.entry.now in
    subst (λ (octets : List ℕ). OnOk c.put_tail.result (c.put_tail.new.out.items ≡ c.args.out.now.items ++ octets)) (both_parts entry)
    (behind_ok c.put_tail.result _ _ _ (names_octets entry) (tail_octets entry) c.in_ok-put_names.ensures c.put_tail.ensures)
