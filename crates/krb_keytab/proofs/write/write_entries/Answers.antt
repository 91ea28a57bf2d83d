use Rattle.std.proofs.Common.{ap, ◌∙◌, ◌++◌, ◌∷◌, [], List, ℕ}
use Rattle.krb_keytab.specs.Format.{written_item}
use Rattle.krb_keytab.proofs.Appends.{piece_more}
use Rattle.krb_keytab.proofs.write.write_entries.Goals as goal

pub loop-entry-preserved : goal.loop-entry-preserved
loop-entry-preserved c =
    c.in_ok-put_item.ensures ∙ ap (λ (octets : List ℕ). octets ++ written_item c.entry-item.result) c.loop-entry.invariant ∙ piece_more written_item (5 ∷ 2 ∷ []) c.args.entries.now c.loop-entry.entry-index c.entry-item.result c.loop-entry-test.true c.entry-item.is
