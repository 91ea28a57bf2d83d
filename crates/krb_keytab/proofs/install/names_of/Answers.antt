use Rattle.std.proofs.Common.{◌∙◌, ap, List, ℕ}
use Rattle.std.specs.Prelude.{map}
use Rattle.std.specs.Borrow.{Bor}
use Rattle.krb_keytab.specs.Installing.{names_with, names_of}
use Rattle.krb_keytab.proofs.Installed.{names_more}
use Rattle.krb_keytab.proofs.install.names_of.Goals as goal

pub loop-entry-preserved : goal.loop-entry-preserved
loop-entry-preserved c =
    c.in_ok-add_name.ensures ∙ ap (λ names. names_with c.args.realm.now names c.entry-item.result) c.loop-entry.invariant ∙ names_more c.args.realm.now c.args.entries.now c.loop-entry.entry-index c.entry-item.result c.loop-entry-test.true c.entry-item.is

pub loop-entry-init : goal.loop-entry-init
unfolding names_of
loop-entry-init c = ap (λ (names : List (Bor (List (List ℕ)))). map (λ name. name.now) names) c.new-names.ensures.empty
