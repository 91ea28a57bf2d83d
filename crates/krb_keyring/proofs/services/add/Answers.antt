use Rattle.std.proofs.Common.{List, [], ◌∷◌, ◌++◌, rules, ap, ◌∙◌}
use Rattle.std.proofs.lemmas.Result.{on_ok_weaker, on_err_weaker}
use Rattle.indexmap.specs.IndexMap.{get}
use Rattle.krb_keyring.specs.Held.{entries_in}
use Rattle.krb_keyring.proofs.HeldLemmas.{with_one, as_before}
use Rattle.krb_keytab.specs.Finding.{same_names}
use Rattle.krb_keytab.specs.declared.entry.KeytabEntry.{KeytabEntry}
use Rattle.krb_keyring.proofs.services.add.Goals as goal

pub returns-in-Some-clause-added : goal.returns-in-Some-clause-added
returns-in-Some-clause-added c =
    let w = c.push.new.entries in
    on_ok_weaker c.push.result (λ pushed. λ name.
    with_one (get same_names c.args.services.now) (get same_names (c.get_mut.follows.lender w)) c.args.entry.now.components w
    (((c.get_mut.follows.holds w).3 (search rules)).0) c.args.entry.now
    (pushed ∙ ap (λ (copy : KeytabEntry). c.in-Some.entries.now.items.items ++ copy ∷ []) c.in_ok-copy.ensures
    ∙ ap (λ (had : List KeytabEntry). had ++ c.args.entry.now ∷ []) (ap entries_in c.in-Some.ensures.value)) name) c.push.ensures.pushed

pub returns-in-Some-clause-stays : goal.returns-in-Some-clause-stays
returns-in-Some-clause-stays c =
    let w = c.push.new.entries in
    on_err_weaker c.push.result (λ stays. λ name.
    as_before (get same_names c.args.services.now) (get same_names (c.get_mut.follows.lender w)) c.args.entry.now.components w
    (((c.get_mut.follows.holds w).3 (search rules)).0) (stays ∙ ap entries_in c.in-Some.ensures.value) name) c.push.ensures.stays
