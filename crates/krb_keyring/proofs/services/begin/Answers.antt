use Rattle.std.proofs.Common.{ℕ, List, Some, [], ◌∷◌, ◌++◌, cond, sym, ap, ◌∙◌}
use Rattle.indexmap.specs.IndexMap.{get}
use Rattle.krb_keyring.proofs.HeldLemmas.{with_one}
use Rattle.krb_keytab.specs.Finding.{same_names}
use Rattle.krb_keytab.specs.declared.entry.KeytabEntry.{KeytabEntry}
use Rattle.krb_keyring.proofs.services.begin.Goals as goal

pub returns-clause-added : goal.returns-clause-added
returns-clause-added c = λ name.
    with_one (get same_names c.args.services.now) (get same_names c.insert.new.self) c.args.entry.components c.in_ok-entries.entries
    (λ q. c.in_ok-insert.ensures.updates.0 q
    ∙ ap (λ (k : List (List ℕ)). cond (same_names k q) (Some c.in_ok-entries.entries) (get same_names c.args.services.now q)) c.in_ok-name.ensures)
    c.args.entry (c.in_ok-entries.ensures ∙ ap (λ (had : List KeytabEntry). had ++ c.args.entry ∷ []) (sym c.requires)) name
