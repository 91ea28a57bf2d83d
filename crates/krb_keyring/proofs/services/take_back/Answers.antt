use Rattle.std.proofs.Common.{rules, sym, ap, ◌∙◌}
use Rattle.indexmap.specs.IndexMap.{get}
use Rattle.krb_keyring.specs.Held.{entries_in}
use Rattle.krb_keyring.proofs.HeldLemmas.{all_but_last, written, nothing_to_lose}
use Rattle.krb_keytab.specs.Finding.{same_names}
use Rattle.krb_keyring.proofs.services.take_back.Goals as goal

pub returns-in-Some : goal.returns-in-Some
returns-in-Some c = λ name.
    let w = c.pop.new.entries in
    written (get same_names c.args.services.now) (get same_names (c.get_mut.follows.lender w)) c.args.components.now w
    (((c.get_mut.follows.holds w).3 (search rules)).0) all_but_last (c.pop.ensures ∙ ap all_but_last (ap entries_in c.in-Some.ensures.value)) name

pub returns-in-None : goal.returns-in-None
returns-in-None c = λ name.
    rw c.get_mut.follows.holds-at-none (nothing_to_lose (get same_names c.args.services.now) c.args.components.now (sym c.in-None.ensures.value) name)
