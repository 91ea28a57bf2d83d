use Rattle.std.proofs.Common.{◌-◌, ◌+◌, ◌≡◌, ℕ, List, ◌++◌, length, take, get_or, sym, ap, ◌∙◌, take_all, arith}
use Rattle.std.specs.Prelude.{if◌then◌else◌}
use Rattle.std.proofs.lemmas.List.{append-nil}
use Rattle.krb_keyring.specs.Held.{held_in, named}
use Rattle.krb_keyring.proofs.HeldLemmas.{all_but_last, less}
use Rattle.krb_keytab.specs.Finding.{same_names}
use Rattle.krb_keytab.specs.declared.entry.KeytabEntry.{KeytabEntry}
use Rattle.krb_keyring.proofs.services.take_all_back.Goals as goal

pub loop-taken-init : goal.loop-taken-init
loop-taken-init c = λ before h name.
    let entries = c.args.entries.now in
    h name ∙ ap (λ (some : List KeytabEntry). before name ++ named name some) (sym (take_all (length entries - 0) entries (omega arith)))

pub loop-taken-preserved : goal.loop-taken-preserved
loop-taken-preserved c = λ before h name.
    let entries = c.args.entries.now in
    let i = length entries - (c.loop-taken.taken + 1) in
    let x = c.index-entries-place.result in
    let had = held_in c.loop-taken.services name in
    let here : length entries - c.loop-taken.taken ≡ i + 1 = omega (arith, c.loop-taken-test.true) in
    less name entries i x (before name) had (held_in c.take_back.new.services name) (omega (arith, c.loop-taken-test.true))
    (c.index-entries-place.is ∙ ap (λ (n : ℕ). get_or entries n x) (omega (arith, c.loop-taken-test.true)))
    (c.loop-taken.invariant before h name ∙ ap (λ (n : ℕ). before name ++ named name (take n entries)) here)
    (c.take_back.ensures name ∙ ap (λ (e : KeytabEntry). if same_names e.components name then all_but_last had else had) (sym c.index-entries-place.is))

pub returns : goal.returns
returns c = λ before h name.
    let entries = c.args.entries.now in
    let none : length entries - c.loop-taken.taken ≡ 0 = omega (arith, c.loop-taken-test.false) in
    c.loop-taken.invariant before h name ∙ ap (λ (n : ℕ). before name ++ named name (take n entries)) none ∙ append-nil (before name)
