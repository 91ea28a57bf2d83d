use Rattle.std.proofs.Common.{ap, ◌∙◌, take_all, List, Bool}
use Rattle.std.specs.Prelude.{map}
use Rattle.std.specs.Borrow.{Bor}
use Rattle.krb_keyring.specs.Choice.{is_chosen, newest_with, newest_first}
use Rattle.krb_keyring.proofs.ChoiceLemmas.{newest_more}
use Rattle.krb_keytab.specs.declared.entry.KeytabEntry.{KeytabEntry}
use Rattle.krb_keyring.proofs.choice.chosen_of.Goals as goal

pub loop-entry-init : goal.loop-entry-init
unfolding newest_first
loop-entry-init c = ap (λ (entries : List (Bor KeytabEntry)). map (λ entry. entry.now) entries) c.new-chosen.ensures.items

pub loop-entry-preserved : goal.loop-entry-preserved
loop-entry-preserved c =
    let passes = is_chosen c.args.ticket.now c.has_exact-exactly.result in
    c.in_ok-keep.ensures ∙ ap (λ (newest : List KeytabEntry). newest_with passes newest c.entry-item.result) c.loop-entry.invariant
    ∙ newest_more passes c.args.entries.now c.loop-entry.entry-index c.entry-item.result c.loop-entry-test.true c.entry-item.is

pub returns : goal.returns
returns c =
    c.loop-entry.invariant
    ∙ ap (λ (entries : List KeytabEntry). newest_first (is_chosen c.args.ticket.now c.has_exact-exactly.result) entries) (take_all c.loop-entry.entry-index c.args.entries.now c.loop-entry-test.false)
    ∙ ap (λ (exactly : Bool). newest_first (is_chosen c.args.ticket.now exactly) c.args.entries.now) c.has_exact-exactly.ensures
