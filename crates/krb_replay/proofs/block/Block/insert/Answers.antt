use Rattle.std.proofs.Common.{◌≡◌, ℕ, false, List, Ok, Err, sym, ◌∙◌, subst, rules}
use Rattle.std.proofs.lemmas.Bool.{false≢true}
use Rattle.std.specs.List.{insert}
use Rattle.std.specs.List.Sorted.{IsSearchInRange}
use Rattle.krb_replay.specs.declared.record.Record.{Record}
use Rattle.krb_replay.specs.Records.{has_record}
use Rattle.krb_replay.specs.Order.{Ascends}
use Rattle.krb_replay.proofs.Order.{found, insert-is_place}
use Rattle.krb_replay.proofs.block.Block.insert.Goals as goal

pub returns-in-Err : goal.returns-in-Err
returns-in-Err c =
    let records = c.self.inside.records in
    let items : c.insert.new.self.items ≡ insert records.items c.in-Err.place c.args.entry = search rules in
    rw (← c.self.view_is) (items ∙ insert-is_place records.items c.args.entry c.in-Err.place
    (found records.items c.args.entry (Err c.in-Err.place) (subst Ascends (sym c.self.view_is) c.requires.ordered) (subst (λ (n : ℕ). IsSearchInRange (Err c.in-Err.place) n) records.ok.0 c.in-Err.ensures.bound) c.in-Err.ensures.position))

pub returns-in_default : goal.returns-in_default
returns-in_default c =
    let records = c.self.inside.records in
    absurd (false≢true (sym (subst (λ (l : List Record). has_record l c.args.entry ≡ false) (sym c.self.view_is) c.requires.absent)
    ∙ found records.items c.args.entry (Ok c.in_default.field-0) (subst Ascends (sym c.self.view_is) c.requires.ordered) (subst (λ (n : ℕ). IsSearchInRange (Ok c.in_default.field-0) n) records.ok.0 c.in_default.ensures.bound) c.in_default.ensures.position))
