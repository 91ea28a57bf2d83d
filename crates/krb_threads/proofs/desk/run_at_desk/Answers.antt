use Rattle.std.proofs.Common.{ap, ◌∙◌}
use Rattle.krb_shared.specs.Desk.{Desk}
use Rattle.krb_threads.specs.Described.{all_connections}
use Rattle.krb_threads.proofs.AnswersLemmas.{told-there}
use Rattle.krb_threads.proofs.desk.run_at_desk.Goals as goal

pub returns : goal.returns
returns g c =
    let new = c.deref_mut.ensures.value ∙ c.in_ok-desk.ensures in
    told-there c.args.described.now.skew c.args.described.now.env (all_connections c.args.described.now) c.args.low.items c.args.high.items c.in_ok-one.one.value.replies.items c.in_ok-two.two.value.replies.items
    c.deref_mut.result.now c.deref_mut-2.result.now c.into_inner.result c.into_journal.result (ap (λ (d : Desk). d.skew) new ∙ c.in_ok-new.ensures.skew) (ap (λ (d : Desk). d.journal) new ∙ c.in_ok-new.ensures.journal)
    c.in_ok-ends_of.field-0.value.env c.in_ok-ends_of-2.field-0.value.env c.in_ok-ends_of.ensures.env c.in_ok-ends_of-2.ensures.env
    c.in_ok-ends_of.field-0.value.connections.entries c.in_ok-ends_of-2.field-0.value.connections.entries c.in_ok-ends_of.ensures.connections c.in_ok-ends_of-2.ensures.connections
    (rw c.deref_mut-2.ensures.value c.in_ok-one.ensures) (rw c.into_inner.ensures c.in_ok-two.ensures) c.into_journal.ensures.journal c.into_journal.ensures.entries
