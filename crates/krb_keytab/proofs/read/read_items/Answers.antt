use Rattle.std.proofs.Common.{refl}
use Rattle.std.proofs.lemmas.Result.{err_from_is_err_and}
use Rattle.krb_keytab.proofs.Files.{took_item, took_end, took_fault}
use Rattle.krb_keytab.proofs.read.read_items.Goals as goal

pub returns-in_err-behind-clause-refused : goal.returns-in_err-behind-clause-refused
returns-in_err-behind-clause-refused c =
    let p = err_from_is_err_and c.from_residual.result c.from_residual.ensures.1 in
    rw (p.1, p.2) (took_fault c.args.body.now c.loop-entries.rest.now _ c.loop-entries.entries.items c.take_item.new.entries.items _ c.loop-entries.invariant refl c.in_err-behind.ensures)

pub returns-in_default-clause-found : goal.returns-in_default-clause-found
returns-in_default-clause-found c =
    let t = rw c.in_default.is at c.in_ok-behind.ensures in
    took_end c.args.body.now c.loop-entries.rest.now c.loop-entries.entries.items c.take_item.new.entries.items c.loop-entries.invariant t.0 t.1

pub loop-entries-smaller : goal.loop-entries-smaller
loop-entries-smaller c =
    let t = rw c.in-Some.is at c.in_ok-behind.ensures in
    (took_item c.args.body.now c.loop-entries.rest.now c.in-Some.behind.now c.loop-entries.entries.items c.take_item.new.entries.items c.loop-entries.invariant t.0 t.1 t.2).1

pub loop-entries-preserved : goal.loop-entries-preserved
loop-entries-preserved c =
    let t = rw c.in-Some.is at c.in_ok-behind.ensures in
    (took_item c.args.body.now c.loop-entries.rest.now c.in-Some.behind.now c.loop-entries.entries.items c.take_item.new.entries.items c.loop-entries.invariant t.0 t.1 t.2).0
