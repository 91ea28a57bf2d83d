use Rattle.std.proofs.Common.{List, subst}
use Rattle.krb_script.specs.declared.item.Event.{Event}
use Rattle.krb_threads.specs.Runs.{EndsAs}
use Rattle.krb_threads.proofs.WorkedLemmas.{ends-as}
use Rattle.krb_threads.proofs.part.Part.run.Goals as goal

pub returns-clause-run : goal.returns-clause-run
returns-clause-run g c =
    let admits = g.G.ReplayGate.admits in
    let is_same = g.G.ReplayGate.is_same in
    let E : List Event → Type 0 = λ events. EndsAs admits is_same c.args.self.now.service events c.args.self.now.replies.items c.run.result c.run.new.replies.items c.run.new.self in
    subst E c.deref.ensures.value
    (ends-as admits is_same c.args.self.now.service c.deref.result.now c.args.self.now.replies.items c.run.result c.run.new.replies.items c.run.new.self c.run.ensures.ok c.run.ensures.stopped c.run.ensures.front)
