use Rattle.std.proofs.Common.{sym, subst, ap, ◌∙◌, List, [], ◌∷◌, ◌++◌, take}
use Rattle.std.proofs.lemmas.List.{take_more}
use Rattle.krb_script.specs.declared.item.Event.{Event}
use Rattle.krb_machine.specs.Policy.{RunsOn}
use Rattle.krb_machine.specs.declared.reply.Reply.{Reply}
use Rattle.krb_machine.proofs.PolicyLemmas.{RunsOn-push}
use Rattle.krb_machine.proofs.GateLemmas.{run_skew}
use Rattle.krb_machine.proofs.service.Service.run.Goals as goal

pub returns-in-Err-clause-front : goal.returns-in-Err-clause-front
returns-in-Err-clause-front g c =
    let e = c.in-Err.ensures.err in
    let P : List Reply → Type 0 = λ replies. RunsOn g.G.ReplayGate.admits c.args.self.now (take c.loop-taken.taken c.args.events.now) c.args.replies.now.items replies c.loop-taken.self in
    (c.loop-taken.self, subst P (sym e.0) c.loop-taken.invariant, e.1)

pub loop-taken-preserved : goal.loop-taken-preserved
loop-taken-preserved g c =
    let o = c.in-Ok.ensures.ok in
    let P : List Event → Type 0 = λ events. RunsOn g.G.ReplayGate.admits c.args.self.now events c.args.replies.now.items c.answer.new.replies.items c.answer.new.self in
    let front = take c.loop-taken.taken c.args.events.now in
    let grown = take_more c.args.events.now c.loop-taken.taken c.index-events-taken.result c.loop-taken-test.true ∙ ap (λ event. front ++ event ∷ []) (sym c.index-events-taken.is) in
    subst P (sym grown)
    (RunsOn-push g.G.ReplayGate.admits c.args.self.now (take c.loop-taken.taken c.args.events.now) c.args.replies.now.items c.loop-taken.replies.items c.answer.new.replies.items c.loop-taken.self c.index-events-taken.result o.0 c.answer.new.self c.loop-taken.invariant o.2 o.1)

pub returns-in-Err-clause-skew : goal.returns-in-Err-clause-skew
returns-in-Err-clause-skew g c =
    let r = c.loop-taken.invariant in
    g.met.G.ReplayGate.same_skew c.loop-taken.self.gate c.answer.new.self.gate c.in-Err.ensures.err.1.gate
    ∙ run_skew g.G.ReplayGate.admits g.G.ReplayGate.skew g.met.G.ReplayGate.keeps_skew c.args.self.now c.loop-taken.self (take c.loop-taken.taken c.args.events.now) r.made r.runs

pub returns-clause-skew : goal.returns-clause-skew
returns-clause-skew g c =
    let r = c.loop-taken.invariant in
    run_skew g.G.ReplayGate.admits g.G.ReplayGate.skew g.met.G.ReplayGate.keeps_skew c.args.self.now c.loop-taken.self (take c.loop-taken.taken c.args.events.now) r.made r.runs
