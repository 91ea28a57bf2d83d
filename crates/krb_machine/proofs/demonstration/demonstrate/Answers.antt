use Rattle.std.proofs.Common.{ap, ◌∙◌, Some, None}
use Rattle.krb_machine.proofs.DemoLemmas.{demo-counts}
use Rattle.krb_machine.proofs.demonstration.demonstrate.Goals as goal

pub returns-in-End : goal.returns-in-End
returns-in-End c =
    demo-counts c.args.n (Some c.new-source.result.rest.now) (Some c.answer_lines.new.source.rest.now) None None c.new-session.result c.answer_lines.new.taker c.answer_lines.result c.demo_line.result.bytes
    c.admitted.result c.kept.result c.new-session.ensures (c.new-source.ensures.left ∙ ap Some (c.deref.ensures.value ∙ c.in-Ok.ensures)) c.in-End.is c.answer_lines.ensures.text c.demo_line.ensures
    c.admitted.ensures c.kept.ensures
