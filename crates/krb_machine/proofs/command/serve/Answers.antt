use Rattle.krb_machine.proofs.CloseLemmas.{serves-read}
use Rattle.krb_machine.proofs.command.serve.Goals as goal

pub returns-then-are-clause-text : goal.returns-then-are-clause-text
returns-then-are-clause-text g c =
    serves-read (g.S.Source.left c.args.source.now) (g.S.Source.left c.serve_lines.new.source) (g.K.Sink.taken c.args.sink.now) (g.K.Sink.taken c.serve_lines.new.sink) c.new-session.result c.serve_lines.result
    c.new-session.ensures c.serve_lines.ensures.text
