use Rattle.std.proofs.Common.{◌≡◌}
use Rattle.krb_lines.specs.Halts.{closing}
use Rattle.krb_lines.proofs.CloseLemmas.{answers-closed, answers-front}
use Rattle.krb_lines.proofs.server.serve_lines.Goals as goal

pub returns-in-Ok-clause-text : goal.returns-in-Ok-clause-text
returns-in-Ok-clause-text g c =
    let line_is : c.as_bytes.result.now ≡ closing g.T.LineTaker.rules c.answer_lines.new.taker c.answer_lines.result = cc (c.closing-line.ensures) in
    answers-closed g.T.LineTaker.rules c.args.taker.now (g.S.Source.left c.args.source.now) (g.S.Source.left c.answer_lines.new.source) (g.K.Sink.taken c.args.sink.now) (g.K.Sink.taken c.answer_lines.new.sink)
    (g.K.Sink.taken c.write_line.new.sink) c.answer_lines.new.taker c.answer_lines.result c.as_bytes.result.now c.status_at.result c.answer_lines.ensures.text line_is c.status_at.ensures.status
    c.in-Ok.ensures.ok c.in_default.not-ReadFault c.in_default.not-WriteFault

pub returns-clause-text : goal.returns-clause-text
returns-clause-text g c =
    let line_is : c.as_bytes.result.now ≡ closing g.T.LineTaker.rules c.answer_lines.new.taker c.answer_lines.result = cc (c.closing-line.ensures) in
    answers-front g.T.LineTaker.rules c.args.taker.now (g.S.Source.left c.args.source.now) (g.S.Source.left c.answer_lines.new.source) (g.K.Sink.taken c.args.sink.now) (g.K.Sink.taken c.answer_lines.new.sink)
    (g.K.Sink.taken c.write_line.new.sink) c.answer_lines.new.taker c.answer_lines.result c.as_bytes.result.now c.answer_lines.ensures.text line_is c.in-Err.ensures.err
    c.in_default.not-ReadFault c.in_default.not-WriteFault
