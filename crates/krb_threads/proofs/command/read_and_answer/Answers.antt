use Rattle.std.proofs.Common.{ap, sym, refl, ◌∙◌, ◌+◌}
use Rattle.krb_machine.specs.Text.{bad_line, long_line, stopped_line}
use Rattle.krb_threads.proofs.ClosingLemmas.{closed-answered, closed-short, closed-bad, closed-long, closed-memory}
use Rattle.krb_threads.proofs.command.read_and_answer.Goals as goal

pub returns-in-Whole-clause-text : goal.returns-in-Whole-clause-text
returns-in-Whole-clause-text g c =
    closed-answered (g.S.Source.left c.args.source.now) (g.S.Source.left c.read_all.new.source) (g.K.Sink.taken c.args.sink.now) (g.K.Sink.taken c.answer.new.sink) c.read_all.new.known c.answer.result
    (sym c.has_begun.ensures ∙ c.if-has_begun.true) c.in-Whole.ensures.ends c.answer.ensures.text

pub returns-in-Whole-2-clause-text : goal.returns-in-Whole-2-clause-text
returns-in-Whole-2-clause-text g c =
    closed-short (g.S.Source.left c.args.source.now) (g.S.Source.left c.read_all.new.source) (g.K.Sink.taken c.args.sink.now) (g.K.Sink.taken c.write_numbered.new.sink) c.read_all.new.known c.write_numbered.result
    (bad_line (c.lines.result + 1)) (ap (λ n. bad_line (n + 1)) c.lines.ensures) (sym c.has_begun.ensures ∙ c.if-has_begun.false) c.in-Whole.ensures.ends c.write_numbered.ensures.whole c.write_numbered.ensures.cut

pub returns-in-Bad-clause-text : goal.returns-in-Bad-clause-text
returns-in-Bad-clause-text g c =
    closed-bad (g.S.Source.left c.args.source.now) (g.S.Source.left c.read_all.new.source) (g.K.Sink.taken c.args.sink.now) (g.K.Sink.taken c.write_numbered-in-Bad.new.sink) c.read_all.new.known
    c.write_numbered-in-Bad.result (bad_line (c.lines-in-Bad.result + 1)) (ap (λ n. bad_line (n + 1)) c.lines-in-Bad.ensures) c.in-Bad.ensures.ends c.write_numbered-in-Bad.ensures.whole c.write_numbered-in-Bad.ensures.cut

pub returns-in-Long-clause-text : goal.returns-in-Long-clause-text
returns-in-Long-clause-text g c =
    closed-long (g.S.Source.left c.args.source.now) (g.S.Source.left c.read_all.new.source) (g.K.Sink.taken c.args.sink.now) (g.K.Sink.taken c.write_numbered-in-Long.new.sink) c.read_all.new.known
    c.write_numbered-in-Long.result (long_line (c.lines-in-Long.result + 1)) (ap (λ n. long_line (n + 1)) c.lines-in-Long.ensures) c.in-Long.ensures.ends c.write_numbered-in-Long.ensures.whole
    c.write_numbered-in-Long.ensures.cut

pub returns-in-OutOfMemory-clause-text : goal.returns-in-OutOfMemory-clause-text
returns-in-OutOfMemory-clause-text g c =
    closed-memory (g.S.Source.left c.args.source.now) (g.S.Source.left c.read_all.new.source) (g.K.Sink.taken c.args.sink.now) (g.K.Sink.taken c.write_stopped.new.sink) c.read_all.new.known c.write_stopped.result
    (stopped_line 0) refl c.in-OutOfMemory.ensures.ends c.write_stopped.ensures.whole c.write_stopped.ensures.cut
