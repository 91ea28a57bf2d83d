use Rattle.std.proofs.Common.{◌≡◌, ◌-◌, ◌^◌}
use Rattle.krb_text.specs.Reader.{ahead, IsBetweenLines}
use Rattle.krb_lines.proofs.StandingLemmas.{Standing}
use Rattle.krb_lines.proofs.server.answer_lines.Given as goal

abbrev pub invariant-lines : goal.invariant-lines
invariant-lines g l =
    Standing g.T.LineTaker.rules l.initial.taker (g.S.Source.left l.initial.source) (ahead l.reader (g.S.Source.left l.source)) (g.K.Sink.taken l.initial.sink) (g.K.Sink.taken l.sink) l.reader.cutting.taken l.taker
    × IsBetweenLines l.reader
    × (g.S.Source.faults l.source ≡ g.S.Source.faults l.initial.source)
    × (g.K.Sink.faults l.sink ≡ g.K.Sink.faults l.initial.sink)
    × g.T.LineTaker.is_ready l.taker

abbrev pub decreases-lines : goal.decreases-lines
decreases-lines g l = 2 ^ 30 - l.reader.cutting.taken
