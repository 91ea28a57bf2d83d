use Rattle.std.proofs.Common.{◌≡◌, ◌-◌, ◌+◌, ◌^◌, length}
use Rattle.krb_text.specs.Pieces.{IsBegun}
use Rattle.krb_input.proofs.ReadingLemmas.{Standing}
use Rattle.krb_input.proofs.reading.read_all.Given as goal

abbrev pub invariant-pieces : goal.invariant-pieces
invariant-pieces g l =
    Standing (g.S.Source.left l.initial.source) (g.S.Source.left l.source) l.pieces l.known
    × IsBegun l.pieces
    × (g.S.Source.faults l.source ≡ g.S.Source.faults l.initial.source)

abbrev pub decreases-pieces : goal.decreases-pieces
decreases-pieces g l = 2 ^ 30 + 1 - (l.pieces.taken + length l.pieces.held)
