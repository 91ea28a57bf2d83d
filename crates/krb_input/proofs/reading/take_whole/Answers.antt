use Rattle.std.proofs.Common.{refl}
use Rattle.krb_input.proofs.ReadingLemmas.{begun-rest, rest-long}
use Rattle.krb_input.proofs.reading.take_whole.Goals as goal

pub returns-then-is_past-clause-stops : goal.returns-then-is_past-clause-stops
returns-then-is_past-clause-stops g c =
    rest-long c.args.known.now c.take_ended.new.known c.args.pieces.now c.take_ended.new.pieces c.in_ok-take_ended.ensures.takes c.in_ok-take_ended.ensures.rest c.in_ok-take_ended.ensures.taken (c.if-is_past.ensures.0 refl)

pub returns-clause-begun : goal.returns-clause-begun
returns-clause-begun g c = begun-rest c.take_ended.new.pieces c.in_ok-take_ended.ensures.rest c.if-is_past.ensures.1
