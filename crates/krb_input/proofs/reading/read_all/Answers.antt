use Rattle.std.proofs.Common.{◌∙◌, sym, subst}
use Rattle.krb_text.specs.Pieces.{IsBegun}
use Rattle.krb_input.specs.Taking.{EndsWith}
use Rattle.krb_input.proofs.ReadingLemmas.{standing-read, standing-whole, exit-stops, exit-fault, exit-rest, begun-same}
use Rattle.krb_input.proofs.reading.read_all.Goals as goal

pub returns-in-Err-clause-ends : goal.returns-in-Err-clause-ends
returns-in-Err-clause-ends g c =
    let left = g.S.Source.left c.args.source.now in
    let b = g.S.Source.left c.read.new.source in
    let s = standing-read left (g.S.Source.left c.pieces.source) b c.pieces.pieces c.read.new.self c.pieces.known c.pieces.invariant.0 c.read.ensures.ahead c.read.ensures.taken in
    exit-fault left b c.read.new.self c.pieces.known s (subst IsBegun (sym c.in-Err.ensures.err) c.pieces.invariant.1)

pub pieces-preserved : goal.pieces-preserved
pieces-preserved g c =
    let left = g.S.Source.left c.args.source.now in
    let b = g.S.Source.left c.read.new.source in
    let s = standing-read left (g.S.Source.left c.pieces.source) b c.pieces.pieces c.read.new.self c.pieces.known c.pieces.invariant.0 c.read.ensures.ahead c.read.ensures.taken in
    (standing-whole left b c.pieces.known c.take_whole.new.known c.read.new.self c.take_whole.new.pieces s c.in-Ok-take_whole.ensures.takes, c.in-Ok-take_whole.ensures.begun, c.in-Ok-read.ensures.cause.still ∙ c.pieces.invariant.2)

pub returns-in-Err-take_whole-clause-ends : goal.returns-in-Err-take_whole-clause-ends
returns-in-Err-take_whole-clause-ends g c =
    let left = g.S.Source.left c.args.source.now in
    let b = g.S.Source.left c.read.new.source in
    let s = standing-read left (g.S.Source.left c.pieces.source) b c.pieces.pieces c.read.new.self c.pieces.known c.pieces.invariant.0 c.read.ensures.ahead c.read.ensures.taken in
    exit-stops left b c.read.new.self c.pieces.known c.take_whole.new.known c.in-Err-take_whole.ending s c.take_whole.ensures.within c.in-Err-take_whole.ensures.stops

pub returns-clause-ends : goal.returns-clause-ends
returns-clause-ends g c =
    let left = g.S.Source.left c.args.source.now in
    let b = g.S.Source.left c.read.new.source in
    let s = standing-read left (g.S.Source.left c.pieces.source) b c.pieces.pieces c.read.new.self c.pieces.known c.pieces.invariant.0 c.read.ensures.ahead c.read.ensures.taken in
    let more = c.in-Ok-eq0.ensures.more in
    exit-rest left b c.read.new.self c.pieces.known c.take_rest.new.known c.take_rest.result s (begun-same c.pieces.pieces c.read.new.self more.0 c.pieces.invariant.1 more.1 (more.2 ∙ c.in-Ok-eq0.field-0-test) c.read.ensures.taken) (c.in-Ok-eq0.ensures.end c.in-Ok-eq0.field-0-test)
    (subst (λ l. EndsWith c.pieces.known l c.take_rest.new.known c.take_rest.result) c.held.ensures.held c.take_rest.ensures.ends)
