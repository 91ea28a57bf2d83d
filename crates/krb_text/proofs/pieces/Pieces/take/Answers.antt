use Rattle.std.proofs.Common.{◌+◌, ◌-◌, take, drop, length, ap, ◌∙◌, arith}
use Rattle.std.proofs.lemmas.List.{length-take-le}
use Rattle.krb_text.specs.Pieces.{Pieces}
use Rattle.krb_text.proofs.PiecesLemmas.{held-taken, pieces-are}
use Rattle.krb_text.proofs.pieces.Pieces.take.Goals as goal

pub returns : goal.returns
returns c =
    let inside = c.self.inside in
    let items = inside.octets.items in
    let n = c.args.count in
    let view = ap (λ (p : Pieces). p.held) c.self.view_is in
    let invariant = c.self.invariant in
    let low = c.requires in
    let held_len = ap length view in
    let front_len = length-take-le inside.count items (omega arith) in
    pieces-are _ _ _ _
    (ap (take (inside.count - n)) c.copy_within.ensures.items ∙ held-taken items inside.count n (omega arith) (omega arith) ∙ ap (drop n) view)
    (ap (λ (p : Pieces). p.taken + n) c.self.view_is)
