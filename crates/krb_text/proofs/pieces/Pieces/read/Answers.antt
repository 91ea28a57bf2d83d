use Rattle.std.proofs.Common.{take, drop, length, length-drop, ap, sym, ◌∙◌, subst, arith, List, ℕ, []}
use Rattle.std.specs.Io.KnownBytes.{Consumes}
use Rattle.std.proofs.lemmas.List.{length-take-le}
use Rattle.krb_text.specs.Pieces.{Pieces, ahead}
use Rattle.krb_text.proofs.PiecesLemmas.{held-read, consumes-read}
use Rattle.krb_text.proofs.pieces.Pieces.read.Goals as goal

pub returns-clause-more : goal.returns-clause-more
returns-clause-more g c =
    let inside = c.self.inside in
    let items = inside.octets.items in
    let new = c.read_behind.new.octets in
    let n = c.in_ok-count.count in
    let view = ap (λ (p : Pieces). p.held) c.self.view_is in
    let invariant = c.self.invariant in
    let value = ap length c.deref_mut.ensures.value in
    let len = c.read_behind.ensures.len in
    let room = c.deref_mut.ensures.len in
    let bound = c.in_ok-count.ensures.bound in
    let piece = c.limit-limit.ensures.piece in
    let begun = c.requires.begun.0.1 in
    let held_len = ap length view in
    let front_len = length-take-le inside.count items (omega arith) in
    let behind = length-drop inside.count new in (
      take n (drop inside.count new),
      held-read inside.octets.len inside.count n c.args.self.now.held new items (len ∙ room) (sym value ∙ room) (c.read_behind.ensures.front ∙ ap (take inside.count) c.deref_mut.ensures.value ∙ view),
      length-take-le n (drop inside.count new) (omega arith),
    )

pub returns-clause-ahead : goal.returns-clause-ahead
unfolding returns-clause-more
returns-clause-ahead g c =
    let more = returns-clause-more g c in
    let P : List ℕ → Type 0 = λ held. Consumes (ahead c.args.self.now (g.S.Source.left c.args.source.now)) (ahead (record { held = held; taken = c.self.inside.taken }) (g.S.Source.left c.read_behind.new.source)) [] in
    subst P (sym more.1) (consumes-read (g.S.Source.left c.args.source.now) (g.S.Source.left c.read_behind.new.source) c.args.self.now.held more.0 c.in_ok-count.ensures.bytes.0)
