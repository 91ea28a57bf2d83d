use Rattle.std.proofs.Common.{◌≡◌, ℕ, ◌-◌, ◌++◌, ◌∷◌, [], List, length, refl, ap, sym, ◌∙◌, subst, get_or, set, arith}
use Rattle.krb_replay.specs.declared.record.Record.{Record}
use Rattle.krb_replay.proofs.Cut.{room_is, room_less, last_none, pushed_last, pushed_new}
use Rattle.krb_replay.proofs.blocks.push.Goals as goal

pub push-requires : goal.push-requires
push-requires c =
    let blocks = c.args.blocks.now in
    let last = c.in-Some.last.now in
    let at : last ≡ get_or blocks.items (length blocks.items - 1) last = subst (λ (n : ℕ). last ≡ get_or blocks.items (n - 1) last) blocks.ok.0 c.in-Some.ensures.value in
    room_less (length last) (sym (room_is blocks.items last (omega (arith, blocks.ok.0, c.in-Some.ensures.variant.0 refl)) at) ∙ sym c.has_room.ensures ∙ c.if-has_room.true)

pub push-requires-in-Some-pop : goal.push-requires-in-Some-pop
push-requires-in-Some-pop c =
    let none = (last_none c.args.spare.now.items c.pop.new.self.items c.in-Some-pop.block c.in-Some-pop.ensures.items c.requires.none).1 in
    omega (arith, ap length none)

pub returns-in-Some-clause-recut : goal.returns-in-Some-clause-recut
returns-in-Some-clause-recut c =
    let blocks = c.args.blocks.now in
    let last = c.in-Some.last.now in
    let at : last ≡ get_or blocks.items (length blocks.items - 1) last = subst (λ (n : ℕ). last ≡ get_or blocks.items (n - 1) last) blocks.ok.0 c.in-Some.ensures.value in
    pushed_last blocks.items c.args.spare.now.items _ last c.push.new.self c.args.entry (omega (arith, blocks.ok.0, c.in-Some.ensures.variant.0 refl)) c.requires.filled c.requires.none
    (c.push.ensures ∙ ap (λ (l : List Record). l ++ c.args.entry ∷ []) at)
    (ap (λ (n : ℕ). set blocks.items (n - 1) c.push.new.self) blocks.ok.0)

pub returns-in-Some-pop-clause-recut : goal.returns-in-Some-pop-clause-recut
returns-in-Some-pop-clause-recut c =
    pushed_new c.args.blocks.now.items c.args.spare.now.items c.push_back_reserved.new.self.items c.pop.new.self.items c.in-Some-pop.block c.push-in-Some-pop.new.self c.args.entry
    c.requires.filled c.requires.none (sym c.has_room.ensures ∙ c.if-has_room.false) c.in-Some-pop.ensures.items c.push-in-Some-pop.ensures c.push_back_reserved.ensures.items
