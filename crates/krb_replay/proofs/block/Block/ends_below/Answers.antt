use Rattle.std.proofs.Common.{◌≡◌, ℕ, ◌-◌, refl, ap, sym, ◌∙◌, subst, get_or, arith}
use Rattle.std.specs.Ordering.{is_lt}
use Rattle.krb_replay.proofs.Cut.{end_is}
use Rattle.krb_replay.proofs.block.Block.ends_below.Goals as goal

pub returns-in-Some : goal.returns-in-Some
returns-in-Some c =
    let records = c.self.inside.records in
    let last = c.in-Some.last.now in
    rw (← c.self.view_is) (c.is_lt.ensures ∙ ap is_lt c.cmp.ensures
    ∙ sym (end_is c.args.entry.now records.items last (omega (arith, records.ok.0, c.in-Some.ensures.variant.0 refl)) (subst (λ (n : ℕ). last ≡ get_or records.items (n - 1) last) records.ok.0 c.in-Some.ensures.lookup)))
