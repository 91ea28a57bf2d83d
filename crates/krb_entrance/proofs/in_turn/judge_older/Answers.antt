use Rattle.std.proofs.Common.{refl, sym, ◌∙◌, subst, inl, inr, ◌+◌, take, drop}
use Rattle.std.specs.Prelude.{All}
use Rattle.std.proofs.lemmas.List.{take_all}
use Rattle.std.proofs.lemmas.List.Elements.{All-more}
use Rattle.krb_entrance.specs.Turns.{IsClosed}
use Rattle.krb_entrance.proofs.TurnLemmas.{closed_by, parts_at}
use Rattle.krb_entrance.proofs.in_turn.judge_older.Goals as goal

pub returns-in-Ok-clause-opens : goal.returns-in-Ok-clause-opens
returns-in-Ok-clause-opens c =
    let i = c.loop-keys.keys-index in
    record {
      front = take i c.args.older.now;
      keys = c.keys-item.result;
      behind = drop (i + 1) c.args.older.now;
      parts = parts_at c.args.older.now i c.keys-item.result c.loop-keys-test.true c.keys-item.is;
      closed = c.loop-keys.invariant;
      passes = c.in-Ok.ensures.passes;
    }

pub returns-then-not-leads_on-clause-refused : goal.returns-then-not-leads_on-clause-refused
returns-then-not-leads_on-clause-refused c =
    let i = c.loop-keys.keys-index in
    inl (record {
      front = take i c.args.older.now;
      keys = c.keys-item.result;
      behind = drop (i + 1) c.args.older.now;
      parts = parts_at c.args.older.now i c.keys-item.result c.loop-keys-test.true c.keys-item.is;
      closed = c.loop-keys.invariant;
      refuses = c.in-Err.ensures.refused;
    })

pub loop-keys-preserved : goal.loop-keys-preserved
loop-keys-preserved c =
    let closed = closed_by c.args.channel c.args.token.now c.args.draw.now c.keys-item.result c.in-Err.error c.in-Err.ensures.refused (sym c.leads_on.ensures ∙ c.if-not-leads_on.false) in
    All-more (IsClosed c.args.channel c.args.token.now c.args.draw.now) c.args.older.now c.loop-keys.keys-index c.keys-item.result c.loop-keys-test.true
    c.loop-keys.invariant (subst (IsClosed c.args.channel c.args.token.now c.args.draw.now) c.keys-item.is closed)

pub returns-clause-refused : goal.returns-clause-refused
returns-clause-refused c =
    inr (record {
      closed = subst (All (IsClosed c.args.channel c.args.token.now c.args.draw.now)) (take_all c.loop-keys.keys-index c.args.older.now c.loop-keys-test.false) c.loop-keys.invariant;
      is_kept = refl;
    })
