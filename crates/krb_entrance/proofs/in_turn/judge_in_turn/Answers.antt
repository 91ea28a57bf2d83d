use Rattle.std.proofs.Common.{[], refl, sym, ◌∙◌, inl}
use Rattle.std.proofs.lemmas.List.Elements.{All-nil}
use Rattle.std.proofs.lemmas.Result.{IfOk-weaker, IfErr-weaker}
use Rattle.krb_entrance.specs.Turns.{IsClosed}
use Rattle.krb_entrance.proofs.TurnLemmas.{closed_by, opens_behind, ends_in_turn}
use Rattle.krb_entrance.proofs.in_turn.judge_in_turn.Goals as goal

pub returns-in-Ok-clause-opens : goal.returns-in-Ok-clause-opens
returns-in-Ok-clause-opens c = record {
  front = [];
  keys = c.args.newest.now;
  behind = c.args.older.now;
  parts = refl;
  closed = All-nil (IsClosed c.args.channel c.args.token.now c.args.draw.now);
  passes = c.in-Ok.ensures.passes;
}

pub returns-then-leads_on-clause-opens : goal.returns-then-leads_on-clause-opens
returns-then-leads_on-clause-opens c =
    let closed = closed_by c.args.channel c.args.token.now c.args.draw.now c.args.newest.now c.in-Err.error c.in-Err.ensures.refused (sym c.leads_on.ensures ∙ c.if-leads_on.true) in
    IfOk-weaker c.judge_older.result _ _ (λ candidate opens. opens_behind c.args.channel c.args.token.now c.args.draw.now c.args.newest.now c.args.older.now candidate closed opens) c.judge_older.ensures.opens

pub returns-then-leads_on-clause-refused : goal.returns-then-leads_on-clause-refused
returns-then-leads_on-clause-refused c =
    let closed = closed_by c.args.channel c.args.token.now c.args.draw.now c.args.newest.now c.in-Err.error c.in-Err.ensures.refused (sym c.leads_on.ensures ∙ c.if-leads_on.true) in
    IfErr-weaker c.judge_older.result _ _ (λ error ends. ends_in_turn c.args.channel c.args.token.now c.args.draw.now c.args.newest.now c.args.older.now c.in-Err.error error closed c.in-Err.ensures.refused ends) c.judge_older.ensures.refused

pub returns-else-leads_on-clause-refused : goal.returns-else-leads_on-clause-refused
returns-else-leads_on-clause-refused c =
    inl (record {
      front = [];
      keys = c.args.newest.now;
      behind = c.args.older.now;
      parts = refl;
      closed = All-nil (IsClosed c.args.channel c.args.token.now c.args.draw.now);
      refuses = c.in-Err.ensures.refused;
    })
