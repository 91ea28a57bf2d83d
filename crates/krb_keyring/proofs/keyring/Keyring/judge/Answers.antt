use Rattle.std.proofs.Common.{inl, inr}
use Rattle.std.proofs.lemmas.Result.{IfOk-weaker, IfErr-weaker}
use Rattle.krb_keyring.proofs.JudgingLemmas.{refused_as, passed_as}
use Rattle.krb_keyring.proofs.keyring.Keyring.judge.Goals as goal

pub returns-in-Ok-clause-opens : goal.returns-in-Ok-clause-opens
returns-in-Ok-clause-opens c =
    IfOk-weaker c.judge_ticket.result _ _ (λ candidate opens. record { message = c.in-Ok.message; reads = passed_as _ c.in-Ok.message c.in-Ok.ensures; opens = opens }) c.judge_ticket.ensures.opens

pub returns-in-Ok-clause-refused : goal.returns-in-Ok-clause-refused
returns-in-Ok-clause-refused c =
    IfErr-weaker c.judge_ticket.result _ _ (λ error ends. inr (record { message = c.in-Ok.message; reads = passed_as _ c.in-Ok.message c.in-Ok.ensures; ends = ends })) c.judge_ticket.ensures.refused

pub returns-in-Err-clause-refused : goal.returns-in-Err-clause-refused
returns-in-Err-clause-refused c = inl (refused_as _ c.in-Err.cause _ c.in-Err.ensures c.from.ensures)
