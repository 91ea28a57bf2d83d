use Rattle.std.proofs.Common.{◌∷◌, ◌∙◌}
use Rattle.std.specs.Borrow.{Bor}
use Rattle.std.specs.Prelude.{map}
use Rattle.std.proofs.lemmas.Result.{err_from_is_err_and}
use Rattle.krb_keyring.proofs.JudgingLemmas.{out_of_memory}
use Rattle.krb_keytab.specs.declared.entry.KeytabEntry.{KeytabEntry}
use Rattle.krb_keyring.proofs.judging.judge_from.Goals as goal

pub returns-in_err-newest-clause-refused : goal.returns-in_err-newest-clause-refused
returns-in_err-newest-clause-refused c =
    let p = err_from_is_err_and c.from_residual.result c.from_residual.ensures.1 in
    rw p.1 (out_of_memory c.args.token_limit (c.args.newest.now ∷ map (λ (entry : Bor KeytabEntry). entry.now) c.args.older.now) c.args.channel c.args.token.now c.args.draw.now p.0 p.2)

pub returns-in_err-older-clause-refused : goal.returns-in_err-older-clause-refused
returns-in_err-older-clause-refused c =
    let p = err_from_is_err_and c.from_residual-in_err-older.result c.from_residual-in_err-older.ensures.1 in
    rw p.1 (out_of_memory c.args.token_limit (c.args.newest.now ∷ map (λ (entry : Bor KeytabEntry). entry.now) c.args.older.now) c.args.channel c.args.token.now c.args.draw.now p.0 p.2)

pub returns-clause-opens : goal.returns-clause-opens
returns-clause-opens c = rw (c.in_ok-newest.ensures, c.as_slice.ensures.value ∙ c.in_ok-older.ensures) at c.judge_in_turn.ensures.opens

pub returns-clause-refused : goal.returns-clause-refused
returns-clause-refused c = rw (c.in_ok-newest.ensures, c.as_slice.ensures.value ∙ c.in_ok-older.ensures) at c.judge_in_turn.ensures.refused
