use Rattle.std.proofs.lemmas.Result.{err_from_is_err_and}
use Rattle.krb_keyring.specs.Choice.{chosen}
use Rattle.krb_keyring.proofs.JudgingLemmas.{out_of_memory}
use Rattle.krb_keyring.proofs.keyring.Keyring.judge_ticket.Goals as goal

pub returns-in_err-chosen-clause-refused : goal.returns-in_err-chosen-clause-refused
returns-in_err-chosen-clause-refused c =
    let p = err_from_is_err_and c.from_residual.result c.from_residual.ensures.1 in
    rw p.1 (out_of_memory c.args.self.now.token_limit (chosen c.args.self.now c.args.ticket.now) c.args.channel c.args.token.now c.args.draw.now p.0 p.2)
