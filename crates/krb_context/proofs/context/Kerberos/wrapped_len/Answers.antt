use Rattle.std.proofs.Common.{arith}
use Rattle.krb_context.proofs.IntoLemmas.{wrapped_in, handed_on_by}
use Rattle.krb_context.proofs.context.Kerberos.wrapped_len.Goals as goal

pub returns-in_err-_key-clause-refused : goal.returns-in_err-_key-clause-refused
returns-in_err-_key-clause-refused c =
    handed_on_by c.args.self.now c.args.text.now _ c.from_residual.result (c.in_err-_key.ensures c.args.text.now) c.from_residual.ensures.1

pub returns-clause-len : goal.returns-clause-len
returns-clause-len c = λ confounder size octets.
    wrapped_in c.args.self.now _ confounder c.args.text.now _ c.token_len.ensures.small size octets
    (record { below = λ k. omega (arith, c.type_inv.text k) }) (c.in_ok-_key.ensures c.args.text.now) c.token_len.ensures.len
