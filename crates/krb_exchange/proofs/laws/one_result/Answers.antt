use Rattle.std.proofs.Common.{arith}
use Rattle.krb_exchange.specs.Table.{as_rep, tgs_rep, krb_error}
use Rattle.krb_exchange.specs.Layouts.{as_rep_layout, tgs_rep_layout}
use Rattle.krb_exchange.proofs.Results.{one_result_of}
use Rattle.krb_exchange.proofs.laws.one_result.Goals as goal

pub returns : goal.returns
unfolding as_rep tgs_rep krb_error
returns c = record { as_rep = one_result_of as_rep_layout (λ e. omega (arith, e)); tgs_rep = one_result_of tgs_rep_layout (λ e. omega (arith, e)) }
