use Rattle.std.proofs.Common.{rules, ap}
use Rattle.std.specs.Prelude.{Ok}
use Rattle.sspi_core.proofs.Chain.{stops, goes, answers}
use Rattle.krb_context.specs.ClearWraps.{WrapsClear}
use Rattle.krb_context.proofs.ClearLemmas.{is_ready_clear}
use Rattle.krb_context.proofs.context.Kerberos.next_clear_token.Goals as goal

pub returns-in_err-key : goal.returns-in_err-key
unfolding WrapsClear
returns-in_err-key c = stops _ _ _ _ (answers _ _ c.in_err-key.ensures) c.from_residual.ensures.1

pub clear_token-requires : goal.clear_token-requires
clear_token-requires c = let r = is_ready_clear _ _ _ c.in_ok-key.ensures in r.key_length

pub returns : goal.returns
unfolding WrapsClear
returns c = goes _ _ _ _ (answers _ _ c.in_ok-key.ensures) (answers _ _ (record { is = ap Ok (search rules) }))
