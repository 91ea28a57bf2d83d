use Rattle.std.proofs.Common.{rules, ◌-◌, length}
use Rattle.sspi_core.specs.declared.cause.Cause.TheVariants.{Short}
use Rattle.sspi_core.proofs.Chain.{held, chain, goes, answers}
use Rattle.krb_context.specs.Unwraps.{is_long, OpensBody}
use Rattle.krb_context.proofs.headed.Headed.open.Goals as goal

pub find-requires : goal.find-requires
find-requires c = held Short (is_long c.args.self.now.header.now (length c.args.self.now.text.now - 16)) tt c.in_ok-check_long.ensures

pub returns-in_err-check_long : goal.returns-in_err-check_long
unfolding OpensBody
returns-in_err-check_long c = search (rules, chain)

pub returns-in_err-check_room : goal.returns-in_err-check_room
unfolding OpensBody
returns-in_err-check_room c = search (rules, chain)

pub returns : goal.returns
unfolding OpensBody
returns c = goes _ _ _ _ (answers _ _ c.in_ok-check_long.ensures) (goes _ _ _ _ (answers _ _ c.in_ok-check_room.ensures) c.find.ensures)
