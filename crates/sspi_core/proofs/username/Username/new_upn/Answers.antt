use Rattle.std.proofs.Common.{rules}
use Rattle.sspi_core.proofs.NameLemmas.{joined_is_whole, joined_is_named}
use Rattle.sspi_core.proofs.username.Username.new_upn.Goals as goal

pub invariant_of-result : goal.invariant_of-result
invariant_of-result c = joined_is_whole c.args.account.now c.args.suffix.now c.in_ok-text.text c.in_ok-text.ensures (search rules) (search rules)

pub returns-clause-name : goal.returns-clause-name
returns-clause-name c = joined_is_named c.args.account.now c.args.suffix.now c.in_ok-text.text c.in_ok-text.ensures (search rules) (search rules)
