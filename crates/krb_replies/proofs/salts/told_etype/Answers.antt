use Rattle.std.proofs.Common.{rules}
use Rattle.sspi_core.proofs.Chain.{stops, goes}
use Rattle.krb_replies.specs.Salts.{TellsEtype}
use Rattle.krb_replies.proofs.Chains.{chains}
use Rattle.krb_replies.proofs.salts.told_etype.Goals as goal

pub returns-in_err-entries : goal.returns-in_err-entries
unfolding TellsEtype
returns-in_err-entries c = search (rules, chains)

pub returns-in_err-hint : goal.returns-in_err-hint
unfolding TellsEtype
returns-in_err-hint c =
    let found = rw c.elements_of.ensures at c.in_ok-entries.ensures in
    goes _ _ _ _ found (stops _ _ _ _ c.in_err-hint.ensures c.from_residual-in_err-hint.ensures.1)

pub returns-in_err-suite : goal.returns-in_err-suite
unfolding TellsEtype
returns-in_err-suite c = search (rules, chains)

pub returns : goal.returns
unfolding TellsEtype
returns c = search (rules, chains)
