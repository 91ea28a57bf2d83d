use Rattle.std.proofs.Common.{rules}
use Rattle.krb_crypto.proofs.sealing.decrypt.Goals as goal

pub returns-clause-altered : goal.returns-clause-altered
returns-clause-altered c = λ e.
    let altered = c.opened_once.ensures.altered e in
    (search rules, altered.0, altered.1)
