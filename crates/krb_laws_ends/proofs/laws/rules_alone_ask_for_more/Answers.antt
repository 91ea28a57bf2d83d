use Rattle.krb_laws_ends.proofs.BoundLemmas.{fits_any, fits_none, user_none, meets_unasked, meets_none}
use Rattle.krb_laws_ends.proofs.laws.rules_alone_ask_for_more.Goals as goal

pub returns-clause-valid : goal.returns-clause-valid
returns-clause-valid c = fits_any

pub returns-clause-tickets : goal.returns-clause-tickets
returns-clause-tickets c = fits_none

pub returns-clause-clients : goal.returns-clause-clients
returns-clause-clients c = user_none

pub returns-clause-channels : goal.returns-clause-channels
returns-clause-channels c = meets_unasked

pub returns-clause-none : goal.returns-clause-none
returns-clause-none c = meets_none
