use Rattle.krb_laws_origin.proofs.DeclaredLemmas.{declared_keyless, declared_origin}
use Rattle.krb_laws_origin.proofs.laws.declared_initiators_have_keys_by_their_replies.Goals as goal

pub returns-clause-keyless : goal.returns-clause-keyless
returns-clause-keyless c = declared_keyless

pub returns-clause-origin : goal.returns-clause-origin
returns-clause-origin c = declared_origin
