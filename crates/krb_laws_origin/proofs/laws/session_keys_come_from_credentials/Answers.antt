use Rattle.krb_laws_origin.proofs.EventLemmas.{origin, stays}
use Rattle.krb_laws_origin.proofs.laws.session_keys_come_from_credentials.Goals as goal

pub returns-clause-origin : goal.returns-clause-origin
returns-clause-origin g c = λ before after events replies id first last key. origin g.G.ReplayGate.admits before after events replies id first last key

pub returns-clause-stays : goal.returns-clause-stays
returns-clause-stays g c = λ before after events replies id first. stays g.G.ReplayGate.admits before after events replies id first
