use Rattle.krb_messages.proofs.FrameLemmas.{none_fits}
use Rattle.krb_messages.proofs.frame.read_any_framed.Goals as goal

pub returns-then-inside-lt2-clause-shape : goal.returns-then-inside-lt2-clause-shape
returns-then-inside-lt2-clause-shape c = none_fits _ _ _ c.in_ok-oid.ensures.found c.if-inside-lt2.true
