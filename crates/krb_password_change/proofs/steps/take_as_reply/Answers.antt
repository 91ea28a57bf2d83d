use Rattle.krb_as.proofs.Realms.{short_kdc}
use Rattle.krb_password_change.proofs.steps.take_as_reply.Goals as goal

pub behind_turn-requires-clause-realm : goal.behind_turn-requires-clause-realm
behind_turn-requires-clause-realm c = rw c.kdc.ensures (short_kdc c.args.changer.now.asker c.args.phase.now c.requires.awaiting)

pub returns-clause-down : goal.returns-clause-down
returns-clause-down c = c.behind_turn.ensures.down _ c.in_ok-turn.ensures.down
