use Rattle.krb_replay.proofs.Runs.{has_room}
use Rattle.krb_replay.proofs.laws.room_lasts.Goals as goal

pub returns : goal.returns
returns c = has_room
