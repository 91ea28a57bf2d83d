use Rattle.krb_messages.proofs.FrameLemmas.{one_frame_lem}
use Rattle.krb_messages.proofs.laws.one_frame.Goals as goal

pub returns : goal.returns
returns c = one_frame_lem
