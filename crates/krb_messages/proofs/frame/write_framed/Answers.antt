use Rattle.krb_messages.proofs.FrameLemmas.{oid_is_shorter}
use Rattle.krb_messages.proofs.frame.write_framed.Goals as goal

pub tlv-requires : goal.tlv-requires
tlv-requires c = rw c.contents.ensures (oid_is_shorter _ _ c.requires.short)
