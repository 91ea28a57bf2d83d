use Rattle.krb_messages.specs.Oid.{contents_of}
use Rattle.krb_admission.proofs.Lengths.{framed_short}
use Rattle.krb_admission.proofs.admission.framed_reply.Goals as goal

pub write_framed-requires-clause-short : goal.write_framed-requires-clause-short
write_framed-requires-clause-short c =
    framed_short c.args.user_to_user (contents_of c.mechanism.result) c.as_slice.result.now c.mechanism.ensures (rw c.as_slice.ensures c.requires)
