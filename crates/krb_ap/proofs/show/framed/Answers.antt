use Rattle.std.proofs.Common.{◌∙◌}
use Rattle.krb_messages.specs.Oid.{contents_of}
use Rattle.krb_ap.proofs.ShownLengths.{framed_short}
use Rattle.krb_ap.proofs.show.framed.Goals as goal

pub write_framed-requires-clause-short : goal.write_framed-requires-clause-short
write_framed-requires-clause-short c =
    framed_short c.args.mechanism.now (contents_of c.from_contents-oid.result) c.as_slice-2.result.now (c.from_contents-oid.ensures.contents ∙ c.as_slice.ensures) c.requires.mechanism
    (rw c.as_slice-2.ensures c.requires.message)
