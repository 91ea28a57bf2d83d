use Rattle.std.proofs.Common.{refl}
use Rattle.krb_messages.specs.Oid.{krb5_oid}
use Rattle.krb_refusals.proofs.Lengths.{framed_short}
use Rattle.krb_refusals.proofs.error_tokens.framed_error.Goals as goal

pub write_framed-requires-clause-short : goal.write_framed-requires-clause-short
write_framed-requires-clause-short c = framed_short krb5_oid c.as_slice.result.now refl (rw c.as_slice.ensures c.requires)
