use Rattle.std.proofs.Common.{refl}
use Rattle.std.proofs.lemmas.List.{drop-drop}
use Rattle.krb_authenticators.proofs.checksum.with_flags.Goals as goal

pub returns : goal.returns
returns c = rw (c.copy_from_slice.ensures.after, c.to_le_bytes.ensures, drop-drop 4 20 c.args.octets) refl
