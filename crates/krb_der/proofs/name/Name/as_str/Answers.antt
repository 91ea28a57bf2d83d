use Rattle.krb_der.proofs.Ascii.{ascii_is_utf8}
use Rattle.krb_der.proofs.name.Name.as_str.Goals as goal

pub from_utf8_unchecked-requires : goal.from_utf8_unchecked-requires
from_utf8_unchecked-requires c = rw c.as_slice.ensures (ascii_is_utf8 c.self.inside.octets c.self.invariant)
