-- ASCII octets are UTF-8.
use Rattle.std.proofs.Common.{◌≡◌, ℕ, zero, suc, true, List, [], ◌∷◌, arith}
use Rattle.std.specs.Prelude.{nat_lt}
use Rattle.std.specs.Str.{IsAscii, IsUtf8}
use Rattle.std.proofs.lemmas.Bool.{and_parts, ltb-true}
use Rattle.std.proofs.lemmas.Str.{IsUtf8-from_ascii}
use Rattle.krb_der.specs.Schema.{is_ascii}

ascii_at : (octets : List ℕ) → is_ascii octets ≡ true → IsAscii octets
ascii_at [] all i = omega arith
ascii_at (b ∷ octets) all zero = ltb-true b 0x80 (and_parts (nat_lt b 0x80) (is_ascii octets) all).0
ascii_at (b ∷ octets) all (suc i) = ascii_at octets (and_parts (nat_lt b 0x80) (is_ascii octets) all).1 i

pub ascii_is_utf8 : (octets : List ℕ) → is_ascii octets ≡ true → IsUtf8 octets
ascii_is_utf8 octets all = IsUtf8-from_ascii octets (ascii_at octets all)
