-- The values of the fields of a line.
use Rattle.std.specs.Prelude.{ℕ, Bool, true, ◌&&◌, not, nat_lt, ◌==◌, if◌then◌else◌, List, [], ◌∷◌, length, fold, codes, Option, Some, None}
use Rattle.std.specs.List.{list_all, list_any}
use Rattle.std.specs.Char.{is_ascii_graphic}
use Rattle.std.specs.Str.{bytes_eq, is_utf8}
use Rattle.std.specs.Result.{result_ok}
use Rattle.std.specs.Int.RustNames.{bit_or}
use Rattle.hex.specs.Hex.{decode_of, decode_sized}
use Rattle.krb_der.specs.Reading.{◌>>=◌}
use Rattle.krb_script.specs.Options.{if_so}
use Rattle.sspi_core.specs.Flags as bits
use Rattle.sspi_core.specs.declared.flags.ClientRequestFlags.{ClientRequestFlags}

-- the octets of pairs of hex digits of either case, of which there is at least one
abbrev pub octets_of : List ℕ → Option (List ℕ)
octets_of text = if length text == 0 then None else result_ok (decode_of text)

-- the octets of pairs of hex digits of either case; `-` means no octets
abbrev pub octets_or_none_of : List ℕ → Option (List ℕ)
octets_or_none_of text = if bytes_eq text (codes "-") then Some [] else octets_of text

-- a text in UTF-8 by the hex digits of its octets; `-` means the empty text
abbrev pub text_of : List ℕ → Option (List ℕ)
text_of text = do
  octets ← octets_or_none_of text
  if_so (is_utf8 octets) (Some octets)

-- octets of a field, 21 to 7E, of which there is one at least
abbrev pub is_name : List ℕ → Bool
is_name text = nat_lt 0 (length text) && list_all is_ascii_graphic text

-- a field that is taken literally
abbrev pub name_of : List ℕ → Option (List ℕ)
name_of text = if is_name text then Some text else None

-- a field that is taken literally; `-` means no field
abbrev pub optional_name_of : List ℕ → Option (Option (List ℕ))
optional_name_of text =
    if bytes_eq text (codes "-") then Some None
    else do
      name ← name_of text
      Some (Some name)

-- a field that is taken literally; `-` means the empty field
abbrev pub name_or_none_of : List ℕ → Option (List ℕ)
name_or_none_of text = if bytes_eq text (codes "-") then Some [] else name_of text

-- no element occurs twice
abbrev pub is_distinct : List ℕ → Bool
is_distinct [] = true
is_distinct (x ∷ xs) = not (list_any (λ y. y == x) xs) && is_distinct xs

-- 64 octets in hex
abbrev pub random_of : List ℕ → Option (List ℕ)
random_of text = result_ok (decode_sized text 64)

-- the bit of a flag's letter, and 0 for any other octet: D delegate, M mutual, R replay, S sequence, C confidentiality,
-- K use session key, E DCE style, I integrity, N no integrity
abbrev pub flag_bit : ℕ → ℕ
flag_bit b =
    if b == 68 then bits.delegate else if b == 77 then bits.mutual_auth else if b == 82 then bits.replay_detect
    else if b == 83 then bits.sequence_detect else if b == 67 then bits.confidentiality else if b == 75 then bits.use_session_key
    else if b == 69 then bits.use_dce_style else if b == 73 then bits.integrity else if b == 78 then bits.no_integrity else 0

abbrev pub is_flag : ℕ → Bool
is_flag b = not (flag_bit b == 0)

-- letters of flags, each once, of which there is one at least
abbrev pub are_flags : List ℕ → Bool
are_flags text = nat_lt 0 (length text) && list_all is_flag text && is_distinct text

abbrev pub flag_bits : List ℕ → ℕ
flag_bits text = fold (λ bits letter. bit_or bits (flag_bit letter)) 0 text

-- the set of flags that has these bits
abbrev pub flags_from : ℕ → ClientRequestFlags
flags_from bits = record { 0 = bits }

-- flags by their letters; `-` means no flags
abbrev pub flags_of : List ℕ → Option ClientRequestFlags
flags_of text =
    if bytes_eq text (codes "-") then Some (flags_from 0)
    else if are_flags text then Some (flags_from (flag_bits text))
    else None
