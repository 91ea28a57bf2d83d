-- The fields that no other program's lines have.
use Rattle.std.specs.Prelude.{ℕ, ◌==◌, if◌then◌else◌, List, [], ◌∷◌, codes, Option, Some, None}
use Rattle.std.specs.List.{slice_split}
use Rattle.std.specs.Str.{bytes_eq}
use Rattle.krb_crypto.specs.declared.suite.CipherSuite.{CipherSuite}
use Rattle.krb_crypto.specs.declared.suite.CipherSuite.TheVariants.{Aes128CtsHmacSha196, Aes256CtsHmacSha196}
use Rattle.krb_der.specs.Reading.{◌>>=◌}
use Rattle.krb_script.specs.Fields.{name_of}

-- a name a part
abbrev pub names_in : List (List ℕ) → Option (List (List ℕ))
names_in [] = Some []
names_in (part ∷ parts) = do
  first ← name_of part
  more ← names_in parts
  Some (first ∷ more)

-- the components of a principal, or of a service, with a / between two
abbrev pub components_in : List ℕ → Option (List (List ℕ))
components_in text = names_in (slice_split (λ b. b == 47) text)

-- a suite by the number of its encryption type (RFC 3962, section 7)
abbrev pub suite_in : List ℕ → Option CipherSuite
suite_in text =
    if bytes_eq text (codes "17") then Some Aes128CtsHmacSha196
    else if bytes_eq text (codes "18") then Some Aes256CtsHmacSha196
    else None
