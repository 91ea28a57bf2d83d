-- The plain text that is sealed to a key, and the record in it (RFC 4120, sections 3.1.5, 3.2.3, 3.2.5 and 3.3.4). Nothing here
-- decrypts: a text is opened as the one that is sealed to it.
use Rattle.std.specs.Prelude.{ℕ, nat_le, ◌==◌, List, length, Option, Result}
use Rattle.krb_der.specs.Integer.{integer_value}
use Rattle.krb_der.specs.Schema.{Spells}
use Rattle.krb_der.specs.Layout.{Layout}
use Rattle.krb_crypto.specs.Suite.{key_size, suite_numbered}
use Rattle.krb_crypto.specs.Sealed.{IsSealed}
use Rattle.krb_crypto.specs.declared.suite.CipherSuite.{CipherSuite}
use Rattle.sspi_core.specs.declared.cause.Cause.{Cause}
use Rattle.krb_messages.specs.declared.encryption.EncryptedData.{EncryptedData}
use Rattle.sspi_core.specs.declared.cause.Cause.TheVariants.{Etype, KeyLength, Short, Altered, Reply, Inner}
use Rattle.sspi_core.specs.Checks.{Finds, Gives, Holds, Takes, ◌>>=◌, ◌>>◌}
use Rattle.krb_replies.specs.declared.unseal.Refusals.{Refusals}

-- the suite of an encryption type, by the value of the integer and not by its spelling
unfoldable pub suite_of_integer : List ℕ → Option CipherSuite
suite_of_integer etype = suite_numbered (integer_value etype)

-- the octets spell this
abbrev pub IsRead : {A : Type 0} → Layout A → List ℕ → A → Type 0
IsRead layout octets value = Spells layout.kind (layout.view value) octets

-- under a key of the caller's own each thing that can be wrong has its name
abbrev pub own_key : Refusals
own_key = record { key_length = KeyLength; short = Short; altered = Altered }

-- a reply under a key that it has to be sealed under, and is not
abbrev pub session_key : Refusals
session_key = record { key_length = Reply; short = Reply; altered = Reply }

-- the plain text that is sealed in a text
unfoldable pub Unseals : Refusals → CipherSuite → List ℕ → ℕ → List ℕ → Result (List ℕ) Cause → Type 0
Unseals refusals suite key usage text = do
  Holds refusals.key_length (length key == key_size suite)
  Holds refusals.short (nat_le 28 (length text))
  Finds refusals.altered (λ plain. IsSealed suite key usage text plain)

-- the record that is sealed in a text
unfoldable pub OpensSealed : {A : Type 0} → Layout A → Refusals → CipherSuite → List ℕ → ℕ → List ℕ → Result A Cause → Type 0
OpensSealed layout refusals suite key usage text = do
  plain ← Unseals refusals suite key usage text
  Finds Inner (IsRead layout plain)

-- the record that is sealed in an EncryptedData under a key of its encryption type, and the suite of that type
unfoldable pub OpensData : {A : Type 0} → Layout A → List ℕ → ℕ → EncryptedData → Result (CipherSuite × A) Cause → Type 0
OpensData layout key usage sealed = do
  suite ← Takes Etype (suite_of_integer sealed.etype)
  value ← OpensSealed layout own_key suite key usage sealed.cipher
  Gives (suite, value)
