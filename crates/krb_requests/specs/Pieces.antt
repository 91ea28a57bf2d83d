-- The small records and values that a client's messages are made of (RFC 4120, sections 5.2.2, 5.2.3 and 5.2.9).
use Rattle.std.specs.Prelude.{ℕ, ◌+◌, ◌/◌, ◌≤◌, ℤ, pos, List, [], ◌∷◌, length, Option, Some, None, if◌then◌else◌}
use Rattle.krb_der.specs.Schema.{is_ascii, IsComplete}
use Rattle.krb_der.specs.Layout.{Layout, spelling}
use Rattle.krb_crypto.specs.Suite.{suite_number}
use Rattle.krb_crypto.specs.Sealed.{sealed}
use Rattle.krb_crypto.specs.declared.suite.CipherSuite.{CipherSuite}
use Rattle.krb_crypto.specs.declared.suite.CipherSuite.TheVariants.{Aes128CtsHmacSha196, Aes256CtsHmacSha196}
use Rattle.krb_messages.specs.declared.encryption.EncryptedData.{EncryptedData}
use Rattle.krb_messages.specs.declared.encryption.EncryptionKey.{EncryptionKey}
use Rattle.krb_context.specs.ServiceKeys.{all_ascii}
use Rattle.krb_messages.specs.declared.principal_name.PrincipalName.{PrincipalName}

-- a key of a suite
abbrev pub encryption_key : CipherSuite → List ℕ → EncryptionKey
encryption_key suite key = record { key_type = suite_number suite ∷ []; key_value = key }

-- a text that is encrypted in a suite, without the version number of its key
abbrev pub sealed_data : CipherSuite → List ℕ → EncryptedData
sealed_data suite cipher = record { etype = suite_number suite ∷ []; kvno = None; cipher = cipher }

-- a text that is sealed under a key of a suite, for a use of it (RFC 4120, section 7.5.1)
abbrev pub sealed_under : CipherSuite → List ℕ → ℕ → List ℕ → List ℕ → EncryptedData
sealed_under suite key usage confounder plain = sealed_data suite (sealed suite key usage confounder plain)

-- a text that can be a name: one of ASCII
abbrev pub name_of : List ℕ → Option (List ℕ)
name_of text = if is_ascii text then Some text else None

-- a name of this type with these components
abbrev pub principal : ℕ → List (List ℕ) → PrincipalName
principal name_type components = record { name_type = name_type ∷ []; name_string = components }

-- a name of this type with these components, if each component is ASCII
abbrev pub principal_of : ℕ → List (List ℕ) → Option PrincipalName
principal_of name_type components = if all_ascii components then Some (principal name_type components) else None

-- the whole second of a moment, which counts microseconds
abbrev pub whole_second : ℕ → ℤ
whole_second moment = pos (moment / 1000000)

-- the whole second three days after it
abbrev pub three_days_after : ℕ → ℤ
three_days_after moment = pos (moment / 1000000 + 259200)

-- the encryption types of RFC 3962, the stronger one first
abbrev pub etypes : List (List ℕ)
etypes = (suite_number Aes256CtsHmacSha196 ∷ []) ∷ (suite_number Aes128CtsHmacSha196 ∷ []) ∷ []

-- the record can be written, in at most `limit` octets
pub record Fits {A : Type 0} (layout : Layout A) (limit : ℕ) (value : A) : Type 0 where
  pub complete : IsComplete layout.kind (layout.view value)
  pub short : length (spelling layout value) ≤ limit
