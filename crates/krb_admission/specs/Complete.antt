-- The checks whose failure is reported after the gate's refusal: the client's name, the options, the subkey.
use Rattle.std.specs.Prelude.{ℕ, ◌+◌, ◌-◌, ◌/◌, ◌^◌, ◌==◌, bit_and, Bool, true, false, not, ◌&&◌, List, [], ◌∷◌, length, Option, Some, None, Result, if◌then◌else◌}
use Rattle.krb_der.specs.declared.bits.Bits.{Bits}
use Rattle.krb_crypto.specs.Suite.{key_size}
use Rattle.krb_crypto.specs.declared.suite.CipherSuite.{CipherSuite}
use Rattle.krb_context.specs.declared.rules.Rules.{Rules}
use Rattle.krb_context.specs.Options.{use_session_key, mutual_required}
use Rattle.krb_messages.specs.declared.encryption.EncryptionKey.{EncryptionKey}
use Rattle.krb_admission.specs.declared.request.Request.{Request}
use Rattle.krb_replies.specs.Unseals.{suite_of_integer}
use Rattle.krb_admission.specs.Clients.{is_known_client, user_of}
use Rattle.sspi_core.specs.Usernames.{UserName}
use Rattle.sspi_core.specs.declared.cause.Cause.{Cause}
use Rattle.sspi_core.specs.declared.cause.Cause.TheVariants.{ClientName, ApOptions, SubKey}
use Rattle.sspi_core.specs.Checks.{Holds, Gives, ◌>>◌}

-- the first of the four octets of options
abbrev pub first_octet : ℕ → ℕ
first_octet options = options / 2 ^ 24

-- APOptions (RFC 4120, section 5.5.1): 32 bits, of which use-session-key and mutual-required are known, both in the first octet
abbrev pub are_known : List ℕ → Bool
are_known (a ∷ b ∷ c ∷ d ∷ []) = b == 0 && (c == 0 && (d == 0 && bit_and a (0xff - first_octet (use_session_key + mutual_required)) == 0))
are_known _ = false

abbrev pub is_known_options : Bits → Bool
is_known_options options = are_known options.octets

abbrev pub asks_mutual : List ℕ → Bool
asks_mutual [] = false
asks_mutual (a ∷ rest) = not (bit_and a (first_octet mutual_required) == 0)

-- mutual-required is set
abbrev pub is_mutual : Bits → Bool
is_mutual options = asks_mutual options.octets

abbrev pub fits : Option CipherSuite → List ℕ → Bool
fits None key = false
fits (Some suite) key = length key == key_size suite

-- a key of a known type and of its type's length
abbrev pub is_good_key : EncryptionKey → Bool
is_good_key key = fits (suite_of_integer key.key_type) key.key_value

abbrev pub is_good_if_there : Option EncryptionKey → Bool
is_good_if_there None = true
is_good_if_there (Some key) = is_good_key key

-- where no AP-REP is asked for, the authenticator's subkey is taken, and has to be a good one
abbrev pub has_good_subkey : Request → Bool
has_good_subkey request = if is_mutual request.message.ap_options then true else is_good_if_there request.authenticator.subkey

-- the user name of the client of a request that may be admitted
unfoldable pub Completes : Rules → Request → Result (Option UserName) Cause → Type 0
Completes rules request = do
  Holds ClientName (is_known_client rules request.authenticator.cname request.authenticator.crealm)
  Holds ApOptions (is_known_options request.message.ap_options)
  Holds SubKey (has_good_subkey request)
  Gives (user_of rules request.authenticator.cname request.authenticator.crealm)
