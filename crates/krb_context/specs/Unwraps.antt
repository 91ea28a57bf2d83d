-- Unwrapping a message (RFC 4121, section 4.2.4): the checks in their order, and the text that the buffers spell.
use Rattle.std.specs.Prelude.{ℕ, ◌+◌, ◌-◌, List, [], length, take, Bool, true, false, not, ◌&&◌, ◌||◌, ◌==◌, nat_le, Option, Some, None, Result, if◌then◌else◌}
use Rattle.krb_crypto.specs.Suite.{key_size, kc}
use Rattle.sspi_core.specs.declared.cause.Cause.{Cause}
use Rattle.sspi_core.specs.declared.cause.Cause.TheVariants.{Sequence, Buffers, Header, Direction, ExtraCount, KeyLength, Short}
use Rattle.sspi_core.specs.declared.cause.Cause.TheVariants.{Room, Altered, Old as OldCause, Repeated as RepeatedCause}
use Rattle.sspi_core.specs.declared.buffer.Part.TheVariants.{Stream, Plain}
use Rattle.sspi_core.specs.Buffer.{Buffer}
use Rattle.sspi_core.specs.Checks.{Finds, Takes, Holds, Passes, Gives, ◌>>=◌, ◌>>◌}
use Rattle.sspi_core.specs.Messages.{find_part, write, write_whole}
use Rattle.krb_context.specs.declared.context.Kerberos.{Kerberos}
use Rattle.krb_context.specs.declared.rules.Rules.{Rules}
use Rattle.krb_context.specs.declared.params.EncryptionParams.{EncryptionParams}
use Rattle.krb_context.specs.declared.window.NumberVerdict.{NumberVerdict}
use Rattle.krb_context.specs.declared.window.NumberVerdict.TheVariants.{Fresh, Old, Repeated}
use Rattle.krb_context.specs.Contexts.{is_peer_acceptor}
use Rattle.krb_context.specs.Header.{is_wrap_header, is_sealed, is_from, ec_of, number_of}
use Rattle.krb_context.specs.Rules.{has_rule, extra_count_by_token}
use Rattle.krb_context.specs.Params.{suite_of}
use Rattle.krb_context.specs.Parties.{ready_key, seal_usage, keys_of}
use Rattle.krb_context.specs.Spelled.{spelled, has_part}
use Rattle.krb_context.specs.Spelt.{Spelt, SpeltClear}
use Rattle.krb_context.specs.Window.{number_verdict}

-- the header of a wrap token: 16 octets with the token id and the `Filler` octet
abbrev pub header_of : List ℕ → Option (List ℕ)
header_of text = if nat_le 16 (length text) && is_wrap_header (take 16 text) then Some (take 16 text) else None

-- the extra count (EC) that a text is opened by: the context's, or with the rule `extra_count_by_token` the one in the text's own
-- header, up to what its body holds (RFC 4121, section 4.2.3)
abbrev pub count_for : Rules → ℕ → List ℕ → ℕ
count_for rules ec text = if has_rule rules extra_count_by_token && nat_le 16 (length text) then ec_of (take 16 text) else ec

-- the parameters that a text is opened by
abbrev pub params_for : Kerberos → List ℕ → EncryptionParams
params_for context text =
    record context.encryption_params { ec = count_for context.rules context.encryption_params.ec text }

-- a sealed text has this extra count (EC)
abbrev pub has_count : ℕ → List ℕ → Bool
has_count ec h = not (is_sealed h) || ec_of h == ec

-- the key is as long as the suite's keys are
abbrev pub has_key_size : EncryptionParams → List ℕ → Bool
has_key_size params key = length key == key_size (suite_of params)

-- the checks of the header, and the header
unfoldable pub Heads : EncryptionParams → List ℕ → Bool → List ℕ → Result (List ℕ) Cause → Type 0
Heads params key peer text = do
  header ← Takes Header (header_of text)
  Holds Direction (is_from peer header)
  Holds ExtraCount (has_count params.ec header)
  Holds KeyLength (has_key_size params key)
  Gives header

-- the octets of a body in addition to its text: the confounder, EC octets, the header's copy and the checksum, or the checksum alone
abbrev pub extra_of : List ℕ → ℕ
extra_of h = if is_sealed h then 44 + ec_of h else ec_of h

-- a body of n octets is not empty, and holds the octets in addition to the text
abbrev pub is_long : List ℕ → ℕ → Bool
is_long h n = nat_le 1 n && nat_le (extra_of h) n

-- a text of n octets has room in the plain data; with a stream it always has
abbrev pub has_room : List Buffer → Buffer → ℕ → Bool
has_room buffers plain n = has_part Stream buffers || nat_le n plain.limit

abbrev pub SpeltBy : Bool → EncryptionParams → List ℕ → Bool → List Buffer → List ℕ → Type 0
SpeltBy true params key peer buffers p = Spelt (keys_of params key peer) peer params.ec buffers p
SpeltBy false params key peer buffers p = SpeltClear (kc (suite_of params) key (seal_usage peer)) peer buffers p

-- the checks of the body, and the text that the buffers spell: sealed, or in the clear with its checksum
unfoldable pub OpensBody : EncryptionParams → List ℕ → Bool → List Buffer → Buffer → List ℕ → List ℕ → Result (List ℕ) Cause → Type 0
OpensBody params key peer buffers plain text header = do
  Holds Short (is_long header (length text - 16))
  Holds Room (has_room buffers plain (length text - 16 - extra_of header))
  Finds Altered (λ p. SpeltBy (is_sealed header) params key peer buffers p)

-- the cause of a refusal by number, none if the number is fresh
abbrev pub aged : NumberVerdict → Option Cause
aged Fresh = None
aged Old = Some OldCause
aged Repeated = Some RepeatedCause

-- all checks of a message whose token has this text, from a peer of this role
unfoldable pub ReceivesMessage : Kerberos → Bool → List Buffer → List ℕ → Result (List ℕ) Cause → Type 0
ReceivesMessage context peer buffers text = do
  key ← Takes Sequence (ready_key context.state context.encryption_params)
  plain ← Takes Buffers (find_part Plain buffers)
  header ← Heads (params_for context text) key peer text
  opened ← OpensBody (params_for context text) key peer buffers plain text header
  Passes (aged (number_verdict context.window (number_of header)))
  Gives opened

-- all checks of a message, and its text
abbrev pub Unwraps : Kerberos → List Buffer → Result (List ℕ) Cause → Type 0
Unwraps context buffers = ReceivesMessage context (is_peer_acceptor context) buffers (spelled buffers)

-- the number of a message
abbrev pub message_number : List Buffer → ℕ
message_number buffers = number_of (take 16 (spelled buffers))

-- the buffers once p was taken out of them
abbrev pub unwrapped : List ℕ → List Buffer → List Buffer
unwrapped p buffers = if has_part Stream buffers then write_whole Stream [] (write_whole Plain p buffers) else write Plain p buffers
