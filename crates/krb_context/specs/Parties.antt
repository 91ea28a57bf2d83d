-- The two sides of a context: the flags and the usages of their messages (RFC 4121, sections 2, 4.2.2 and 4.2.6).
use Rattle.std.specs.Prelude.{ℕ, List, Bool, not, ◌||◌, Option, None, if◌then◌else◌}
use Rattle.krb_crypto.specs.SealingPair.{SealingPair, sealing_pair}
use Rattle.krb_context.specs.declared.context.Kerberos.{Kerberos}
use Rattle.krb_context.specs.declared.rules.Rules.{Rules}
use Rattle.krb_context.specs.declared.params.EncryptionParams.{EncryptionParams}
use Rattle.krb_context.specs.declared.state.KerberosState.{KerberosState}
use Rattle.krb_context.specs.Contexts.{is_acceptor}
use Rattle.krb_context.specs.Rules.{has_rule, subkey_flag_by_origin}
use Rattle.krb_context.specs.Params.{suite_of, key_of}
use Rattle.krb_context.specs.States.{is_final}

-- the key of messages, once the exchange is over
abbrev pub ready_key : KerberosState → EncryptionParams → Option (List ℕ)
ready_key state params = if is_final state then key_of params else None

-- the usage of a side's wrap tokens
abbrev pub seal_usage : Bool → ℕ
seal_usage acceptor = if acceptor then 22 else 24

-- the usage of a side's MIC tokens
abbrev pub sign_usage : Bool → ℕ
sign_usage acceptor = if acceptor then 23 else 25

-- AcceptorSubkey, the flag that the acceptor chose the key, is written always, and where it is allowed exactly where the sub-session key
-- came in an AP-REP (RFC 4121, section 4.2.2)
abbrev pub has_subkey_flag : Rules → EncryptionParams → Bool
has_subkey_flag rules params = not (has_rule rules subkey_flag_by_origin) || params.acceptor_subkey

-- the flags that a side writes: its own mark, that the text is sealed, and perhaps that the acceptor chose the key
abbrev pub seal_flags : Bool → Bool → ℕ
seal_flags subkey acceptor = if acceptor then (if subkey then 7 else 3) else (if subkey then 6 else 2)

-- the same of a MIC token, which is not sealed
abbrev pub sign_flags : Bool → Bool → ℕ
sign_flags subkey acceptor = if acceptor then (if subkey then 5 else 1) else (if subkey then 4 else 0)

-- those that an end writes
abbrev pub writes_subkey : Kerberos → Bool
writes_subkey context = has_subkey_flag context.rules context.encryption_params

abbrev pub own_seal_flags : Kerberos → ℕ
own_seal_flags context = seal_flags (writes_subkey context) (is_acceptor context)

abbrev pub own_sign_flags : Kerberos → ℕ
own_sign_flags context = sign_flags (writes_subkey context) (is_acceptor context)

-- the keys of a side's sealed messages under a key
abbrev pub keys_of : EncryptionParams → List ℕ → Bool → SealingPair
keys_of params key acceptor = sealing_pair (suite_of params) key (seal_usage acceptor)
