-- The answers of a service: an AP-REP (RFC 4120, section 5.5.2), and a KRB-PRIV with the result of a change of a password
-- (RFC 3244, section 2).
use Rattle.std.specs.Prelude.{ℕ, ◌+◌, ◌*◌, List, [], ◌∷◌, Option, Some, None, Result, option_map}
use Rattle.krb_crypto.specs.declared.suite.CipherSuite.{CipherSuite}
use Rattle.krb_messages.specs.declared.ap_rep.ApRep.{ApRep}
use Rattle.krb_messages.specs.declared.ap_rep.EncApRepPart.{EncApRepPart}
use Rattle.krb_messages.specs.declared.encryption.EncryptionKey.{EncryptionKey}
use Rattle.krb_messages.specs.Layouts.{enc_ap_rep_part_layout}
use Rattle.krb_exchange.specs.declared.krb_priv.KrbPriv.{KrbPriv}
use Rattle.krb_exchange.specs.Layouts.{enc_krb_priv_part_layout}
use Rattle.sspi_core.specs.declared.cause.Cause.{Cause}
use Rattle.sspi_core.specs.declared.cause.Cause.TheVariants.{Etype, UserData, NoNumber, NoSubKey}
use Rattle.sspi_core.specs.Checks.{Takes, ◌>>=◌}
use Rattle.krb_replies.specs.Unseals.{OpensSealed, own_key, session_key, suite_of_integer}

-- what an AP-REP seals under the session key of the ticket, with usage 12
unfoldable pub OpensApRep : CipherSuite → List ℕ → ApRep → Result EncApRepPart Cause → Type 0
OpensApRep suite key ap_rep = OpensSealed enc_ap_rep_part_layout session_key suite key 12 ap_rep.enc_part.cipher

-- the octets of its number
unfoldable pub TellsNumber : CipherSuite → List ℕ → ApRep → Result (List ℕ) Cause → Type 0
TellsNumber suite key ap_rep = do
  part ← OpensApRep suite key ap_rep
  Takes NoNumber part.seq_number

-- the key that the service chose
unfoldable pub TellsSubKey : CipherSuite → List ℕ → ApRep → Result (List ℕ) Cause → Type 0
TellsSubKey suite key ap_rep = do
  part ← OpensApRep suite key ap_rep
  Takes NoSubKey (option_map (λ (subkey : EncryptionKey). subkey.key_value) part.subkey)

-- the suite that was chosen, otherwise that of the encrypted part
abbrev pub suite_or : Option CipherSuite → List ℕ → Option CipherSuite
suite_or None etype = suite_of_integer etype
suite_or (Some suite) etype = Some suite

-- the result code, in two octets, the highest first
abbrev pub status_in : List ℕ → Option ℕ
status_in [] = None
status_in (high ∷ []) = None
status_in (high ∷ (low ∷ text)) = Some (256 * high + low)

-- the code in a KRB-PRIV, which is sealed with usage 13
unfoldable pub TellsStatus : Option CipherSuite → List ℕ → KrbPriv → Result ℕ Cause → Type 0
TellsStatus chosen key krb_priv = do
  suite ← Takes Etype (suite_or chosen krb_priv.enc_part.etype)
  part ← OpensSealed enc_krb_priv_part_layout own_key suite key 13 krb_priv.enc_part.cipher
  Takes UserData (status_in part.user_data)
