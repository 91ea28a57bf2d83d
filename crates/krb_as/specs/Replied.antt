-- The replies of a KDC in an exchange (RFC 4120, sections 3.1.3 to 3.1.5).
use Rattle.std.specs.Prelude.{ℕ, Bool, true, false, List, Result, Ok, Err, unwrap_or}
use Rattle.krb_der.specs.Reading.{number_of}
use Rattle.krb_der.specs.Layout.{Layout}
use Rattle.krb_crypto.specs.declared.suite.CipherSuite.{CipherSuite}
use Rattle.krb_exchange.specs.declared.krb_error.KrbError.{KrbError}
use Rattle.krb_exchange.specs.declared.kdc_rep.AsRep.{AsRep}
use Rattle.krb_exchange.specs.declared.result.KrbResult.{KrbResult}
use Rattle.krb_exchange.specs.declared.result.KrbResult.TheVariants.{Ok as Reply, Err as Refusal}
use Rattle.krb_exchange.specs.Layouts.{as_rep_layout}
use Rattle.krb_context.specs.declared.rules.Rules.{Rules}
use Rattle.krb_context.specs.Rules.{has_rule, no_preauthentication}
use Rattle.sspi_core.specs.declared.protocol.NetworkProtocol.{NetworkProtocol}
use Rattle.sspi_core.specs.declared.cause.Cause.{Cause}
use Rattle.sspi_core.specs.declared.cause.Cause.TheVariants.{EarlyAsRep, Kdc}
use Rattle.sspi_core.specs.Checks.{Holds, Gives, ◌>>=◌, ◌>>◌}
use Rattle.sspi_generator.specs.declared.network.NetFault.{NetFault}
use Rattle.krb_as.specs.Replies.{Replies}
use Rattle.krb_replies.specs.Told.{Hands}
use Rattle.krb_replies.specs.Salts.{NamesSalt, NamesSuite}
use Rattle.krb_as.specs.declared.asker.Asker.{Asker}
use Rattle.krb_as.specs.Askers.{asker_suite, suite_told}

-- the reply in the place of an error
abbrev pub reply_in : {A : Type 0} → KrbResult A → Result A Cause
reply_in (Reply reply) = Ok reply
reply_in (Refusal error) = Err (Kdc (number_of error.error_code))

-- the salt after an error that answers the first request of an AS exchange: the one that the error names, otherwise the default one
unfoldable pub LeavesSalt : List ℕ → KrbError → Result (List ℕ) Cause → Type 0
LeavesSalt default error = do
  salt ← NamesSalt error
  Gives (unwrap_or salt default)

-- and the suite of the key that the time is sealed under: the asker's, or, where each key goes by its own, the one that the error names
-- for a password's key, if it is known (RFC 4120, section 3.1.3)
unfoldable pub TellsSuite : Asker → KrbError → Result CipherSuite Cause → Type 0
TellsSuite asker error = do
  named ← NamesSuite error
  Gives (suite_told asker named)

abbrev pub LeavesSuite : Bool → Asker → KrbError → Result CipherSuite Cause → Type 0
LeavesSuite false asker error answer = Gives (asker_suite asker) answer
LeavesSuite true asker error answer = TellsSuite asker error answer

-- the first reply of an AS exchange is an error that leaves this salt
pub record LeavesFirst (protocol : NetworkProtocol) (default : List ℕ) (reply : Result (List ℕ) NetFault) (salt : List ℕ) : Type 0 where
  pub error : KrbError
  pub replies : Replies protocol as_rep_layout reply (Ok (Refusal error))
  pub leaves : LeavesSalt default error (Ok salt)

-- an AS-REP in the place of that error: the KDC asks for no pre-authentication, which is to be allowed (RFC 4120, section 3.1.3). It is
-- taken as the second reply is
unfoldable pub TakesEarly : {A : Type 0} → Rules → (AsRep → Result A Cause → Type 0) → AsRep → Result A Cause → Type 0
TakesEarly rules next as_rep = do
  Holds EarlyAsRep (has_rule rules no_preauthentication)
  next as_rep

-- the first reply of an AS exchange: what follows an error, and what follows an AS-REP
abbrev pub TakesEither : {A : Type 0} → Rules → (KrbError → Result A Cause → Type 0) → (AsRep → Result A Cause → Type 0) → KrbResult AsRep
    → Result A Cause → Type 0
TakesEither rules behind next (Refusal error) answer = behind error answer
TakesEither rules behind next (Reply as_rep) answer = TakesEarly rules next as_rep answer

unfoldable pub TakesFirst : {A : Type 0} → Rules → NetworkProtocol → (KrbError → Result A Cause → Type 0) → (AsRep → Result A Cause → Type 0)
    → Result (List ℕ) NetFault → Result A Cause → Type 0
TakesFirst rules protocol behind next reply = do
  result ← Replies protocol as_rep_layout reply
  TakesEither rules behind next result

-- a reply that was asked for, and no error
unfoldable pub Grants : {A : Type 0} → NetworkProtocol → Layout A → Result (List ℕ) NetFault → Result A Cause → Type 0
Grants protocol layout reply = do
  result ← Replies protocol layout reply
  Hands (reply_in result)
