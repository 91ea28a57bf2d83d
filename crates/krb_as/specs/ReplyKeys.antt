-- The key that an AS-REP brings (RFC 4120, section 3.1.5).
use Rattle.std.specs.Prelude.{ℕ, List, Result}
use Rattle.krb_crypto.specs.Suite.{suite_of_etype}
use Rattle.krb_exchange.specs.declared.kdc_rep.AsRep.{AsRep}
use Rattle.sspi_core.specs.declared.identity.CredentialsBuffers.{CredentialsBuffers}
use Rattle.sspi_core.specs.declared.cause.Cause.{Cause}
use Rattle.sspi_core.specs.Checks.{◌>>=◌}
use Rattle.krb_context.specs.declared.rules.Rules.{Rules}
use Rattle.krb_replies.specs.Salts.{TellsEtype}
use Rattle.krb_replies.specs.Keys.{BringsFirst}
use Rattle.krb_replies.specs.declared.keys.ReplyKey.{ReplyKey}
use Rattle.krb_as.specs.Askers.{client_key}

-- the AS-REP names the suite and the salt of the client's key, and is encrypted under that key; used is the salt of the request
unfoldable pub TakesReplyKey : Rules → CredentialsBuffers → List ℕ → AsRep → Result ReplyKey Cause → Type 0
TakesReplyKey rules credentials used as_rep = do
  hint ← TellsEtype used as_rep
  BringsFirst rules (suite_of_etype hint.0) (client_key (suite_of_etype hint.0) hint.1 credentials) as_rep
