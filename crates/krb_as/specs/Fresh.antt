-- Whether an AS-REP answers the AS-REQ of this exchange (RFC 4120, section 3.1.5; RFC 6806, section 6).
use Rattle.std.specs.Prelude.{ℕ, ◌&&◌, ◌||◌, Bool, false, pos, List, Option, Some, None, Result, bytes_eq}
use Rattle.krb_messages.specs.declared.principal_name.PrincipalName.{PrincipalName}
use Rattle.krb_exchange.specs.declared.kdc_rep.AsRep.{AsRep}
use Rattle.krb_exchange.specs.declared.kdc_rep.KdcRep.{KdcRep}
use Rattle.krb_exchange.specs.declared.kdc_req.KdcReqBody.{KdcReqBody}
use Rattle.krb_context.specs.Rules.{has_rule, fresh_replies}
use Rattle.krb_replies.specs.declared.facts.ReplyFacts.{ReplyFacts}
use Rattle.krb_replies.specs.declared.keys.ReplyKey.{ReplyKey}
use Rattle.krb_replies.specs.Fresh.{is_number, repeats_nonce, same_components, AnswersRequest, AskedFor}
use Rattle.sspi_core.specs.declared.cause.Cause.{Cause}
use Rattle.sspi_core.specs.Checks.{Gives, ◌>>=◌, ◌>>◌}
use Rattle.krb_as.specs.declared.asker.Asker.{Asker}
use Rattle.krb_as.specs.ReplyKeys.{TakesReplyKey}

-- the name that was asked for, by its components
abbrev pub is_asked : Option PrincipalName → PrincipalName → Bool
is_asked None name = false
is_asked (Some asked) name = same_components asked.name_string name.name_string

-- an enterprise name represents another name, by which the KDC may replace it if it is asked to canonicalize, as each AS-REQ of this
-- client asks (RFC 6806, sections 5 and 6)
abbrev pub is_alias : Option PrincipalName → Bool
is_alias None = false
is_alias (Some name) = is_number name.name_type (pos 10)

-- the ticket is for the client that was asked for
abbrev pub names_client : KdcReqBody → KdcRep → Bool
names_client body rep = bytes_eq rep.crealm body.realm && (is_alias body.cname || is_asked body.cname rep.cname)

-- and, by what is sealed, for the service that was asked for
abbrev pub names_service : KdcReqBody → ReplyFacts → Bool
names_service body facts = bytes_eq facts.srealm body.realm && is_asked body.sname facts.sname

-- the reply has the nonce and the names of the request, and a ticket that is valid at this moment
abbrev pub AnswersAsReq : KdcReqBody → ℕ → KdcRep → ReplyFacts → Result (Unit {0}) Cause → Type 0
AnswersAsReq body moment rep facts = AnswersRequest (repeats_nonce body.nonce facts) (names_client body rep && names_service body facts) moment facts

-- the key of an AS-REP, which answers the request where that is a rule; used is the salt of the request
unfoldable pub TakesFreshKey : Asker → KdcReqBody → ℕ → List ℕ → AsRep → Result ReplyKey Cause → Type 0
TakesFreshKey asker body moment used as_rep = do
  taken ← TakesReplyKey asker.rules asker.credentials used as_rep
  AskedFor (has_rule asker.rules fresh_replies) (AnswersAsReq body moment as_rep.0 taken.facts)
  Gives taken
