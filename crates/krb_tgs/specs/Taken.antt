-- The ticket and the key in a reply of a ticket-granting service (RFC 4120, section 3.3.4).
use Rattle.std.specs.Prelude.{ℕ, List, Result}
use Rattle.krb_crypto.specs.declared.suite.CipherSuite.{CipherSuite}
use Rattle.krb_exchange.specs.Layouts.{tgs_rep_layout}
use Rattle.sspi_core.specs.declared.cause.Cause.{Cause}
use Rattle.sspi_core.specs.Checks.{Gives, ◌>>=◌, ◌>>◌}
use Rattle.sspi_generator.specs.declared.network.NetFault.{NetFault}
use Rattle.krb_context.specs.declared.rules.Rules.{Rules}
use Rattle.krb_context.specs.Rules.{has_rule, fresh_replies}
use Rattle.krb_exchange.specs.declared.kdc_rep.TgsRep.{TgsRep}
use Rattle.krb_replies.specs.declared.keys.ReplyKey.{ReplyKey}
use Rattle.krb_replies.specs.Fresh.{AskedFor}
use Rattle.krb_replies.specs.Keys.{BringsNext}
use Rattle.krb_as.specs.Replied.{Grants}
use Rattle.krb_as.specs.declared.kdc.Kdc.{Kdc}
use Rattle.krb_as.specs.declared.key.Grant.{Grant}
use Rattle.krb_tgs.specs.declared.fresh.TgsQuestion.{TgsQuestion}
use Rattle.krb_tgs.specs.Fresh.{AnswersTgsReq}

-- the key in a TGS-REP that is encrypted under the session key of the ticket that was shown. By a rule it answers the request
unfoldable pub BringsFresh : Rules → List ℕ → List ℕ → TgsQuestion → ℕ → CipherSuite → List ℕ → TgsRep → Result ReplyKey Cause → Type 0
BringsFresh rules target realm question moment suite key tgs_rep = do
  next ← BringsNext rules suite key tgs_rep
  AskedFor (has_rule rules fresh_replies) (AnswersTgsReq target realm question moment tgs_rep.0 next.facts)
  Gives next

-- the grant in a reply; the target, the question and the KDC are those of the request, and the moment is that of the reply
unfoldable pub TakesTgsRep : Rules → List ℕ → TgsQuestion → ℕ → Kdc → CipherSuite → List ℕ → Result (List ℕ) NetFault → Result Grant Cause → Type 0
TakesTgsRep rules target question moment kdc suite key reply = do
  tgs_rep ← Grants kdc.protocol tgs_rep_layout reply
  next ← BringsFresh rules target kdc.realm question moment suite key tgs_rep
  Gives (record { suite = next.suite; key = next.key; facts = next.facts; rep = tgs_rep.0 })
