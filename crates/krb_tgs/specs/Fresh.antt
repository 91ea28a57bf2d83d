-- A TGS-REP answers the TGS-REQ of this exchange (RFC 4120, section 3.3.4; RFC 6806, section 8).
use Rattle.std.specs.Prelude.{ℕ, ◌&&◌, ◌||◌, Bool, List, Option, None, is_some, Result, bytes_eq, if◌then◌else◌}
use Rattle.std.specs.Int.{w32, from_be_bytes}
use Rattle.krb_exchange.specs.declared.kdc_rep.KdcRep.{KdcRep}
use Rattle.krb_context.specs.declared.rules.Rules.{Rules}
use Rattle.krb_context.specs.Rules.{has_rule, fresh_replies}
use Rattle.krb_replies.specs.declared.facts.ReplyFacts.{ReplyFacts}
use Rattle.krb_replies.specs.Fresh.{has_value, same_components, AnswersRequest}
use Rattle.krb_replies.specs.Realms.{referral_realm}
use Rattle.sspi_core.specs.declared.draw.Draw.{Draw}
use Rattle.sspi_core.specs.declared.cause.Cause.{Cause}
use Rattle.krb_tgs.specs.declared.fresh.TgsQuestion.{TgsQuestion}
use Rattle.krb_tgs.specs.TgsAsked.{drawn_nonce, service_of}

-- the question of a request that shows the ticket of this reply: its nonce, and the client of the reply
abbrev pub question_of : KdcRep → Draw → TgsQuestion
question_of rep draw = record { nonce = from_be_bytes w32 (drawn_nonce draw); crealm = rep.crealm; cname = rep.cname }

-- the ticket is for the same client
abbrev pub names_client : TgsQuestion → KdcRep → Bool
names_client question rep = bytes_eq rep.crealm question.crealm && same_components rep.cname.name_string question.cname.name_string

-- the ticket is for the target, by the encrypted part
abbrev pub is_for_target : List ℕ → ReplyFacts → Bool
is_for_target target facts = same_components facts.sname.name_string (service_of target)

-- the ticket is one of the realm whose KDC was asked, for the target or for the ticket-granting service of another realm, by the
-- encrypted part and by the clear part
abbrev pub names_service : List ℕ → List ℕ → KdcRep → ReplyFacts → Bool
names_service target realm rep facts =
    bytes_eq facts.srealm realm && same_components facts.sname.name_string rep.ticket.sname.name_string
    && (is_some (referral_realm rep.ticket.sname) || is_for_target target facts)

-- the reply has the nonce and the names of the request, and a ticket that is valid at this moment
abbrev pub AnswersTgsReq : List ℕ → List ℕ → TgsQuestion → ℕ → KdcRep → ReplyFacts → Result (Unit {0}) Cause → Type 0
AnswersTgsReq target realm question moment rep facts =
    AnswersRequest (has_value question.nonce facts.nonce) (names_client question rep && names_service target realm rep facts) moment facts

-- the realm that a ticket refers to, by its clear name; None if it is the target's. If a reply answers its request, a ticket for
-- the target is the target's, even one for a service called krbtgt
abbrev pub referral_of : Rules → List ℕ → ReplyFacts → KdcRep → Option (List ℕ)
referral_of rules target facts rep =
    if has_rule rules fresh_replies && is_for_target target facts then None else referral_realm rep.ticket.sname
