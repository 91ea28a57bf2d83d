-- The AS exchange (RFC 4120, section 3.1), step by step, as each run contains it: one request without pre-authentication, whose error may
-- name the salt, and one with the time sealed under the client's key, whose reply brings a ticket and its session key. Where it is allowed,
-- the first reply may bring the ticket.
use Rattle.std.specs.Prelude.{◌≡◌, ℕ, ◌≤◌, ◌^◌, List, length, Result, Ok, Err}
use Rattle.krb_exchange.specs.declared.kdc_rep.AsRep.{AsRep}
use Rattle.krb_exchange.specs.declared.kdc_req.KdcReqBody.{KdcReqBody}
use Rattle.krb_exchange.specs.declared.krb_error.KrbError.{KrbError}
use Rattle.krb_exchange.specs.Layouts.{as_rep_layout, kdc_req_body_layout}
use Rattle.krb_crypto.specs.declared.suite.CipherSuite.{CipherSuite}
use Rattle.krb_context.specs.Rules.{has_rule, suite_of_each_key}
use Rattle.sspi_core.specs.declared.cause.Cause.{Cause}
use Rattle.sspi_core.specs.declared.cause.Cause.TheVariants.{KeyLength}
use Rattle.sspi_core.specs.declared.draw.Draw.{Draw}
use Rattle.sspi_core.specs.Checks.{Takes, Gives, ◌>>=◌}
use Rattle.sspi_generator.specs.declared.network.NetworkRequest.{NetworkRequest}
use Rattle.sspi_generator.specs.declared.network.NetFault.{NetFault}
use Rattle.krb_requests.specs.Pieces.{Fits}
use Rattle.krb_replies.specs.declared.keys.ReplyKey.{ReplyKey}
use Rattle.krb_as.specs.declared.asker.Asker.{Asker}
use Rattle.krb_as.specs.declared.as_phase.AsPhase.{AsPhase}
use Rattle.krb_as.specs.declared.as_phase.AsPhase.TheVariants.{AwaitsError, AwaitsAsRep}
use Rattle.krb_as.specs.declared.kdc.Kdc.{Kdc}
use Rattle.krb_as.specs.declared.key.Grant.{Grant}
use Rattle.krb_as.specs.declared.key.SealedTime.{SealedTime}
use Rattle.krb_as.specs.declared.turn.Turn.{Turn}
use Rattle.krb_as.specs.declared.turn.Turn.TheVariants.{Asks, Ends}
use Rattle.krb_as.specs.Asked.{first_request, second_request}
use Rattle.krb_as.specs.Askers.{client_key, default_salt, sized_key}
use Rattle.krb_as.specs.Granted.{IsSendable}
use Rattle.krb_as.specs.Kdcs.{FindsKdc}
use Rattle.krb_as.specs.Replied.{LeavesSalt, LeavesSuite, TakesFirst, Grants}
use Rattle.krb_as.specs.Fresh.{TakesFreshKey}
use Rattle.krb_as.specs.Turns.{Within}

-- the start: the first request goes to the realm's KDC, and an error is awaited
unfoldable pub BeginsExchange : Asker → KdcReqBody → Result (NetworkRequest × AsPhase) Cause → Type 0
BeginsExchange asker body = do
  kdc ← FindsKdc asker.kdc_url asker.env asker.realm
  Gives (first_request kdc body, AwaitsError kdc body)

-- the second request, with this key
abbrev pub sealed_time : Kdc → KdcReqBody → CipherSuite → List ℕ → List ℕ → SealedTime
sealed_time kdc body suite salt key = record { kdc = kdc; body = body; suite = suite; salt = salt; key = key }

-- the error: the second request goes to the same KDC, with the same body
unfoldable pub SealsTime : Asker → Kdc → KdcReqBody → Draw → KrbError → Result (NetworkRequest × SealedTime) Cause → Type 0
SealsTime asker kdc body draw error = do
  salt ← LeavesSalt (default_salt asker.credentials) error
  suite ← LeavesSuite (has_rule asker.rules suite_of_each_key) asker error
  key ← Takes KeyLength (sized_key asker suite salt)
  Gives (second_request suite key draw kdc body, sealed_time kdc body suite salt key)

-- and an AS-REP is awaited, within a run
unfoldable pub AsksSecond : {P O : Type 0} → (AsPhase → P) → Asker → Kdc → KdcReqBody → Draw → KrbError
    → Result (Turn P O) Cause → Type 0
AsksSecond within asker kdc body draw error = do
  sent ← SealsTime asker kdc body draw error
  Gives (Asks sent.0 (within (AwaitsAsRep sent.1)))

-- the ticket of an AS-REP, where its key was taken
abbrev pub grant_in : AsRep → Result ReplyKey Cause → Result (Turn AsPhase Grant) Cause
grant_in as_rep (Ok taken) = Ok (Ends (record { suite = taken.suite; key = taken.key; facts = taken.facts; rep = as_rep.0 }))
grant_in as_rep (Err cause) = Err cause

-- an AS-REP brings a ticket, and the key that is sealed in it under that of the credentials; body is what the request asked for, and used
-- its salt
unfoldable pub BringsGrant : Asker → KdcReqBody → ℕ → List ℕ → AsRep → Result (Turn AsPhase Grant) Cause → Type 0
BringsGrant asker body moment used as_rep = do
  taken ← TakesFreshKey asker body moment used as_rep
  Gives (Ends (record { suite = taken.suite; key = taken.key; facts = taken.facts; rep = as_rep.0 }))

unfoldable pub TakesAsRep : Asker → SealedTime → ℕ → Result (List ℕ) NetFault → Result (Turn AsPhase Grant) Cause → Type 0
TakesAsRep asker sealed moment reply = do
  as_rep ← Grants sealed.kdc.protocol as_rep_layout reply
  BringsGrant asker sealed.body moment sealed.salt as_rep

-- the turn after a reply. No salt was used if the first reply is an AS-REP, so the salt is then the one that the credentials have
abbrev pub TakesReply : Asker → AsPhase → Result (List ℕ) NetFault → Draw → Result (Turn AsPhase Grant) Cause → Type 0
TakesReply asker (AwaitsError kdc body) reply draw answer =
    TakesFirst asker.rules kdc.protocol (AsksSecond (λ phase. phase) asker kdc body draw)
    (BringsGrant asker body draw.moment (default_salt asker.credentials)) reply answer
TakesReply asker (AwaitsAsRep sealed) reply draw answer = TakesAsRep asker sealed draw.moment reply answer

-- ---- within a run

unfoldable pub BeginsWithin : {P O : Type 0} → (AsPhase → P) → Asker → KdcReqBody → Result (Turn P O) Cause → Type 0
BeginsWithin within asker body = do
  sent ← BeginsExchange asker body
  Gives (Asks sent.0 (within sent.1))

-- the run goes on after the ticket
unfoldable pub TakesReplyWithin : {P O : Type 0} → (AsPhase → P) → (Grant → Result (Turn P O) Cause → Type 0) → Asker → AsPhase
    → Result (List ℕ) NetFault → Draw → Result (Turn P O) Cause → Type 0
TakesReplyWithin within next asker phase reply draw = do
  turn ← TakesReply asker phase reply draw
  Within within next turn

-- ---- what is known of a phase

-- both requests go to one KDC
abbrev pub kdc_of : AsPhase → Kdc
kdc_of (AwaitsError kdc body) = kdc
kdc_of (AwaitsAsRep sealed) = sealed.kdc

-- the time was sealed under the client's key
pub record IsSealed (asker : Asker) (sealed : SealedTime) : Type 0 where
  pub realm : length sealed.kdc.realm ≤ 2 ^ 24
  pub key : sealed.key ≡ client_key sealed.suite sealed.salt asker.credentials

-- what is to be sent can be, and what was sent is the asker's
abbrev pub IsAwaiting : Asker → AsPhase → Type 0
IsAwaiting asker (AwaitsError kdc body) = Fits kdc_req_body_layout (2 ^ 28) body × (length kdc.realm ≤ 2 ^ 24)
IsAwaiting asker (AwaitsAsRep sealed) = IsSealed asker sealed

-- how often it may still ask
abbrev pub turns_left : AsPhase → ℕ
turns_left (AwaitsError kdc body) = 1
turns_left (AwaitsAsRep sealed) = 0

-- what it brings can be sent on
abbrev pub EndsSendable : Turn AsPhase Grant → Type 0
EndsSendable (Asks request phase) = Unit {0}
EndsSendable (Ends grant) = IsSendable grant.rep
