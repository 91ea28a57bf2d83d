-- The facts that are known after a step of an AS exchange within a run that was not refused.
use Rattle.std.proofs.Common.{◌≡◌, inl, inr, ℕ, true, List, Result, Ok, refl, sym, ap, ◌∙◌, subst}
use Rattle.std.specs.Prelude.{◌⊎◌}
use Rattle.sspi_core.proofs.Chain.{passed, gave, held, follows}
use Rattle.krb_exchange.specs.declared.kdc_rep.AsRep.{AsRep}
use Rattle.krb_exchange.specs.declared.kdc_req.KdcReqBody.{KdcReqBody}
use Rattle.krb_exchange.specs.declared.krb_error.KrbError.{KrbError}
use Rattle.krb_exchange.specs.declared.result.KrbResult.{KrbResult}
use Rattle.krb_exchange.specs.declared.result.KrbResult.TheVariants.{Ok as Reply, Err as Refusal}
use Rattle.krb_exchange.specs.Layouts.{as_rep_layout}
use Rattle.krb_context.specs.declared.rules.Rules.{Rules}
use Rattle.krb_context.specs.Rules.{has_rule, no_preauthentication, fresh_replies}
use Rattle.krb_replies.specs.declared.keys.ReplyKey.{ReplyKey}
use Rattle.krb_replies.specs.Fresh.{AskedFor}
use Rattle.sspi_core.specs.declared.cause.Cause.{Cause}
use Rattle.sspi_core.specs.declared.cause.Cause.TheVariants.{EarlyAsRep}
use Rattle.sspi_core.specs.declared.draw.Draw.{Draw}
use Rattle.sspi_core.specs.declared.protocol.NetworkProtocol.{NetworkProtocol}
use Rattle.sspi_generator.specs.declared.network.NetFault.{NetFault}
use Rattle.sspi_generator.specs.declared.network.NetworkRequest.{NetworkRequest}
use Rattle.krb_as.specs.declared.asker.Asker.{Asker}
use Rattle.krb_as.specs.declared.as_phase.AsPhase.{AsPhase}
use Rattle.krb_as.specs.declared.as_phase.AsPhase.TheVariants.{AwaitsError, AwaitsAsRep}
use Rattle.krb_as.specs.declared.kdc.Kdc.{Kdc}
use Rattle.krb_as.specs.declared.key.Grant.{Grant}
use Rattle.krb_as.specs.declared.key.SealedTime.{SealedTime}
use Rattle.krb_as.specs.declared.turn.Turn.{Turn}
use Rattle.krb_as.specs.declared.turn.Turn.TheVariants.{Asks}
use Rattle.krb_as.specs.Askers.{default_salt}
use Rattle.krb_as.specs.Replied.{LeavesSalt, LeavesFirst, TakesEarly, TakesEither, TakesFirst, Grants}
use Rattle.krb_as.specs.Replies.{Replies}
use Rattle.krb_as.specs.ReplyKeys.{TakesReplyKey}
use Rattle.krb_as.specs.Fresh.{AnswersAsReq, TakesFreshKey}
use Rattle.krb_as.specs.Turns.{Within}
use Rattle.krb_as.specs.AsPhases.{BeginsExchange, SealsTime, AsksSecond, BringsGrant, TakesAsRep, BeginsWithin, TakesReplyWithin}

-- a ticket was taken from an AS-REP
pub record AsTaken (asker : Asker) (protocol : NetworkProtocol) (body : KdcReqBody) (moment : ℕ) (used : List ℕ) (reply : Result (List ℕ) NetFault) (grant : Grant) : Type 0 where
  pub rep : AsRep
  pub granted : Grants protocol as_rep_layout reply (Ok rep)
  pub opened : TakesReplyKey asker.rules asker.credentials used rep (Ok (record { suite = grant.suite; key = grant.key; facts = grant.facts }))
  pub fresh : AskedFor (has_rule asker.rules fresh_replies) (AnswersAsReq body moment grant.rep grant.facts) (Ok tt)
  pub brought : grant.rep ≡ rep.0

-- ---- the first reply: an error, or an AS-REP where no pre-authentication is let pass

module _ {A : Type 0} (rules : Rules) (protocol : NetworkProtocol) (behind : KrbError → Result A Cause → Type 0)
    (next : AsRep → Result A Cause → Type 0) (reply : Result (List ℕ) NetFault) (value : A) where
  pub record CameError : Type 0 where
    pub error : KrbError
    pub replies : Replies protocol as_rep_layout reply (Ok (Refusal error))
    pub rest : behind error (Ok value)

  pub record CameEarly : Type 0 where
    pub rep : AsRep
    pub replies : Replies protocol as_rep_layout reply (Ok (Reply rep))
    pub allowed : has_rule rules no_preauthentication ≡ true
    pub rest : next rep (Ok value)

  either : (result : KrbResult AsRep) → Replies protocol as_rep_layout reply (Ok result) → TakesEither rules behind next result (Ok value) → CameError ⊎ CameEarly
  unfolding TakesEarly
  either (Refusal error) r h = inl (record { error = error; replies = r; rest = h })
  either (Reply rep) r h =
      let may = passed _ _ _ h in
      inr (record { rep = rep; replies = r; allowed = held EarlyAsRep (has_rule rules no_preauthentication) may.found may.first_held; rest = may.rest_held })

  pub first_taken : TakesFirst rules protocol behind next reply (Ok value) → CameError ⊎ CameEarly
  unfolding TakesFirst
  first_taken h = let result = passed _ _ _ h in either result.found result.first_held result.rest_held

early_granted : (protocol : NetworkProtocol) (reply : Result (List ℕ) NetFault) (rep : AsRep) → Replies protocol as_rep_layout reply (Ok (Reply rep)) → Grants protocol as_rep_layout reply (Ok rep)
unfolding Grants
early_granted protocol reply rep h = follows _ _ (Reply rep) _ h (record { is = refl })

module _ {P O : Type 0} (within : AsPhase → P) where
  -- the first request was sent there
  pub record AskedFirst (body : KdcReqBody) (turn : Turn P O) : Type 0 where
    pub request : NetworkRequest
    pub kdc : Kdc
    pub is : turn ≡ Asks request (within (AwaitsError kdc body))

  pub asked_first : (asker : Asker) (body : KdcReqBody) (turn : Turn P O) → BeginsWithin within asker body (Ok turn) → AskedFirst body turn
  unfolding BeginsWithin BeginsExchange
  asked_first asker body turn h =
      let sent = passed _ _ _ h in
      let kdc = passed _ _ _ sent.first_held in
      record {
        request = sent.found.0;
        kdc = kdc.found;
        is = gave _ _ sent.rest_held ∙ ap (λ (phase : AsPhase). Asks sent.found.0 (within phase)) (ap (λ (s : NetworkRequest × AsPhase). s.1) (gave _ _ kdc.rest_held));
      }

  -- the second one was sent, with the salt that the error left
  pub record AskedSecond (asker : Asker) (kdc : Kdc) (body : KdcReqBody) (reply : Result (List ℕ) NetFault) (turn : Turn P O) : Type 0 where
    pub request : NetworkRequest
    pub sealed : SealedTime
    pub is : turn ≡ Asks request (within (AwaitsAsRep sealed))
    pub names : LeavesFirst kdc.protocol (default_salt asker.credentials) reply sealed.salt
    pub same : sealed.body ≡ body

  pub asked_second : (asker : Asker) (kdc : Kdc) (body : KdcReqBody) (reply : Result (List ℕ) NetFault) (draw : Draw) (error : KrbError) (turn : Turn P O)
      → Replies kdc.protocol as_rep_layout reply (Ok (Refusal error)) → AsksSecond within asker kdc body draw error (Ok turn) → AskedSecond asker kdc body reply turn
  unfolding AsksSecond SealsTime
  asked_second asker kdc body reply draw error turn replies h =
      let sent = passed _ _ _ h in
      let salt = passed _ _ _ sent.first_held in
      let suite = passed _ _ _ salt.rest_held in
      let key = passed _ _ _ suite.rest_held in
      record {
        request = sent.found.0;
        sealed = sent.found.1;
        is = gave _ _ sent.rest_held;
        names = record {
          error = error;
          replies = replies;
          leaves =
              subst (λ (s : List ℕ). LeavesSalt (default_salt asker.credentials) error (Ok s))
              (sym (ap (λ (s : NetworkRequest × SealedTime). s.1.salt) (gave _ _ key.rest_held))) salt.first_held;
        };
        same = ap (λ (s : NetworkRequest × SealedTime). s.1.body) (gave _ _ key.rest_held);
      }

-- a ticket was taken from this reply, with this salt if the reply names none, and the run went on with it
pub record WentOn {P O : Type 0} (next : Grant → Result (Turn P O) Cause → Type 0) (asker : Asker) (protocol : NetworkProtocol) (body : KdcReqBody) (moment : ℕ) (used : List ℕ)
    (reply : Result (List ℕ) NetFault) (turn : Turn P O) : Type 0 where
  pub grant : Grant
  pub taken : AsTaken asker protocol body moment used reply grant
  pub rest : next grant (Ok turn)

-- so it did at once
pub record WentOnEarly {P O : Type 0} (next : Grant → Result (Turn P O) Cause → Type 0) (asker : Asker) (kdc : Kdc) (body : KdcReqBody) (moment : ℕ)
    (reply : Result (List ℕ) NetFault) (turn : Turn P O) : Type 0 where
  pub allowed : has_rule asker.rules no_preauthentication ≡ true
  pub on : WentOn next asker kdc.protocol body moment (default_salt asker.credentials) reply turn

module _ {P O : Type 0} (within : AsPhase → P) (next : Grant → Result (Turn P O) Cause → Type 0) (asker : Asker) (reply : Result (List ℕ) NetFault) (draw : Draw) (turn : Turn P O) where
  -- an AS-REP was opened
  brought_on : (protocol : NetworkProtocol) (body : KdcReqBody) (used : List ℕ) (rep : AsRep) (inner : Turn AsPhase Grant) → Grants protocol as_rep_layout reply (Ok rep)
      → BringsGrant asker body draw.moment used rep (Ok inner) → Within within next inner (Ok turn) → WentOn next asker protocol body draw.moment used reply turn
  unfolding BringsGrant TakesFreshKey
  brought_on protocol body used rep inner granted h rest =
      let taken = passed _ _ _ h in
      let key = passed _ _ _ taken.first_held in
      let answers = passed _ _ _ key.rest_held in
      let is : taken.found ≡ key.found = gave _ _ answers.rest_held in
      record {
        grant = record { suite = taken.found.suite; key = taken.found.key; facts = taken.found.facts; rep = rep.0 };
        taken = record {
          rep = rep;
          granted = granted;
          opened = subst (λ (k : ReplyKey). TakesReplyKey asker.rules asker.credentials used rep (Ok k)) (sym is) key.first_held;
          fresh = subst (λ (k : ReplyKey). AskedFor (has_rule asker.rules fresh_replies) (AnswersAsReq body draw.moment rep.0 k.facts) (Ok tt)) (sym is) answers.first_held;
          brought = refl;
        };
        rest = subst (λ (t : Turn AsPhase Grant). Within within next t (Ok turn)) (gave _ _ taken.rest_held) rest;
      }

  pub error_taken : (kdc : Kdc) (body : KdcReqBody) → TakesReplyWithin within next asker (AwaitsError kdc body) reply draw (Ok turn)
      → AskedSecond within asker kdc body reply turn ⊎ WentOnEarly next asker kdc body draw.moment reply turn
  unfolding TakesReplyWithin
  error_taken kdc body h = let inner = passed _ _ _ h in came inner.found inner.rest_held (first_taken _ _ _ _ _ _ inner.first_held)
    where
      came : (inner : Turn AsPhase Grant) → Within within next inner (Ok turn)
          → CameError asker.rules kdc.protocol (AsksSecond (λ phase. phase) asker kdc body draw) (BringsGrant asker body draw.moment (default_salt asker.credentials)) reply inner
          ⊎ CameEarly asker.rules kdc.protocol (AsksSecond (λ phase. phase) asker kdc body draw) (BringsGrant asker body draw.moment (default_salt asker.credentials)) reply inner
          → AskedSecond within asker kdc body reply turn ⊎ WentOnEarly next asker kdc body draw.moment reply turn
      came inner rest (inl first) =
          let asked = asked_second (λ phase. phase) asker kdc body reply draw first.error inner first.replies first.rest in
          inl (record {
            request = asked.request;
            sealed = asked.sealed;
            is = gave _ _ (subst (λ (t : Turn AsPhase Grant). Within within next t (Ok turn)) asked.is rest);
            names = asked.names;
            same = asked.same;
          })
      came inner rest (inr early) =
          inr (record {
            allowed = early.allowed;
            on = brought_on kdc.protocol body (default_salt asker.credentials) early.rep inner (early_granted kdc.protocol reply early.rep early.replies) early.rest rest;
          })

  pub as_rep_taken : (sealed : SealedTime) → TakesReplyWithin within next asker (AwaitsAsRep sealed) reply draw (Ok turn) → WentOn next asker sealed.kdc.protocol sealed.body draw.moment sealed.salt reply turn
  unfolding TakesReplyWithin TakesAsRep
  as_rep_taken sealed h =
      let inner = passed _ _ _ h in
      let rep = passed _ _ _ inner.first_held in
      brought_on sealed.kdc.protocol sealed.body sealed.salt rep.found inner.found rep.first_held rep.rest_held inner.rest_held
