-- Which checks refuse because the network failed: none but the first one on a reply.
use Rattle.std.proofs.Common.{◌≡◌, ℕ, Bool, true, false, List, [], ◌∷◌, Option, Some, None, Result, Ok, Err, sym, ◌∙◌}
use Rattle.sspi_core.specs.declared.cause.Cause.{Cause}
use Rattle.sspi_core.specs.declared.cause.Cause.TheVariants.{Network, NoKdc, Scheme, ReplyShort, Shape, EarlyAsRep, KeyLength, Etype, Short, Altered, Inner, Nonce, ReplyNames, ReplyTime}
use Rattle.sspi_core.specs.declared.draw.Draw.{Draw}
use Rattle.sspi_core.specs.declared.protocol.NetworkProtocol.{NetworkProtocol}
use Rattle.sspi_core.specs.declared.protocol.NetworkProtocol.TheVariants.{Tcp, Udp, Http, Https}
use Rattle.sspi_core.specs.Checks.{Finds, Takes, Holds, Gives, Goes, Then}
use Rattle.sspi_core.proofs.Chain.{same_err}
use Rattle.sspi_generator.specs.declared.network.NetFault.{NetFault}
use Rattle.sspi_generator.specs.declared.network.NetFault.TheVariants.{Failed, OutOfMemory}
use Rattle.sspi_generator.specs.Steps.{IsFailure}
use Rattle.krb_der.specs.Layout.{Layout}
use Rattle.krb_exchange.specs.declared.result.KrbResult.{KrbResult}
use Rattle.krb_exchange.specs.declared.result.KrbResult.TheVariants.{Ok as Reply, Err as Refusal}
use Rattle.krb_exchange.specs.declared.kdc_req.KdcReqBody.{KdcReqBody}
use Rattle.krb_exchange.specs.declared.krb_error.KrbError.{KrbError}
use Rattle.krb_context.specs.declared.rules.Rules.{Rules}
use Rattle.krb_context.specs.Rules.{has_rule, suite_of_each_key, fresh_replies}
use Rattle.krb_as.specs.declared.kdc.Kdc.{Kdc}
use Rattle.krb_as.specs.Kdcs.{FindsKdc}
use Rattle.krb_as.specs.Replies.{Brings, Unproxies, Strips, Skips, Unpacks, Unwraps, Replies}
use Rattle.krb_replies.specs.Told.{Hands}
use Rattle.krb_crypto.specs.declared.suite.CipherSuite.{CipherSuite}
use Rattle.krb_exchange.specs.declared.enc_kdc_rep_part.EncKdcRepPart.{EncKdcRepPart}
use Rattle.krb_exchange.specs.declared.kdc_rep.AsRep.{AsRep}
use Rattle.krb_exchange.specs.declared.pa_data.EtypeInfo2Entry.{EtypeInfo2Entry}
use Rattle.krb_replies.specs.declared.facts.ReplyFacts.{ReplyFacts}
use Rattle.krb_replies.specs.Fresh.{AnswersRequest, AskedFor}
use Rattle.krb_replies.specs.Keys.{OpensFirst, HasSuite, TakesKey, BringsFirst}
use Rattle.krb_replies.specs.Salts.{NamesSalt, NamesSuite, entry_hint, first_hint, TellsEtype}
use Rattle.krb_replies.specs.Unseals.{suite_of_integer, Unseals}
use Rattle.sspi_core.specs.declared.identity.CredentialsBuffers.{CredentialsBuffers}
use Rattle.krb_as.specs.declared.asker.Asker.{Asker}
use Rattle.krb_as.specs.declared.as_phase.AsPhase.{AsPhase}
use Rattle.krb_as.specs.declared.as_phase.AsPhase.TheVariants.{AwaitsError, AwaitsAsRep}
use Rattle.krb_as.specs.declared.as_exchange.ExchangePhase.{ExchangePhase}
use Rattle.krb_as.specs.declared.as_exchange.ExchangePhase.TheVariants.{New, InAsExchange, Over}
use Rattle.krb_as.specs.declared.key.Grant.{Grant}
use Rattle.krb_as.specs.declared.turn.Turn.{Turn}
use Rattle.krb_as.specs.declared.turn.Turn.TheVariants.{Asks, Ends}
use Rattle.krb_as.specs.Askers.{asker_suite}
use Rattle.krb_as.specs.Replied.{reply_in, LeavesSalt, TellsSuite, LeavesSuite, TakesEarly, TakesEither, TakesFirst, Grants}
use Rattle.krb_as.specs.ReplyKeys.{TakesReplyKey}
use Rattle.krb_as.specs.Fresh.{AnswersAsReq, TakesFreshKey}
use Rattle.krb_as.specs.declared.key.SealedTime.{SealedTime}
use Rattle.krb_as.specs.Turns.{Within}
use Rattle.krb_as.specs.AsPhases.{BeginsExchange, SealsTime, AsksSecond, BringsGrant, TakesAsRep, TakesReply, BeginsWithin, TakesReplyWithin}
use Rattle.krb_as.specs.AsExchanges.{EndsWithAsRep, Starts, Next}

-- the network failed
abbrev pub IsNetwork : Cause → Type 0
IsNetwork cause = (code : ℕ) × (cause ≡ Network code)

-- if the checks refuse so, this holds
pub record Refuses {A : Type 0} (P : Type 0) (checks : Result A Cause → Type 0) : Type 0 where
  pub not : (e : Cause) → checks (Err e) → IsNetwork e → P

rest_refuses : {A B : Type 0} (P : Type 0) (first : Result A Cause → Type 0) (next : A → Result B Cause → Type 0) (m : Result A Cause) (e : Cause) → Refuses P first → ((a : A) → Refuses P (next a)) → first m → Goes next m (Err e) → IsNetwork e → P
rest_refuses P first next (Ok a) e one of h k z = (of a).not e k z
rest_refuses {A} {B} P first next (Err d) e one of h k z = one.not d h (z.0, sym (same_err {A = B} e d k) ∙ z.1)

pub then_refuses : {A B : Type 0} (P : Type 0) (first : Result A Cause → Type 0) (next : A → Result B Cause → Type 0) → Refuses P first → ((a : A) → Refuses P (next a)) → Refuses P (λ r. Then first next r)
then_refuses P first next one of = record { not = λ e h z. rest_refuses P first next h.middle e one of h.held h.rest z }

pub finds_refuses : {A : Type 0} (P : Type 0) (cause : Cause) (Q : A → Type 0) → (IsNetwork cause → P) → Refuses P (λ r. Finds cause Q r)
finds_refuses P cause Q never = record { not = λ e h z. never (z.0, sym h.is.0 ∙ z.1) }

take_refuses : {A : Type 0} (P : Type 0) (cause : Cause) (value : Option A) (e : Cause) → (IsNetwork cause → P) → Takes cause value (Err e) → IsNetwork e → P
take_refuses {A} P cause None e never h z = never (z.0, sym (same_err {A = A} e cause h.is) ∙ z.1)
take_refuses P cause (Some x) e never h z = let i = h.is in absurd cc

pub takes_refuses : {A : Type 0} (P : Type 0) (cause : Cause) (value : Option A) → (IsNetwork cause → P) → Refuses P (λ r. Takes cause value r)
takes_refuses P cause value never = record { not = λ e h z. take_refuses P cause value e never h z }

hold_refuses : (P : Type 0) (cause : Cause) (test : Bool) (e : Cause) → (IsNetwork cause → P) → Holds cause test (Err e) → IsNetwork e → P
hold_refuses P cause false e never h z = never (z.0, sym (same_err {A = Unit {0}} e cause h.is) ∙ z.1)
hold_refuses P cause true e never h z = let i = h.is in absurd cc

pub holds_refuses : (P : Type 0) (cause : Cause) (test : Bool) → (IsNetwork cause → P) → Refuses P (λ r. Holds cause test r)
holds_refuses P cause test never = record { not = λ e h z. hold_refuses P cause test e never h z }

pub gives_refuses : {A : Type 0} (P : Type 0) (value : A) → Refuses P (λ r. Gives value r)
gives_refuses P value = record { not = λ e h z. let i = h.is in absurd cc }

reply_refuses : {A : Type 0} (P : Type 0) (answer : KrbResult A) (e : Cause) → Hands (reply_in answer) (Err e) → IsNetwork e → P
reply_refuses P (Reply reply) e h z = let i = h.is in absurd cc
reply_refuses P (Refusal error) e h z = let i = h.is in let j = z.1 in absurd cc

-- the start never does
begins_refuses : (asker : Asker) (body : KdcReqBody) → Refuses ⊥ (BeginsExchange asker body)
unfolding BeginsExchange FindsKdc
begins_refuses asker body =
    then_refuses ⊥ _ _ (then_refuses ⊥ _ _ (takes_refuses ⊥ NoKdc _ (λ z. let e = z.1 in cc)) (λ url. then_refuses ⊥ _ _ (finds_refuses ⊥ Scheme _ (λ z. let e = z.1 in cc))
    (λ protocol. gives_refuses ⊥ _))) (λ kdc. gives_refuses ⊥ _)

pub begins_within_refuses : {P O : Type 0} (within : AsPhase → P) (asker : Asker) (body : KdcReqBody) → Refuses ⊥ (BeginsWithin {P = P} {O = O} within asker body)
unfolding BeginsWithin
begins_within_refuses within asker body = then_refuses ⊥ _ _ (begins_refuses asker body) (λ sent. gives_refuses ⊥ _)

pub starts_refuse : (asker : Asker) (phase : ExchangePhase) (e : Cause) → Starts asker phase (Err e) → IsNetwork e → ⊥
starts_refuse asker (New body) e h z = (begins_within_refuses InAsExchange asker body).not e h z
starts_refuse asker (InAsExchange phase) e h z = h
starts_refuse asker Over e h z = h

module _ (P : Type 0) where
  not_shape : IsNetwork Shape → P
  not_shape z = let e = z.1 in absurd cc

  not_short : IsNetwork ReplyShort → P
  not_short z = let e = z.1 in absurd cc

  not_early : IsNetwork EarlyAsRep → P
  not_early z = let e = z.1 in absurd cc

  not_key : IsNetwork KeyLength → P
  not_key z = let e = z.1 in absurd cc

  unproxies_refuse : (octets : List ℕ) → Refuses P (Unproxies octets)
  unfolding Unproxies
  unproxies_refuse octets = then_refuses P _ _ (holds_refuses P Shape _ not_shape) (λ _. then_refuses P _ _ (finds_refuses P Shape _ not_shape) (λ message. gives_refuses P _))

  strips_refuse : (protocol : NetworkProtocol) (octets : List ℕ) → Refuses P (Strips protocol octets)
  strips_refuse Tcp octets = record { not = λ e h z. (gives_refuses P octets).not e h z }
  strips_refuse Udp octets = record { not = λ e h z. (gives_refuses P octets).not e h z }
  strips_refuse Http octets = record { not = λ e h z. (unproxies_refuse octets).not e h z }
  strips_refuse Https octets = record { not = λ e h z. (unproxies_refuse octets).not e h z }

  skips_refuse : (octets : List ℕ) → Refuses P (Skips octets)
  unfolding Skips
  skips_refuse octets = then_refuses P _ _ (holds_refuses P ReplyShort _ not_short) (λ _. then_refuses P _ _ (holds_refuses P Shape _ not_shape) (λ _. gives_refuses P _))

  unpacks_refuse : (protocol : NetworkProtocol) (octets : List ℕ) → Refuses P (Unpacks protocol octets)
  unfolding Unpacks
  unpacks_refuse protocol octets = then_refuses P _ _ (strips_refuse protocol octets) (λ carried. skips_refuse carried)

  entry_refuses : (etype : List ℕ) (salt : Option (List ℕ)) (e : Cause) → Hands (entry_hint etype salt) (Err e) → IsNetwork e → P
  entry_refuses etype (Some salt) e h z = let i = h.is in absurd cc
  entry_refuses etype None e h z = let i = h.is in let j = z.1 in absurd cc

  hint_refuses : (etype used : List ℕ) (entries : Option (List EtypeInfo2Entry)) (e : Cause) → Hands (first_hint etype used entries) (Err e) → IsNetwork e → P
  hint_refuses etype used None e h z = let i = h.is in absurd cc
  hint_refuses etype used (Some []) e h z = let i = h.is in let j = z.1 in absurd cc
  hint_refuses etype used (Some (entry ∷ entries)) e h z = entry_refuses entry.etype entry.salt e h z

  tells_refuse : (used : List ℕ) (as_rep : AsRep) → Refuses P (TellsEtype used as_rep)
  unfolding TellsEtype
  tells_refuse used as_rep =
      then_refuses P _ _ (finds_refuses P Shape _ (λ z. let e = z.1 in absurd cc)) (λ entries. then_refuses P _ _ (record { not = hint_refuses _ used entries })
      (λ hint. then_refuses P _ _ (takes_refuses P Etype _ (λ z. let e = z.1 in absurd cc)) (λ suite. gives_refuses P _)))

  suite_refuses : (is_own : Bool) (suite : CipherSuite) (key_type : List ℕ) (e : Cause) → HasSuite is_own suite key_type (Err e) → IsNetwork e → P
  suite_refuses false suite key_type e h z = (gives_refuses P suite).not e h z
  suite_refuses true suite key_type e h z = (takes_refuses P Etype (suite_of_integer key_type) (λ y. let i = y.1 in absurd cc)).not e h z

  pub takes_key_refuses : (rules : Rules) (suite : CipherSuite) (part : EncKdcRepPart) → Refuses P (TakesKey rules suite part)
  unfolding TakesKey
  takes_key_refuses rules suite part = then_refuses P _ _ (record { not = suite_refuses (has_rule rules suite_of_each_key) suite part.key.key_type }) (λ own. gives_refuses P _)

  brings_refuse : (rules : Rules) (suite : CipherSuite) (key : List ℕ) (as_rep : AsRep) → Refuses P (BringsFirst rules suite key as_rep)
  unfolding BringsFirst OpensFirst Unseals
  brings_refuse rules suite key as_rep =
      then_refuses P _ _ (then_refuses P _ _ (then_refuses P _ _ (holds_refuses P KeyLength _ (λ z. let e = z.1 in absurd cc))
      (λ _. then_refuses P _ _ (holds_refuses P Short _ (λ z. let e = z.1 in absurd cc)) (λ _. finds_refuses P Altered _ (λ z. let e = z.1 in absurd cc))))
      (λ plain. finds_refuses P Inner _ (λ z. let e = z.1 in absurd cc))) (λ part. takes_key_refuses rules suite part.0)

  pub key_refuses : (rules : Rules) (credentials : CredentialsBuffers) (used : List ℕ) (as_rep : AsRep) → Refuses P (TakesReplyKey rules credentials used as_rep)
  unfolding TakesReplyKey
  key_refuses rules credentials used as_rep =
      then_refuses P _ _ (tells_refuse used as_rep) (λ hint. brings_refuse _ _ _ as_rep)

brought_refuses : (reply : Result (List ℕ) NetFault) (e : Cause) → Brings reply (Err e) → IsNetwork e → IsFailure reply
brought_refuses (Ok octets) e h z = let i = h.is in absurd cc
brought_refuses (Err (Failed code)) e h z = tt
brought_refuses (Err OutOfMemory) e h z = let i = h.is in let j = z.1 in absurd cc

module _ (reply : Result (List ℕ) NetFault) (protocol : NetworkProtocol) where
  pub replies_refuse : {A : Type 0} (layout : Layout A) → Refuses (IsFailure reply) (Replies protocol layout reply)
  unfolding Replies Unwraps
  replies_refuse layout =
      then_refuses _ _ _ (then_refuses _ _ _ (record { not = brought_refuses reply }) (λ octets. unpacks_refuse _ protocol octets))
      (λ message. finds_refuses _ Shape _ (not_shape _))

  -- nor does what follows the first reply, where neither what is after an error nor what an AS-REP brings does
  module _ {A : Type 0} (rules : Rules) (behind : KrbError → Result A Cause → Type 0) (next : AsRep → Result A Cause → Type 0)
      (behind_refuses : (error : KrbError) → Refuses (IsFailure reply) (behind error)) (next_refuses : (as_rep : AsRep) → Refuses (IsFailure reply) (next as_rep)) where
    early_refuses : (as_rep : AsRep) → Refuses (IsFailure reply) (TakesEarly rules next as_rep)
    unfolding TakesEarly
    early_refuses as_rep = then_refuses _ _ _ (holds_refuses _ EarlyAsRep _ (not_early _)) (λ _. next_refuses as_rep)

    either_refuses : (result : KrbResult AsRep) → Refuses (IsFailure reply) (λ r. TakesEither rules behind next result r)
    either_refuses (Refusal error) = record { not = λ e h z. (behind_refuses error).not e h z }
    either_refuses (Reply as_rep) = record { not = λ e h z. (early_refuses as_rep).not e h z }

    pub first_refuses : Refuses (IsFailure reply) (TakesFirst rules protocol behind next reply)
    unfolding TakesFirst
    first_refuses = then_refuses _ _ _ (replies_refuse _) either_refuses

  pub grants_refuse : {A : Type 0} (layout : Layout A) → Refuses (IsFailure reply) (Grants protocol layout reply)
  unfolding Grants
  grants_refuse layout = then_refuses _ _ _ (replies_refuse layout) (λ result. record { not = reply_refuses _ result })

module _ (P : Type 0) where
  leaves_refuse : (default : List ℕ) (error : KrbError) → Refuses P (LeavesSalt default error)
  unfolding LeavesSalt NamesSalt
  leaves_refuse default error =
      then_refuses P _ _ (then_refuses P _ _ (finds_refuses P Shape _ (not_shape P)) (λ hints. then_refuses P _ _ (finds_refuses P Shape _ (not_shape P)) (λ entries. gives_refuses P _)))
      (λ salt. gives_refuses P _)

  tells_suite_refuses : (asker : Asker) (error : KrbError) → Refuses P (TellsSuite asker error)
  unfolding TellsSuite NamesSuite
  tells_suite_refuses asker error =
      then_refuses P _ _ (then_refuses P _ _ (finds_refuses P Shape _ (not_shape P)) (λ hints. then_refuses P _ _ (finds_refuses P Shape _ (not_shape P)) (λ entries. gives_refuses P _)))
      (λ named. gives_refuses P _)

  leaves_suite_refuses : (is_told : Bool) (asker : Asker) (error : KrbError) (e : Cause) → LeavesSuite is_told asker error (Err e) → IsNetwork e → P
  leaves_suite_refuses false asker error e h z = (gives_refuses P (asker_suite asker)).not e h z
  leaves_suite_refuses true asker error e h z = (tells_suite_refuses asker error).not e h z

  seals_refuse : (asker : Asker) (kdc : Kdc) (body : KdcReqBody) (draw : Draw) (error : KrbError) → Refuses P (SealsTime asker kdc body draw error)
  unfolding SealsTime
  seals_refuse asker kdc body draw error =
      then_refuses P _ _ (leaves_refuse _ error) (λ salt. then_refuses P _ _ (record { not = leaves_suite_refuses (has_rule asker.rules suite_of_each_key) asker error })
      (λ suite. then_refuses P _ _ (takes_refuses P KeyLength _ (not_key P)) (λ key. gives_refuses P _)))

  asks_second_refuses : {Q O : Type 0} (within : AsPhase → Q) (asker : Asker) (kdc : Kdc) (body : KdcReqBody) (draw : Draw) (error : KrbError)
      → Refuses P (AsksSecond {P = Q} {O = O} within asker kdc body draw error)
  unfolding AsksSecond
  asks_second_refuses within asker kdc body draw error = then_refuses P _ _ (seals_refuse asker kdc body draw error) (λ sent. gives_refuses P _)

  -- nor does a check that a rule asks for, where that check does not
  pub asked_for_refuses : (is_rule : Bool) (check : Result (Unit {0}) Cause → Type 0) → Refuses P check → Refuses P (λ r. AskedFor is_rule check r)
  asked_for_refuses false check never = record { not = λ e h z. (gives_refuses P tt).not e h z }
  asked_for_refuses true check never = record { not = λ e h z. never.not e h z }

  not_nonce : IsNetwork Nonce → P
  not_nonce z = let e = z.1 in absurd cc

  not_names : IsNetwork ReplyNames → P
  not_names z = let e = z.1 in absurd cc

  pub not_time : IsNetwork ReplyTime → P
  not_time z = let e = z.1 in absurd cc

  pub answers_refuse : (repeats names : Bool) (moment : ℕ) (facts : ReplyFacts) → Refuses P (AnswersRequest repeats names moment facts)
  unfolding AnswersRequest
  answers_refuse repeats names moment facts =
      then_refuses P _ _ (holds_refuses P Nonce _ not_nonce) (λ _. then_refuses P _ _ (holds_refuses P ReplyNames _ not_names) (λ _. holds_refuses P ReplyTime _ not_time))

  fresh_key_refuses : (asker : Asker) (body : KdcReqBody) (moment : ℕ) (used : List ℕ) (as_rep : AsRep) → Refuses P (TakesFreshKey asker body moment used as_rep)
  unfolding TakesFreshKey
  fresh_key_refuses asker body moment used as_rep =
      then_refuses P _ _ (key_refuses P asker.rules asker.credentials used as_rep)
      (λ taken. then_refuses P _ _ (asked_for_refuses (has_rule asker.rules fresh_replies) (AnswersAsReq body moment as_rep.0 taken.facts) (answers_refuse _ _ moment taken.facts)) (λ _. gives_refuses P _))

  brings_grant_refuses : (asker : Asker) (body : KdcReqBody) (moment : ℕ) (used : List ℕ) (as_rep : AsRep) → Refuses P (BringsGrant asker body moment used as_rep)
  unfolding BringsGrant
  brings_grant_refuses asker body moment used as_rep = then_refuses P _ _ (fresh_key_refuses asker body moment used as_rep) (λ taken. gives_refuses P _)

takes_as_rep_refuses : (asker : Asker) (sealed : SealedTime) (moment : ℕ) (reply : Result (List ℕ) NetFault)
    → Refuses (IsFailure reply) (TakesAsRep asker sealed moment reply)
unfolding TakesAsRep
takes_as_rep_refuses asker sealed moment reply =
    then_refuses _ _ _ (grants_refuse reply sealed.kdc.protocol _) (brings_grant_refuses _ asker sealed.body moment sealed.salt)

takes_reply_refuses : (asker : Asker) (phase : AsPhase) (reply : Result (List ℕ) NetFault) (draw : Draw) → Refuses (IsFailure reply) (λ r. TakesReply asker phase reply draw r)
takes_reply_refuses asker (AwaitsError kdc body) reply draw = record {
  not = λ e h z. (first_refuses reply kdc.protocol _ _ _ (asks_second_refuses _ (λ phase. phase) asker kdc body draw) (brings_grant_refuses _ asker body draw.moment _)).not e h z;
}
takes_reply_refuses asker (AwaitsAsRep sealed) reply draw = record { not = λ e h z. (takes_as_rep_refuses asker sealed draw.moment reply).not e h z }

-- nor does what follows within a run, where none of its own checks does
module _ {P O : Type 0} (within : AsPhase → P) (next : Grant → Result (Turn P O) Cause → Type 0) (reply : Result (List ℕ) NetFault)
    (refuses : (grant : Grant) → Refuses (IsFailure reply) (next grant)) where
  goes_on_refuses : (turn : Turn AsPhase Grant) → Refuses (IsFailure reply) (λ r. Within within next turn r)
  goes_on_refuses (Asks request phase) = record { not = λ e h z. (gives_refuses _ _).not e h z }
  goes_on_refuses (Ends grant) = record { not = λ e h z. (refuses grant).not e h z }

  pub takes_reply_within_refuses : (asker : Asker) (phase : AsPhase) (draw : Draw) → Refuses (IsFailure reply) (TakesReplyWithin within next asker phase reply draw)
  unfolding TakesReplyWithin
  takes_reply_within_refuses asker phase draw = then_refuses _ _ _ (takes_reply_refuses asker phase reply draw) goes_on_refuses

ends_refuses : (protocol : NetworkProtocol) (salt : List ℕ) (reply : Result (List ℕ) NetFault) → Refuses (IsFailure reply) (EndsWithAsRep protocol salt reply)
unfolding EndsWithAsRep
ends_refuses protocol salt reply = then_refuses _ _ _ (grants_refuse reply protocol _) (λ as_rep. gives_refuses _ _)

pub next_refuses : (asker : Asker) (phase : ExchangePhase) (reply : Result (List ℕ) NetFault) (draw : Draw) (e : Cause) → Next asker phase reply draw (Err e) → IsNetwork e → IsFailure reply
next_refuses asker (New body) reply draw e h z = absurd h
next_refuses asker (InAsExchange (AwaitsError kdc body)) reply draw e h z =
    (first_refuses reply kdc.protocol _ _ _ (asks_second_refuses _ InAsExchange asker kdc body draw) (λ as_rep. gives_refuses _ _)).not e h z
next_refuses asker (InAsExchange (AwaitsAsRep sealed)) reply draw e h z = (ends_refuses sealed.kdc.protocol sealed.salt reply).not e h z
next_refuses asker Over reply draw e h z = absurd h
