-- Each step of an exchange with a KDC has at most one answer.
use Rattle.std.proofs.Common.{◌≡◌, ℕ, Bool, true, false, List, length, get_or, Option, Some, None, Result, refl, sym, ap, ◌∙◌, arith}
use Rattle.url.specs.Parts.{Parts}
use Rattle.krb_der.specs.Layout.{Layout, items_layout}
use Rattle.krb_exchange.specs.Table.{as_rep, krb_error}
use Rattle.krb_exchange.specs.Layouts.{as_rep_layout, pa_data_layout, etype_info2_entry_layout}
use Rattle.krb_exchange.specs.Results.{HasOneResult}
use Rattle.krb_exchange.specs.declared.kdc_req.KdcReqBody.{KdcReqBody}
use Rattle.krb_exchange.specs.declared.kdc_rep.AsRep.{AsRep}
use Rattle.krb_exchange.specs.declared.krb_error.KrbError.{KrbError}
use Rattle.krb_exchange.specs.declared.result.KrbResult.{KrbResult}
use Rattle.krb_exchange.specs.declared.result.KrbResult.TheVariants.{Ok as Reply, Err as Refusal}
use Rattle.krb_exchange.specs.declared.pa_data.PaData.{PaData}
use Rattle.krb_exchange.specs.declared.pa_data.EtypeInfo2Entry.{EtypeInfo2Entry}
use Rattle.krb_exchange.proofs.Results.{one_result_of}
use Rattle.krb_exchange.proofs.Spelled.{same_record}
use Rattle.krb_conf.specs.declared.env.Env.{Env}
use Rattle.krb_context.specs.declared.rules.Rules.{Rules}
use Rattle.krb_context.specs.Rules.{has_rule, suite_of_each_key, fresh_replies}
use Rattle.krb_as.specs.Kdcs.{FindsKdc}
use Rattle.krb_as.specs.Replies.{Replies}
use Rattle.krb_as.specs.declared.kdc.Kdc.{Kdc}
use Rattle.krb_as.proofs.Carrying.{unwraps_once}
use Rattle.krb_replies.specs.Told.{Hands}
use Rattle.krb_replies.specs.Hints.{etype_info2, IsInfo2}
use Rattle.krb_replies.specs.Salts.{IsHints, NamesSalt, NamesSuite, TellsEtype}
use Rattle.krb_replies.proofs.Once.{brings_first_once, answers_request_once, asked_for_once}
use Rattle.sspi_core.proofs.Once.{Once, then_once, finds_once, takes_once, holds_once, gives_once}
use Rattle.sspi_core.specs.Protocol.{scheme_of}
use Rattle.sspi_core.specs.declared.cause.Cause.{Cause}
use Rattle.sspi_core.specs.declared.draw.Draw.{Draw}
use Rattle.sspi_core.specs.declared.protocol.NetworkProtocol.{NetworkProtocol}
use Rattle.sspi_core.specs.declared.protocol.NetworkProtocol.TheVariants.{Tcp, Udp, Http, Https}
use Rattle.sspi_generator.specs.declared.network.NetFault.{NetFault}
use Rattle.krb_as.specs.Replied.{LeavesSalt, TellsSuite, LeavesSuite, TakesEarly, TakesEither, TakesFirst, Grants}
use Rattle.krb_as.specs.Clients.{NamesClient}
use Rattle.krb_as.specs.ReplyKeys.{TakesReplyKey}
use Rattle.krb_as.specs.Fresh.{AnswersAsReq, TakesFreshKey}
use Rattle.krb_as.specs.declared.key.SealedTime.{SealedTime}
use Rattle.krb_as.specs.Turns.{Within}
use Rattle.krb_as.specs.AsPhases.{BeginsExchange, SealsTime, AsksSecond, BringsGrant, TakesAsRep, TakesReply, BeginsWithin, TakesReplyWithin}
use Rattle.krb_as.specs.AsExchanges.{EndsWithAsRep, Starts, Next}
use Rattle.krb_as.specs.declared.asker.Asker.{Asker}
use Rattle.krb_as.specs.declared.as_phase.AsPhase.{AsPhase}
use Rattle.krb_as.specs.declared.as_phase.AsPhase.TheVariants.{AwaitsError, AwaitsAsRep}
use Rattle.krb_as.specs.declared.as_exchange.ExchangePhase.{ExchangePhase}
use Rattle.krb_as.specs.declared.as_exchange.ExchangePhase.TheVariants.{New, InAsExchange, Over}
use Rattle.krb_as.specs.declared.key.Grant.{Grant}
use Rattle.krb_as.specs.declared.turn.Turn.{Turn}
use Rattle.krb_as.specs.declared.turn.Turn.TheVariants.{Asks, Ends}
use Rattle.sspi_core.specs.declared.identity.CredentialsBuffers.{CredentialsBuffers}

hands_once : {A : Type 0} (outcome : Result A Cause) → Once (λ r. Hands outcome r)
hands_once outcome = record { same = λ r s h k. h.is ∙ sym k.is }

-- protocols have different schemes
same_scheme : (p q : NetworkProtocol) → scheme_of p ≡ scheme_of q → p ≡ q
same_scheme Tcp Tcp e = refl
same_scheme Tcp Udp e = absurd (omega (arith, ap (λ (text : List ℕ). get_or text 0 0) e))
same_scheme Tcp Http e = absurd (omega (arith, ap (λ (text : List ℕ). get_or text 0 0) e))
same_scheme Tcp Https e = absurd (omega (arith, ap (λ (text : List ℕ). get_or text 0 0) e))
same_scheme Udp Tcp e = absurd (omega (arith, ap (λ (text : List ℕ). get_or text 0 0) e))
same_scheme Udp Udp e = refl
same_scheme Udp Http e = absurd (omega (arith, ap (λ (text : List ℕ). get_or text 0 0) e))
same_scheme Udp Https e = absurd (omega (arith, ap (λ (text : List ℕ). get_or text 0 0) e))
same_scheme Http Tcp e = absurd (omega (arith, ap (λ (text : List ℕ). get_or text 0 0) e))
same_scheme Http Udp e = absurd (omega (arith, ap (λ (text : List ℕ). get_or text 0 0) e))
same_scheme Http Http e = refl
same_scheme Http Https e = absurd (omega (arith, ap (length {A = ℕ}) e))
same_scheme Https Tcp e = absurd (omega (arith, ap (λ (text : List ℕ). get_or text 0 0) e))
same_scheme Https Udp e = absurd (omega (arith, ap (λ (text : List ℕ). get_or text 0 0) e))
same_scheme Https Http e = absurd (omega (arith, ap (length {A = ℕ}) e))
same_scheme Https Https e = refl

-- where a request goes
pub finds_kdc_once : (own : Option Parts) (env : Env) (realm : List ℕ) → Once (FindsKdc own env realm)
unfolding FindsKdc
finds_kdc_once own env realm =
    then_once _ _ (takes_once _ _) (λ url. then_once _ _ (finds_once _ _ (λ p q s t. same_scheme p q (sym s ∙ t))) (λ protocol. gives_once _))

-- a reply is of one kind
pub as_rep_once : HasOneResult as_rep_layout
unfolding as_rep krb_error
as_rep_once = one_result_of as_rep_layout (λ e. omega (arith, e))

pub replies_once : {A : Type 0} (protocol : NetworkProtocol) (layout : Layout A) (reply : Result (List ℕ) NetFault) → HasOneResult layout → Once (Replies protocol layout reply)
unfolding Replies
replies_once protocol layout reply one = then_once _ _ (unwraps_once protocol reply) (λ message. finds_once _ _ (λ x y s t. one message x y s t))

pub grants_once : {A : Type 0} (protocol : NetworkProtocol) (layout : Layout A) (reply : Result (List ℕ) NetFault) → HasOneResult layout → Once (Grants protocol layout reply)
unfolding Grants
grants_once protocol layout reply one = then_once _ _ (replies_once protocol layout reply one) (λ result. hands_once _)

grants_as_rep_once : (protocol : NetworkProtocol) (reply : Result (List ℕ) NetFault) → Once (Grants protocol as_rep_layout reply)
grants_as_rep_once protocol reply = grants_once protocol as_rep_layout reply as_rep_once

-- what a KDC hints at
same_hints : (e_data : Option (List ℕ)) (x y : List PaData) → IsHints e_data x → IsHints e_data y → x ≡ y
same_hints None x y s t = s ∙ sym t
same_hints (Some octets) x y s t = same_record (items_layout pa_data_layout) x y octets s t

same_info2 : (element : Option PaData) (x y : Option (List EtypeInfo2Entry)) → IsInfo2 element x → IsInfo2 element y → x ≡ y
same_info2 None x y s t = s ∙ sym t
same_info2 (Some element) None y s t = absurd s
same_info2 (Some element) (Some x) None s t = absurd t
same_info2 (Some element) (Some x) (Some y) s t = ap Some (same_record (items_layout etype_info2_entry_layout) x y element.padata_value s t)

names_salt_once : (error : KrbError) → Once (NamesSalt error)
unfolding NamesSalt
names_salt_once error =
    then_once _ _ (finds_once _ _ (same_hints error.e_data)) (λ hints. then_once _ _ (finds_once _ _ (same_info2 (etype_info2 hints))) (λ entries. gives_once _))

tells_etype_once : (used : List ℕ) (as_rep : AsRep) → Once (TellsEtype used as_rep)
unfolding TellsEtype
tells_etype_once used as_rep =
    then_once _ _ (finds_once _ _ (same_info2 _)) (λ entries. then_once _ _ (hands_once _) (λ hint. then_once _ _ (takes_once _ _) (λ suite. gives_once _)))

-- the error of an AS exchange, or an AS-REP in its place
leaves_salt_once : (default : List ℕ) (error : KrbError) → Once (LeavesSalt default error)
unfolding LeavesSalt
leaves_salt_once default error = then_once _ _ (names_salt_once error) (λ salt. gives_once _)

names_suite_once : (error : KrbError) → Once (NamesSuite error)
unfolding NamesSuite
names_suite_once error =
    then_once _ _ (finds_once _ _ (same_hints error.e_data)) (λ hints. then_once _ _ (finds_once _ _ (same_info2 (etype_info2 hints))) (λ entries. gives_once _))

tells_suite_once : (asker : Asker) (error : KrbError) → Once (TellsSuite asker error)
unfolding TellsSuite
tells_suite_once asker error = then_once _ _ (names_suite_once error) (λ named. gives_once _)

leaves_suite_once : (is_told : Bool) (asker : Asker) (error : KrbError) → Once (λ r. LeavesSuite is_told asker error r)
leaves_suite_once false asker error = record { same = λ r s h k. (gives_once _).same r s h k }
leaves_suite_once true asker error = record { same = λ r s h k. (tells_suite_once asker error).same r s h k }

module _ {A : Type 0} (rules : Rules) (behind : KrbError → Result A Cause → Type 0) (next : AsRep → Result A Cause → Type 0)
    (behind_once : (error : KrbError) → Once (behind error)) (next_once : (as_rep : AsRep) → Once (next as_rep)) where
  takes_early_once : (as_rep : AsRep) → Once (TakesEarly rules next as_rep)
  unfolding TakesEarly
  takes_early_once as_rep = then_once _ _ (holds_once _ _) (λ _. next_once as_rep)

  takes_either_once : (result : KrbResult AsRep) → Once (λ r. TakesEither rules behind next result r)
  takes_either_once (Refusal error) = record { same = λ r s h k. (behind_once error).same r s h k }
  takes_either_once (Reply as_rep) = record { same = λ r s h k. (takes_early_once as_rep).same r s h k }

  takes_first_once : (protocol : NetworkProtocol) (reply : Result (List ℕ) NetFault) → Once (TakesFirst rules protocol behind next reply)
  unfolding TakesFirst
  takes_first_once protocol reply = then_once _ _ (replies_once protocol as_rep_layout reply as_rep_once) takes_either_once

-- the client that credentials name
pub names_client_once : (credentials : CredentialsBuffers) (machine : List ℕ) (env : Env) → Once (NamesClient credentials machine env)
unfolding NamesClient
names_client_once credentials machine env =
    then_once _ _ (takes_once _ _) (λ name. then_once _ _ (takes_once _ _) (λ realm. then_once _ _ (takes_once _ _) (λ host. gives_once _)))

pub takes_reply_key_once : (rules : Rules) (credentials : CredentialsBuffers) (used : List ℕ) (as_rep : AsRep) → Once (TakesReplyKey rules credentials used as_rep)
unfolding TakesReplyKey
takes_reply_key_once rules credentials used as_rep =
    then_once _ _ (tells_etype_once used as_rep) (λ hint. brings_first_once _ _ _ as_rep)

-- the phases
begins_exchange_once : (asker : Asker) (body : KdcReqBody) → Once (BeginsExchange asker body)
unfolding BeginsExchange
begins_exchange_once asker body = then_once _ _ (finds_kdc_once asker.kdc_url asker.env asker.realm) (λ kdc. gives_once _)

seals_time_once : (asker : Asker) (kdc : Kdc) (body : KdcReqBody) (draw : Draw) (error : KrbError) → Once (SealsTime asker kdc body draw error)
unfolding SealsTime
seals_time_once asker kdc body draw error =
    then_once _ _ (leaves_salt_once _ error) (λ salt. then_once _ _ (leaves_suite_once (has_rule asker.rules suite_of_each_key) asker error) (λ suite. then_once _ _ (takes_once _ _) (λ key. gives_once _)))

takes_fresh_key_once : (asker : Asker) (body : KdcReqBody) (moment : ℕ) (used : List ℕ) (as_rep : AsRep) → Once (TakesFreshKey asker body moment used as_rep)
unfolding TakesFreshKey
takes_fresh_key_once asker body moment used as_rep =
    then_once _ _ (takes_reply_key_once asker.rules asker.credentials used as_rep)
    (λ taken. then_once _ _ (asked_for_once (has_rule asker.rules fresh_replies) (AnswersAsReq body moment as_rep.0 taken.facts) (answers_request_once _ _ moment taken.facts)) (λ _. gives_once _))

brings_grant_once : (asker : Asker) (body : KdcReqBody) (moment : ℕ) (used : List ℕ) (as_rep : AsRep) → Once (BringsGrant asker body moment used as_rep)
unfolding BringsGrant
brings_grant_once asker body moment used as_rep = then_once _ _ (takes_fresh_key_once asker body moment used as_rep) (λ taken. gives_once _)

takes_as_rep_once : (asker : Asker) (sealed : SealedTime) (moment : ℕ) (reply : Result (List ℕ) NetFault) → Once (TakesAsRep asker sealed moment reply)
unfolding TakesAsRep
takes_as_rep_once asker sealed moment reply =
    then_once _ _ (grants_as_rep_once sealed.kdc.protocol reply) (brings_grant_once asker sealed.body moment sealed.salt)

module _ {P O : Type 0} (within : AsPhase → P) where
  pub begins_within_once : (asker : Asker) (body : KdcReqBody) → Once (BeginsWithin {P = P} {O = O} within asker body)
  unfolding BeginsWithin
  begins_within_once asker body = then_once _ _ (begins_exchange_once asker body) (λ sent. gives_once _)

  pub asks_second_once : (asker : Asker) (kdc : Kdc) (body : KdcReqBody) (draw : Draw) (error : KrbError) → Once (AsksSecond {P = P} {O = O} within asker kdc body draw error)
  unfolding AsksSecond
  asks_second_once asker kdc body draw error = then_once _ _ (seals_time_once asker kdc body draw error) (λ sent. gives_once _)

takes_reply_once : (asker : Asker) (phase : AsPhase) (reply : Result (List ℕ) NetFault) (draw : Draw) → Once (λ r. TakesReply asker phase reply draw r)
takes_reply_once asker (AwaitsError kdc body) reply draw = record {
  same = λ r s h k. (takes_first_once _ _ _ (asks_second_once (λ phase. phase) asker kdc body draw) (brings_grant_once asker body draw.moment _) kdc.protocol reply).same r s h k;
}
takes_reply_once asker (AwaitsAsRep sealed) reply draw = record { same = λ r s h k. (takes_as_rep_once asker sealed draw.moment reply).same r s h k }

module _ {P O : Type 0} (within : AsPhase → P) (next : Grant → Result (Turn P O) Cause → Type 0) (once : (grant : Grant) → Once (next grant)) where
  goes_on_once : (turn : Turn AsPhase Grant) → Once (λ r. Within within next turn r)
  goes_on_once (Asks request phase) = record { same = λ r s h k. (gives_once _).same r s h k }
  goes_on_once (Ends grant) = record { same = λ r s h k. (once grant).same r s h k }

  pub takes_reply_within_once : (asker : Asker) (phase : AsPhase) (reply : Result (List ℕ) NetFault) (draw : Draw) → Once (TakesReplyWithin within next asker phase reply draw)
  unfolding TakesReplyWithin
  takes_reply_within_once asker phase reply draw = then_once _ _ (takes_reply_once asker phase reply draw) goes_on_once

-- the exchange as a task
ends_with_as_rep_once : (protocol : NetworkProtocol) (salt : List ℕ) (reply : Result (List ℕ) NetFault) → Once (EndsWithAsRep protocol salt reply)
unfolding EndsWithAsRep
ends_with_as_rep_once protocol salt reply = then_once _ _ (grants_as_rep_once protocol reply) (λ as_rep. gives_once _)

pub starts_once : (asker : Asker) (phase : ExchangePhase) → Once (λ r. Starts asker phase r)
starts_once asker (New body) = record { same = λ r s h k. (begins_within_once InAsExchange asker body).same r s h k }
starts_once asker (InAsExchange phase) = record { same = λ r s h k. absurd h }
starts_once asker Over = record { same = λ r s h k. absurd h }

pub next_once : (asker : Asker) (phase : ExchangePhase) (reply : Result (List ℕ) NetFault) (draw : Draw) → Once (λ r. Next asker phase reply draw r)
next_once asker (New body) reply draw = record { same = λ r s h k. absurd h }
next_once asker (InAsExchange (AwaitsError kdc body)) reply draw = record {
  same = λ r s h k. (takes_first_once _ _ _ (asks_second_once InAsExchange asker kdc body draw) (λ as_rep. gives_once _) kdc.protocol reply).same r s h k;
}
next_once asker (InAsExchange (AwaitsAsRep sealed)) reply draw = record { same = λ r s h k. (ends_with_as_rep_once sealed.kdc.protocol sealed.salt reply).same r s h k }
next_once asker Over reply draw = record { same = λ r s h k. absurd h }
