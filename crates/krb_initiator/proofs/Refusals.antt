-- Which checks refuse because the network failed: none but the first one on a reply.
use Rattle.std.proofs.Common.{ℕ, Bool, true, false, List, Option, Some, None, Result, Err}
use Rattle.krb_crypto.specs.declared.suite.CipherSuite.{CipherSuite}
use Rattle.krb_messages.specs.declared.ticket.Ticket.{Ticket}
use Rattle.krb_messages.specs.declared.ap_rep.ApRep.{ApRep}
use Rattle.krb_messages.specs.declared.ap_rep.EncApRepPart.{EncApRepPart}
use Rattle.krb_exchange.specs.declared.kdc_rep.TgsRep.{TgsRep}
use Rattle.sspi_core.specs.declared.cause.Cause.{Cause}
use Rattle.sspi_core.specs.declared.cause.Cause.TheVariants.{Shape, KeyLength, NoKdc, Scheme, Hops, SameRealm, Reply, Inner, NoSubKey, NoNumber, Nonce, ReplyNames, ReplyTime}
use Rattle.sspi_core.specs.declared.draw.Draw.{Draw}
use Rattle.sspi_generator.specs.declared.network.NetFault.{NetFault}
use Rattle.sspi_generator.specs.Steps.{IsFailure}
use Rattle.krb_as.specs.Kdcs.{FindsKdc}
use Rattle.krb_replies.specs.Unseals.{Unseals, OpensSealed}
use Rattle.krb_context.specs.declared.rules.Rules.{Rules}
use Rattle.krb_context.specs.Rules.{has_rule, fresh_replies}
use Rattle.krb_replies.specs.Keys.{BringsNext}
use Rattle.krb_replies.specs.Answered.{OpensApRep}
use Rattle.krb_as.specs.declared.asker.Asker.{Asker}
use Rattle.krb_as.proofs.Refusals.{IsNetwork, Refuses, then_refuses, finds_refuses, takes_refuses, holds_refuses, gives_refuses, asked_for_refuses, answers_refuse, not_time, begins_within_refuses, takes_reply_within_refuses, takes_key_refuses, grants_refuse}
use Rattle.krb_tgs.specs.declared.wanted.Wanted.{Wanted}
use Rattle.krb_as.specs.declared.key.Grant.{Grant}
use Rattle.krb_tgs.specs.TgsAsked.{AsksTgs, Follows}
use Rattle.krb_tgs.specs.declared.fresh.TgsQuestion.{TgsQuestion}
use Rattle.krb_tgs.specs.Fresh.{AnswersTgsReq, referral_of}
use Rattle.krb_tgs.specs.Taken.{BringsFresh, TakesTgsRep}
use Rattle.krb_ap.specs.declared.initiator.Initiator.{Initiator}
use Rattle.krb_ap.specs.Shown.{ShowsTicket}
use Rattle.krb_ap.specs.Answered.{ReadsApRep, Confirms, Replies, FinishesInitiation, TakesApRep}
use Rattle.krb_initiator.specs.declared.seeker.Seeker.{Seeker}
use Rattle.krb_initiator.specs.declared.seeker.TgsLeg.{TgsLeg}
use Rattle.krb_initiator.specs.declared.seeker.Initiation.{Initiation}
use Rattle.krb_initiator.specs.declared.seeker.Initiation.TheVariants.{Requests, Seeks, Hears}
use Rattle.krb_initiator.specs.declared.seeker.InitPhase.{InitPhase}
use Rattle.krb_initiator.specs.declared.seeker.InitPhase.TheVariants.{New, InAsExchange, AwaitsTgsRep, Over}
use Rattle.krb_initiator.specs.InitSteps.{AsksFirstTgs, Refers, Arrives, GoesTo, TakesNext, HearsAnswer}
use Rattle.krb_initiator.specs.InitRuns.{StartsNew, Starts, Continues, Next}

module _ (P : Type 0) where
  not_shape : IsNetwork Shape → P
  not_shape z = let e = z.1 in absurd cc

  not_length : IsNetwork KeyLength → P
  not_length z = let e = z.1 in absurd cc

  not_reply : IsNetwork Reply → P
  not_reply z = let e = z.1 in absurd cc

  not_inner : IsNetwork Inner → P
  not_inner z = let e = z.1 in absurd cc

  not_key : IsNetwork NoSubKey → P
  not_key z = let e = z.1 in absurd cc

  -- what is asked of ticket-granting services
  pub asks_refuse : (asker : Asker) (wanted : Wanted) (shown : Grant) (home realm : List ℕ) (tickets : Option (List Ticket)) (draw : Draw) → Refuses P (AsksTgs asker wanted shown home realm tickets draw)
  unfolding AsksTgs FindsKdc
  asks_refuse asker wanted shown home realm tickets draw =
      then_refuses P _ _ (holds_refuses P KeyLength _ not_length) (λ _. then_refuses P _ _
      (then_refuses P _ _ (takes_refuses P NoKdc _ (λ z. let e = z.1 in absurd cc))
      (λ url. then_refuses P _ _ (finds_refuses P Scheme _ (λ z. let e = z.1 in absurd cc)) (λ protocol. gives_refuses P _))) (λ kdc. gives_refuses P _))

  follows_refuse : (asker : Asker) (wanted : Wanted) (shown : Grant) (hops : ℕ) (home asked realm : List ℕ) (draw : Draw) → Refuses P (Follows asker wanted shown hops home asked realm draw)
  unfolding Follows
  follows_refuse asker wanted shown hops home asked realm draw =
      then_refuses P _ _ (holds_refuses P Hops _ (λ z. let e = z.1 in absurd cc))
      (λ _. then_refuses P _ _ (holds_refuses P SameRealm _ (λ z. let e = z.1 in absurd cc)) (λ _. asks_refuse asker wanted shown home realm None draw))

  brings_refuse : (rules : Rules) (suite : CipherSuite) (key : List ℕ) (rep : TgsRep) → Refuses P (BringsNext rules suite key rep)
  unfolding BringsNext OpensSealed Unseals
  brings_refuse rules suite key rep =
      then_refuses P _ _ (then_refuses P _ _ (then_refuses P _ _ (holds_refuses P Reply _ not_reply)
      (λ _. then_refuses P _ _ (holds_refuses P Reply _ not_reply) (λ _. finds_refuses P Reply _ not_reply)))
      (λ plain. finds_refuses P Inner _ not_inner)) (λ part. takes_key_refuses P rules suite part.0)

  -- what the service is shown
  pub shows_refuse : (seeker : Seeker) (leg : TgsLeg) (shown : Grant) (draw : Draw) → Refuses P (Arrives seeker leg shown draw)
  unfolding Arrives ShowsTicket
  shows_refuse seeker leg shown draw =
      then_refuses P _ _ (then_refuses P _ _ (holds_refuses P KeyLength _ not_length) (λ _. gives_refuses P _)) (λ done. gives_refuses P _)

  refers_refuse : (seeker : Seeker) (leg : TgsLeg) (realm : List ℕ) (shown : Grant) (draw : Draw) → Refuses P (Refers seeker leg realm shown draw)
  unfolding Refers
  refers_refuse seeker leg realm shown draw = then_refuses P _ _ (follows_refuse _ _ shown _ _ _ realm draw) (λ begun. gives_refuses P _)

  goes_refuse : (referral : Option (List ℕ)) (seeker : Seeker) (leg : TgsLeg) (shown : Grant) (draw : Draw) → Refuses P (GoesTo referral seeker leg shown draw)
  goes_refuse None seeker leg shown draw = record { not = λ e h z. (shows_refuse seeker leg shown draw).not e h z }
  goes_refuse (Some realm) seeker leg shown draw = record { not = λ e h z. (refers_refuse seeker leg realm shown draw).not e h z }

  first_tgs_refuses : (seeker : Seeker) (shown : Grant) (draw : Draw) → Refuses P (AsksFirstTgs seeker shown draw)
  unfolding AsksFirstTgs
  first_tgs_refuses seeker shown draw = then_refuses P _ _ (asks_refuse _ _ shown _ _ _ draw) (λ begun. gives_refuses P _)

  -- what the service answers
  opens_refuse : (suite : CipherSuite) (key : List ℕ) (message : ApRep) → Refuses P (OpensApRep suite key message)
  unfolding OpensApRep OpensSealed Unseals
  opens_refuse suite key message =
      then_refuses P _ _ (then_refuses P _ _ (holds_refuses P Reply _ not_reply)
      (λ _. then_refuses P _ _ (holds_refuses P Reply _ not_reply) (λ _. finds_refuses P Reply _ not_reply)))
      (λ plain. finds_refuses P Inner _ not_inner)

  confirms_refuse : (initiator : Initiator) (key : List ℕ) (part : EncApRepPart) (draw : Draw) → Refuses P (FinishesInitiation false initiator key part draw)
  unfolding Confirms
  confirms_refuse initiator key part draw = record {
    not = λ e h z. (then_refuses P _ _ (takes_refuses P NoSubKey _ not_key) (λ subkey. gives_refuses P _)).not e h z;
  }

  replies_refuse : (initiator : Initiator) (key : List ℕ) (part : EncApRepPart) (draw : Draw) → Refuses P (FinishesInitiation true initiator key part draw)
  unfolding Replies
  replies_refuse initiator key part draw = record {
    not =
        λ e h z.
        (then_refuses P _ _ (takes_refuses P NoSubKey _ not_key) (λ subkey. then_refuses P _ _ (takes_refuses P NoNumber _ (λ y. let i = y.1 in absurd cc)) (λ number. gives_refuses P _))).not
        e h z;
  }

  finishes_refuse : (dce : Bool) (initiator : Initiator) (key : List ℕ) (part : EncApRepPart) (draw : Draw) → Refuses P (FinishesInitiation dce initiator key part draw)
  finishes_refuse true initiator key part draw = replies_refuse initiator key part draw
  finishes_refuse false initiator key part draw = confirms_refuse initiator key part draw

  hears_refuse : (initiator : Initiator) (token : List ℕ) (draw : Draw) → Refuses P (HearsAnswer initiator token draw)
  unfolding HearsAnswer TakesApRep ReadsApRep
  hears_refuse initiator token draw =
      then_refuses P _ _ (then_refuses P _ _ (then_refuses P _ _ (holds_refuses P Shape _ not_shape) (λ _. finds_refuses P Shape _ not_shape))
      (λ message. then_refuses P _ _ (takes_refuses P Reply _ not_reply) (λ key. then_refuses P _ _ (opens_refuse _ key message) (λ part. then_refuses P _ _ (holds_refuses P ReplyTime _ (not_time P)) (λ _. finishes_refuse _ initiator key part draw)))))
      (λ done. gives_refuses P _)

new_refuses : (initiation : Initiation) (draw : Draw) (e : Cause) → StartsNew initiation draw (Err e) → IsNetwork e → ⊥
new_refuses (Requests initiator token) draw e h z = (gives_refuses ⊥ _).not e h z
new_refuses (Seeks seeker) draw e h z = (begins_within_refuses InAsExchange seeker.asker _).not e h z
new_refuses (Hears initiator token) draw e h z = (hears_refuse ⊥ initiator token draw).not e h z

-- the start never does
pub starts_refuse : (initiation : Initiation) (phase : InitPhase) (draw : Draw) (e : Cause) → Starts initiation phase draw (Err e) → IsNetwork e → ⊥
starts_refuse initiation New draw e h z = new_refuses initiation draw e h z
starts_refuse initiation (InAsExchange phase) draw e h z = h
starts_refuse initiation (AwaitsTgsRep leg) draw e h z = h
starts_refuse initiation Over draw e h z = h

fresh_refuses : (P : Type 0) (rules : Rules) (target realm : List ℕ) (question : TgsQuestion) (moment : ℕ) (suite : CipherSuite) (key : List ℕ) (rep : TgsRep)
    → Refuses P (BringsFresh rules target realm question moment suite key rep)
unfolding BringsFresh
fresh_refuses P rules target realm question moment suite key rep =
    then_refuses P _ _ (brings_refuse P rules suite key rep)
    (λ next. then_refuses P _ _ (asked_for_refuses P (has_rule rules fresh_replies) (AnswersTgsReq target realm question moment rep.0 next.facts) (answers_refuse P _ _ moment next.facts)) (λ _. gives_refuses P _))

takes_next_refuses : (seeker : Seeker) (leg : TgsLeg) (reply : Result (List ℕ) NetFault) (draw : Draw) → Refuses (IsFailure reply) (TakesNext seeker leg reply draw)
unfolding TakesNext TakesTgsRep
takes_next_refuses seeker leg reply draw =
    then_refuses _ _ _ (then_refuses _ _ _ (grants_refuse reply leg.kdc.protocol _) (λ rep. then_refuses _ _ _ (fresh_refuses _ seeker.asker.rules seeker.wanted.target leg.kdc.realm leg.question draw.moment leg.suite leg.key rep) (λ next. gives_refuses _ _)))
    (λ shown. goes_refuse _ (referral_of seeker.asker.rules seeker.wanted.target shown.facts shown.rep) seeker leg shown draw)

continues_refuse : (seeker : Seeker) (phase : InitPhase) (reply : Result (List ℕ) NetFault) (draw : Draw) (e : Cause) → Continues seeker phase reply draw (Err e) → IsNetwork e → IsFailure reply
continues_refuse seeker New reply draw e h z = absurd h
continues_refuse seeker (InAsExchange phase) reply draw e h z =
    (takes_reply_within_refuses InAsExchange (λ grant. AsksFirstTgs seeker grant draw) reply (λ grant. first_tgs_refuses _ seeker grant draw) seeker.asker phase draw).not e h z
continues_refuse seeker (AwaitsTgsRep leg) reply draw e h z = (takes_next_refuses seeker leg reply draw).not e h z
continues_refuse seeker Over reply draw e h z = absurd h

pub next_refuses : (initiation : Initiation) (phase : InitPhase) (reply : Result (List ℕ) NetFault) (draw : Draw) (e : Cause) → Next initiation phase reply draw (Err e) → IsNetwork e → IsFailure reply
next_refuses (Requests initiator token) phase reply draw e h z = absurd h
next_refuses (Seeks seeker) phase reply draw e h z = continues_refuse seeker phase reply draw e h z
next_refuses (Hears initiator token) phase reply draw e h z = absurd h
