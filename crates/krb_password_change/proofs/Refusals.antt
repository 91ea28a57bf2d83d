-- Which checks refuse because the network failed: none but the first one on a reply.
use Rattle.std.proofs.Common.{ℕ, List, Option, Result, Err, refl}
use Rattle.krb_exchange.specs.Layouts.{as_rep_layout}
use Rattle.krb_exchange.specs.declared.krb_priv.KrbPriv.{KrbPriv}
use Rattle.krb_crypto.specs.declared.suite.CipherSuite.{CipherSuite}
use Rattle.sspi_core.specs.declared.cause.Cause.{Cause}
use Rattle.sspi_core.specs.declared.cause.Cause.TheVariants.{Shape, Etype, KeyLength, Port, Short, Altered, Inner, UserData, ResultCode}
use Rattle.sspi_core.specs.declared.draw.Draw.{Draw}
use Rattle.sspi_core.specs.declared.protocol.NetworkProtocol.{NetworkProtocol}
use Rattle.sspi_generator.specs.declared.network.NetFault.{NetFault}
use Rattle.sspi_generator.specs.Steps.{IsFailure}
use Rattle.krb_as.specs.AsPhases.{kdc_of}
use Rattle.krb_as.specs.declared.kdc.Kdc.{Kdc}
use Rattle.krb_as.specs.declared.key.Grant.{Grant}
use Rattle.krb_as.specs.Replies.{Unwraps, Replies}
use Rattle.krb_replies.specs.Answered.{TellsStatus}
use Rattle.krb_replies.specs.Unseals.{Unseals, OpensSealed}
use Rattle.krb_as.proofs.Refusals.{IsNetwork, Refuses, then_refuses, finds_refuses, takes_refuses, holds_refuses, gives_refuses, begins_within_refuses, takes_reply_within_refuses, replies_refuse}
use Rattle.krb_password_change.specs.declared.change.Changer.{Changer}
use Rattle.krb_password_change.specs.declared.phase.AnswerLeg.{AnswerLeg}
use Rattle.krb_password_change.specs.declared.phase.ChangePhase.{ChangePhase}
use Rattle.krb_password_change.specs.declared.phase.ChangePhase.TheVariants.{New, InAsExchange, AwaitsAnswer, Over}
use Rattle.krb_password_change.specs.ChangeSteps.{AsksChange, ReadsAnswer, Concludes, TakesAnswer}
use Rattle.krb_password_change.specs.ChangeRuns.{Starts, Next}

-- the start never does
pub starts_refuse : (changer : Changer) (phase : ChangePhase) (draw : Draw) (e : Cause) → Starts changer phase draw (Err e) → IsNetwork e → ⊥
starts_refuse changer New draw e h z = (begins_within_refuses InAsExchange changer.asker _).not e h z
starts_refuse changer (InAsExchange phase) draw e h z = h
starts_refuse changer (AwaitsAnswer leg) draw e h z = h
starts_refuse changer Over draw e h z = h

module _ (P : Type 0) where
  change_refuses : (changer : Changer) (kdc : Kdc) (draw : Draw) (grant : Grant) → Refuses P (AsksChange changer kdc draw grant)
  unfolding AsksChange
  change_refuses changer kdc draw grant =
      then_refuses P _ _ (holds_refuses P KeyLength _ (λ z. let e = z.1 in absurd cc)) (λ _. then_refuses P _ _ (takes_refuses P Port _ (λ z. let e = z.1 in absurd cc))
      (λ service. gives_refuses P _))

  status_refuses : (chosen : Option CipherSuite) (key : List ℕ) (answer : KrbPriv) → Refuses P (TellsStatus chosen key answer)
  unfolding TellsStatus OpensSealed Unseals
  status_refuses chosen key answer =
      then_refuses P _ _ (takes_refuses P Etype _ (λ z. let e = z.1 in absurd cc))
      (λ suite. then_refuses P _ _ (then_refuses P _ _ (then_refuses P _ _ (holds_refuses P KeyLength _ (λ z. let e = z.1 in absurd cc))
      (λ _. then_refuses P _ _ (holds_refuses P Short _ (λ z. let e = z.1 in absurd cc)) (λ _. finds_refuses P Altered _ (λ z. let e = z.1 in absurd cc))))
      (λ plain. finds_refuses P Inner _ (λ z. let e = z.1 in absurd cc))) (λ part. takes_refuses P UserData _ (λ z. let e = z.1 in absurd cc)))

  concludes_refuse : (changer : Changer) (leg : AnswerLeg) (code : ℕ) → Refuses P (Concludes changer leg code)
  unfolding Concludes
  concludes_refuse changer leg code = then_refuses P _ _ (holds_refuses P (ResultCode code) _ (λ z. let e = z.1 in absurd cc)) (λ _. gives_refuses P _)

-- a reply that is not unwrapped is none of a KDC either
unwraps_refuse : (reply : Result (List ℕ) NetFault) (protocol : NetworkProtocol) → Refuses (IsFailure reply) (Unwraps protocol reply)
unfolding Replies
unwraps_refuse reply protocol = record { not = λ e h z. (replies_refuse reply protocol as_rep_layout).not e (record { middle = Err e; held = h; rest = refl }) z }

answer_refuses : (changer : Changer) (leg : AnswerLeg) (reply : Result (List ℕ) NetFault) → Refuses (IsFailure reply) (TakesAnswer changer leg reply)
unfolding TakesAnswer ReadsAnswer
answer_refuses changer leg reply =
    then_refuses _ _ _ (then_refuses _ _ _ (unwraps_refuse reply leg.protocol) (λ octets. finds_refuses _ Shape _ (λ z. let e = z.1 in absurd cc)))
    (λ answer. then_refuses _ _ _ (status_refuses _ _ _ answer) (λ code. concludes_refuse _ changer leg code))

pub next_refuses : (changer : Changer) (phase : ChangePhase) (reply : Result (List ℕ) NetFault) (draw : Draw) (e : Cause) → Next changer phase reply draw (Err e) → IsNetwork e → IsFailure reply
next_refuses changer New reply draw e h z = absurd h
next_refuses changer (InAsExchange phase) reply draw e h z =
    (takes_reply_within_refuses InAsExchange (AsksChange changer (kdc_of phase) draw) reply (change_refuses _ changer (kdc_of phase) draw) changer.asker phase draw).not e h z
next_refuses changer (AwaitsAnswer leg) reply draw e h z = (answer_refuses changer leg reply).not e h z
next_refuses changer Over reply draw e h z = absurd h
