-- Two ends understand each other, in whatever order they wrap and are handed messages.
use Rattle.std.proofs.Common.{◌≡◌, ℕ, suc, ◌^◌, ◌<◌, List, [], ◌∷◌, ◌++◌}
use Rattle.krb_context.specs.declared.context.Kerberos.{Kerberos}
use Rattle.krb_context.specs.Peers.{ArePeers}
use Rattle.krb_context.specs.Unwraps.{message_number}
use Rattle.krb_laws_ends.specs.Flow.{Flows}
use Rattle.krb_laws_ends.specs.Messages.{wrapped_one, opened_one}
use Rattle.krb_laws_ends.specs.Talk.{Turn, IsFair, IsUnderstood}
use Rattle.krb_laws_ends.specs.Talk.Turn.{left_wraps, right_wraps, left_gets, right_gets}
use Rattle.krb_laws_ends.proofs.OrderLemmas.{flow_begins, flow_opens, flow_wraps, flow_beside}

module _ (m n : ℕ) where
  understood : (left right : Kerberos) (s t : ℕ) (b c : List ℕ) (turns : List Turn) → Flows left right m s c → Flows right left n t b → IsFair m n left right b c turns
      → IsUnderstood left right turns
  understood left right s t b c [] there back fair = tt
  understood left right s t b c (left_wraps message ∷ turns) there back fair =
      understood (wrapped_one left) right (suc s) t b c turns (flow_wraps left right m s c there) (flow_beside right left n t b 0 back).1 fair.1
  understood left right s t b c (right_wraps message ∷ turns) there back fair =
      understood left (wrapped_one right) s (suc t) b c turns (flow_beside left right m s c 0 there).1 (flow_wraps right left n t b back) fair.1
  understood left right s t b c (left_gets place message ∷ turns) there back fair =
      let step = flow_opens right left n t b place message back fair.1 fair.0 in (
        step.opens,
        understood (opened_one (message_number message.received) left) right s t (b ++ place ∷ []) c turns
            (flow_beside left right m s c (message_number message.received) there).0 step.on fair.2,
      )
  understood left right s t b c (right_gets place message ∷ turns) there back fair =
      let step = flow_opens left right m s c place message there fair.1 fair.0 in (
        step.opens,
        understood left (opened_one (message_number message.received) right) s t b (c ++ place ∷ []) turns step.on
            (flow_beside right left n t b (message_number message.received) back).0 fair.2,
      )

pub talk_understood : (left right : Kerberos) (turns : List Turn) → ArePeers left right → ArePeers right left → left.seq_number < 2 ^ 32 → right.seq_number < 2 ^ 32
    → left.window.mask ≡ 0 → right.window.mask ≡ 0 → IsFair left.seq_number right.seq_number left right [] [] turns → IsUnderstood left right turns
talk_understood left right turns there back left_small right_small left_new right_new fair =
    understood left.seq_number right.seq_number left right 0 0 [] [] turns (flow_begins left right there left_small right_new) (flow_begins right left back right_small left_new) fair
