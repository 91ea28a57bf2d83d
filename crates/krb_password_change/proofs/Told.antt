-- The answer of the service: the message that it is.
use Rattle.std.proofs.Common.{◌≡◌, ℕ, true, false, List, get_or, Result, Err, refl, ap, sym, ◌∙◌, subst}
use Rattle.std.specs.Prelude.{◌==◌}
use Rattle.krb_der.specs.Der.{tlv}
use Rattle.krb_messages.specs.Table.{ap_req, ap_rep}
use Rattle.krb_messages.specs.declared.ap_req.ApReq.{ApReq as Request}
use Rattle.krb_exchange.specs.declared.krb_priv.KrbPriv.{KrbPriv}
use Rattle.krb_exchange.specs.declared.priv_message.KrbPrivMessage.{KrbPrivMessage}
use Rattle.krb_exchange.specs.declared.priv_message.ApMessage.{ApMessage}
use Rattle.krb_exchange.specs.declared.priv_message.ApMessage.TheVariants.{ApReq, ApRep}
use Rattle.krb_exchange.specs.PrivMessages.{IsPrivMessage}
use Rattle.sspi_core.specs.declared.cause.Cause.{Cause}
use Rattle.sspi_core.specs.declared.cause.Cause.TheVariants.{Shape}
use Rattle.sspi_core.specs.Checks.{Answers, Finds, FoundOr, Takes, ok_or}
use Rattle.krb_password_change.specs.ChangeSteps.{IsAnswer, behind_reply}

never : true ≡ false → ⊥
never e = absurd cc

numbers_differ : ◌≡◌ {A = ℕ} 0x6e 0x6f → ⊥
numbers_differ e = never (ap (λ (n : ℕ). n == 0x6e) e)

-- an AP-REQ and an AP-REP have other tags
tags_differ : (c d octets : List ℕ) → octets ≡ tlv 0x6e c → octets ≡ tlv 0x6f d → ⊥
unfolding tlv
tags_differ c d octets e f = numbers_differ (ap (λ (o : List ℕ). get_or o 0 0) (sym e ∙ f))

-- so a message with an AP-REQ is no answer
no_answer : (octets : List ℕ) (request : Request) (sealed : KrbPriv) → IsPrivMessage (record { ap_message = ApReq request; krb_priv = sealed }) octets → (answer : KrbPriv) → IsAnswer octets answer → ⊥
unfolding ap_req ap_rep
no_answer octets request sealed h answer k = tags_differ _ _ _ h.ap_message.is k.read.ap_message.is

for_reply : (octets : List ℕ) (message : ApMessage) (sealed : KrbPriv) → IsPrivMessage (record { ap_message = message; krb_priv = sealed }) octets → FoundOr Shape (IsAnswer octets) (ok_or Shape (behind_reply message sealed))
for_reply octets (ApRep reply) sealed h = record { ap_rep = reply; read = h }
for_reply octets (ApReq request) sealed h = (refl, no_answer octets request sealed h)

behind : (octets : List ℕ) (message : ApMessage) (sealed : KrbPriv) (answer : Result KrbPriv Cause) → IsPrivMessage (record { ap_message = message; krb_priv = sealed }) octets
    → Takes Shape (behind_reply message sealed) answer → Finds Shape (IsAnswer octets) answer
behind octets message sealed answer h t = record { is = subst (λ (r : Result KrbPriv Cause). FoundOr Shape (IsAnswer octets) r) (sym t.is) (for_reply octets message sealed h) }

-- a message that was read
pub read_answer : (octets same : List ℕ) (message : KrbPrivMessage) (answer : Result KrbPriv Cause) → same ≡ octets → IsPrivMessage message same
    → Takes Shape (behind_reply message.ap_message message.krb_priv) answer → Answers (Finds Shape (IsAnswer octets)) answer
read_answer octets same message answer e h t =
    record { so = λ ne. behind octets message.ap_message message.krb_priv answer (subst (λ (o : List ℕ). IsPrivMessage message o) e h) t }

-- where there is none
pub no_message : (octets same : List ℕ) → same ≡ octets → ((message : KrbPrivMessage) → IsPrivMessage message same → ⊥) → Answers (Finds Shape (IsAnswer octets)) (Err Shape)
no_message octets same e none = record {
  so = λ ne. record { is = (refl, λ answer k. none (record { ap_message = ApRep k.ap_rep; krb_priv = answer }) (subst (λ (o : List ℕ). IsPrivMessage (record { ap_message = ApRep k.ap_rep; krb_priv = answer }) o) (sym e) k.read)) };
}
