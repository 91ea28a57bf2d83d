-- The octets of a request for a new password, and how many there are.
use Rattle.std.proofs.Common.{◌≡◌, ℕ, ◌+◌, ◌<◌, ◌≤◌, ◌^◌, List, [], ◌∷◌, ◌++◌, length, Result, Ok, Err, IfOk, arith, lit≤, sym, subst, ap, ◌∙◌, refl}
use Rattle.krb_der.specs.declared.memory.OutOfMemory.{OutOfMemory}
use Rattle.krb_der.proofs.Lengths.{append_le}
use Rattle.krb_exchange.specs.PrivMessages.{SpellsAp, IsWritten, two_octets, message_octets}
use Rattle.krb_exchange.specs.declared.priv_message.KrbPrivMessage.{KrbPrivMessage}
use Rattle.krb_exchange.specs.declared.priv_message.ApMessage.{ApMessage}
use Rattle.krb_exchange.specs.declared.priv_message.ApMessage.TheVariants.{ApReq, ApRep}
use Rattle.krb_authenticators.specs.Passwords.{FitsRequest, FitsPriv}
use Rattle.krb_password_change.specs.Requested.{ap_spelling, written}

-- what is written is the spelling
ap_spelled : (message : ApMessage) (octets : List ℕ) → SpellsAp message octets → octets ≡ ap_spelling message
ap_spelled (ApReq request) octets h = h.is
ap_spelled (ApRep reply) octets h = h.is

is_written : (message : KrbPrivMessage) (octets : List ℕ) → IsWritten message octets → octets ≡ written message
is_written message octets h = h.is ∙ rw (ap_spelled message.ap_message h.ap h.ap_message, h.krb_priv.is) refl

ap_short : (message : ApMessage) → FitsRequest message → length (ap_spelling message) ≤ 2 ^ 28
ap_short (ApReq request) h = h.short
ap_short (ApRep reply) h = absurd h

octets_le : (ap priv : List ℕ) → length ap ≤ 2 ^ 28 → length priv ≤ 2 ^ 28 → length (message_octets ap priv) < 2 ^ 30
octets_le ap priv h k =
    omega (
      arith,
      append_le (two_octets (6 + (length ap + length priv))) (0x00 ∷ 0x01 ∷ (two_octets (length ap) ++ (ap ++ priv))) 2 (2 + (2 + (2 ^ 28 + 2 ^ 28))) (lit≤ tt)
          (append_le (0x00 ∷ 0x01 ∷ []) (two_octets (length ap) ++ (ap ++ priv)) 2 (2 + (2 ^ 28 + 2 ^ 28)) (lit≤ tt)
          (append_le (two_octets (length ap)) (ap ++ priv) 2 (2 ^ 28 + 2 ^ 28) (lit≤ tt) (append_le ap priv (2 ^ 28) (2 ^ 28) h k))),
    )

written_le : (message : KrbPrivMessage) → FitsPriv message → length (written message) < 2 ^ 30
written_le message h = octets_le _ _ (ap_short message.ap_message h.request) h.sealed.short

pub written_short : (message : KrbPrivMessage) (answer : Result (List ℕ) OutOfMemory) → IfOk answer (IsWritten message) → FitsPriv message → IfOk answer (λ octets. length octets < 2 ^ 30)
written_short message (Ok octets) h k = subst (λ (o : List ℕ). length o < 2 ^ 30) (sym (is_written message octets h)) (written_le message k)
written_short message (Err z) h k = tt
