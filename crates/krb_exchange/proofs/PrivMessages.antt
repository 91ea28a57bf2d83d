-- Octets are read as one message, and what was written is read back.
use Rattle.std.proofs.Common.{◌≡◌, ℕ, ◌+◌, ◌^◌, ◌<◌, ◌≤◌, List, ◌++◌, length, take, drop, refl, sym, ap, subst, ◌∙◌, arith}
use Rattle.std.proofs.lemmas.List.{length-append, take_at, drop_at}
use Rattle.krb_der.specs.Schema.{Spells, tag_of}
use Rattle.krb_messages.specs.Table.{ap_req, ap_rep}
use Rattle.krb_messages.specs.Layouts.{ap_req_layout, ap_rep_layout}
use Rattle.krb_messages.specs.declared.ap_req.ApReq.{ApReq as Request}
use Rattle.krb_messages.specs.declared.ap_rep.ApRep.{ApRep as Reply}
use Rattle.krb_exchange.specs.declared.krb_priv.KrbPriv.{KrbPriv}
use Rattle.krb_exchange.specs.declared.priv_message.ApMessage.{ApMessage}
use Rattle.krb_exchange.specs.declared.priv_message.ApMessage.TheVariants.{ApReq, ApRep}
use Rattle.krb_exchange.specs.declared.priv_message.KrbPrivMessage.{KrbPrivMessage}
use Rattle.krb_exchange.specs.Layouts.{krb_priv_layout}
use Rattle.krb_exchange.specs.PrivMessages.{SpellsAp, IsPrivMessage, IsWritten, ap_length, ap_octets, priv_octets, message_octets}
use Rattle.krb_exchange.proofs.Spelled.{same_record, different_tags}

tags_differ : tag_of ap_req_layout.kind ≡ tag_of ap_rep_layout.kind → ⊥
unfolding ap_req ap_rep
tags_differ e = omega (arith, e)

same_ap : (x y : ApMessage) (octets : List ℕ) → SpellsAp x octets → SpellsAp y octets → x ≡ y
same_ap (ApReq x) (ApReq y) octets s t = ap (λ (request : Request). ApReq request) (same_record ap_req_layout x y octets s t)
same_ap (ApReq x) (ApRep y) octets s t = absurd (different_tags ap_req_layout ap_rep_layout x y octets tags_differ s t)
same_ap (ApRep x) (ApReq y) octets s t = absurd (different_tags ap_req_layout ap_rep_layout y x octets tags_differ t s)
same_ap (ApRep x) (ApRep y) octets s t = ap (λ (reply : Reply). ApRep reply) (same_record ap_rep_layout x y octets s t)

abbrev message_of : ApMessage → KrbPriv → KrbPrivMessage
message_of message krb_priv = record { ap_message = message; krb_priv = krb_priv }

pub same_message : (x y : KrbPrivMessage) (octets : List ℕ) → IsPrivMessage x octets → IsPrivMessage y octets → x ≡ y
same_message x y octets s t =
    ap (λ (message : ApMessage). message_of message x.krb_priv) (same_ap x.ap_message y.ap_message (ap_octets octets) s.ap_message t.ap_message)
    ∙ ap (λ (krb_priv : KrbPriv). message_of y.ap_message krb_priv) (same_record krb_priv_layout x.krb_priv y.krb_priv (priv_octets octets) s.krb_priv t.krb_priv)

module _ (message priv : List ℕ) (fits : length message < 2 ^ 16) where
  abbrev whole : List ℕ
  whole = message_octets message priv

  length_is : ap_length whole ≡ length message
  length_is = omega (arith, fits)

  ap_is : ap_octets whole ≡ message
  ap_is = ap (λ n. take n (message ++ priv)) length_is ∙ take_at message priv (length message) refl

  priv_is : priv_octets whole ≡ priv
  priv_is = ap (λ n. drop n (message ++ priv)) length_is ∙ drop_at message priv (length message) refl

  long_is : 6 + ap_length whole ≤ length whole
  long_is = omega (arith, length_is, length-append message priv)

spelled : (x : KrbPriv) {a b : List ℕ} → a ≡ b → Spells krb_priv_layout.kind (krb_priv_layout.view x) b → Spells krb_priv_layout.kind (krb_priv_layout.view x) a
spelled x e s = subst (λ (octets : List ℕ). Spells krb_priv_layout.kind (krb_priv_layout.view x) octets) (sym e) s

pub read_back : (message : KrbPrivMessage) (octets : List ℕ) (written : IsWritten message octets) → length written.ap < 2 ^ 16 → IsPrivMessage message octets
read_back message octets written fits =
    subst (λ (whole : List ℕ). IsPrivMessage message whole) (sym written.is) (record {
      long = long_is written.ap written.priv fits;
      ap_message = subst (λ (part : List ℕ). SpellsAp message.ap_message part) (sym (ap_is written.ap written.priv fits)) written.ap_message;
      krb_priv = spelled message.krb_priv (priv_is written.ap written.priv fits) written.krb_priv;
    })
