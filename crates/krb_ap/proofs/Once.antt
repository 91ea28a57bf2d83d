-- An AP-REQ to a service, and the outcome of the service's answer, have one value.
use Rattle.std.proofs.Common.{◌≡◌, ℕ, Bool, true, false, List, [], ◌∷◌, subst}
use Rattle.krb_crypto.specs.declared.suite.CipherSuite.{CipherSuite}
use Rattle.krb_messages.specs.Layouts.{ap_rep_layout, enc_ap_rep_part_layout}
use Rattle.krb_messages.specs.declared.ap_rep.ApRep.{ApRep}
use Rattle.krb_messages.specs.declared.ap_rep.EncApRepPart.{EncApRepPart}
use Rattle.krb_messages.proofs.FrameLemmas.{one_frame_lem}
use Rattle.krb_exchange.specs.declared.kdc_rep.KdcRep.{KdcRep}
use Rattle.krb_exchange.proofs.Spelled.{same_record}
use Rattle.sspi_core.proofs.Once.{Once, then_once, finds_once, takes_once, holds_once, gives_once}
use Rattle.sspi_core.specs.declared.draw.Draw.{Draw}
use Rattle.krb_replies.specs.Unseals.{IsRead}
use Rattle.krb_replies.specs.Answered.{OpensApRep}
use Rattle.krb_replies.proofs.Once.{opens_once}
use Rattle.krb_ap.specs.declared.initiator.Initiator.{Initiator}
use Rattle.krb_ap.specs.declared.errand.Errand.{Errand}
use Rattle.krb_ap.specs.Initiators.{is_bare}
use Rattle.krb_ap.specs.Shown.{ShowsTicket}
use Rattle.krb_ap.specs.Answered.{IsApRep, ReadsApRep, Confirms, Replies, FinishesInitiation, TakesApRep}

pub shows_ticket_once : (errand : Errand) (suite : CipherSuite) (key : List ℕ) (rep : KdcRep) (home : List ℕ) (draw : Draw) → Once (ShowsTicket errand suite key rep home draw)
unfolding ShowsTicket
shows_ticket_once errand suite key rep home draw = then_once _ _ (holds_once _ _) (λ _. gives_once _)

-- the AP-REP that a token is, whatever mechanism its frame names
same_ap_rep : (dce : Bool) (token : List ℕ) (x y : ApRep) → IsApRep dce token x → IsApRep dce token y → x ≡ y
same_ap_rep true token x y h k = same_record ap_rep_layout x y token h k
same_ap_rep false token x y h k =
    let same = (one_frame_lem h.oid k.oid (2 ∷ 0 ∷ []) h.octets k.octets token h.frame k.frame).1 in
    let R : List ℕ → Type 0 = λ octets. IsRead ap_rep_layout octets x in
    same_record ap_rep_layout x y k.octets (subst R same h.read) k.read

reads_once : (dce : Bool) (token : List ℕ) → Once (ReadsApRep dce token)
unfolding ReadsApRep
reads_once dce token = then_once _ _ (holds_once _ _) (λ _. finds_once _ _ (same_ap_rep dce token))

opens_ap_rep_once : (suite : CipherSuite) (key : List ℕ) (message : ApRep) → Once (OpensApRep suite key message)
unfolding OpensApRep
opens_ap_rep_once suite key message = opens_once enc_ap_rep_part_layout _ suite key 12 message.enc_part.cipher

confirms_once : (initiator : Initiator) (part : EncApRepPart) → Once (Confirms initiator part.subkey)
unfolding Confirms
confirms_once initiator part = then_once _ _ (takes_once _ _) (λ key. gives_once _)

replies_once : (initiator : Initiator) (key : List ℕ) (part : EncApRepPart) (draw : Draw) → Once (Replies initiator key part.subkey part.seq_number draw)
unfolding Replies
replies_once initiator key part draw = then_once _ _ (takes_once _ _) (λ subkey. then_once _ _ (takes_once _ _) (λ number. gives_once _))

finishes_once : (dce : Bool) (initiator : Initiator) (key : List ℕ) (part : EncApRepPart) (draw : Draw) → Once (λ r. FinishesInitiation dce initiator key part draw r)
finishes_once true initiator key part draw = record { same = λ r s h k. (replies_once initiator key part draw).same r s h k }
finishes_once false initiator key part draw = record { same = λ r s h k. (confirms_once initiator part).same r s h k }

pub takes_ap_rep_once : (initiator : Initiator) (token : List ℕ) (draw : Draw) → Once (TakesApRep initiator token draw)
unfolding TakesApRep
takes_ap_rep_once initiator token draw =
    then_once _ _ (reads_once (is_bare initiator.flags) token) (λ message. then_once _ _ (takes_once _ _)
    (λ key. then_once _ _ (opens_ap_rep_once _ key message) (λ part. then_once _ _ (holds_once _ _) (λ _. finishes_once (is_bare initiator.flags) initiator key part draw))))
