-- Each chain of checks has at most one answer.
use Rattle.std.proofs.Common.{◌≡◌, ℕ, Bool, true, false, List, [], Result, Ok, Err, refl, sym, ap, ◌∙◌, subst}
use Rattle.krb_der.specs.Layout.{Layout}
use Rattle.krb_der.proofs.Records.{one_spelling_lem}
use Rattle.krb_messages.specs.Layouts.{ap_req_layout, enc_ticket_part_layout, authenticator_layout, ap_rep_layout, enc_ap_rep_part_layout}
use Rattle.krb_messages.specs.declared.ap_rep.ApRep.{ApRep}
use Rattle.krb_context.specs.Params.{suite_of}
use Rattle.krb_admission.specs.declared.admission.Answer.{Answer}
use Rattle.krb_messages.specs.declared.ap_req.ApReq.{ApReq}
use Rattle.krb_messages.specs.declared.enc_ticket_part.EncTicketPart.{EncTicketPart}
use Rattle.krb_messages.specs.declared.encryption.EncryptedData.{EncryptedData}
use Rattle.krb_crypto.specs.declared.suite.CipherSuite.{CipherSuite}
use Rattle.krb_crypto.proofs.SealedLemmas.{sealed_once}
use Rattle.krb_context.specs.declared.context.Kerberos.{Kerberos}
use Rattle.krb_context.specs.declared.rules.Rules.{Rules}
use Rattle.krb_context.specs.declared.server.ServerProperties.{ServerProperties}
use Rattle.krb_replay.specs.declared.ask.Verdict.{Verdict}
use Rattle.sspi_core.specs.declared.cause.Cause.{Cause}
use Rattle.sspi_core.specs.declared.draw.Draw.{Draw}
use Rattle.sspi_core.proofs.Once.{Once, then_once, finds_once, takes_once, holds_once, passes_once, gives_once}
use Rattle.krb_admission.specs.declared.request.Request.{Request}
use Rattle.krb_admission.specs.declared.admission.Admission.{Admission}
use Rattle.krb_replies.specs.declared.unseal.Refusals.{Refusals}
use Rattle.krb_replies.specs.Unseals.{IsRead, own_key, session_key, Unseals, OpensSealed, OpensData}
use Rattle.krb_replies.specs.Answered.{OpensApRep, TellsNumber}
use Rattle.krb_admission.specs.Tokens.{IsApReq, ReceivesApReq}
use Rattle.krb_admission.specs.Requests.{OpensTicket, OpensAuthenticator, Requests}
use Rattle.krb_admission.specs.Allowed.{Allows}
use Rattle.krb_admission.specs.Complete.{Completes}
use Rattle.krb_admission.specs.ThirdLeg.{ReadsApRep, TellsLast, IsLastWord, Closes, Concludes}
use Rattle.krb_admission.specs.Accepts.{BeginsAdmission, FinishesAdmission, DecidesAdmission}
use Rattle.krb_admission.proofs.Frames.{same_message}

-- octets spell one record
read_once : {A : Type 0} (layout : Layout A) (octets : List ℕ) (x y : A) → IsRead layout octets x → IsRead layout octets y → x ≡ y
read_once layout octets x y h k =
    sym (layout.back x) ∙ ap layout.of (one_spelling_lem layout.kind (layout.view x) (layout.view y) octets octets [] [] layout.ascends h k refl).1 ∙ layout.back y

unseals_once : (refusals : Refusals) (suite : CipherSuite) (key : List ℕ) (usage : ℕ) (text : List ℕ) → Once (Unseals refusals suite key usage text)
unfolding Unseals
unseals_once refusals suite key usage text =
    then_once _ _ (holds_once _ _) (λ _. then_once _ _ (holds_once _ _) (λ _. finds_once _ _ (sealed_once suite key usage text)))

opens_once : {A : Type 0} (layout : Layout A) (refusals : Refusals) (suite : CipherSuite) (key : List ℕ) (usage : ℕ) (text : List ℕ) → Once (OpensSealed layout refusals suite key usage text)
unfolding OpensSealed
opens_once layout refusals suite key usage text = then_once _ _ (unseals_once refusals suite key usage text) (λ plain. finds_once _ _ (read_once layout plain))

opens_data_once : {A : Type 0} (layout : Layout A) (key : List ℕ) (usage : ℕ) (part : EncryptedData) → Once (OpensData layout key usage part)
unfolding OpensData
opens_data_once layout key usage part =
    then_once _ _ (takes_once _ _) (λ suite. then_once _ _ (opens_once layout own_key suite key usage part.cipher) (λ value. gives_once _))

same_ap_req : (dce : Bool) (token : List ℕ) (m n : ApReq) → IsApReq dce token m → IsApReq dce token n → m ≡ n
same_ap_req true token m n h k = read_once ap_req_layout token m n h k
same_ap_req false token m n h k =
    read_once ap_req_layout k.octets m n (subst (λ (octets : List ℕ). IsRead ap_req_layout octets m) (same_message _ _ _ _ _ token h.frame k.frame) h.read) k.read

receives_once : (dce : Bool) (token : List ℕ) → Once (ReceivesApReq dce token)
unfolding ReceivesApReq
receives_once dce token = then_once _ _ (holds_once _ _) (λ _. finds_once _ _ (same_ap_req dce token))

opens_ticket_once : (server : ServerProperties) (message : ApReq) → Once (OpensTicket server message)
unfolding OpensTicket
opens_ticket_once server message =
    then_once _ _ (takes_once _ _) (λ key. then_once _ _ (opens_data_once enc_ticket_part_layout key 2 message.ticket.enc_part) (λ _. gives_once _))

opens_authenticator_once : (rules : Rules) (message : ApReq) (part : EncTicketPart) → Once (OpensAuthenticator rules message part)
unfolding OpensAuthenticator
opens_authenticator_once rules message part =
    then_once _ _ (opens_data_once authenticator_layout part.key.key_value 11 message.authenticator) (λ _. then_once _ _ (holds_once _ _) (λ _. gives_once _))

requests_once : (rules : Rules) (server : ServerProperties) (dce : Bool) (token : List ℕ) → Once (Requests rules server dce token)
unfolding Requests
requests_once rules server dce token =
    then_once _ _ (receives_once dce token) (λ message. then_once _ _ (opens_ticket_once server message) (λ part.
    then_once _ _ (opens_authenticator_once rules message part) (λ _. gives_once _)))

allows_once : (server : Kerberos) (request : Request) → Once (Allows server request)
unfolding Allows
allows_once server request =
    then_once _ _ (holds_once _ _) (λ _. then_once _ _ (holds_once _ _) (λ _. then_once _ _ (holds_once _ _) (λ _. holds_once _ _)))

pub begins_once : (server : Kerberos) (dce : Bool) (token : List ℕ) → Once (BeginsAdmission server dce token)
unfolding BeginsAdmission
begins_once server dce token =
    then_once _ _ (holds_once _ _) (λ _. then_once _ _ (takes_once _ _) (λ p. then_once _ _ (requests_once server.rules p dce token) (λ request.
    then_once _ _ (allows_once server request) (λ _. gives_once _))))

completes_once : (rules : Rules) (request : Request) → Once (Completes rules request)
unfolding Completes
completes_once rules request = then_once _ _ (holds_once _ _) (λ _. then_once _ _ (holds_once _ _) (λ _. then_once _ _ (holds_once _ _) (λ _. gives_once _)))

finishes_once : (server : Kerberos) (dce : Bool) (draw : Draw) (request : Request) → Once (FinishesAdmission server dce draw request)
unfolding FinishesAdmission
finishes_once server dce draw request = then_once _ _ (completes_once server.rules request) (λ client. gives_once _)

judged_once : (server : Kerberos) (dce : Bool) (token : List ℕ) (draw : Draw) (verdict : Verdict) → Once (DecidesAdmission server dce token draw verdict)
unfolding DecidesAdmission
judged_once server dce token draw verdict =
    then_once _ _ (begins_once server dce token) (λ request. then_once _ _ (passes_once _) (λ _. finishes_once server dce draw request))

pub one_outcome_lem : (server : Kerberos) (dce : Bool) (token : List ℕ) (draw : Draw) (verdict : Verdict) (r s : Result Admission Cause) → DecidesAdmission server dce token draw verdict r → DecidesAdmission server dce token draw verdict s → r ≡ s
one_outcome_lem server dce token draw verdict r s h k = (judged_once server dce token draw verdict).same r s h k

-- ---- the third leg

tells_number_once : (suite : CipherSuite) (key : List ℕ) (message : ApRep) → Once (TellsNumber suite key message)
unfolding TellsNumber OpensApRep
tells_number_once suite key message =
    then_once _ _ (opens_once enc_ap_rep_part_layout session_key suite key 12 message.enc_part.cipher) (λ part. takes_once _ _)

reads_once : (token : List ℕ) → Once (ReadsApRep token)
unfolding ReadsApRep
reads_once token = then_once _ _ (holds_once _ _) (λ _. finds_once _ _ (read_once ap_rep_layout token))

tells_last_once : (server : Kerberos) (token : List ℕ) → Once (TellsLast server token)
unfolding TellsLast
tells_last_once server token =
    then_once _ _ (reads_once token) (λ message. then_once _ _ (takes_once _ _) (λ key. tells_number_once (suite_of server.encryption_params) key message))

pub last_word_once : (server : Kerberos) (token : List ℕ) → Once (IsLastWord server token)
unfolding IsLastWord
last_word_once server token = then_once _ _ (takes_once _ _) (λ _. then_once _ _ (tells_last_once server token) (λ _. holds_once _ _))

closes_once : (server : Kerberos) (o : Result (Unit {0}) Cause) (r s : Result Answer Cause) (a b : Kerberos) → Closes server o r a → Closes server o s b → (r ≡ s) × (a ≡ b)
closes_once server (Ok _) r s a b h k = (h.0 ∙ sym k.0, h.1 ∙ sym k.1)
closes_once server (Err cause) r s a b h k = (h.0 ∙ sym k.0, h.1 ∙ sym k.1)

-- each token has one answer if the third leg is awaited
pub concludes_once : (server : Kerberos) (token : List ℕ) (r s : Result Answer Cause) (a b : Kerberos) → Concludes server token r a → Concludes server token s b → (r ≡ s) × (a ≡ b)
concludes_once server token r s a b h k =
    let C : Result (Unit {0}) Cause → Type 0 = λ o. Closes server o s b in
    let e = (last_word_once server token).same h.outcome k.outcome h.judged k.judged in
    closes_once server h.outcome r s a b h.closes (subst C (sym e) k.closes)
