-- The messages that the client writes are complete and short.
use Rattle.std.proofs.Common.{◌≡◌, ℕ, ◌+◌, ◌<◌, ◌≤◌, ◌^◌, ℤ, List, [], ◌++◌, length, replicate, ap, ◌∙◌, arith, lit≤, lit<}
use Rattle.krb_der.specs.Der.{length_octets, tlv}
use Rattle.krb_der.specs.Moment.{time_octets}
use Rattle.krb_der.specs.Schema.{IsComplete, tag_of, contents}
use Rattle.krb_der.proofs.Lengths.{tlv_le, field_le, append_le}
use Rattle.krb_der.specs.Layout.{spelling}
use Rattle.krb_crypto.specs.SealingPair.{SealingPair}
use Rattle.krb_crypto.specs.Sealed.{sealed_text}
use Rattle.krb_messages.specs.Table.{ap_req as ap_req_kind, authenticator as authenticator_kind, enc_ticket_part, ticket, encrypted_data, encryption_key, principal_name, transited_encoding}
use Rattle.krb_messages.specs.Layouts.{ap_req_row, ap_req_layout, authenticator_row, authenticator_layout, enc_ticket_part_row, enc_ticket_part_layout, ticket_row, encrypted_data_row, encryption_key_row, principal_name_row, transited_encoding_row}
use Rattle.krb_messages.specs.Frame.{IsFrame, framed}
use Rattle.krb_demo.specs.Client.{session_key, ticket_part, ticket_keys, authenticator_keys, client_ticket, authenticator, sealed_authenticator, ap_req, encrypted, mechanism, token_id, token}

le_trans : (a b c : ℕ) → a ≤ b → b ≤ c → a ≤ c
le_trans a b c h k = omega arith

time_short : (seconds : ℤ) → length (time_octets seconds) ≤ 15
unfolding time_octets
time_short seconds = lit≤ tt

-- ---- the part of the ticket

pub ticket_part_complete : IsComplete enc_ticket_part (enc_ticket_part_row ticket_part)
unfolding enc_ticket_part enc_ticket_part_row encryption_key encryption_key_row principal_name principal_name_row transited_encoding transited_encoding_row ticket_part
ticket_part_complete = (lit≤ tt, ((lit< tt, (tt, tt)), (tt, ((lit< tt, ((tt, tt), tt)), ((lit< tt, (tt, tt)), (tt, (tt, (tt, (tt, (tt, (tt, tt)))))))))))

pub ticket_part_short : length (spelling enc_ticket_part_layout ticket_part) ≤ 1024
unfolding tlv length_octets time_octets enc_ticket_part enc_ticket_part_row encryption_key encryption_key_row principal_name principal_name_row transited_encoding transited_encoding_row ticket_part session_key
ticket_part_short = lit≤ tt

pub ticket_part_below : length (tlv (tag_of enc_ticket_part) (contents enc_ticket_part (enc_ticket_part_row ticket_part))) < 2 ^ 31
ticket_part_below = let short = ticket_part_short in omega (arith, short)

-- ---- the authenticator

pub authenticator_complete : (ctime : ℤ) (cusec : List ℕ) → length cusec ≡ 4 → IsComplete authenticator_kind (authenticator_row (authenticator ctime cusec))
unfolding authenticator_kind authenticator_row principal_name principal_name_row
authenticator_complete ctime cusec four = (lit< tt, (tt, ((lit< tt, ((tt, tt), tt)), (tt, (omega arith, (tt, (tt, (lit< tt, (tt, tt)))))))))

pub authenticator_short : (ctime : ℤ) (cusec : List ℕ) → length cusec ≡ 4 → length (spelling authenticator_layout (authenticator ctime cusec)) ≤ 1024
unfolding authenticator_kind authenticator_row principal_name principal_name_row
authenticator_short ctime cusec four =
    let body = append_le _ _ _ _ (field_le 0xa0 0x02 _ 1 (lit≤ tt))
    (append_le _ _ _ _ (field_le 0xa1 0x1b _ 11 (lit≤ tt))
    (append_le _ _ _ _ (field_le 0xa2 0x30 _ _ (append_le _ _ _ _ (field_le 0xa0 0x02 _ 1 (lit≤ tt)) (append_le _ [] _ 0 (field_le 0xa1 0x30 _ _ (append_le _ [] _ 0 (tlv_le 0x1b _ 5 (lit≤ tt)) (lit≤ tt))) (lit≤ tt))))
    (append_le [] _ 0 _ (lit≤ tt)
    (append_le _ _ _ _ (field_le 0xa4 0x02 cusec 4 (omega arith))
    (append_le _ _ _ _ (field_le 0xa5 0x18 (time_octets ctime) 15 (time_short ctime))
    (append_le [] _ 0 _ (lit≤ tt)
    (append_le _ [] _ 0 (field_le 0xa7 0x02 _ 4 (lit≤ tt)) (lit≤ tt)))))))) in
    le_trans _ _ _ (field_le 0x62 0x30 _ _ body) (lit≤ tt)

pub authenticator_below : (ctime : ℤ) (cusec : List ℕ) → length cusec ≡ 4 → length (tlv (tag_of authenticator_kind) (contents authenticator_kind (authenticator_row (authenticator ctime cusec)))) < 2 ^ 31
authenticator_below ctime cusec four = let short = authenticator_short ctime cusec four in omega (arith, short)

-- ---- the AP-REQ

ap_req_complete : (confounder plain : List ℕ) → IsComplete ap_req_kind (ap_req_row (ap_req (encrypted authenticator_keys confounder plain)))
unfolding ap_req_kind ap_req_row ticket ticket_row encrypted_data encrypted_data_row principal_name principal_name_row client_ticket
ap_req_complete confounder plain = (lit< tt, (lit< tt, (lit≤ tt, ((lit< tt, (tt, ((lit< tt, ((tt, (tt, tt)), tt)), ((lit< tt, (tt, (tt, tt))), tt)))), ((lit< tt, (tt, (tt, tt))), tt)))))

encrypted_short : (keys : SealingPair) (confounder plain : List ℕ) → length (sealed_text keys (confounder ++ plain)) ≤ 2 ^ 16
    → length (contents encrypted_data (encrypted_data_row (encrypted keys confounder plain))) ≤ 2 ^ 17
unfolding encrypted_data encrypted_data_row
encrypted_short keys confounder plain h =
    le_trans _ _ _ (append_le _ _ _ _ (field_le 0xa0 0x02 _ 1 (lit≤ tt)) (append_le [] _ 0 _ (lit≤ tt) (append_le _ [] _ 0 (field_le 0xa2 0x04 (sealed_text keys (confounder ++ plain)) (2 ^ 16) h) (lit≤ tt)))) (lit≤ tt)

ticket_short : length client_ticket.enc_part.cipher ≤ 2 ^ 16 → length (contents ticket (ticket_row client_ticket)) ≤ 2 ^ 18
unfolding ticket ticket_row principal_name principal_name_row encrypted_data client_ticket
ticket_short h =
    le_trans _ _ _ (tlv_le 0x30 _ _ (append_le _ _ _ _ (field_le 0xa0 0x02 _ 1 (lit≤ tt))
    (append_le _ _ _ _ (field_le 0xa1 0x1b _ 11 (lit≤ tt))
    (append_le _ _ _ _ (field_le 0xa2 0x30 _ 64 (le_trans _ _ _ (append_le _ _ _ _ (field_le 0xa0 0x02 _ 1 (lit≤ tt)) (append_le _ [] _ 0 (field_le 0xa1 0x30 _ _ (append_le _ _ _ _ (tlv_le 0x1b _ 4 (lit≤ tt)) (append_le _ [] _ 0 (tlv_le 0x1b _ 18 (lit≤ tt)) (lit≤ tt)))) (lit≤ tt))) (lit≤ tt)))
    (append_le _ [] _ 0 (field_le 0xa3 0x30 _ (2 ^ 17) (encrypted_short ticket_keys (replicate 16 0) (spelling enc_ticket_part_layout ticket_part) h)) (lit≤ tt)))))) (lit≤ tt)

ap_req_short : (confounder plain : List ℕ) → length (sealed_text authenticator_keys (confounder ++ plain)) ≤ 2 ^ 16 → length client_ticket.enc_part.cipher ≤ 2 ^ 16
    → length (spelling ap_req_layout (ap_req (encrypted authenticator_keys confounder plain))) ≤ 2 ^ 20
unfolding ap_req_kind ap_req_row ticket encrypted_data
ap_req_short confounder plain h k =
    let body = append_le _ _ _ _ (field_le 0xa0 0x02 _ 1 (lit≤ tt))
    (append_le _ _ _ _ (field_le 0xa1 0x02 _ 1 (lit≤ tt))
    (append_le _ _ _ _ (field_le 0xa2 0x03 _ 5 (lit≤ tt))
    (append_le _ _ _ _ (field_le 0xa3 0x61 _ (2 ^ 18) (ticket_short k))
    (append_le _ [] _ 0 (field_le 0xa4 0x30 _ (2 ^ 17) (encrypted_short authenticator_keys confounder plain h)) (lit≤ tt))))) in
    le_trans _ _ _ (field_le 0x6e 0x30 _ _ body) (lit≤ tt)

-- the AP-REQ of a time
pub request_complete : (ctime : ℤ) (cusec confounder : List ℕ) → IsComplete ap_req_kind (ap_req_row (ap_req (sealed_authenticator ctime cusec confounder)))
unfolding sealed_authenticator
request_complete ctime cusec confounder = ap_req_complete confounder (spelling authenticator_layout (authenticator ctime cusec))

pub request_short : (ctime : ℤ) (cusec confounder : List ℕ) → length (sealed_authenticator ctime cusec confounder).cipher ≤ 2 ^ 16 → length client_ticket.enc_part.cipher ≤ 2 ^ 16
    → length (tlv (tag_of ap_req_kind) (contents ap_req_kind (ap_req_row (ap_req (sealed_authenticator ctime cusec confounder))))) ≤ 2 ^ 20
unfolding sealed_authenticator
request_short ctime cusec confounder h k = ap_req_short confounder (spelling authenticator_layout (authenticator ctime cusec)) h k

pub request_below : (ctime : ℤ) (cusec confounder : List ℕ) → length (sealed_authenticator ctime cusec confounder).cipher ≤ 2 ^ 16 → length client_ticket.enc_part.cipher ≤ 2 ^ 16
    → length (tlv (tag_of ap_req_kind) (contents ap_req_kind (ap_req_row (ap_req (sealed_authenticator ctime cusec confounder))))) < 2 ^ 31
request_below ctime cusec confounder h k = let short = request_short ctime cusec confounder h k in omega (arith, short)

-- the message after the mechanism's name
pub framed_short : (message : List ℕ) → length message ≤ 2 ^ 20 → length (tlv 0x06 mechanism ++ (token_id ++ message)) < 2 ^ 31
framed_short message h =
    omega (arith, append_le (tlv 0x06 mechanism) (token_id ++ message) 16 (2 + 2 ^ 20) (tlv_le 0x06 mechanism 10 (lit≤ tt)) (append_le token_id message 2 (2 ^ 20) (lit≤ tt) h))

-- the frame of this message is the token
pub frame_is : (ctime : ℤ) (cusec confounder message octets : List ℕ) → message ≡ spelling ap_req_layout (ap_req (sealed_authenticator ctime cusec confounder))
    → IsFrame mechanism token_id message octets → octets ≡ token ctime cusec confounder
unfolding framed token
frame_is ctime cusec confounder message octets is frame = frame.is.is ∙ ap (λ (m : List ℕ). tlv 0x60 (tlv 0x06 mechanism ++ (token_id ++ m))) is
