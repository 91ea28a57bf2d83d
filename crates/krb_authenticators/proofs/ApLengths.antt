-- The length of an AP-REQ.
use Rattle.std.proofs.Common.{ℕ, ◌+◌, ◌≤◌, ◌^◌, List, [], ◌∷◌, length, arith, lit≤, lit<, ◌≡◌, sym, subst}
use Rattle.std.specs.Int.{w32, to_be_bytes}
use Rattle.krb_der.specs.Schema.{IsComplete}
use Rattle.krb_der.specs.Layout.{Layout, spelling}
use Rattle.krb_der.proofs.Lengths.{tlv_le, field_le, append_le}
use Rattle.krb_crypto.specs.Suite.{suite_number}
use Rattle.krb_crypto.specs.declared.suite.CipherSuite.{CipherSuite}
use Rattle.krb_messages.specs.declared.encryption.EncryptedData.{EncryptedData}
use Rattle.krb_messages.specs.declared.ticket.Ticket.{Ticket}
use Rattle.krb_messages.specs.Table.{ap_req as ap_req_kind, encrypted_data}
use Rattle.krb_messages.specs.Layouts.{ap_req_row, encrypted_data_row, encrypted_data_layout, ap_req_layout, ticket_layout}
use Rattle.krb_requests.specs.Pieces.{sealed_data, Fits}
use Rattle.krb_authenticators.specs.ApRequests.{ap_req_with}
use Rattle.krb_authenticators.proofs.Lengths.{le_trans}

pub fits_more : {A : Type 0} (layout : Layout A) (x : A) (m n : ℕ) → Fits layout m x → m ≤ n → Fits layout n x
fits_more layout x m n h k = record { complete = h.complete; short = le_trans _ _ _ h.short k }

pub data_le : (suite : CipherSuite) (cipher : List ℕ) (n : ℕ) → length cipher ≤ n → length (spelling encrypted_data_layout (sealed_data suite cipher)) ≤ n + 31
unfolding encrypted_data encrypted_data_row
data_le suite cipher n h =
    let body = append_le _ _ _ _ (field_le 0xa0 0x02 (suite_number suite ∷ []) 1 (lit≤ tt)) (append_le [] _ 0 _ (lit≤ tt) (append_le _ [] _ 0 (field_le 0xa2 0x04 cipher n h) (lit≤ tt))) in
    omega (arith, tlv_le 0x30 _ _ body)

pub data_complete : (suite : CipherSuite) (cipher : List ℕ) → IsComplete encrypted_data (encrypted_data_row (sealed_data suite cipher))
unfolding encrypted_data encrypted_data_row
data_complete suite cipher = (lit< tt, (tt, (tt, tt)))

ap_req_le : (suite : CipherSuite) (options : ℕ) (ticket : Ticket) (cipher : List ℕ) → Fits ticket_layout (2 ^ 24) ticket → length cipher ≤ 2 ^ 27 + 256
    → length (spelling ap_req_layout (ap_req_with options ticket (sealed_data suite cipher))) ≤ 2 ^ 28
unfolding ap_req_kind ap_req_row
ap_req_le suite options ticket cipher h k =
    let body = append_le _ _ _ _ (field_le 0xa0 0x02 (5 ∷ []) 1 (lit≤ tt))
    (append_le _ _ _ _ (field_le 0xa1 0x02 (14 ∷ []) 1 (lit≤ tt))
    (append_le _ _ _ _ (field_le 0xa2 0x03 (0 ∷ to_be_bytes w32 options) 5 (lit≤ tt))
    (append_le _ _ _ _ (tlv_le 0xa3 (spelling ticket_layout ticket) (2 ^ 24) h.short)
    (append_le _ [] _ 0 (tlv_le 0xa4 (spelling encrypted_data_layout (sealed_data suite cipher)) _ (data_le suite cipher (2 ^ 27 + 256) k)) (lit≤ tt))))) in
    le_trans _ _ _ (field_le 0x6e 0x30 _ _ body) (lit≤ tt)

ap_req_complete : (suite : CipherSuite) (options : ℕ) (ticket : Ticket) (cipher : List ℕ) → Fits ticket_layout (2 ^ 24) ticket
    → IsComplete ap_req_kind (ap_req_row (ap_req_with options ticket (sealed_data suite cipher)))
unfolding ap_req_kind ap_req_row
ap_req_complete suite options ticket cipher h = (lit< tt, (lit< tt, (lit≤ tt, (h.complete, (data_complete suite cipher, tt)))))

pub ap_req_within : (suite : CipherSuite) (options : ℕ) (ticket : Ticket) (cipher : List ℕ) (sealed : EncryptedData) → sealed ≡ sealed_data suite cipher
    → Fits ticket_layout (2 ^ 24) ticket → length sealed.cipher ≤ 2 ^ 27 + 256 → Fits ap_req_layout (2 ^ 28) (ap_req_with options ticket sealed)
ap_req_within suite options ticket cipher sealed e h k =
    let l : length cipher ≤ 2 ^ 27 + 256 = subst (λ (d : EncryptedData). length d.cipher ≤ 2 ^ 27 + 256) e k in
    subst (λ (d : EncryptedData). Fits ap_req_layout (2 ^ 28) (ap_req_with options ticket d)) (sym e)
    (record { complete = ap_req_complete suite options ticket cipher h; short = ap_req_le suite options ticket cipher h l })
