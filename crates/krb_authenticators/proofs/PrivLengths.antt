-- The length of a request for a new password.
use Rattle.std.proofs.Common.{ℕ, ◌≤◌, ◌^◌, List, [], ◌∷◌, length, lit≤, lit<, ◌≡◌, sym, subst}
use Rattle.krb_der.specs.Schema.{IsComplete}
use Rattle.krb_der.proofs.Lengths.{tlv_le, field_le, append_le}
use Rattle.krb_der.specs.Layout.{spelling}
use Rattle.krb_crypto.specs.declared.suite.CipherSuite.{CipherSuite}
use Rattle.krb_messages.specs.declared.encryption.EncryptedData.{EncryptedData}
use Rattle.krb_messages.specs.Table.{host_address}
use Rattle.krb_messages.specs.Layouts.{encrypted_data_layout, host_address_row}
use Rattle.krb_exchange.specs.Table.{krb_priv as krb_priv_kind, enc_krb_priv_part}
use Rattle.krb_exchange.specs.Layouts.{krb_priv_row, krb_priv_layout, enc_krb_priv_part_row, enc_krb_priv_part_layout}
use Rattle.krb_requests.specs.Pieces.{sealed_data, Fits}
use Rattle.krb_authenticators.specs.Authenticators.{number_octets}
use Rattle.krb_authenticators.specs.Passwords.{priv_part, krb_priv_with}
use Rattle.krb_authenticators.proofs.Lengths.{le_trans, number_le, number_some}
use Rattle.krb_authenticators.proofs.ApLengths.{data_le, data_complete}

part_le : (password : List ℕ) (number : ℕ) (address : List ℕ) → length password ≤ 2 ^ 24 → length address ≤ 2 ^ 24
    → length (spelling enc_krb_priv_part_layout (priv_part password number address)) ≤ 2 ^ 26
unfolding enc_krb_priv_part enc_krb_priv_part_row host_address host_address_row
part_le password number address h k =
    let fields = append_le _ _ _ _ (field_le 0xa0 0x04 password (2 ^ 24) h)
    (append_le _ _ _ _ (field_le 0xa3 0x02 (number_octets number) 5 (number_le number))
    (append_le _ [] _ 0 (field_le 0xa4 0x30 _ _ (append_le _ _ _ _ (field_le 0xa0 0x02 (20 ∷ []) 1 (lit≤ tt)) (append_le _ [] _ 0 (field_le 0xa1 0x04 address (2 ^ 24) k) (lit≤ tt)))) (lit≤ tt))) in
    le_trans _ _ _ (field_le 0x7c 0x30 _ _ fields) (lit≤ tt)

part_complete : (password : List ℕ) (number : ℕ) (address : List ℕ) → IsComplete enc_krb_priv_part (enc_krb_priv_part_row (priv_part password number address))
unfolding enc_krb_priv_part enc_krb_priv_part_row host_address host_address_row
part_complete password number address = (tt, (tt, (tt, (number_some number, ((lit< tt, (tt, tt)), (tt, tt))))))

pub part_within : (password : List ℕ) (number : ℕ) (address : List ℕ) → length password ≤ 2 ^ 24 → length address ≤ 2 ^ 24
    → Fits enc_krb_priv_part_layout (2 ^ 26) (priv_part password number address)
part_within password number address h k = record { complete = part_complete password number address; short = part_le password number address h k }

priv_le : (suite : CipherSuite) (cipher : List ℕ) → length cipher ≤ 2 ^ 27 → length (spelling krb_priv_layout (krb_priv_with (sealed_data suite cipher))) ≤ 2 ^ 28
unfolding krb_priv_kind krb_priv_row
priv_le suite cipher h =
    let fields = append_le _ _ _ _ (field_le 0xa0 0x02 (5 ∷ []) 1 (lit≤ tt))
    (append_le _ _ _ _ (field_le 0xa1 0x02 (21 ∷ []) 1 (lit≤ tt))
    (append_le _ [] _ 0 (tlv_le 0xa3 (spelling encrypted_data_layout (sealed_data suite cipher)) _ (data_le suite cipher (2 ^ 27) h)) (lit≤ tt))) in
    le_trans _ _ _ (field_le 0x75 0x30 _ _ fields) (lit≤ tt)

priv_complete : (suite : CipherSuite) (cipher : List ℕ) → IsComplete krb_priv_kind (krb_priv_row (krb_priv_with (sealed_data suite cipher)))
unfolding krb_priv_kind krb_priv_row
priv_complete suite cipher = (lit< tt, (lit< tt, (data_complete suite cipher, tt)))

pub priv_within : (suite : CipherSuite) (cipher : List ℕ) (sealed : EncryptedData) → sealed ≡ sealed_data suite cipher → length sealed.cipher ≤ 2 ^ 27
    → Fits krb_priv_layout (2 ^ 28) (krb_priv_with sealed)
priv_within suite cipher sealed e k =
    let l : length cipher ≤ 2 ^ 27 = subst (λ (d : EncryptedData). length d.cipher ≤ 2 ^ 27) e k in
    subst (λ (d : EncryptedData). Fits krb_priv_layout (2 ^ 28) (krb_priv_with d)) (sym e)
    (record { complete = priv_complete suite cipher; short = priv_le suite cipher l })
