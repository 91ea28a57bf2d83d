-- How long the client's AP-REP can be, and the key that it is sealed under.
use Rattle.std.proofs.Common.{◌≡◌, ℕ, ◌<◌, ◌≤◌, ◌^◌, List, [], ◌∷◌, length, lit≤, lit<, sym, subst}
use Rattle.krb_der.specs.Moment.{time_octets}
use Rattle.krb_der.proofs.Lengths.{tlv_le, field_le, append_le}
use Rattle.krb_der.specs.Layout.{spelling}
use Rattle.krb_messages.specs.Table.{enc_ap_rep_part, ap_rep as ap_rep_kind}
use Rattle.krb_messages.specs.Layouts.{enc_ap_rep_part_row, enc_ap_rep_part_layout, ap_rep_row, ap_rep_layout, encrypted_data_layout}
use Rattle.krb_messages.specs.declared.encryption.EncryptedData.{EncryptedData}
use Rattle.krb_requests.specs.Pieces.{Fits, sealed_data}
use Rattle.krb_authenticators.proofs.Lengths.{le_trans, time_short}
use Rattle.krb_authenticators.specs.Authenticators.{microseconds}
use Rattle.krb_authenticators.proofs.ApLengths.{data_le, data_complete}
use Rattle.krb_crypto.specs.declared.suite.CipherSuite.{CipherSuite}
use Rattle.krb_ap.specs.ApReps.{ap_rep_part, ap_rep_with}

pub part_fits : (number : List ℕ) (moment : ℕ) → 0 < length number → length number ≤ 2 ^ 24 → Fits enc_ap_rep_part_layout (2 ^ 25) (ap_rep_part number moment)
unfolding enc_ap_rep_part enc_ap_rep_part_row
part_fits number moment some short = record {
  complete = (tt, (lit< tt, (tt, (some, tt))));
  short =
      le_trans _ _ _ (field_le 0x7b 0x30 _ _ (append_le _ _ _ _ (field_le 0xa0 0x18 (time_octets _) 15 (time_short _))
      (append_le _ _ _ _ (field_le 0xa1 0x02 (microseconds moment) 4 (lit≤ tt))
      (append_le [] _ 0 _ (lit≤ tt)
      (append_le _ [] _ 0 (field_le 0xa3 0x02 number (2 ^ 24) short) (lit≤ tt)))))) (lit≤ tt);
}

rep_fits : (suite : CipherSuite) (cipher : List ℕ) → length cipher ≤ 2 ^ 26 → Fits ap_rep_layout (2 ^ 27) (ap_rep_with (sealed_data suite cipher))
unfolding ap_rep_kind ap_rep_row
rep_fits suite cipher h = record {
  complete = (lit< tt, (lit< tt, (data_complete suite cipher, tt)));
  short =
      le_trans _ _ _ (field_le 0x6f 0x30 _ _ (append_le _ _ _ _ (field_le 0xa0 0x02 (5 ∷ []) 1 (lit≤ tt))
      (append_le _ _ _ _ (field_le 0xa1 0x02 (15 ∷ []) 1 (lit≤ tt))
      (append_le _ [] _ 0 (tlv_le 0xa2 (spelling encrypted_data_layout (sealed_data suite cipher)) _ (data_le suite cipher (2 ^ 26) h)) (lit≤ tt))))) (lit≤ tt);
}

pub rep_within : (suite : CipherSuite) (part : EncryptedData) (cipher : List ℕ) → part ≡ sealed_data suite cipher → length part.cipher ≤ 2 ^ 26 → Fits ap_rep_layout (2 ^ 27) (ap_rep_with part)
rep_within suite part cipher e h =
    subst (λ (d : EncryptedData). Fits ap_rep_layout (2 ^ 27) (ap_rep_with d)) (sym e) (rep_fits suite cipher (subst (λ (d : EncryptedData). length d.cipher ≤ 2 ^ 26) e h))
