-- How long messages are whose names have at most 64 octets.
use Rattle.std.proofs.Common.{◌++◌, ◌≡◌, ℕ, ◌+◌, ◌≤◌, ◌^◌, List, [], ◌∷◌, length, replicate, Some, None, arith, lit<, lit≤}
use Rattle.std.specs.Int.{w32, to_be_bytes}
use Rattle.md5.proofs.StandardFacts.{length-md5}
use Rattle.krb_aes.specs.Octets.{IsOctets}
use Rattle.krb_der.specs.Der.{tlv}
use Rattle.krb_der.specs.Layout.{items_layout, spelling}
use Rattle.krb_der.specs.Moment.{time_octets}
use Rattle.krb_der.proofs.Lengths.{tlv_le, field_le, append_le}
use Rattle.krb_crypto.proofs.SealedLemmas.{is_sealed, plain_shorter}
use Rattle.krb_crypto.specs.Sealed.{sealed}
use Rattle.krb_crypto.specs.declared.suite.CipherSuite.{CipherSuite}
use Rattle.krb_messages.specs.Table.{enc_ticket_part, transited_encoding, ticket as ticket_kind, ap_req as ap_req_kind, authenticator as authenticator_kind, checksum as checksum_kind}
use Rattle.krb_messages.specs.Layouts.{principal_name_layout, enc_ticket_part_row, enc_ticket_part_layout, transited_encoding_row, ticket_row, ticket_layout, ap_req_row, ap_req_layout, authenticator_row, authenticator_layout, checksum_row, encrypted_data_layout}
use Rattle.krb_messages.specs.declared.ap_req.ApReq.{ApReq}
use Rattle.krb_messages.specs.declared.ticket.Ticket.{Ticket}
use Rattle.krb_exchange.specs.Table.{enc_kdc_rep_part, enc_as_rep_part, enc_tgs_rep_part, last_req_entry, kdc_rep, as_rep as as_rep_kind, tgs_rep as tgs_rep_kind, as_req as as_req_kind, tgs_req as tgs_req_kind, kdc_req, pa_data}
use Rattle.krb_exchange.specs.Layouts.{enc_kdc_rep_part_row, enc_kdc_rep_part_layout, enc_as_rep_part_row, enc_as_rep_part_layout, enc_tgs_rep_part_row, enc_tgs_rep_part_layout, last_req_entry_row, kdc_rep_row, kdc_rep_layout, as_rep_row, as_rep_layout, tgs_rep_row, tgs_rep_layout, as_req_row, as_req_layout, tgs_req_row, tgs_req_layout, kdc_req_row, kdc_req_body_layout, pa_data_row, pa_data_layout}
use Rattle.krb_exchange.specs.declared.kdc_rep.KdcRep.{KdcRep}
use Rattle.krb_exchange.specs.declared.kdc_req.KdcReqBody.{KdcReqBody}
use Rattle.krb_exchange.specs.declared.pa_data.PaData.{PaData}
use Rattle.sspi_core.specs.declared.draw.Draw.{Draw}
use Rattle.krb_requests.specs.Bodies.{as_req_with}
use Rattle.krb_requests.specs.Pieces.{sealed_data, Fits}
use Rattle.krb_authenticators.specs.ApRequests.{ap_req_with}
use Rattle.krb_authenticators.specs.Authenticators.{authenticator, microseconds, number_octets}
use Rattle.krb_authenticators.specs.TgsRequests.{over, body_checksum, tgs_req_with}
use Rattle.krb_authenticators.proofs.Lengths.{number_le}
use Rattle.krb_authenticators.proofs.TgsLengths.{branch_within}
use Rattle.krb_laws_ends.specs.Answers.{IsDraw}
use Rattle.krb_kdc.specs.declared.grant.Grant.{Grant}
use Rattle.krb_kdc.specs.Grants.{ticket_part, ticket_with, reply_part, rep_with}
use Rattle.krb_kdc.proofs.Lengths.{le_trans, time_short, data_le}
use Rattle.krb_laws_kdc.proofs.RepLemmas.{short-key}

-- what is sealed is 28 octets longer then
pub sealed_le : (suite : CipherSuite) (key : List ℕ) (usage : ℕ) (confounder plain : List ℕ) (n : ℕ) → length confounder ≡ 16 → IsOctets (confounder ++ plain) → length plain ≤ n
    → length (sealed suite key usage confounder plain) ≤ n + 28
sealed_le suite key usage confounder plain n size octets h =
    omega (arith, h, plain_shorter suite key usage (sealed suite key usage confounder plain) plain (is_sealed suite key usage confounder plain size octets))

-- ---- what a KDC gives

pub record IsSmall (grant : Grant) : Type 0 where
  pub crealm : length grant.crealm ≤ 64
  pub cname : length (spelling principal_name_layout grant.cname) ≤ 64
  pub sname : length (spelling principal_name_layout grant.sname) ≤ 64

module _ (suite : CipherSuite) (realm : List ℕ) (r : length realm ≤ 64) (draw : Draw) (d : IsDraw draw) (grant : Grant) (h : IsSmall grant) where
  pub ticket_part_le : length (spelling enc_ticket_part_layout (ticket_part suite draw grant)) ≤ 1024
  unfolding enc_ticket_part enc_ticket_part_row transited_encoding transited_encoding_row ticket_part
  ticket_part_le =
      let key = short-key suite realm draw d 0xa1 (lit< tt) in
      le_trans _ _ _ (field_le 0x63 0x30 _ _ (append_le _ _ _ _ (field_le 0xa0 0x03 (0 ∷ replicate 4 0) 5 (lit≤ tt))
      (append_le _ _ _ _ key.short
      (append_le _ _ _ _ (field_le 0xa2 0x1b grant.crealm 64 h.crealm)
      (append_le _ _ _ _ (tlv_le 0xa3 _ 64 h.cname)
      (append_le _ _ _ _ (field_le 0xa4 0x30 _ _ (append_le _ _ _ _ (field_le 0xa0 0x02 (1 ∷ []) 1 (lit≤ tt)) (append_le _ [] _ 0 (field_le 0xa1 0x04 [] 0 (lit≤ tt)) (lit≤ tt))))
      (append_le _ _ _ _ (field_le 0xa5 0x18 (time_octets _) 15 (time_short _))
      (append_le _ _ _ _ (field_le 0xa6 0x18 (time_octets _) 15 (time_short _))
      (append_le _ [] _ 0 (field_le 0xa7 0x18 (time_octets _) 15 (time_short _)) (lit≤ tt)))))))))) (lit≤ tt)

  pub ticket_le : (cipher : List ℕ) → length cipher ≤ 2048 → length (spelling ticket_layout (ticket_with realm grant (sealed_data suite cipher))) ≤ 4096
  unfolding ticket_kind ticket_row
  ticket_le cipher k =
      le_trans _ _ _ (field_le 0x61 0x30 _ _ (append_le _ _ _ _ (field_le 0xa0 0x02 (5 ∷ []) 1 (lit≤ tt))
      (append_le _ _ _ _ (field_le 0xa1 0x1b realm 64 r)
      (append_le _ _ _ _ (tlv_le 0xa2 _ 64 h.sname)
      (append_le _ [] _ 0 (tlv_le 0xa3 _ _ (data_le suite cipher 2048 k)) (lit≤ tt)))))) (lit≤ tt)

  module _ (nonce : List ℕ) (n : length nonce ≤ 4) where
    part_le : (tag : ℕ) → length (tlv tag (spelling enc_kdc_rep_part_layout (reply_part suite realm draw nonce grant))) ≤ 1024
    unfolding enc_kdc_rep_part enc_kdc_rep_part_row last_req_entry last_req_entry_row reply_part
    part_le tag =
        let key = short-key suite realm draw d 0xa0 (lit< tt) in
        le_trans _ _ _ (field_le tag 0x30 _ _ (append_le _ _ _ _ key.short
        (append_le _ _ _ _ (field_le 0xa1 0x30 _ _ (append_le _ [] _ 0 (tlv_le 0x30 _ _ (append_le _ _ _ _ (field_le 0xa0 0x02 (0 ∷ []) 1 (lit≤ tt))
        (append_le _ [] _ 0 (field_le 0xa1 0x18 (time_octets _) 15 (time_short _)) (lit≤ tt)))) (lit≤ tt)))
        (append_le _ _ _ _ (field_le 0xa2 0x02 nonce 4 n)
        (append_le [] _ 0 _ (lit≤ tt)
        (append_le _ _ _ _ (field_le 0xa4 0x03 (0 ∷ replicate 4 0) 5 (lit≤ tt))
        (append_le _ _ _ _ (field_le 0xa5 0x18 (time_octets _) 15 (time_short _))
        (append_le _ _ _ _ (field_le 0xa6 0x18 (time_octets _) 15 (time_short _))
        (append_le _ _ _ _ (field_le 0xa7 0x18 (time_octets _) 15 (time_short _))
        (append_le [] _ 0 _ (lit≤ tt)
        (append_le _ _ _ _ (field_le 0xa9 0x1b realm 64 r)
        (append_le _ [] _ 0 (tlv_le 0xaa _ 64 h.sname) (lit≤ tt))))))))))))) (lit≤ tt)

    pub as_part_le : length (spelling enc_as_rep_part_layout (record { 0 = reply_part suite realm draw nonce grant })) ≤ 1024
    unfolding enc_as_rep_part enc_as_rep_part_row
    as_part_le = part_le 0x79

    pub tgs_part_le : length (spelling enc_tgs_rep_part_layout (record { 0 = reply_part suite realm draw nonce grant })) ≤ 1024
    unfolding enc_tgs_rep_part enc_tgs_rep_part_row
    tgs_part_le = part_le 0x7a

-- the reply
module _ (suite : CipherSuite) (msg_type : ℕ) (grant : Grant) (ticket : Ticket) (cipher : List ℕ) (h : IsSmall grant) (t : length (spelling ticket_layout ticket) ≤ 4096) (k : length cipher ≤ 2048) where
  rep_le : (tag : ℕ) → length (tlv tag (spelling kdc_rep_layout (rep_with msg_type grant ticket (sealed_data suite cipher)))) ≤ 8192
  unfolding kdc_rep kdc_rep_row
  rep_le tag =
      le_trans _ _ _ (field_le tag 0x30 _ _ (append_le _ _ _ _ (field_le 0xa0 0x02 (5 ∷ []) 1 (lit≤ tt))
      (append_le _ _ _ _ (field_le 0xa1 0x02 (msg_type ∷ []) 1 (lit≤ tt))
      (append_le [] _ 0 _ (lit≤ tt)
      (append_le _ _ _ _ (field_le 0xa3 0x1b grant.crealm 64 h.crealm)
      (append_le _ _ _ _ (tlv_le 0xa4 _ 64 h.cname)
      (append_le _ _ _ _ (tlv_le 0xa5 _ 4096 t)
      (append_le _ [] _ 0 (tlv_le 0xa6 _ _ (data_le suite cipher 2048 k)) (lit≤ tt))))))))) (lit≤ tt)

  pub as_rep_le : length (spelling as_rep_layout (record { 0 = rep_with msg_type grant ticket (sealed_data suite cipher) })) ≤ 8192
  unfolding as_rep_kind as_rep_row
  as_rep_le = rep_le 0x6b

  pub tgs_rep_le : length (spelling tgs_rep_layout (record { 0 = rep_with msg_type grant ticket (sealed_data suite cipher) })) ≤ 8192
  unfolding tgs_rep_kind tgs_rep_row
  tgs_rep_le = rep_le 0x6d

-- ---- what a client asks

pub as_req_le : (pa_datas : List PaData) (body : KdcReqBody) → Fits (items_layout pa_data_layout) (2 ^ 12) pa_datas → length (spelling kdc_req_body_layout body) ≤ 1024
    → length (spelling as_req_layout (as_req_with pa_datas body)) ≤ 8192
unfolding as_req_kind as_req_row kdc_req kdc_req_row
as_req_le pa_datas body h k =
    le_trans _ _ _ (field_le 0x6a 0x30 _ _ (append_le _ _ _ _ (field_le 0xa1 0x02 _ 1 (lit≤ tt))
    (append_le _ _ _ _ (field_le 0xa2 0x02 _ 1 (lit≤ tt))
    (append_le _ _ _ _ (tlv_le 0xa3 _ _ h.short)
    (append_le _ [] _ 0 (tlv_le 0xa4 _ 1024 k) (lit≤ tt)))))) (lit≤ tt)

-- the authenticator over a body
pub authenticator_le : (body : KdcReqBody) (rep : KdcRep) (number moment : ℕ) → length rep.crealm ≤ 64 → length (spelling principal_name_layout rep.cname) ≤ 64
    → length (spelling authenticator_layout (over body (authenticator rep (Some number) None None None moment))) ≤ 1024
unfolding authenticator_kind authenticator_row checksum_kind checksum_row
authenticator_le body rep number moment h k =
    let sum = append_le _ _ _ _ (field_le 0xa0 0x02 (7 ∷ []) 1 (lit≤ tt)) (append_le _ [] _ 0 (field_le 0xa1 0x04 (body_checksum body).checksum 16 (omega (arith, length-md5 (spelling kdc_req_body_layout body)))) (lit≤ tt)) in
    le_trans _ _ _ (field_le 0x62 0x30 _ _ (append_le _ _ _ _ (field_le 0xa0 0x02 (5 ∷ []) 1 (lit≤ tt))
    (append_le _ _ _ _ (field_le 0xa1 0x1b rep.crealm 64 h)
    (append_le _ _ _ _ (tlv_le 0xa2 _ 64 k)
    (append_le _ _ _ _ (field_le 0xa3 0x30 _ _ sum)
    (append_le _ _ _ _ (field_le 0xa4 0x02 (microseconds moment) 4 (lit≤ tt))
    (append_le _ _ _ _ (field_le 0xa5 0x18 (time_octets _) 15 (time_short _))
    (append_le [] _ 0 _ (lit≤ tt)
    (append_le _ _ _ _ (field_le 0xa7 0x02 (number_octets number) 5 (number_le number))
    (append_le [] [] 0 0 (lit≤ tt) (lit≤ tt))))))))))) (lit≤ tt)

pub ap_req_le : (suite : CipherSuite) (options : ℕ) (ticket : Ticket) (cipher : List ℕ) → length (spelling ticket_layout ticket) ≤ 4096 → length cipher ≤ 2048
    → length (spelling ap_req_layout (ap_req_with options ticket (sealed_data suite cipher))) ≤ 8192
unfolding ap_req_kind ap_req_row
ap_req_le suite options ticket cipher h k =
    let body = append_le _ _ _ _ (field_le 0xa0 0x02 (5 ∷ []) 1 (lit≤ tt))
    (append_le _ _ _ _ (field_le 0xa1 0x02 (14 ∷ []) 1 (lit≤ tt))
    (append_le _ _ _ _ (field_le 0xa2 0x03 (0 ∷ to_be_bytes w32 options) 5 (lit≤ tt))
    (append_le _ _ _ _ (tlv_le 0xa3 (spelling ticket_layout ticket) 4096 h)
    (append_le _ [] _ 0 (tlv_le 0xa4 (spelling encrypted_data_layout (sealed_data suite cipher)) _ (data_le suite cipher 2048 k)) (lit≤ tt))))) in
    le_trans _ _ _ (field_le 0x6e 0x30 _ _ body) (lit≤ tt)

pa_le : (type value : List ℕ) (n : ℕ) → length type ≤ 2 → length value ≤ n → length (spelling pa_data_layout (record { padata_type = type; padata_value = value })) ≤ n + 32
unfolding pa_data pa_data_row
pa_le type value n h k = omega (arith, tlv_le 0x30 _ _ (append_le _ _ _ _ (field_le 0xa1 0x02 type 2 h) (append_le _ [] _ 0 (field_le 0xa2 0x04 value n k) (lit≤ tt))))

pub tgs_req_le : (body : KdcReqBody) (request : ApReq) → length (spelling kdc_req_body_layout body) ≤ 1024 → length (spelling ap_req_layout request) ≤ 8192
    → length (spelling tgs_req_layout (tgs_req_with body request)) ≤ 16384
unfolding tgs_req_kind tgs_req_row kdc_req kdc_req_row
tgs_req_le body request h k =
    let fields = append_le _ _ _ _ (field_le 0xa1 0x02 (5 ∷ []) 1 (lit≤ tt))
    (append_le _ _ _ _ (field_le 0xa2 0x02 (12 ∷ []) 1 (lit≤ tt))
    (append_le _ _ _ _ (field_le 0xa3 0x30 _ _ (append_le _ _ _ _ (pa_le (1 ∷ []) (spelling ap_req_layout request) 8192 (lit≤ tt) k)
    (append_le _ [] _ 0 (pa_le (0x00 ∷ 0xa7 ∷ []) _ 32 (lit≤ tt) branch_within.short) (lit≤ tt))))
    (append_le _ [] _ 0 (tlv_le 0xa4 (spelling kdc_req_body_layout body) 1024 h) (lit≤ tt)))) in
    le_trans _ _ _ (field_le 0x6c 0x30 _ _ fields) (lit≤ tt)
