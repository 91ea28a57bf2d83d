-- The length of a TGS-REQ.
use Rattle.std.proofs.Common.{◌≡◌, ℕ, ◌+◌, ◌≤◌, ◌^◌, List, [], ◌∷◌, ◌++◌, length, Bool, true, false, ◌==◌, if◌then◌else◌, Option, Some, None, IfSome, option_map, map, arith, lit≤, lit<, subst, length-append, length-drop}
use Rattle.std.proofs.lemmas.List.{length-take}
use Rattle.std.specs.Int.{w32, to_be_bytes}
use Rattle.std.specs.List.{before_first, after_first, position_or_len}
use Rattle.std.specs.Option.{option_map_or}
use Rattle.md5.proofs.StandardFacts.{length-md5}
use Rattle.krb_der.specs.Der.{tlv}
use Rattle.krb_der.specs.Moment.{time_octets}
use Rattle.krb_der.specs.Schema.{IsComplete, contents, tag_of, row_octets, integer, time, sequence_of, required, optional, nothing, ◌▸◌}
use Rattle.krb_der.specs.Layout.{items_layout, spelling}
use Rattle.krb_der.proofs.Lengths.{tlv_le, field_le, append_le, contents_shorter}
use Rattle.krb_messages.specs.declared.ticket.Ticket.{Ticket}
use Rattle.krb_messages.specs.declared.authenticator.Authenticator.{Authenticator}
use Rattle.krb_messages.specs.declared.ap_req.ApReq.{ApReq}
use Rattle.krb_messages.specs.Table.{authenticator as authenticator_kind, checksum as checksum_kind, encryption_key, authorization_data_element, principal_name, ticket}
use Rattle.krb_messages.specs.Layouts.{authenticator_row, authenticator_layout, checksum_row, principal_name_row, principal_name_layout, ticket_row, ticket_layout, ap_req_layout}
use Rattle.krb_exchange.specs.declared.kdc_req.KdcReqBody.{KdcReqBody}
use Rattle.krb_exchange.specs.Table.{kdc_req_body, kdc_req, tgs_req as tgs_req_kind, pa_data, pa_pac_options}
use Rattle.krb_exchange.specs.Layouts.{kdc_req_body_row, kdc_req_body_layout, kdc_req_row, tgs_req_row, tgs_req_layout, pa_data_row, pa_data_layout, pa_pac_options_row, pa_pac_options_layout}
use Rattle.krb_conf.specs.Ascii.{slash}
use Rattle.krb_conf.specs.Names.{target_parts}
use Rattle.krb_requests.specs.Pieces.{principal, Fits}
use Rattle.krb_authenticators.specs.TgsRequests.{tgs_options, tgs_body, body_checksum, over, tgs_req_with, AreShortTickets}
use Rattle.krb_authenticators.proofs.Lengths.{le_trans, time_short}

-- the authenticator over a body
record Grows (n : ℕ) (old new : List ℕ) : Type 0 where
  is : length new ≤ length old + n

kept : (a old new : List ℕ) (n : ℕ) → Grows n old new → Grows n (a ++ old) (a ++ new)
kept a old new n h = let k = h.is in record { is = omega (arith, length-append a old, length-append a new) }

put : (old new rest : List ℕ) (n : ℕ) → length new ≤ n → Grows n (old ++ rest) (new ++ rest)
put old new rest n h = record { is = omega (arith, length-append old rest, length-append new rest) }

wrapped : (tag : ℕ) (old new : List ℕ) (n : ℕ) → Grows n old new → Grows (n + 12) (tlv tag (tlv 0x30 old)) (tlv tag (tlv 0x30 new))
wrapped tag old new n h = record { is = omega (arith, field_le tag 0x30 new (length old + n) h.is, contents_shorter 0x30 old, contents_shorter tag (tlv 0x30 old)) }

cksum_le : (body : KdcReqBody) → length (tlv 0xa3 (tlv (tag_of checksum_kind) (contents checksum_kind (checksum_row (body_checksum body))))) ≤ 60
unfolding checksum_kind checksum_row
cksum_le body =
    le_trans _ _ _ (field_le 0xa3 0x30 _ _ (append_le _ _ _ _ (field_le 0xa0 0x02 (7 ∷ []) 1 (lit≤ tt))
    (append_le _ [] _ 0 (field_le 0xa1 0x04 (body_checksum body).checksum 16 (omega (arith, length-md5 (spelling kdc_req_body_layout body)))) (lit≤ tt)))) (lit≤ tt)

over_grows : (body : KdcReqBody) (x : Authenticator) → Grows (60 + 12) (spelling authenticator_layout x) (spelling authenticator_layout (over body x))
unfolding authenticator_kind authenticator_row
over_grows body x =
    wrapped 0x62 _ _ 60 (kept (tlv 0xa0 (tlv 0x02 x.authenticator_vno)) _ _ 60 (kept (tlv 0xa1 (tlv 0x1b x.crealm)) _ _ 60
    (kept (tlv 0xa2 (spelling principal_name_layout x.cname)) _ _ 60
    (put (option_map_or (λ value. tlv 0xa3 (tlv (tag_of checksum_kind) (contents checksum_kind value))) (option_map checksum_row x.cksum) []) _
    (row_octets (required 4 integer ▸ required 5 time ▸ optional 6 encryption_key ▸ optional 7 integer ▸ optional 8 (sequence_of authorization_data_element) ▸ nothing) (authenticator_row x).1.1.1.1) 60 (cksum_le body)))))

over_complete : (body : KdcReqBody) (x : Authenticator) → IsComplete authenticator_kind (authenticator_row x) → IsComplete authenticator_kind (authenticator_row (over body x))
unfolding authenticator_kind authenticator_row checksum_kind checksum_row
over_complete body x h = (h.0, (h.1.0, (h.1.1.0, ((lit< tt, (tt, tt)), h.1.1.1.1))))

pub over_within : (body : KdcReqBody) (x : Authenticator) → Fits authenticator_layout (2 ^ 27) x → Fits authenticator_layout (2 ^ 27 + 128) (over body x)
over_within body x h = record { complete = over_complete body x h.complete; short = let k = (over_grows body x).is in omega (arith, k, h.short) }

-- the body
sname_le : (service host : List ℕ) → length service ≤ 2 ^ 24 → length host ≤ 2 ^ 24
    → length (tlv 0xa3 (tlv (tag_of principal_name) (contents principal_name (principal_name_row (principal 2 (service ∷ host ∷ [])))))) ≤ 2 ^ 25 + 64
unfolding principal_name principal_name_row
sname_le service host h k =
    le_trans _ _ _ (field_le 0xa3 0x30 _ _ (append_le _ _ _ _ (field_le 0xa0 0x02 (2 ∷ []) 1 (lit≤ tt))
    (append_le _ [] _ 0 (field_le 0xa1 0x30 _ _ (append_le _ _ _ _ (tlv_le 0x1b service (2 ^ 24) h) (append_le _ [] _ 0 (tlv_le 0x1b host (2 ^ 24) k) (lit≤ tt)))) (lit≤ tt)))) (lit≤ tt)

tickets_le : (tickets : Option (List Ticket)) → AreShortTickets tickets
    → length (option_map_or (λ value. tlv 0xab (tlv 0x30 (contents (sequence_of ticket) value))) (option_map (map ticket_row) tickets) []) ≤ 2 ^ 24 + 6
tickets_le None h = lit≤ tt
tickets_le (Some tickets) h = tlv_le 0xab (spelling (items_layout ticket_layout) tickets) (2 ^ 24) h.short

tickets_complete : (tickets : Option (List Ticket)) → AreShortTickets tickets → IfSome (option_map (map ticket_row) tickets) (IsComplete (sequence_of ticket))
tickets_complete None h = tt
tickets_complete (Some tickets) h = h.complete

module _ (realm service host : List ℕ) (tickets : Option (List Ticket)) (flags moment : ℕ) (nonce : List ℕ)
    (realm_short : length realm ≤ 2 ^ 24) (service_short : length service ≤ 2 ^ 24) (host_short : length host ≤ 2 ^ 24)
    (tickets_short : AreShortTickets tickets) (four : length nonce ≡ 4) where
  body_le : length (spelling kdc_req_body_layout (tgs_body realm service host tickets flags moment nonce)) ≤ 2 ^ 27
  unfolding kdc_req_body kdc_req_body_row
  body_le =
      let body = append_le _ _ _ _ (field_le 0xa0 0x03 (0 ∷ to_be_bytes w32 (tgs_options flags)) 5 (lit≤ tt))
      (append_le _ _ _ _ (field_le 0xa2 0x1b realm (2 ^ 24) realm_short)
      (append_le _ _ _ _ (sname_le service host service_short host_short)
      (append_le _ _ _ _ (field_le 0xa5 0x18 (time_octets _) 15 (time_short _))
      (append_le _ _ _ _ (field_le 0xa7 0x02 nonce 4 (omega arith))
      (append_le _ _ _ _ (field_le 0xa8 0x30 _ _ (append_le _ _ _ _ (tlv_le 0x02 (18 ∷ []) 1 (lit≤ tt)) (append_le _ [] _ 0 (tlv_le 0x02 (17 ∷ []) 1 (lit≤ tt)) (lit≤ tt))))
      (append_le _ [] _ 0 (tickets_le tickets tickets_short) (lit≤ tt))))))) in
      le_trans _ _ _ (tlv_le 0x30 _ _ body) (lit≤ tt)

  body_complete : IsComplete kdc_req_body (kdc_req_body_row (tgs_body realm service host tickets flags moment nonce))
  unfolding kdc_req_body kdc_req_body_row principal_name principal_name_row
  body_complete =
      (lit≤ tt, (tt, (tt, ((lit< tt, ((tt, (tt, tt)), tt)), (tt, (tt, (tt, (omega arith, ((lit< tt, (lit< tt, tt)), (tt, (tt, (tickets_complete tickets tickets_short, tt))))))))))))

  pub body_within : Fits kdc_req_body_layout (2 ^ 27) (tgs_body realm service host tickets flags moment nonce)
  body_within = record { complete = body_complete; short = body_le }

-- the parts of a target
service_le : (p : ℕ → Bool) (target : List ℕ) → length (before_first p target) ≤ length target
service_le p target = omega (arith, length-take (position_or_len p target) target)

host_le : (p : ℕ → Bool) (target : List ℕ) → length (after_first p target) ≤ length target
host_le p target = omega (arith, length-drop (position_or_len p target + 1) target)

pub record AreWithin (n : ℕ) (parts : List ℕ × List ℕ) : Type 0 where
  pub service : length parts.0 ≤ n
  pub host : length parts.1 ≤ n

parts_within : (test : Bool) (service host : List ℕ) (n : ℕ) → length service ≤ n → length host ≤ n → IfSome (if test then Some (service, host) else None) (AreWithin n)
parts_within true service host n h k = record { service = h; host = k }
parts_within false service host n h k = tt

pub target_within : (target service host : List ℕ) → target_parts target ≡ Some (service, host) → AreWithin (length target) (service, host)
target_within target service host e =
    subst (λ (parts : Option (List ℕ × List ℕ)). IfSome parts (AreWithin (length target))) e
    (parts_within _ _ _ (length target) (service_le (λ octet. octet == slash) target) (host_le (λ octet. octet == slash) target))

-- options for a PAC
pub branch_within : Fits pa_pac_options_layout 32 (record { flags = record { unused = 0; octets = 0x40 ∷ 0x00 ∷ 0x00 ∷ 0x00 ∷ [] } })
unfolding pa_pac_options pa_pac_options_row
branch_within = record {
  complete = (lit≤ tt, tt);
  short = le_trans _ _ _ (tlv_le 0x30 _ _ (append_le _ [] _ 0 (field_le 0xa0 0x03 (0 ∷ 0x40 ∷ 0x00 ∷ 0x00 ∷ 0x00 ∷ []) 5 (lit≤ tt)) (lit≤ tt))) (lit≤ tt);
}

-- the whole request
pa_le : (type value : List ℕ) (n : ℕ) → length type ≤ 2 → length value ≤ n → length (spelling pa_data_layout (record { padata_type = type; padata_value = value })) ≤ n + 32
unfolding pa_data pa_data_row
pa_le type value n h k = omega (arith, tlv_le 0x30 _ _ (append_le _ _ _ _ (field_le 0xa1 0x02 type 2 h) (append_le _ [] _ 0 (field_le 0xa2 0x04 value n k) (lit≤ tt))))

request_le : (body : KdcReqBody) (request : ApReq) → Fits kdc_req_body_layout (2 ^ 27) body → Fits ap_req_layout (2 ^ 28) request
    → length (spelling tgs_req_layout (tgs_req_with body request)) ≤ 2 ^ 29
unfolding tgs_req_kind tgs_req_row kdc_req kdc_req_row
request_le body request h k =
    let fields = append_le _ _ _ _ (field_le 0xa1 0x02 (5 ∷ []) 1 (lit≤ tt))
    (append_le _ _ _ _ (field_le 0xa2 0x02 (12 ∷ []) 1 (lit≤ tt))
    (append_le _ _ _ _ (field_le 0xa3 0x30 _ _ (append_le _ _ _ _ (pa_le (1 ∷ []) (spelling ap_req_layout request) (2 ^ 28) (lit≤ tt) k.short)
    (append_le _ [] _ 0 (pa_le (0x00 ∷ 0xa7 ∷ []) _ 32 (lit≤ tt) branch_within.short) (lit≤ tt))))
    (append_le _ [] _ 0 (tlv_le 0xa4 (spelling kdc_req_body_layout body) (2 ^ 27) h.short) (lit≤ tt)))) in
    le_trans _ _ _ (field_le 0x6c 0x30 _ _ fields) (lit≤ tt)

request_complete : (body : KdcReqBody) (request : ApReq) → Fits kdc_req_body_layout (2 ^ 27) body → IsComplete tgs_req_kind (tgs_req_row (tgs_req_with body request))
unfolding tgs_req_kind tgs_req_row kdc_req kdc_req_row pa_data pa_data_row
request_complete body request h = (lit< tt, (lit< tt, (((lit< tt, (tt, tt)), ((lit< tt, (tt, tt)), tt)), (h.complete, tt))))

pub request_within : (body : KdcReqBody) (request : ApReq) → Fits kdc_req_body_layout (2 ^ 27) body → Fits ap_req_layout (2 ^ 28) request
    → Fits tgs_req_layout (2 ^ 29) (tgs_req_with body request)
request_within body request h k = record { complete = request_complete body request h; short = request_le body request h k }
