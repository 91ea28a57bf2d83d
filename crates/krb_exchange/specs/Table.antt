-- The records of the exchanges with a KDC and of a change of a password (RFC 4120 5.2.7, 5.4, 5.7 and 5.9; MS-KILE 2.2;
-- MS-KKDCP 2.2.2), each with its fields in the order of their tags, as the table of krb_messages has them.
use Rattle.krb_der.specs.Schema.{Kind, integer, error_code, text, octet_string, bits, time, boolean, sequence_of, sequence, application, nothing}
use Rattle.krb_der.specs.Schema.{required, optional, ◌▸◌}
use Rattle.krb_messages.specs.Table.{encrypted_data, encryption_key, host_address, principal_name, ticket}

-- RFC 4120 5.2.7, PA-DATA
unfoldable pub pa_data : Kind
pa_data = sequence (
    required 1 integer ▸  -- padata-type
    required 2 octet_string ▸  -- padata-value
    nothing)

-- RFC 4120 5.2.7.5, ETYPE-INFO2-ENTRY
unfoldable pub etype_info2_entry : Kind
etype_info2_entry = sequence (
    required 0 integer ▸  -- etype
    optional 1 text ▸  -- salt
    optional 2 octet_string ▸  -- s2kparams
    nothing)

-- RFC 4120 5.2.7.2, PA-ENC-TS-ENC
unfoldable pub pa_enc_ts_enc : Kind
pa_enc_ts_enc = sequence (
    required 0 time ▸  -- patimestamp
    optional 1 integer ▸  -- pausec
    nothing)

-- MS-KILE 2.2.3, KERB-PA-PAC-REQUEST
unfoldable pub kerb_pa_pac_request : Kind
kerb_pa_pac_request = sequence (
    required 0 boolean ▸  -- include-pac
    nothing)

-- MS-KILE 2.2.10, PA-PAC-OPTIONS
unfoldable pub pa_pac_options : Kind
pa_pac_options = sequence (
    required 0 bits ▸  -- flags
    nothing)

-- RFC 4120 5.4.1, KDC-REQ-BODY
unfoldable pub kdc_req_body : Kind
kdc_req_body = sequence (
    required 0 bits ▸  -- kdc-options
    optional 1 principal_name ▸  -- cname
    required 2 text ▸  -- realm
    optional 3 principal_name ▸  -- sname
    optional 4 time ▸  -- from
    required 5 time ▸  -- till
    optional 6 time ▸  -- rtime
    required 7 integer ▸  -- nonce
    required 8 (sequence_of integer) ▸  -- etype
    optional 9 (sequence_of host_address) ▸  -- addresses
    optional 10 encrypted_data ▸  -- enc-authorization-data
    optional 11 (sequence_of ticket) ▸  -- additional-tickets
    nothing)

-- RFC 4120 5.4.1, KDC-REQ
unfoldable pub kdc_req : Kind
kdc_req = sequence (
    required 1 integer ▸  -- pvno
    required 2 integer ▸  -- msg-type
    optional 3 (sequence_of pa_data) ▸  -- padata
    required 4 kdc_req_body ▸  -- req-body
    nothing)

-- RFC 4120 5.4.2, KDC-REP
unfoldable pub kdc_rep : Kind
kdc_rep = sequence (
    required 0 integer ▸  -- pvno
    required 1 integer ▸  -- msg-type
    optional 2 (sequence_of pa_data) ▸  -- padata
    required 3 text ▸  -- crealm
    required 4 principal_name ▸  -- cname
    required 5 ticket ▸  -- ticket
    required 6 encrypted_data ▸  -- enc-part
    nothing)

-- RFC 4120 5.4.2, an element of LastReq (which is a SEQUENCE OF it)
unfoldable pub last_req_entry : Kind
last_req_entry = sequence (
    required 0 integer ▸  -- lr-type
    required 1 time ▸  -- lr-value
    nothing)

-- RFC 4120 5.4.2, and 6806 11 for its last field, EncKDCRepPart
unfoldable pub enc_kdc_rep_part : Kind
enc_kdc_rep_part = sequence (
    required 0 encryption_key ▸  -- key
    required 1 (sequence_of last_req_entry) ▸  -- last-req
    required 2 integer ▸  -- nonce
    optional 3 time ▸  -- key-expiration
    required 4 bits ▸  -- flags
    required 5 time ▸  -- authtime
    optional 6 time ▸  -- starttime
    required 7 time ▸  -- endtime
    optional 8 time ▸  -- renew-till
    required 9 text ▸  -- srealm
    required 10 principal_name ▸  -- sname
    optional 11 (sequence_of host_address) ▸  -- caddr
    optional 12 (sequence_of pa_data) ▸  -- encrypted-pa-data
    nothing)

-- RFC 4120 5.9.1, KRB-ERROR
unfoldable pub krb_error : Kind
krb_error = application 30 (sequence (
    required 0 integer ▸  -- pvno
    required 1 integer ▸  -- msg-type
    optional 2 time ▸  -- ctime
    optional 3 integer ▸  -- cusec
    required 4 time ▸  -- stime
    required 5 integer ▸  -- susec
    required 6 error_code ▸  -- error-code
    optional 7 text ▸  -- crealm
    optional 8 principal_name ▸  -- cname
    required 9 text ▸  -- realm
    required 10 principal_name ▸  -- sname
    optional 11 text ▸  -- e-text
    optional 12 octet_string ▸  -- e-data
    nothing))

-- RFC 4120 5.7.1, KRB-PRIV
unfoldable pub krb_priv : Kind
krb_priv = application 21 (sequence (
    required 0 integer ▸  -- pvno
    required 1 integer ▸  -- msg-type
    required 3 encrypted_data ▸  -- enc-part
    nothing))

-- RFC 4120 5.7.1, EncKrbPrivPart
unfoldable pub enc_krb_priv_part : Kind
enc_krb_priv_part = application 28 (sequence (
    required 0 octet_string ▸  -- user-data
    optional 1 time ▸  -- timestamp
    optional 2 integer ▸  -- usec
    optional 3 integer ▸  -- seq-number
    required 4 host_address ▸  -- s-address
    optional 5 host_address ▸  -- r-address
    nothing))

-- draft-swift-win2k-krb-user2user 3, TGT-REQ
unfoldable pub tgt_req : Kind
tgt_req = sequence (
    required 0 integer ▸  -- pvno
    required 1 integer ▸  -- msg-type
    required 2 principal_name ▸  -- server-name
    nothing)

-- draft-swift-win2k-krb-user2user 3, TGT-REP
unfoldable pub tgt_rep : Kind
tgt_rep = sequence (
    required 0 integer ▸  -- pvno
    required 1 integer ▸  -- msg-type
    required 2 ticket ▸  -- ticket
    nothing)

-- MS-KKDCP 2.2.2, KDC-PROXY-MESSAGE
unfoldable pub kdc_proxy_message : Kind
kdc_proxy_message = sequence (
    required 0 octet_string ▸  -- kerb-message
    optional 1 text ▸  -- target-domain
    optional 2 integer ▸  -- dclocator-hint
    nothing)

-- RFC 4120 5.4.1, AS-REQ
unfoldable pub as_req : Kind
as_req = application 10 kdc_req

-- RFC 4120 5.4.1, TGS-REQ
unfoldable pub tgs_req : Kind
tgs_req = application 12 kdc_req

-- RFC 4120 5.4.2, AS-REP
unfoldable pub as_rep : Kind
as_rep = application 11 kdc_rep

-- RFC 4120 5.4.2, TGS-REP
unfoldable pub tgs_rep : Kind
tgs_rep = application 13 kdc_rep

-- RFC 4120 5.4.2, EncASRepPart
unfoldable pub enc_as_rep_part : Kind
enc_as_rep_part = application 25 enc_kdc_rep_part

-- RFC 4120 5.4.2, EncTGSRepPart
unfoldable pub enc_tgs_rep_part : Kind
enc_tgs_rep_part = application 26 enc_kdc_rep_part
