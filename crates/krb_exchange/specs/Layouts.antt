-- Each record as its row of the table, there and back.
use Rattle.std.specs.Prelude.{◌≡◌, true, refl, map, option_map}
use Rattle.krb_der.specs.Schema.{Of, is_table}
use Rattle.krb_der.specs.Layout.{Layout, bits_layout, integer_layout, items_layout, items_back, option_back}
use Rattle.krb_exchange.specs.Rows.{◌&◌}
use Rattle.krb_exchange.specs.declared.pa_data.PaData.{PaData}
use Rattle.krb_exchange.specs.declared.pa_data.EtypeInfo2Entry.{EtypeInfo2Entry}
use Rattle.krb_exchange.specs.declared.pa_data.PaEncTsEnc.{PaEncTsEnc}
use Rattle.krb_exchange.specs.declared.pa_data.KerbPaPacRequest.{KerbPaPacRequest}
use Rattle.krb_exchange.specs.declared.pa_data.PaPacOptions.{PaPacOptions}
use Rattle.krb_exchange.specs.declared.kdc_req.KdcReqBody.{KdcReqBody}
use Rattle.krb_exchange.specs.declared.kdc_req.KdcReq.{KdcReq}
use Rattle.krb_exchange.specs.declared.kdc_rep.KdcRep.{KdcRep}
use Rattle.krb_exchange.specs.declared.enc_kdc_rep_part.LastReqEntry.{LastReqEntry}
use Rattle.krb_exchange.specs.declared.enc_kdc_rep_part.EncKdcRepPart.{EncKdcRepPart}
use Rattle.krb_exchange.specs.declared.krb_error.KrbError.{KrbError}
use Rattle.krb_exchange.specs.declared.krb_priv.KrbPriv.{KrbPriv}
use Rattle.krb_exchange.specs.declared.krb_priv.EncKrbPrivPart.{EncKrbPrivPart}
use Rattle.krb_exchange.specs.declared.user_to_user.TgtReq.{TgtReq}
use Rattle.krb_exchange.specs.declared.user_to_user.TgtRep.{TgtRep}
use Rattle.krb_exchange.specs.declared.kdc_proxy.KdcProxyMessage.{KdcProxyMessage}
use Rattle.krb_exchange.specs.declared.kdc_req.AsReq.{AsReq}
use Rattle.krb_exchange.specs.declared.kdc_req.TgsReq.{TgsReq}
use Rattle.krb_exchange.specs.declared.kdc_rep.AsRep.{AsRep}
use Rattle.krb_exchange.specs.declared.kdc_rep.TgsRep.{TgsRep}
use Rattle.krb_exchange.specs.declared.enc_kdc_rep_part.EncAsRepPart.{EncAsRepPart}
use Rattle.krb_exchange.specs.declared.enc_kdc_rep_part.EncTgsRepPart.{EncTgsRepPart}
use Rattle.krb_messages.specs.Table.{encrypted_data, encryption_key, host_address, principal_name, ticket}
use Rattle.krb_messages.specs.Layouts.{encrypted_data_row, encrypted_data_of, encrypted_data_back, encrypted_data_layout, encryption_key_row}
use Rattle.krb_messages.specs.Layouts.{encryption_key_of, encryption_key_back, host_address_row, host_address_of}
use Rattle.krb_messages.specs.Layouts.{host_address_back, host_address_layout, principal_name_row, principal_name_of, principal_name_back}
use Rattle.krb_messages.specs.Layouts.{principal_name_layout, ticket_row, ticket_of, ticket_back, ticket_layout}
use Rattle.krb_exchange.specs.Table.{pa_data, etype_info2_entry, pa_enc_ts_enc, kerb_pa_pac_request, pa_pac_options, kdc_req_body, kdc_req, kdc_rep}
use Rattle.krb_exchange.specs.Table.{last_req_entry, enc_kdc_rep_part, krb_error, krb_priv, enc_krb_priv_part, tgt_req, tgt_rep, kdc_proxy_message}
use Rattle.krb_exchange.specs.Table.{as_req, tgs_req, as_rep, tgs_rep, enc_as_rep_part, enc_tgs_rep_part}

-- PaData
unfoldable pub pa_data_row : PaData → Of pa_data
unfolding pa_data
pa_data_row x = x.padata_type & x.padata_value & tt

unfoldable pub pa_data_of : Of pa_data → PaData
unfolding pa_data
pa_data_of row = record { padata_type = row.0; padata_value = row.1.0 }

pub pa_data_back : (x : PaData) → pa_data_of (pa_data_row x) ≡ x
unfolding pa_data pa_data_row pa_data_of
pa_data_back x = refl

pub pa_data_ascends : is_table pa_data ≡ true
unfolding pa_data
pa_data_ascends = refl

abbrev pub pa_data_layout : Layout PaData
pa_data_layout = record { kind = pa_data; view = pa_data_row; of = pa_data_of; back = pa_data_back; ascends = pa_data_ascends }

-- EtypeInfo2Entry
unfoldable pub etype_info2_entry_row : EtypeInfo2Entry → Of etype_info2_entry
unfolding etype_info2_entry
etype_info2_entry_row x = x.etype & x.salt & x.s2kparams & tt

unfoldable pub etype_info2_entry_of : Of etype_info2_entry → EtypeInfo2Entry
unfolding etype_info2_entry
etype_info2_entry_of row = record { etype = row.0; salt = row.1.0; s2kparams = row.1.1.0 }

pub etype_info2_entry_back : (x : EtypeInfo2Entry) → etype_info2_entry_of (etype_info2_entry_row x) ≡ x
unfolding etype_info2_entry etype_info2_entry_row etype_info2_entry_of
etype_info2_entry_back x = refl

pub etype_info2_entry_ascends : is_table etype_info2_entry ≡ true
unfolding etype_info2_entry
etype_info2_entry_ascends = refl

abbrev pub etype_info2_entry_layout : Layout EtypeInfo2Entry
etype_info2_entry_layout = record {
  kind = etype_info2_entry;
  view = etype_info2_entry_row;
  of = etype_info2_entry_of;
  back = etype_info2_entry_back;
  ascends = etype_info2_entry_ascends;
}

-- PaEncTsEnc
unfoldable pub pa_enc_ts_enc_row : PaEncTsEnc → Of pa_enc_ts_enc
unfolding pa_enc_ts_enc
pa_enc_ts_enc_row x = x.patimestamp & x.pausec & tt

unfoldable pub pa_enc_ts_enc_of : Of pa_enc_ts_enc → PaEncTsEnc
unfolding pa_enc_ts_enc
pa_enc_ts_enc_of row = record { patimestamp = row.0; pausec = row.1.0 }

pub pa_enc_ts_enc_back : (x : PaEncTsEnc) → pa_enc_ts_enc_of (pa_enc_ts_enc_row x) ≡ x
unfolding pa_enc_ts_enc pa_enc_ts_enc_row pa_enc_ts_enc_of
pa_enc_ts_enc_back x = refl

pub pa_enc_ts_enc_ascends : is_table pa_enc_ts_enc ≡ true
unfolding pa_enc_ts_enc
pa_enc_ts_enc_ascends = refl

abbrev pub pa_enc_ts_enc_layout : Layout PaEncTsEnc
pa_enc_ts_enc_layout = record {
  kind = pa_enc_ts_enc;
  view = pa_enc_ts_enc_row;
  of = pa_enc_ts_enc_of;
  back = pa_enc_ts_enc_back;
  ascends = pa_enc_ts_enc_ascends;
}

-- KerbPaPacRequest
unfoldable pub kerb_pa_pac_request_row : KerbPaPacRequest → Of kerb_pa_pac_request
unfolding kerb_pa_pac_request
kerb_pa_pac_request_row x = x.include_pac & tt

unfoldable pub kerb_pa_pac_request_of : Of kerb_pa_pac_request → KerbPaPacRequest
unfolding kerb_pa_pac_request
kerb_pa_pac_request_of row = record { include_pac = row.0 }

pub kerb_pa_pac_request_back : (x : KerbPaPacRequest) → kerb_pa_pac_request_of (kerb_pa_pac_request_row x) ≡ x
unfolding kerb_pa_pac_request kerb_pa_pac_request_row kerb_pa_pac_request_of
kerb_pa_pac_request_back x = refl

pub kerb_pa_pac_request_ascends : is_table kerb_pa_pac_request ≡ true
unfolding kerb_pa_pac_request
kerb_pa_pac_request_ascends = refl

abbrev pub kerb_pa_pac_request_layout : Layout KerbPaPacRequest
kerb_pa_pac_request_layout = record {
  kind = kerb_pa_pac_request;
  view = kerb_pa_pac_request_row;
  of = kerb_pa_pac_request_of;
  back = kerb_pa_pac_request_back;
  ascends = kerb_pa_pac_request_ascends;
}

-- PaPacOptions
unfoldable pub pa_pac_options_row : PaPacOptions → Of pa_pac_options
unfolding pa_pac_options
pa_pac_options_row x = bits_layout.view x.flags & tt

unfoldable pub pa_pac_options_of : Of pa_pac_options → PaPacOptions
unfolding pa_pac_options
pa_pac_options_of row = record { flags = bits_layout.of row.0 }

pub pa_pac_options_back : (x : PaPacOptions) → pa_pac_options_of (pa_pac_options_row x) ≡ x
unfolding pa_pac_options pa_pac_options_row pa_pac_options_of
pa_pac_options_back x = refl

pub pa_pac_options_ascends : is_table pa_pac_options ≡ true
unfolding pa_pac_options
pa_pac_options_ascends = refl

abbrev pub pa_pac_options_layout : Layout PaPacOptions
pa_pac_options_layout = record {
  kind = pa_pac_options;
  view = pa_pac_options_row;
  of = pa_pac_options_of;
  back = pa_pac_options_back;
  ascends = pa_pac_options_ascends;
}

-- KdcReqBody
unfoldable pub kdc_req_body_row : KdcReqBody → Of kdc_req_body
unfolding kdc_req_body
kdc_req_body_row x =
    bits_layout.view x.kdc_options
    & option_map principal_name_row x.cname
    & x.realm
    & option_map principal_name_row x.sname
    & x.from
    & x.till
    & x.rtime
    & x.nonce
    & (items_layout integer_layout).view x.etype
    & option_map (map host_address_row) x.addresses
    & option_map encrypted_data_row x.enc_authorization_data
    & option_map (map ticket_row) x.additional_tickets
    & tt

unfoldable pub kdc_req_body_of : Of kdc_req_body → KdcReqBody
unfolding kdc_req_body
kdc_req_body_of row = record {
  kdc_options = bits_layout.of row.0;
  cname = option_map principal_name_of row.1.0;
  realm = row.1.1.0;
  sname = option_map principal_name_of row.1.1.1.0;
  from = row.1.1.1.1.0;
  till = row.1.1.1.1.1.0;
  rtime = row.1.1.1.1.1.1.0;
  nonce = row.1.1.1.1.1.1.1.0;
  etype = (items_layout integer_layout).of row.1.1.1.1.1.1.1.1.0;
  addresses = option_map (map host_address_of) row.1.1.1.1.1.1.1.1.1.0;
  enc_authorization_data = option_map encrypted_data_of row.1.1.1.1.1.1.1.1.1.1.0;
  additional_tickets = option_map (map ticket_of) row.1.1.1.1.1.1.1.1.1.1.1.0;
}

pub kdc_req_body_back : (x : KdcReqBody) → kdc_req_body_of (kdc_req_body_row x) ≡ x
unfolding kdc_req_body kdc_req_body_row kdc_req_body_of
kdc_req_body_back x =
    rw (
      option_back principal_name_layout x.cname,
      option_back principal_name_layout x.sname,
      items_back integer_layout x.etype,
      option_back (items_layout host_address_layout) x.addresses,
      option_back encrypted_data_layout x.enc_authorization_data,
      option_back (items_layout ticket_layout) x.additional_tickets,
    ) refl

pub kdc_req_body_ascends : is_table kdc_req_body ≡ true
unfolding kdc_req_body principal_name host_address encrypted_data ticket
kdc_req_body_ascends = refl

abbrev pub kdc_req_body_layout : Layout KdcReqBody
kdc_req_body_layout = record {
  kind = kdc_req_body;
  view = kdc_req_body_row;
  of = kdc_req_body_of;
  back = kdc_req_body_back;
  ascends = kdc_req_body_ascends;
}

-- KdcReq
unfoldable pub kdc_req_row : KdcReq → Of kdc_req
unfolding kdc_req
kdc_req_row x = x.pvno & x.msg_type & option_map (map pa_data_row) x.padata & kdc_req_body_row x.req_body & tt

unfoldable pub kdc_req_of : Of kdc_req → KdcReq
unfolding kdc_req
kdc_req_of row = record { pvno = row.0; msg_type = row.1.0; padata = option_map (map pa_data_of) row.1.1.0; req_body = kdc_req_body_of row.1.1.1.0 }

pub kdc_req_back : (x : KdcReq) → kdc_req_of (kdc_req_row x) ≡ x
unfolding kdc_req kdc_req_row kdc_req_of
kdc_req_back x = rw (option_back (items_layout pa_data_layout) x.padata, kdc_req_body_back x.req_body) refl

pub kdc_req_ascends : is_table kdc_req ≡ true
unfolding kdc_req pa_data principal_name host_address encrypted_data ticket kdc_req_body
kdc_req_ascends = refl

abbrev pub kdc_req_layout : Layout KdcReq
kdc_req_layout = record { kind = kdc_req; view = kdc_req_row; of = kdc_req_of; back = kdc_req_back; ascends = kdc_req_ascends }

-- KdcRep
unfoldable pub kdc_rep_row : KdcRep → Of kdc_rep
unfolding kdc_rep
kdc_rep_row x =
    x.pvno
    & x.msg_type
    & option_map (map pa_data_row) x.padata
    & x.crealm
    & principal_name_row x.cname
    & ticket_row x.ticket
    & encrypted_data_row x.enc_part
    & tt

unfoldable pub kdc_rep_of : Of kdc_rep → KdcRep
unfolding kdc_rep
kdc_rep_of row = record {
  pvno = row.0;
  msg_type = row.1.0;
  padata = option_map (map pa_data_of) row.1.1.0;
  crealm = row.1.1.1.0;
  cname = principal_name_of row.1.1.1.1.0;
  ticket = ticket_of row.1.1.1.1.1.0;
  enc_part = encrypted_data_of row.1.1.1.1.1.1.0;
}

pub kdc_rep_back : (x : KdcRep) → kdc_rep_of (kdc_rep_row x) ≡ x
unfolding kdc_rep kdc_rep_row kdc_rep_of
kdc_rep_back x =
    rw (
      option_back (items_layout pa_data_layout) x.padata,
      principal_name_back x.cname,
      ticket_back x.ticket,
      encrypted_data_back x.enc_part,
    ) refl

pub kdc_rep_ascends : is_table kdc_rep ≡ true
unfolding kdc_rep pa_data principal_name encrypted_data ticket
kdc_rep_ascends = refl

abbrev pub kdc_rep_layout : Layout KdcRep
kdc_rep_layout = record { kind = kdc_rep; view = kdc_rep_row; of = kdc_rep_of; back = kdc_rep_back; ascends = kdc_rep_ascends }

-- LastReqEntry
unfoldable pub last_req_entry_row : LastReqEntry → Of last_req_entry
unfolding last_req_entry
last_req_entry_row x = x.lr_type & x.lr_value & tt

unfoldable pub last_req_entry_of : Of last_req_entry → LastReqEntry
unfolding last_req_entry
last_req_entry_of row = record { lr_type = row.0; lr_value = row.1.0 }

pub last_req_entry_back : (x : LastReqEntry) → last_req_entry_of (last_req_entry_row x) ≡ x
unfolding last_req_entry last_req_entry_row last_req_entry_of
last_req_entry_back x = refl

pub last_req_entry_ascends : is_table last_req_entry ≡ true
unfolding last_req_entry
last_req_entry_ascends = refl

abbrev pub last_req_entry_layout : Layout LastReqEntry
last_req_entry_layout = record {
  kind = last_req_entry;
  view = last_req_entry_row;
  of = last_req_entry_of;
  back = last_req_entry_back;
  ascends = last_req_entry_ascends;
}

-- EncKdcRepPart
unfoldable pub enc_kdc_rep_part_row : EncKdcRepPart → Of enc_kdc_rep_part
unfolding enc_kdc_rep_part
enc_kdc_rep_part_row x =
    encryption_key_row x.key
    & map last_req_entry_row x.last_req
    & x.nonce
    & x.key_expiration
    & bits_layout.view x.flags
    & x.authtime
    & x.starttime
    & x.endtime
    & x.renew_till
    & x.srealm
    & principal_name_row x.sname
    & option_map (map host_address_row) x.caddr
    & option_map (map pa_data_row) x.encrypted_pa_data
    & tt

unfoldable pub enc_kdc_rep_part_of : Of enc_kdc_rep_part → EncKdcRepPart
unfolding enc_kdc_rep_part
enc_kdc_rep_part_of row = record {
  key = encryption_key_of row.0;
  last_req = map last_req_entry_of row.1.0;
  nonce = row.1.1.0;
  key_expiration = row.1.1.1.0;
  flags = bits_layout.of row.1.1.1.1.0;
  authtime = row.1.1.1.1.1.0;
  starttime = row.1.1.1.1.1.1.0;
  endtime = row.1.1.1.1.1.1.1.0;
  renew_till = row.1.1.1.1.1.1.1.1.0;
  srealm = row.1.1.1.1.1.1.1.1.1.0;
  sname = principal_name_of row.1.1.1.1.1.1.1.1.1.1.0;
  caddr = option_map (map host_address_of) row.1.1.1.1.1.1.1.1.1.1.1.0;
  encrypted_pa_data = option_map (map pa_data_of) row.1.1.1.1.1.1.1.1.1.1.1.1.0;
}

pub enc_kdc_rep_part_back : (x : EncKdcRepPart) → enc_kdc_rep_part_of (enc_kdc_rep_part_row x) ≡ x
unfolding enc_kdc_rep_part enc_kdc_rep_part_row enc_kdc_rep_part_of
enc_kdc_rep_part_back x =
    rw (
      encryption_key_back x.key,
      items_back last_req_entry_layout x.last_req,
      principal_name_back x.sname,
      option_back (items_layout host_address_layout) x.caddr,
      option_back (items_layout pa_data_layout) x.encrypted_pa_data,
    ) refl

pub enc_kdc_rep_part_ascends : is_table enc_kdc_rep_part ≡ true
unfolding enc_kdc_rep_part encryption_key last_req_entry principal_name host_address pa_data
enc_kdc_rep_part_ascends = refl

abbrev pub enc_kdc_rep_part_layout : Layout EncKdcRepPart
enc_kdc_rep_part_layout = record {
  kind = enc_kdc_rep_part;
  view = enc_kdc_rep_part_row;
  of = enc_kdc_rep_part_of;
  back = enc_kdc_rep_part_back;
  ascends = enc_kdc_rep_part_ascends;
}

-- KrbError
unfoldable pub krb_error_row : KrbError → Of krb_error
unfolding krb_error
krb_error_row x =
    x.pvno
    & x.msg_type
    & x.ctime
    & x.cusec
    & x.stime
    & x.susec
    & x.error_code
    & x.crealm
    & option_map principal_name_row x.cname
    & x.realm
    & principal_name_row x.sname
    & x.e_text
    & x.e_data
    & tt

unfoldable pub krb_error_of : Of krb_error → KrbError
unfolding krb_error
krb_error_of row = record {
  pvno = row.0;
  msg_type = row.1.0;
  ctime = row.1.1.0;
  cusec = row.1.1.1.0;
  stime = row.1.1.1.1.0;
  susec = row.1.1.1.1.1.0;
  error_code = row.1.1.1.1.1.1.0;
  crealm = row.1.1.1.1.1.1.1.0;
  cname = option_map principal_name_of row.1.1.1.1.1.1.1.1.0;
  realm = row.1.1.1.1.1.1.1.1.1.0;
  sname = principal_name_of row.1.1.1.1.1.1.1.1.1.1.0;
  e_text = row.1.1.1.1.1.1.1.1.1.1.1.0;
  e_data = row.1.1.1.1.1.1.1.1.1.1.1.1.0;
}

pub krb_error_back : (x : KrbError) → krb_error_of (krb_error_row x) ≡ x
unfolding krb_error krb_error_row krb_error_of
krb_error_back x = rw (option_back principal_name_layout x.cname, principal_name_back x.sname) refl

pub krb_error_ascends : is_table krb_error ≡ true
unfolding krb_error principal_name
krb_error_ascends = refl

abbrev pub krb_error_layout : Layout KrbError
krb_error_layout = record { kind = krb_error; view = krb_error_row; of = krb_error_of; back = krb_error_back; ascends = krb_error_ascends }

-- KrbPriv
unfoldable pub krb_priv_row : KrbPriv → Of krb_priv
unfolding krb_priv
krb_priv_row x = x.pvno & x.msg_type & encrypted_data_row x.enc_part & tt

unfoldable pub krb_priv_of : Of krb_priv → KrbPriv
unfolding krb_priv
krb_priv_of row = record { pvno = row.0; msg_type = row.1.0; enc_part = encrypted_data_of row.1.1.0 }

pub krb_priv_back : (x : KrbPriv) → krb_priv_of (krb_priv_row x) ≡ x
unfolding krb_priv krb_priv_row krb_priv_of
krb_priv_back x = rw (encrypted_data_back x.enc_part) refl

pub krb_priv_ascends : is_table krb_priv ≡ true
unfolding krb_priv encrypted_data
krb_priv_ascends = refl

abbrev pub krb_priv_layout : Layout KrbPriv
krb_priv_layout = record { kind = krb_priv; view = krb_priv_row; of = krb_priv_of; back = krb_priv_back; ascends = krb_priv_ascends }

-- EncKrbPrivPart
unfoldable pub enc_krb_priv_part_row : EncKrbPrivPart → Of enc_krb_priv_part
unfolding enc_krb_priv_part
enc_krb_priv_part_row x =
    x.user_data
    & x.timestamp
    & x.usec
    & x.seq_number
    & host_address_row x.s_address
    & option_map host_address_row x.r_address
    & tt

unfoldable pub enc_krb_priv_part_of : Of enc_krb_priv_part → EncKrbPrivPart
unfolding enc_krb_priv_part
enc_krb_priv_part_of row = record {
  user_data = row.0;
  timestamp = row.1.0;
  usec = row.1.1.0;
  seq_number = row.1.1.1.0;
  s_address = host_address_of row.1.1.1.1.0;
  r_address = option_map host_address_of row.1.1.1.1.1.0;
}

pub enc_krb_priv_part_back : (x : EncKrbPrivPart) → enc_krb_priv_part_of (enc_krb_priv_part_row x) ≡ x
unfolding enc_krb_priv_part enc_krb_priv_part_row enc_krb_priv_part_of
enc_krb_priv_part_back x = rw (host_address_back x.s_address, option_back host_address_layout x.r_address) refl

pub enc_krb_priv_part_ascends : is_table enc_krb_priv_part ≡ true
unfolding enc_krb_priv_part host_address
enc_krb_priv_part_ascends = refl

abbrev pub enc_krb_priv_part_layout : Layout EncKrbPrivPart
enc_krb_priv_part_layout = record {
  kind = enc_krb_priv_part;
  view = enc_krb_priv_part_row;
  of = enc_krb_priv_part_of;
  back = enc_krb_priv_part_back;
  ascends = enc_krb_priv_part_ascends;
}

-- TgtReq
unfoldable pub tgt_req_row : TgtReq → Of tgt_req
unfolding tgt_req
tgt_req_row x = x.pvno & x.msg_type & principal_name_row x.server_name & tt

unfoldable pub tgt_req_of : Of tgt_req → TgtReq
unfolding tgt_req
tgt_req_of row = record { pvno = row.0; msg_type = row.1.0; server_name = principal_name_of row.1.1.0 }

pub tgt_req_back : (x : TgtReq) → tgt_req_of (tgt_req_row x) ≡ x
unfolding tgt_req tgt_req_row tgt_req_of
tgt_req_back x = rw (principal_name_back x.server_name) refl

pub tgt_req_ascends : is_table tgt_req ≡ true
unfolding tgt_req principal_name
tgt_req_ascends = refl

abbrev pub tgt_req_layout : Layout TgtReq
tgt_req_layout = record { kind = tgt_req; view = tgt_req_row; of = tgt_req_of; back = tgt_req_back; ascends = tgt_req_ascends }

-- TgtRep
unfoldable pub tgt_rep_row : TgtRep → Of tgt_rep
unfolding tgt_rep
tgt_rep_row x = x.pvno & x.msg_type & ticket_row x.ticket & tt

unfoldable pub tgt_rep_of : Of tgt_rep → TgtRep
unfolding tgt_rep
tgt_rep_of row = record { pvno = row.0; msg_type = row.1.0; ticket = ticket_of row.1.1.0 }

pub tgt_rep_back : (x : TgtRep) → tgt_rep_of (tgt_rep_row x) ≡ x
unfolding tgt_rep tgt_rep_row tgt_rep_of
tgt_rep_back x = rw (ticket_back x.ticket) refl

pub tgt_rep_ascends : is_table tgt_rep ≡ true
unfolding tgt_rep principal_name encrypted_data ticket
tgt_rep_ascends = refl

abbrev pub tgt_rep_layout : Layout TgtRep
tgt_rep_layout = record { kind = tgt_rep; view = tgt_rep_row; of = tgt_rep_of; back = tgt_rep_back; ascends = tgt_rep_ascends }

-- KdcProxyMessage
unfoldable pub kdc_proxy_message_row : KdcProxyMessage → Of kdc_proxy_message
unfolding kdc_proxy_message
kdc_proxy_message_row x = x.kerb_message & x.target_domain & x.dclocator_hint & tt

unfoldable pub kdc_proxy_message_of : Of kdc_proxy_message → KdcProxyMessage
unfolding kdc_proxy_message
kdc_proxy_message_of row = record { kerb_message = row.0; target_domain = row.1.0; dclocator_hint = row.1.1.0 }

pub kdc_proxy_message_back : (x : KdcProxyMessage) → kdc_proxy_message_of (kdc_proxy_message_row x) ≡ x
unfolding kdc_proxy_message kdc_proxy_message_row kdc_proxy_message_of
kdc_proxy_message_back x = refl

pub kdc_proxy_message_ascends : is_table kdc_proxy_message ≡ true
unfolding kdc_proxy_message
kdc_proxy_message_ascends = refl

abbrev pub kdc_proxy_message_layout : Layout KdcProxyMessage
kdc_proxy_message_layout = record {
  kind = kdc_proxy_message;
  view = kdc_proxy_message_row;
  of = kdc_proxy_message_of;
  back = kdc_proxy_message_back;
  ascends = kdc_proxy_message_ascends;
}

-- AsReq
unfoldable pub as_req_row : AsReq → Of as_req
unfolding as_req
as_req_row x = kdc_req_row x.0

unfoldable pub as_req_of : Of as_req → AsReq
unfolding as_req
as_req_of row = record { 0 = kdc_req_of row }

pub as_req_back : (x : AsReq) → as_req_of (as_req_row x) ≡ x
unfolding as_req as_req_row as_req_of
as_req_back x = rw (kdc_req_back x.0) refl

pub as_req_ascends : is_table as_req ≡ true
unfolding as_req
as_req_ascends = kdc_req_ascends

abbrev pub as_req_layout : Layout AsReq
as_req_layout = record { kind = as_req; view = as_req_row; of = as_req_of; back = as_req_back; ascends = as_req_ascends }

-- TgsReq
unfoldable pub tgs_req_row : TgsReq → Of tgs_req
unfolding tgs_req
tgs_req_row x = kdc_req_row x.0

unfoldable pub tgs_req_of : Of tgs_req → TgsReq
unfolding tgs_req
tgs_req_of row = record { 0 = kdc_req_of row }

pub tgs_req_back : (x : TgsReq) → tgs_req_of (tgs_req_row x) ≡ x
unfolding tgs_req tgs_req_row tgs_req_of
tgs_req_back x = rw (kdc_req_back x.0) refl

pub tgs_req_ascends : is_table tgs_req ≡ true
unfolding tgs_req
tgs_req_ascends = kdc_req_ascends

abbrev pub tgs_req_layout : Layout TgsReq
tgs_req_layout = record { kind = tgs_req; view = tgs_req_row; of = tgs_req_of; back = tgs_req_back; ascends = tgs_req_ascends }

-- AsRep
unfoldable pub as_rep_row : AsRep → Of as_rep
unfolding as_rep
as_rep_row x = kdc_rep_row x.0

unfoldable pub as_rep_of : Of as_rep → AsRep
unfolding as_rep
as_rep_of row = record { 0 = kdc_rep_of row }

pub as_rep_back : (x : AsRep) → as_rep_of (as_rep_row x) ≡ x
unfolding as_rep as_rep_row as_rep_of
as_rep_back x = rw (kdc_rep_back x.0) refl

pub as_rep_ascends : is_table as_rep ≡ true
unfolding as_rep
as_rep_ascends = kdc_rep_ascends

abbrev pub as_rep_layout : Layout AsRep
as_rep_layout = record { kind = as_rep; view = as_rep_row; of = as_rep_of; back = as_rep_back; ascends = as_rep_ascends }

-- TgsRep
unfoldable pub tgs_rep_row : TgsRep → Of tgs_rep
unfolding tgs_rep
tgs_rep_row x = kdc_rep_row x.0

unfoldable pub tgs_rep_of : Of tgs_rep → TgsRep
unfolding tgs_rep
tgs_rep_of row = record { 0 = kdc_rep_of row }

pub tgs_rep_back : (x : TgsRep) → tgs_rep_of (tgs_rep_row x) ≡ x
unfolding tgs_rep tgs_rep_row tgs_rep_of
tgs_rep_back x = rw (kdc_rep_back x.0) refl

pub tgs_rep_ascends : is_table tgs_rep ≡ true
unfolding tgs_rep
tgs_rep_ascends = kdc_rep_ascends

abbrev pub tgs_rep_layout : Layout TgsRep
tgs_rep_layout = record { kind = tgs_rep; view = tgs_rep_row; of = tgs_rep_of; back = tgs_rep_back; ascends = tgs_rep_ascends }

-- EncAsRepPart
unfoldable pub enc_as_rep_part_row : EncAsRepPart → Of enc_as_rep_part
unfolding enc_as_rep_part
enc_as_rep_part_row x = enc_kdc_rep_part_row x.0

unfoldable pub enc_as_rep_part_of : Of enc_as_rep_part → EncAsRepPart
unfolding enc_as_rep_part
enc_as_rep_part_of row = record { 0 = enc_kdc_rep_part_of row }

pub enc_as_rep_part_back : (x : EncAsRepPart) → enc_as_rep_part_of (enc_as_rep_part_row x) ≡ x
unfolding enc_as_rep_part enc_as_rep_part_row enc_as_rep_part_of
enc_as_rep_part_back x = rw (enc_kdc_rep_part_back x.0) refl

pub enc_as_rep_part_ascends : is_table enc_as_rep_part ≡ true
unfolding enc_as_rep_part
enc_as_rep_part_ascends = enc_kdc_rep_part_ascends

abbrev pub enc_as_rep_part_layout : Layout EncAsRepPart
enc_as_rep_part_layout = record {
  kind = enc_as_rep_part;
  view = enc_as_rep_part_row;
  of = enc_as_rep_part_of;
  back = enc_as_rep_part_back;
  ascends = enc_as_rep_part_ascends;
}

-- EncTgsRepPart
unfoldable pub enc_tgs_rep_part_row : EncTgsRepPart → Of enc_tgs_rep_part
unfolding enc_tgs_rep_part
enc_tgs_rep_part_row x = enc_kdc_rep_part_row x.0

unfoldable pub enc_tgs_rep_part_of : Of enc_tgs_rep_part → EncTgsRepPart
unfolding enc_tgs_rep_part
enc_tgs_rep_part_of row = record { 0 = enc_kdc_rep_part_of row }

pub enc_tgs_rep_part_back : (x : EncTgsRepPart) → enc_tgs_rep_part_of (enc_tgs_rep_part_row x) ≡ x
unfolding enc_tgs_rep_part enc_tgs_rep_part_row enc_tgs_rep_part_of
enc_tgs_rep_part_back x = rw (enc_kdc_rep_part_back x.0) refl

pub enc_tgs_rep_part_ascends : is_table enc_tgs_rep_part ≡ true
unfolding enc_tgs_rep_part
enc_tgs_rep_part_ascends = enc_kdc_rep_part_ascends

abbrev pub enc_tgs_rep_part_layout : Layout EncTgsRepPart
enc_tgs_rep_part_layout = record {
  kind = enc_tgs_rep_part;
  view = enc_tgs_rep_part_row;
  of = enc_tgs_rep_part_of;
  back = enc_tgs_rep_part_back;
  ascends = enc_tgs_rep_part_ascends;
}
