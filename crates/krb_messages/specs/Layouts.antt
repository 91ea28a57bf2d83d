-- Each record as its row of the table, there and back.
use Rattle.std.specs.Prelude.{◌≡◌, true, refl, map, option_map}
use Rattle.krb_der.specs.Schema.{Of, is_table}
use Rattle.krb_der.specs.Layout.{Layout, bits_layout, items_layout, option_back}
use Rattle.krb_messages.specs.declared.principal_name.PrincipalName.{PrincipalName}
use Rattle.krb_messages.specs.declared.host_address.HostAddress.{HostAddress}
use Rattle.krb_messages.specs.declared.authorization_data.AuthorizationDataElement.{AuthorizationDataElement}
use Rattle.krb_messages.specs.declared.encryption.EncryptedData.{EncryptedData}
use Rattle.krb_messages.specs.declared.encryption.EncryptionKey.{EncryptionKey}
use Rattle.krb_messages.specs.declared.encryption.Checksum.{Checksum}
use Rattle.krb_messages.specs.declared.ticket.Ticket.{Ticket}
use Rattle.krb_messages.specs.declared.enc_ticket_part.TransitedEncoding.{TransitedEncoding}
use Rattle.krb_messages.specs.declared.enc_ticket_part.EncTicketPart.{EncTicketPart}
use Rattle.krb_messages.specs.declared.ap_req.ApReq.{ApReq}
use Rattle.krb_messages.specs.declared.authenticator.Authenticator.{Authenticator}
use Rattle.krb_messages.specs.declared.ap_rep.ApRep.{ApRep}
use Rattle.krb_messages.specs.declared.ap_rep.EncApRepPart.{EncApRepPart}
use Rattle.krb_messages.specs.Table.{principal_name, host_address, authorization_data_element, encrypted_data, encryption_key, checksum}
use Rattle.krb_messages.specs.Table.{ticket, transited_encoding, enc_ticket_part, ap_req, authenticator, ap_rep, enc_ap_rep_part}

-- PrincipalName
unfoldable pub principal_name_row : PrincipalName → Of principal_name
unfolding principal_name
principal_name_row x = (x.name_type, (x.name_string, tt))

unfoldable pub principal_name_of : Of principal_name → PrincipalName
unfolding principal_name
principal_name_of row = record { name_type = row.0; name_string = row.1.0 }

pub principal_name_back : (x : PrincipalName) → principal_name_of (principal_name_row x) ≡ x
unfolding principal_name principal_name_row principal_name_of
principal_name_back x = refl

pub principal_name_ascends : is_table principal_name ≡ true
unfolding principal_name
principal_name_ascends = refl

abbrev pub principal_name_layout : Layout PrincipalName
principal_name_layout = record {
  kind = principal_name;
  view = principal_name_row;
  of = principal_name_of;
  back = principal_name_back;
  ascends = principal_name_ascends;
}

-- HostAddress
unfoldable pub host_address_row : HostAddress → Of host_address
unfolding host_address
host_address_row x = (x.addr_type, (x.address, tt))

unfoldable pub host_address_of : Of host_address → HostAddress
unfolding host_address
host_address_of row = record { addr_type = row.0; address = row.1.0 }

pub host_address_back : (x : HostAddress) → host_address_of (host_address_row x) ≡ x
unfolding host_address host_address_row host_address_of
host_address_back x = refl

pub host_address_ascends : is_table host_address ≡ true
unfolding host_address
host_address_ascends = refl

abbrev pub host_address_layout : Layout HostAddress
host_address_layout = record { kind = host_address; view = host_address_row; of = host_address_of; back = host_address_back; ascends = host_address_ascends }

-- AuthorizationDataElement
unfoldable pub authorization_data_element_row : AuthorizationDataElement → Of authorization_data_element
unfolding authorization_data_element
authorization_data_element_row x = (x.ad_type, (x.ad_data, tt))

unfoldable pub authorization_data_element_of : Of authorization_data_element → AuthorizationDataElement
unfolding authorization_data_element
authorization_data_element_of row = record { ad_type = row.0; ad_data = row.1.0 }

pub authorization_data_element_back : (x : AuthorizationDataElement) → authorization_data_element_of (authorization_data_element_row x) ≡ x
unfolding authorization_data_element authorization_data_element_row authorization_data_element_of
authorization_data_element_back x = refl

pub authorization_data_element_ascends : is_table authorization_data_element ≡ true
unfolding authorization_data_element
authorization_data_element_ascends = refl

abbrev pub authorization_data_element_layout : Layout AuthorizationDataElement
authorization_data_element_layout = record {
  kind = authorization_data_element;
  view = authorization_data_element_row;
  of = authorization_data_element_of;
  back = authorization_data_element_back;
  ascends = authorization_data_element_ascends;
}

-- EncryptedData
unfoldable pub encrypted_data_row : EncryptedData → Of encrypted_data
unfolding encrypted_data
encrypted_data_row x = (x.etype, (x.kvno, (x.cipher, tt)))

unfoldable pub encrypted_data_of : Of encrypted_data → EncryptedData
unfolding encrypted_data
encrypted_data_of row = record { etype = row.0; kvno = row.1.0; cipher = row.1.1.0 }

pub encrypted_data_back : (x : EncryptedData) → encrypted_data_of (encrypted_data_row x) ≡ x
unfolding encrypted_data encrypted_data_row encrypted_data_of
encrypted_data_back x = refl

pub encrypted_data_ascends : is_table encrypted_data ≡ true
unfolding encrypted_data
encrypted_data_ascends = refl

abbrev pub encrypted_data_layout : Layout EncryptedData
encrypted_data_layout = record {
  kind = encrypted_data;
  view = encrypted_data_row;
  of = encrypted_data_of;
  back = encrypted_data_back;
  ascends = encrypted_data_ascends;
}

-- EncryptionKey
unfoldable pub encryption_key_row : EncryptionKey → Of encryption_key
unfolding encryption_key
encryption_key_row x = (x.key_type, (x.key_value, tt))

unfoldable pub encryption_key_of : Of encryption_key → EncryptionKey
unfolding encryption_key
encryption_key_of row = record { key_type = row.0; key_value = row.1.0 }

pub encryption_key_back : (x : EncryptionKey) → encryption_key_of (encryption_key_row x) ≡ x
unfolding encryption_key encryption_key_row encryption_key_of
encryption_key_back x = refl

pub encryption_key_ascends : is_table encryption_key ≡ true
unfolding encryption_key
encryption_key_ascends = refl

abbrev pub encryption_key_layout : Layout EncryptionKey
encryption_key_layout = record {
  kind = encryption_key;
  view = encryption_key_row;
  of = encryption_key_of;
  back = encryption_key_back;
  ascends = encryption_key_ascends;
}

-- Checksum
unfoldable pub checksum_row : Checksum → Of checksum
unfolding checksum
checksum_row x = (x.cksumtype, (x.checksum, tt))

unfoldable pub checksum_of : Of checksum → Checksum
unfolding checksum
checksum_of row = record { cksumtype = row.0; checksum = row.1.0 }

pub checksum_back : (x : Checksum) → checksum_of (checksum_row x) ≡ x
unfolding checksum checksum_row checksum_of
checksum_back x = refl

pub checksum_ascends : is_table checksum ≡ true
unfolding checksum
checksum_ascends = refl

abbrev pub checksum_layout : Layout Checksum
checksum_layout = record { kind = checksum; view = checksum_row; of = checksum_of; back = checksum_back; ascends = checksum_ascends }

-- Ticket
unfoldable pub ticket_row : Ticket → Of ticket
unfolding ticket
ticket_row x = (x.tkt_vno, (x.realm, (principal_name_row x.sname, (encrypted_data_row x.enc_part, tt))))

unfoldable pub ticket_of : Of ticket → Ticket
unfolding ticket
ticket_of row = record { tkt_vno = row.0; realm = row.1.0; sname = principal_name_of row.1.1.0; enc_part = encrypted_data_of row.1.1.1.0 }

pub ticket_back : (x : Ticket) → ticket_of (ticket_row x) ≡ x
unfolding ticket ticket_row ticket_of
ticket_back x = rw (principal_name_back x.sname, encrypted_data_back x.enc_part) refl

pub ticket_ascends : is_table ticket ≡ true
unfolding ticket principal_name encrypted_data
ticket_ascends = refl

abbrev pub ticket_layout : Layout Ticket
ticket_layout = record { kind = ticket; view = ticket_row; of = ticket_of; back = ticket_back; ascends = ticket_ascends }

-- TransitedEncoding
unfoldable pub transited_encoding_row : TransitedEncoding → Of transited_encoding
unfolding transited_encoding
transited_encoding_row x = (x.tr_type, (x.contents, tt))

unfoldable pub transited_encoding_of : Of transited_encoding → TransitedEncoding
unfolding transited_encoding
transited_encoding_of row = record { tr_type = row.0; contents = row.1.0 }

pub transited_encoding_back : (x : TransitedEncoding) → transited_encoding_of (transited_encoding_row x) ≡ x
unfolding transited_encoding transited_encoding_row transited_encoding_of
transited_encoding_back x = refl

pub transited_encoding_ascends : is_table transited_encoding ≡ true
unfolding transited_encoding
transited_encoding_ascends = refl

abbrev pub transited_encoding_layout : Layout TransitedEncoding
transited_encoding_layout = record {
  kind = transited_encoding;
  view = transited_encoding_row;
  of = transited_encoding_of;
  back = transited_encoding_back;
  ascends = transited_encoding_ascends;
}

-- EncTicketPart
unfoldable pub enc_ticket_part_row : EncTicketPart → Of enc_ticket_part
unfolding enc_ticket_part
enc_ticket_part_row x = (bits_layout.view x.flags, (encryption_key_row x.key, (x.crealm, (principal_name_row x.cname, (transited_encoding_row x.transited, (x.authtime, (x.starttime, (x.endtime, (x.renew_till, (option_map (map host_address_row) x.caddr, (option_map (map authorization_data_element_row) x.authorization_data, tt)))))))))))

unfoldable pub enc_ticket_part_of : Of enc_ticket_part → EncTicketPart
unfolding enc_ticket_part
enc_ticket_part_of row = record {
  flags = bits_layout.of row.0;
  key = encryption_key_of row.1.0;
  crealm = row.1.1.0;
  cname = principal_name_of row.1.1.1.0;
  transited = transited_encoding_of row.1.1.1.1.0;
  authtime = row.1.1.1.1.1.0;
  starttime = row.1.1.1.1.1.1.0;
  endtime = row.1.1.1.1.1.1.1.0;
  renew_till = row.1.1.1.1.1.1.1.1.0;
  caddr = option_map (map host_address_of) row.1.1.1.1.1.1.1.1.1.0;
  authorization_data = option_map (map authorization_data_element_of) row.1.1.1.1.1.1.1.1.1.1.0;
}

pub enc_ticket_part_back : (x : EncTicketPart) → enc_ticket_part_of (enc_ticket_part_row x) ≡ x
unfolding enc_ticket_part enc_ticket_part_row enc_ticket_part_of
enc_ticket_part_back x = rw (
  encryption_key_back x.key,
  principal_name_back x.cname,
  transited_encoding_back x.transited,
  option_back (items_layout host_address_layout) x.caddr,
  option_back (items_layout authorization_data_element_layout) x.authorization_data,
) refl

pub enc_ticket_part_ascends : is_table enc_ticket_part ≡ true
unfolding enc_ticket_part encryption_key principal_name transited_encoding host_address authorization_data_element
enc_ticket_part_ascends = refl

abbrev pub enc_ticket_part_layout : Layout EncTicketPart
enc_ticket_part_layout = record {
  kind = enc_ticket_part;
  view = enc_ticket_part_row;
  of = enc_ticket_part_of;
  back = enc_ticket_part_back;
  ascends = enc_ticket_part_ascends;
}

-- ApReq
unfoldable pub ap_req_row : ApReq → Of ap_req
unfolding ap_req
ap_req_row x = (x.pvno, (x.msg_type, (bits_layout.view x.ap_options, (ticket_row x.ticket, (encrypted_data_row x.authenticator, tt)))))

unfoldable pub ap_req_of : Of ap_req → ApReq
unfolding ap_req
ap_req_of row = record {
  pvno = row.0;
  msg_type = row.1.0;
  ap_options = bits_layout.of row.1.1.0;
  ticket = ticket_of row.1.1.1.0;
  authenticator = encrypted_data_of row.1.1.1.1.0;
}

pub ap_req_back : (x : ApReq) → ap_req_of (ap_req_row x) ≡ x
unfolding ap_req ap_req_row ap_req_of
ap_req_back x = rw (ticket_back x.ticket, encrypted_data_back x.authenticator) refl

pub ap_req_ascends : is_table ap_req ≡ true
unfolding ap_req ticket principal_name encrypted_data
ap_req_ascends = refl

abbrev pub ap_req_layout : Layout ApReq
ap_req_layout = record { kind = ap_req; view = ap_req_row; of = ap_req_of; back = ap_req_back; ascends = ap_req_ascends }

-- Authenticator
unfoldable pub authenticator_row : Authenticator → Of authenticator
unfolding authenticator
authenticator_row x = (x.authenticator_vno, (x.crealm, (principal_name_row x.cname, (option_map checksum_row x.cksum, (x.cusec, (x.ctime, (option_map encryption_key_row x.subkey, (x.seq_number, (option_map (map authorization_data_element_row) x.authorization_data, tt)))))))))

unfoldable pub authenticator_of : Of authenticator → Authenticator
unfolding authenticator
authenticator_of row = record {
  authenticator_vno = row.0;
  crealm = row.1.0;
  cname = principal_name_of row.1.1.0;
  cksum = option_map checksum_of row.1.1.1.0;
  cusec = row.1.1.1.1.0;
  ctime = row.1.1.1.1.1.0;
  subkey = option_map encryption_key_of row.1.1.1.1.1.1.0;
  seq_number = row.1.1.1.1.1.1.1.0;
  authorization_data = option_map (map authorization_data_element_of) row.1.1.1.1.1.1.1.1.0;
}

pub authenticator_back : (x : Authenticator) → authenticator_of (authenticator_row x) ≡ x
unfolding authenticator authenticator_row authenticator_of
authenticator_back x = rw (
  principal_name_back x.cname,
  option_back checksum_layout x.cksum,
  option_back encryption_key_layout x.subkey,
  option_back (items_layout authorization_data_element_layout) x.authorization_data,
) refl

pub authenticator_ascends : is_table authenticator ≡ true
unfolding authenticator principal_name checksum encryption_key authorization_data_element
authenticator_ascends = refl

abbrev pub authenticator_layout : Layout Authenticator
authenticator_layout = record {
  kind = authenticator;
  view = authenticator_row;
  of = authenticator_of;
  back = authenticator_back;
  ascends = authenticator_ascends;
}

-- ApRep
unfoldable pub ap_rep_row : ApRep → Of ap_rep
unfolding ap_rep
ap_rep_row x = (x.pvno, (x.msg_type, (encrypted_data_row x.enc_part, tt)))

unfoldable pub ap_rep_of : Of ap_rep → ApRep
unfolding ap_rep
ap_rep_of row = record { pvno = row.0; msg_type = row.1.0; enc_part = encrypted_data_of row.1.1.0 }

pub ap_rep_back : (x : ApRep) → ap_rep_of (ap_rep_row x) ≡ x
unfolding ap_rep ap_rep_row ap_rep_of
ap_rep_back x = rw (encrypted_data_back x.enc_part) refl

pub ap_rep_ascends : is_table ap_rep ≡ true
unfolding ap_rep encrypted_data
ap_rep_ascends = refl

abbrev pub ap_rep_layout : Layout ApRep
ap_rep_layout = record { kind = ap_rep; view = ap_rep_row; of = ap_rep_of; back = ap_rep_back; ascends = ap_rep_ascends }

-- EncApRepPart
unfoldable pub enc_ap_rep_part_row : EncApRepPart → Of enc_ap_rep_part
unfolding enc_ap_rep_part
enc_ap_rep_part_row x = (x.ctime, (x.cusec, (option_map encryption_key_row x.subkey, (x.seq_number, tt))))

unfoldable pub enc_ap_rep_part_of : Of enc_ap_rep_part → EncApRepPart
unfolding enc_ap_rep_part
enc_ap_rep_part_of row = record { ctime = row.0; cusec = row.1.0; subkey = option_map encryption_key_of row.1.1.0; seq_number = row.1.1.1.0 }

pub enc_ap_rep_part_back : (x : EncApRepPart) → enc_ap_rep_part_of (enc_ap_rep_part_row x) ≡ x
unfolding enc_ap_rep_part enc_ap_rep_part_row enc_ap_rep_part_of
enc_ap_rep_part_back x = rw (option_back encryption_key_layout x.subkey) refl

pub enc_ap_rep_part_ascends : is_table enc_ap_rep_part ≡ true
unfolding enc_ap_rep_part encryption_key
enc_ap_rep_part_ascends = refl

abbrev pub enc_ap_rep_part_layout : Layout EncApRepPart
enc_ap_rep_part_layout = record {
  kind = enc_ap_rep_part;
  view = enc_ap_rep_part_row;
  of = enc_ap_rep_part_of;
  back = enc_ap_rep_part_back;
  ascends = enc_ap_rep_part_ascends;
}
