-- The records of RFC 4120 5.2 to 5.5, each with its fields in the order of their tags, to be read next to the standard's
-- modules: `required n kind` is a field [n], `optional n kind` one that is OPTIONAL, `integer` an INTEGER of any length
-- (Int32, UInt32, Microseconds), `text` a GeneralString of ASCII octets (KerberosString, Realm), `time` a
-- GeneralizedTime (KerberosTime), `bits` a BIT STRING (KerberosFlags), `application n` a tag [APPLICATION n].
use Rattle.krb_der.specs.Schema.{Kind, integer, text, octet_string, bits, time, sequence_of, sequence, application, nothing, required, optional, ◌▸◌}

-- RFC 4120 5.2.2, PrincipalName
unfoldable pub principal_name : Kind
principal_name = sequence (
    required 0 integer ▸  -- name-type
    required 1 (sequence_of text) ▸  -- name-string
    nothing)

-- RFC 4120 5.2.5, HostAddress (HostAddresses are a SEQUENCE OF it)
unfoldable pub host_address : Kind
host_address = sequence (
    required 0 integer ▸  -- addr-type
    required 1 octet_string ▸  -- address
    nothing)

-- RFC 4120 5.2.6, an element of AuthorizationData (which is a SEQUENCE OF it)
unfoldable pub authorization_data_element : Kind
authorization_data_element = sequence (
    required 0 integer ▸  -- ad-type
    required 1 octet_string ▸  -- ad-data
    nothing)

-- RFC 4120 5.2.9, EncryptedData
unfoldable pub encrypted_data : Kind
encrypted_data = sequence (
    required 0 integer ▸  -- etype
    optional 1 integer ▸  -- kvno
    required 2 octet_string ▸  -- cipher
    nothing)

-- RFC 4120 5.2.9, EncryptionKey
unfoldable pub encryption_key : Kind
encryption_key = sequence (
    required 0 integer ▸  -- keytype
    required 1 octet_string ▸  -- keyvalue
    nothing)

-- RFC 4120 5.2.9, Checksum
unfoldable pub checksum : Kind
checksum = sequence (
    required 0 integer ▸  -- cksumtype
    required 1 octet_string ▸  -- checksum
    nothing)

-- RFC 4120 5.3, Ticket
unfoldable pub ticket : Kind
ticket = application 1 (sequence (
    required 0 integer ▸  -- tkt-vno
    required 1 text ▸  -- realm
    required 2 principal_name ▸  -- sname
    required 3 encrypted_data ▸  -- enc-part
    nothing))

-- RFC 4120 5.3, TransitedEncoding
unfoldable pub transited_encoding : Kind
transited_encoding = sequence (
    required 0 integer ▸  -- tr-type
    required 1 octet_string ▸  -- contents
    nothing)

-- RFC 4120 5.3, EncTicketPart
unfoldable pub enc_ticket_part : Kind
enc_ticket_part = application 3 (sequence (
    required 0 bits ▸  -- flags
    required 1 encryption_key ▸  -- key
    required 2 text ▸  -- crealm
    required 3 principal_name ▸  -- cname
    required 4 transited_encoding ▸  -- transited
    required 5 time ▸  -- authtime
    optional 6 time ▸  -- starttime
    required 7 time ▸  -- endtime
    optional 8 time ▸  -- renew-till
    optional 9 (sequence_of host_address) ▸  -- caddr
    optional 10 (sequence_of authorization_data_element) ▸  -- authorization-data
    nothing))

-- RFC 4120 5.5.1, AP-REQ
unfoldable pub ap_req : Kind
ap_req = application 14 (sequence (
    required 0 integer ▸  -- pvno
    required 1 integer ▸  -- msg-type
    required 2 bits ▸  -- ap-options
    required 3 ticket ▸  -- ticket
    required 4 encrypted_data ▸  -- authenticator
    nothing))

-- RFC 4120 5.5.1, Authenticator
unfoldable pub authenticator : Kind
authenticator = application 2 (sequence (
    required 0 integer ▸  -- authenticator-vno
    required 1 text ▸  -- crealm
    required 2 principal_name ▸  -- cname
    optional 3 checksum ▸  -- cksum
    required 4 integer ▸  -- cusec
    required 5 time ▸  -- ctime
    optional 6 encryption_key ▸  -- subkey
    optional 7 integer ▸  -- seq-number
    optional 8 (sequence_of authorization_data_element) ▸  -- authorization-data
    nothing))

-- RFC 4120 5.5.2, AP-REP
unfoldable pub ap_rep : Kind
ap_rep = application 15 (sequence (
    required 0 integer ▸  -- pvno
    required 1 integer ▸  -- msg-type
    required 2 encrypted_data ▸  -- enc-part
    nothing))

-- RFC 4120 5.5.2, EncAPRepPart
unfoldable pub enc_ap_rep_part : Kind
enc_ap_rep_part = application 27 (sequence (
    required 0 time ▸  -- ctime
    required 1 integer ▸  -- cusec
    optional 2 encryption_key ▸  -- subkey
    optional 3 integer ▸  -- seq-number
    nothing))
