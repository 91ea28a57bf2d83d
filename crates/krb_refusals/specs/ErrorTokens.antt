-- The token with the reason of a refusal, for the client: a KRB-ERROR (RFC 4120, section 5.9.1) as a token of the mechanism
-- (RFC 4121, section 4.1).
use Rattle.std.specs.Prelude.{ℕ, ◌%◌, nat_le, List, [], ◌∷◌, length, None, Result}
use Rattle.krb_der.specs.Layout.{spelling}
use Rattle.krb_exchange.specs.Layouts.{krb_error_layout}
use Rattle.krb_exchange.specs.declared.krb_error.KrbError.{KrbError}
use Rattle.krb_messages.specs.Frame.{framed}
use Rattle.krb_messages.specs.Oid.{krb5_oid}
use Rattle.krb_messages.specs.declared.principal_name.PrincipalName.{PrincipalName}
use Rattle.krb_requests.specs.Bodies.{user_components}
use Rattle.krb_requests.specs.Pieces.{name_of, principal_of, whole_second}
use Rattle.sspi_core.specs.declared.cause.Cause.{Cause}
use Rattle.sspi_core.specs.declared.cause.Cause.TheVariants.{Moment, Room, NotAscii, Expired, NotYet, Replayed, Skew}
use Rattle.sspi_core.specs.Checks.{Holds, Takes, Gives, ◌>>=◌, ◌>>◌}
use Rattle.sspi_core.specs.Moments.{last_moment}
use Rattle.krb_refusals.specs.Integers.{shortest}

-- the token id before a KRB-ERROR (RFC 4121, section 4.1)
abbrev pub krb_error_id : List ℕ
krb_error_id = 0x03 ∷ 0x00 ∷ []

-- KRB_AP_ERR_TKT_EXPIRED, KRB_AP_ERR_TKT_NYV, KRB_AP_ERR_REPEAT, KRB_AP_ERR_SKEW, and KRB_ERR_GENERIC for every other cause
-- (RFC 4120, section 7.5.9)
abbrev pub error_code : Cause → ℕ
error_code Expired = 32
error_code NotYet = 33
error_code Replayed = 34
error_code Skew = 37
error_code _ = 60

-- version 5, type 30, the moment in seconds and microseconds, the code, and the service with its realm; the client, its time, and the
-- text and data are left out
abbrev pub krb_error : ℕ → PrincipalName → List ℕ → ℕ → KrbError
krb_error code sname realm moment = record {
  pvno = 5 ∷ [];
  msg_type = 30 ∷ [];
  ctime = None;
  cusec = None;
  stime = whole_second moment;
  susec = shortest (moment % 1000000);
  error_code = code ∷ [];
  crealm = None;
  cname = None;
  realm = realm;
  sname = sname;
  e_text = None;
  e_data = None;
}

-- the octets of the KRB-ERROR
unfoldable pub message : ℕ → PrincipalName → List ℕ → ℕ → List ℕ
message code sname realm moment = spelling krb_error_layout (krb_error code sname realm moment)

-- the KRB-ERROR after the object identifier of the Kerberos mechanism and the token id
abbrev pub token : ℕ → PrincipalName → List ℕ → ℕ → List ℕ
token code sname realm moment = framed krb5_oid krb_error_id (message code sname realm moment)

-- the token of this cause from the service of this name, whose components are separated by `/`, a name of type 2 (RFC 4120,
-- section 6.2)
unfoldable pub NamesService : Cause → List ℕ → List ℕ → ℕ → Result (List ℕ) Cause → Type 0
NamesService cause service realm moment = do
  name ← Takes NotAscii (name_of realm)
  sname ← Takes NotAscii (principal_of 2 (user_components service))
  Gives (token (error_code cause) sname name moment)

-- the token at a moment that an event may have, with texts of at most 65,536 octets
unfoldable pub TellsRefusal : Cause → List ℕ → List ℕ → ℕ → Result (List ℕ) Cause → Type 0
TellsRefusal cause service realm moment = do
  Holds Moment (nat_le moment last_moment)
  Holds Room (nat_le (length realm) 65536)
  Holds Room (nat_le (length service) 65536)
  NamesService cause service realm moment
