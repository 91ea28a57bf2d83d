-- AS-REQs, their bodies, and TGT-REQs (RFC 4120, section 5.4.1).
use Rattle.std.specs.Prelude.{ℕ, ◌==◌, ◌+◌, ◌≤◌, ◌^◌, List, [], ◌∷◌, length, map, Some, None, Result, if◌then◌else◌}
use Rattle.std.specs.List.{slice_split, flat_map}
use Rattle.krb_der.specs.Der.{tlv}
use Rattle.krb_messages.specs.declared.principal_name.PrincipalName.{PrincipalName}
use Rattle.krb_exchange.specs.declared.kdc_req.KdcReqBody.{KdcReqBody}
use Rattle.krb_exchange.specs.declared.kdc_req.AsReq.{AsReq}
use Rattle.krb_exchange.specs.declared.pa_data.PaData.{PaData}
use Rattle.krb_exchange.specs.declared.user_to_user.TgtReq.{TgtReq}
use Rattle.sspi_core.specs.declared.cause.Cause.{Cause}
use Rattle.sspi_core.specs.declared.cause.Cause.TheVariants.{NotAscii}
use Rattle.sspi_core.specs.Flags.{has_flag, delegate}
use Rattle.sspi_core.specs.Checks.{Takes, Gives, ◌>>=◌}
use Rattle.krb_requests.specs.declared.options.GenerateAsReqOptions.{GenerateAsReqOptions}
use Rattle.krb_requests.specs.Pieces.{name_of, principal_of, three_days_after, etypes}

-- RENEWABLE, CANONICALIZE and RENEWABLE-OK (bits 8, 15 and 27 of 32), and FORWARDABLE (bit 1) where the client delegates
abbrev pub as_req_options : ℕ → List ℕ
as_req_options flags = (if has_flag flags delegate then 0x40 else 0x00) ∷ 0x81 ∷ 0x00 ∷ 0x10 ∷ []

-- the components of a user's name, cut at each slash
abbrev pub user_components : List ℕ → List (List ℕ)
user_components username = slice_split (λ octet. octet == 0x2f) username

-- a ticket for this client, for three days, under the stronger type if possible, with the name of its machine as the address
unfoldable pub as_req_body : GenerateAsReqOptions → ℕ → List ℕ → PrincipalName → PrincipalName → List ℕ → KdcReqBody
as_req_body options moment realm cname sname host = record {
  kdc_options = record { unused = 0; octets = as_req_options options.context_requirements.0 };
  cname = Some cname;
  realm = realm;
  sname = Some sname;
  from = None;
  till = three_days_after moment;
  rtime = Some (three_days_after moment);
  nonce = options.nonce;
  etype = etypes;
  addresses = Some (record { addr_type = 0x14 ∷ []; address = host } ∷ []);
  enc_authorization_data = None;
  additional_tickets = None;
}

-- the body of these options; each name in it is ASCII
unfoldable pub MakesBody : GenerateAsReqOptions → ℕ → Result KdcReqBody Cause → Type 0
MakesBody options moment = do
  realm ← Takes NotAscii (name_of options.realm.now)
  cname ← Takes NotAscii (principal_of options.cname_type (user_components options.username.now))
  sname ← Takes NotAscii (principal_of 2 (map (λ part. part.now) options.snames.now))
  host ← Takes NotAscii (name_of options.hostname.now)
  Gives (as_req_body options moment realm cname sname host)

-- an AS-REQ
abbrev pub as_req_with : List PaData → KdcReqBody → AsReq
as_req_with pa_datas body = record { 0 = record { pvno = 5 ∷ []; msg_type = 10 ∷ []; padata = Some pa_datas; req_body = body } }

-- a TGT-REQ to a service (draft-swift-win2k-krb-user2user, section 3)
abbrev pub tgt_req : PrincipalName → TgtReq
tgt_req server_name = record { pvno = 5 ∷ []; msg_type = 16 ∷ []; server_name = server_name }

unfoldable pub MakesTgtReq : List (List ℕ) → Result TgtReq Cause → Type 0
MakesTgtReq sname = do
  server_name ← Takes NotAscii (principal_of 2 sname)
  Gives (tgt_req server_name)

-- the octets of the components of a name
abbrev pub component_octets : List (List ℕ) → List ℕ
component_octets components = flat_map (λ component. tlv 0x1b component) components

-- options whose texts have at most 2^24 octets each; the components of the service's name have a few octets more together, so that
-- one of them can be a realm of 2^24 octets
pub record AreShort (options : GenerateAsReqOptions) : Type 0 where
  pub realm : length options.realm.now ≤ 2 ^ 24
  pub username : length options.username.now ≤ 2 ^ 24
  pub snames : length (component_octets (map (λ part. part.now) options.snames.now)) ≤ 2 ^ 24 + 2 ^ 6
  pub hostname : length options.hostname.now ≤ 2 ^ 24
