-- The body of a client's first request to a KDC (RFC 4120, sections 5.4.1 and 7.3; RFC 3244, section 2).
use Rattle.std.specs.Prelude.{ℕ, List, [], ◌∷◌, codes, take, Some, None}
use Rattle.sspi_core.specs.declared.draw.Draw.{Draw}
use Rattle.krb_exchange.specs.declared.kdc_req.KdcReqBody.{KdcReqBody}
use Rattle.krb_requests.specs.Pieces.{principal, three_days_after, etypes}
use Rattle.krb_requests.specs.Bodies.{as_req_options, user_components}
use Rattle.krb_as.specs.declared.client.Client.{Client}
use Rattle.krb_as.specs.declared.body.FirstService.{FirstService}
use Rattle.krb_as.specs.declared.body.FirstService.TheVariants.{TicketGranting, PasswordChange}

-- the components of the service's name
abbrev pub service_components : FirstService → List ℕ → List (List ℕ)
service_components TicketGranting realm = codes "krbtgt" ∷ realm ∷ []
service_components PasswordChange realm = codes "kadmin" ∷ codes "changepw" ∷ []

-- a ticket for this client to the service, for three days, renewable as long, with the name of its machine as the address; the first four
-- random octets are the nonce
unfoldable pub first_body : Client → FirstService → ℕ → Draw → KdcReqBody
first_body client service flags draw = record {
  kdc_options = record { unused = 0; octets = as_req_options flags };
  cname = Some (principal client.name_type (user_components client.name));
  realm = client.realm;
  sname = Some (principal 2 (service_components service client.realm));
  from = None;
  till = three_days_after draw.moment;
  rtime = Some (three_days_after draw.moment);
  nonce = take 4 draw.random;
  etype = etypes;
  addresses = Some (record { addr_type = 0x14 ∷ []; address = client.host } ∷ []);
  enc_authorization_data = None;
  additional_tickets = None;
}
