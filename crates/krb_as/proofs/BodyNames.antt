-- The body of a first AS-REQ.
use Rattle.std.proofs.Common.{◌≡◌, ℕ, ◌+◌, ◌≤◌, ◌^◌, List, [], ◌∷◌, length, map, Ok, refl, ap, ◌∙◌, arith, lit≤}
use Rattle.std.specs.Prelude.{codes, take}
use Rattle.sspi_core.specs.declared.draw.Draw.{Draw}
use Rattle.krb_der.specs.Der.{tlv}
use Rattle.krb_der.proofs.Lengths.{tlv_le, append_le}
use Rattle.sspi_core.proofs.Chain.{passed, gave}
use Rattle.sspi_core.specs.Checks.{Answers}
use Rattle.krb_messages.specs.declared.principal_name.PrincipalName.{PrincipalName}
use Rattle.krb_exchange.specs.declared.kdc_req.KdcReqBody.{KdcReqBody}
use Rattle.krb_requests.specs.Pieces.{principal}
use Rattle.krb_requests.specs.declared.options.GenerateAsReqOptions.{GenerateAsReqOptions}
use Rattle.krb_requests.specs.Bodies.{as_req_body, user_components, component_octets, AreShort, MakesBody}
use Rattle.krb_requests.proofs.Lengths.{name_is, principal_is}
use Rattle.krb_as.specs.declared.client.Client.{Client}
use Rattle.krb_as.specs.declared.body.FirstService.{FirstService}
use Rattle.krb_as.specs.declared.body.FirstService.TheVariants.{TicketGranting, PasswordChange}
use Rattle.krb_as.specs.Clients.{IsShort}
use Rattle.krb_as.specs.FirstBodies.{service_components, first_body}

-- the components of the service's name can be sent
pub service_short : (service : FirstService) (realm : List ℕ) → length realm ≤ 2 ^ 24 → length (component_octets (service_components service realm)) ≤ 2 ^ 24 + 2 ^ 6
service_short TicketGranting realm short =
    let first : length (tlv 0x1b (codes "krbtgt")) ≤ 12 = tlv_le 0x1b (codes "krbtgt") 6 (lit≤ tt) in
    let second : length (tlv 0x1b realm) ≤ length realm + 6 = tlv_le 0x1b realm (length realm) (omega arith) in
    let both : length (component_octets (codes "krbtgt" ∷ realm ∷ [])) ≤ 12 + (length realm + 6 + 0) =
    append_le (tlv 0x1b (codes "krbtgt")) (component_octets (realm ∷ [])) 12 (length realm + 6 + 0) first (append_le (tlv 0x1b realm) [] (length realm + 6) 0 second (lit≤ tt)) in
    omega (arith, both, short)
service_short PasswordChange realm short =
    let first : length (tlv 0x1b (codes "kadmin")) ≤ 12 = tlv_le 0x1b (codes "kadmin") 6 (lit≤ tt) in
    let second : length (tlv 0x1b (codes "changepw")) ≤ 14 = tlv_le 0x1b (codes "changepw") 8 (lit≤ tt) in
    let both : length (component_octets (codes "kadmin" ∷ codes "changepw" ∷ [])) ≤ 12 + (14 + 0) =
    append_le (tlv 0x1b (codes "kadmin")) (component_octets (codes "changepw" ∷ [])) 12 (14 + 0) first (append_le (tlv 0x1b (codes "changepw")) [] 14 0 second (lit≤ tt)) in
    omega (arith, both)

same_body : (options : GenerateAsReqOptions) (moment : ℕ) (r s : List ℕ) (c d n m : PrincipalName) (h k : List ℕ) → r ≡ s → c ≡ d → n ≡ m → h ≡ k
    → as_req_body options moment r c n h ≡ as_req_body options moment s d m k
same_body options moment r s c d n m h k er ec en eh = rw (er, ec, en, eh) refl

-- a body that was made is that of the names that were asked for
body_made : (options : GenerateAsReqOptions) (moment : ℕ) (body : KdcReqBody) → Answers (MakesBody options moment) (Ok body)
    → body ≡ as_req_body options moment options.realm.now (principal options.cname_type (user_components options.username.now)) (principal 2 (map (λ part. part.now) options.snames.now)) options.hostname.now
unfolding MakesBody
body_made options moment body h =
    let realm = passed _ _ _ (h.so (λ z. absurd cc)) in
    let cname = passed _ _ _ realm.rest_held in
    let sname = passed _ _ _ cname.rest_held in
    let host = passed _ _ _ sname.rest_held in
    let er = name_is options.realm.now realm.found (record { so = λ ne. realm.first_held }) in
    let ec = principal_is options.cname_type (user_components options.username.now) cname.found (record { so = λ ne. cname.first_held }) in
    let es = principal_is 2 (map (λ part. part.now) options.snames.now) sname.found (record { so = λ ne. sname.first_held }) in
    let eh = name_is options.hostname.now host.found (record { so = λ ne. host.first_held }) in
    gave (as_req_body options moment realm.found cname.found sname.found host.found) body host.rest_held ∙ same_body options moment _ _ _ _ _ _ _ _ er ec es eh

-- options that are a client's
pub record AreOf (client : Client) (service : FirstService) (draw : Draw) (options : GenerateAsReqOptions) : Type 0 where
  pub realm : options.realm.now ≡ client.realm
  pub username : options.username.now ≡ client.name
  pub cname_type : options.cname_type ≡ client.name_type
  pub snames : map (λ part. part.now) options.snames.now ≡ service_components service client.realm
  pub hostname : options.hostname.now ≡ client.host
  pub nonce : options.nonce ≡ take 4 draw.random

first_of : (options : GenerateAsReqOptions) (client : Client) (service : FirstService) (draw : Draw) → AreOf client service draw options
    → as_req_body options draw.moment options.realm.now (principal options.cname_type (user_components options.username.now)) (principal 2 (map (λ part. part.now) options.snames.now)) options.hostname.now
    ≡ first_body client service options.context_requirements.0 draw
unfolding as_req_body first_body
first_of options client service draw are = rw (are.realm, are.username, are.cname_type, are.snames, are.hostname, are.nonce) refl

pub is_first_body : (options : GenerateAsReqOptions) (client : Client) (service : FirstService) (draw : Draw) (body : KdcReqBody) → AreOf client service draw options → Answers (MakesBody options draw.moment) (Ok body)
    → body ≡ first_body client service options.context_requirements.0 draw
is_first_body options client service draw body are h = body_made options draw.moment body h ∙ first_of options client service draw are

-- so they are short
pub are_short : (options : GenerateAsReqOptions) (client : Client) (service : FirstService) (draw : Draw) → AreOf client service draw options → IsShort client → AreShort options
are_short options client service draw are short = record {
  realm = omega (arith, short.realm, ap (λ (o : List ℕ). length o) are.realm);
  username = omega (arith, short.name, ap (λ (o : List ℕ). length o) are.username);
  snames = omega (arith, service_short service client.realm short.realm, ap (λ (o : List (List ℕ)). length (component_octets o)) are.snames);
  hostname = omega (arith, short.host, ap (λ (o : List ℕ). length o) are.hostname);
}
