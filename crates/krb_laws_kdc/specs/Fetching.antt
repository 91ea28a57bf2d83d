-- A client and the KDCs that lead it to a service: what each is asked, with which draws, and what it gives.
use Rattle.std.specs.Prelude.{◌≡◌, ℕ, ◌+◌, ◌*◌, ◌≤◌, ◌^◌, false, true, List, [], ◌∷◌, length, take, Option, Some, None, Result, Ok, unwrap_or}
use Rattle.std.specs.List.{AllByRecursion}
use Rattle.krb_der.specs.Layout.{spelling}
use Rattle.url.specs.Parts.{Parts, serialize}
use Rattle.krb_crypto.specs.declared.suite.CipherSuite.{CipherSuite}
use Rattle.krb_conf.specs.Names.{target_parts}
use Rattle.krb_messages.specs.declared.enc_ticket_part.EncTicketPart.{EncTicketPart}
use Rattle.krb_messages.specs.declared.principal_name.PrincipalName.{PrincipalName}
use Rattle.krb_exchange.specs.declared.kdc_rep.KdcRep.{KdcRep}
use Rattle.krb_exchange.specs.declared.kdc_rep.AsRep.{AsRep}
use Rattle.krb_exchange.specs.declared.kdc_rep.TgsRep.{TgsRep}
use Rattle.krb_exchange.specs.declared.kdc_req.KdcReqBody.{KdcReqBody}
use Rattle.krb_exchange.specs.Layouts.{as_req_layout, as_rep_layout, tgs_req_layout, tgs_rep_layout}
use Rattle.krb_context.specs.declared.context.Kerberos.{Kerberos}
use Rattle.krb_context.specs.Rules.{has_rule, fresh_replies}
use Rattle.sspi_core.specs.declared.draw.Draw.{Draw}
use Rattle.sspi_core.specs.declared.error.Error.{Error}
use Rattle.sspi_core.specs.declared.protocol.NetworkProtocol.TheVariants.{Tcp}
use Rattle.sspi_core.specs.Flags.{has_flag, use_session_key}
use Rattle.sspi_core.specs.Usernames.{UserName}
use Rattle.sspi_generator.specs.declared.network.NetFault.{NetFault}
use Rattle.sspi_generator.specs.declared.network.NetworkRequest.{NetworkRequest}
use Rattle.krb_as.specs.declared.kdc.Kdc.{Kdc as Address}
use Rattle.krb_as.specs.Kdcs.{FindsKdc}
use Rattle.krb_replies.specs.Fresh.{grace}
use Rattle.krb_replies.specs.Keys.{facts_in}
use Rattle.krb_replies.specs.Realms.{referral_realm}
use Rattle.krb_requests.specs.Bodies.{user_components, as_req_with}
use Rattle.krb_requests.specs.PaDatas.{plain_pa_datas, timed_pa_datas}
use Rattle.krb_requests.specs.Pieces.{principal as name_with}
use Rattle.krb_as.specs.declared.asker.Asker.{Asker}
use Rattle.krb_as.specs.declared.done.InitDone.{InitDone}
use Rattle.krb_as.specs.Askers.{asker_suite, default_salt, sized_key}
use Rattle.krb_as.specs.declared.key.Grant.{Grant as Shown}
use Rattle.krb_tgs.specs.declared.wanted.Wanted.{Wanted}
use Rattle.krb_tgs.specs.TgsAsked.{url_for, is_same_realm, service_of, parts_of, drawn_nonce, wanted_body, tgs_req_for}
use Rattle.krb_initiator.specs.declared.seeker.Seeker.{Seeker}
use Rattle.krb_initiator.specs.InitSteps.{body_of}
use Rattle.krb_admission.specs.Allowed.{is_invalid, is_direct}
use Rattle.krb_admission.specs.Clients.{client_of}
use Rattle.krb_laws_ends.specs.Answers.{IsDraw}
use Rattle.krb_laws_ends.specs.Fetches.{AsksMutual, EndsWithOffer}
use Rattle.krb_laws_ends.specs.HonestKdc.{Answers, AreHonestKdcs}
use Rattle.krb_kdc.specs.declared.grant.Grant.{Grant}
use Rattle.krb_kdc.specs.declared.kdc.Kdc.{Kdc}
use Rattle.krb_kdc.specs.declared.kdc.Principal.{Principal}
use Rattle.krb_kdc.specs.declared.kdc.Route.{Route}
use Rattle.krb_kdc.specs.declared.kdc.Trust.{Trust}
use Rattle.krb_kdc.specs.declared.tgs_req.Target.{Target}
use Rattle.krb_kdc.specs.Answering.{first_grant, next_grant}
use Rattle.krb_context.specs.Drawn.{drawn_key}
use Rattle.krb_kdc.specs.Grants.{ticket_part, reply_part, as_rep, tgs_rep}
use Rattle.krb_kdc.specs.Nets.{Net, kdc_at, Sends}
use Rattle.krb_kdc.specs.Refusals.{hint, refusal}
use Rattle.krb_kdc.specs.Registers.{principal_with, trust_in, route_to}
use Rattle.krb_kdc.specs.TgsChecks.{referral_to}
use Rattle.krb_laws_kdc.specs.Asking.{IsFairSkew, client_with}

-- ---- draws

-- a draw of either end, of a moment no earlier than the start, and at most `span` seconds less one later; moments are in microseconds
pub record IsTimely (start span : ℕ) (draw : Draw) : Type 0 where
  pub is : IsDraw draw
  pub from : start ≤ draw.moment
  pub upto : draw.moment + 1000000 ≤ start + span * 1000000

abbrev pub AreTimely : ℕ → ℕ → List Draw → Type 0
AreTimely start span draws = AllByRecursion (IsTimely start span) draws

-- ---- a ticket, and what is asked with it

-- a ticket that a client has: the reply that brought it, and what was granted there, of which realm, by which draw and for which nonce
pub record Held : Type 0 where
  pub realm : List ℕ
  pub draw : Draw
  pub nonce : List ℕ
  pub grant : Grant
  pub rep : KdcRep

abbrev pub shown_of : CipherSuite → Held → Shown
shown_of suite held = record {
  suite = suite;
  key = drawn_key suite held.draw;
  facts = facts_in (reply_part suite held.realm held.draw held.nonce held.grant);
  rep = held.rep;
}

-- the body that asks a realm for the service
abbrev pub body_at : Wanted → List ℕ → Draw → KdcReqBody
body_at wanted realm draw =
    wanted_body wanted realm None draw (parts_of (target_parts wanted.target)).0 (parts_of (target_parts wanted.target)).1

-- what a KDC gives then, by its own draw, and the ticket that the client has afterwards
abbrev pub granted : CipherSuite → Wanted → Kdc → Held → Target → Draw → Draw → Grant
granted suite wanted kdc held target own draw =
    next_grant draw.moment (body_at wanted kdc.realm own) (ticket_part suite held.draw held.grant) target

abbrev pub given : CipherSuite → Wanted → Kdc → Held → Target → Draw → Draw → TgsRep
given suite wanted kdc held target own draw =
    tgs_rep suite kdc.realm draw (body_at wanted kdc.realm own).nonce (drawn_key suite held.draw) (granted suite wanted kdc held target own draw)

abbrev pub held_next : CipherSuite → Wanted → Kdc → Held → Target → Draw → Draw → Held
held_next suite wanted kdc held target own draw = record {
  realm = kdc.realm;
  draw = draw;
  nonce = drawn_nonce own;
  grant = granted suite wanted kdc held target own draw;
  rep = (given suite wanted kdc held target own draw).0;
}

-- both have at most the octets that either end takes
pub record AreNextSizes (suite : CipherSuite) (wanted : Wanted) (kdc : Kdc) (held : Held) (target : Target) (own draw : Draw) : Type 0 where
  pub request : length (spelling tgs_req_layout (tgs_req_for wanted (shown_of suite held) kdc.realm None own)) + 4 ≤ 2 ^ 24
  pub reply : length (spelling tgs_rep_layout (given suite wanted kdc held target own draw)) ≤ 2 ^ 23

-- ---- KDCs

-- a KDC of a realm: the client finds it at a URL of tcp, and the network has it there
pub record StandsAt (asker : Asker) (own : Option Parts) (suite : CipherSuite) (span : ℕ) (pairs : List (List ℕ × Kdc)) (realm : List ℕ) (kdc : Kdc) : Type 0 where
  pub address : Address
  pub found : FindsKdc own asker.env realm (Ok address)
  pub tcp : address.protocol ≡ Tcp
  pub text : List ℕ
  pub there : kdc_at (serialize address.url) pairs ≡ Some (text, kdc)
  pub realm_is : kdc.realm ≡ realm
  pub suite_is : kdc.suite ≡ suite
  pub fair : IsFairSkew kdc.skew
  pub least : span ≤ kdc.skew

-- a KDC refers to the next: it has no principal of the service, and a route to another realm, with which it has one key at both ends
pub record RefersTo (service : List (List ℕ)) (kdc next : Kdc) : Type 0 where
  pub none : principal_with service kdc.principals ≡ None
  pub route : Route
  pub routed : route_to service kdc.routes ≡ Some route
  pub to : route.realm ≡ next.realm
  pub other : is_same_realm kdc.realm next.realm ≡ false
  pub trust : Trust
  pub trusts : trust_in route.realm kdc.trusts ≡ Some trust
  pub back : Trust
  pub trusted : trust_in kdc.realm next.trusts ≡ Some back
  pub same_key : trust.key ≡ back.key

-- a KDC has the service, with this key
pub record HasService (service : List (List ℕ)) (service_key : List ℕ) (kdc : Kdc) : Type 0 where
  pub principal : Principal
  pub known : principal_with service kdc.principals ≡ Some principal
  pub key_is : principal.key ≡ service_key

-- what each gives a ticket for
abbrev pub target_at : {service : List (List ℕ)} {kdc next : Kdc} → RefersTo service kdc next → Target
target_at refers = referral_to refers.route.realm refers.trust

abbrev pub service_target : List (List ℕ) → List ℕ → Target
service_target service service_key = record { name = name_with 2 service; key = service_key }

-- the KDCs lead to one that has the service, from the one that is asked with this draw of the client's; after it are those of the
-- client's steps and of the KDCs' answers
abbrev pub LeadsTo : Asker → Wanted → List ℕ → CipherSuite → ℕ → List (List ℕ × Kdc) → List ℕ → Held → Kdc → List Kdc → Draw → List Draw → List Draw → Type 0
LeadsTo asker wanted home suite span pairs service_key held kdc kdcs own [] draws = ⊥
LeadsTo asker wanted home suite span pairs service_key held kdc kdcs own (next_own ∷ owns) [] = ⊥
LeadsTo asker wanted home suite span pairs service_key held kdc [] own (last ∷ owns) (draw ∷ draws) =
    HasService (service_of wanted.target) service_key kdc
    × AreNextSizes suite wanted kdc held (service_target (service_of wanted.target) service_key) own draw
LeadsTo asker wanted home suite span pairs service_key held kdc (next ∷ kdcs) own (next_own ∷ owns) (draw ∷ draws) =
    (refers : RefersTo (service_of wanted.target) kdc next)
    × StandsAt asker (url_for asker.kdc_url home next.realm) suite span pairs next.realm next
    × AreNextSizes suite wanted kdc held (target_at refers) own draw
    × LeadsTo asker wanted home suite span pairs service_key (held_next suite wanted kdc held (target_at refers) own draw) next kdcs next_own owns draws

-- ---- the first exchange

abbrev pub name_of : Seeker → PrincipalName
name_of seeker = name_with seeker.client.name_type (user_components seeker.client.name)

abbrev pub first_granted : Seeker → Kdc → Principal → Draw → Draw → Grant
first_granted seeker kdc principal own draw =
    first_grant kdc draw.moment (body_of seeker own) (client_with kdc (name_of seeker) principal)

abbrev pub first_given : Seeker → Kdc → Principal → Draw → Draw → AsRep
first_given seeker kdc principal own draw =
    as_rep (asker_suite seeker.asker) kdc.realm draw (body_of seeker own).nonce principal.key (first_granted seeker kdc principal own draw)

abbrev pub held_first : Seeker → Kdc → Principal → Draw → Draw → Held
held_first seeker kdc principal own draw = record {
  realm = kdc.realm;
  draw = draw;
  nonce = (body_of seeker own).nonce;
  grant = first_granted seeker kdc principal own draw;
  rep = (first_given seeker kdc principal own draw).0;
}

pub record AreFirstSizes (seeker : Seeker) (kdc : Kdc) (principal : Principal) (own second refused draw : Draw) : Type 0 where
  pub request : length (spelling as_req_layout (as_req_with plain_pa_datas (body_of seeker own))) + 4 ≤ 2 ^ 24
  pub error : length (refusal kdc.realm refused 25 (Some (hint (asker_suite seeker.asker) principal.salt))) ≤ 2 ^ 23
  pub again : length (spelling as_req_layout (as_req_with (timed_pa_datas (asker_suite seeker.asker) principal.key second.moment (take 16 second.random)) (body_of seeker own))) + 4 ≤ 2 ^ 24
  pub reply : length (spelling as_rep_layout (first_given seeker kdc principal own draw)) ≤ 2 ^ 23

-- ---- the whole run

-- the draws of both ends: of the initiator one for its start, two for the replies of the AS exchange, and those after them; of the
-- KDCs one for each of the two replies, and those after them
pub record Draws : Type 0 where
  pub start : Draw
  pub second : Draw
  pub third : Draw
  pub owns : List Draw
  pub error : Draw
  pub first : Draw
  pub rest : List Draw

abbrev pub of_client : Draws → List Draw
of_client draws = draws.start ∷ draws.second ∷ draws.third ∷ draws.owns

abbrev pub of_kdcs : Draws → List Draw
of_kdcs draws = draws.error ∷ draws.first ∷ draws.rest

-- an initiator that asks for mutual authentication by a service: not under the session key of another ticket, and without a ticket of
-- the service's own. The service is not called as the ticket-granting service is, in letters of either case, since its ticket would be
-- followed as a referral
pub record AsksForService (seeker : Seeker) : Type 0 where
  pub asks_mutual : AsksMutual seeker
  pub under_its_own_key : has_flag seeker.wanted.flags.0 use_session_key ≡ false
  pub without_tgt : seeker.tgt ≡ None
  pub no_referral : referral_realm (name_with 2 (service_of seeker.wanted.target)) ≡ None

-- a KDC of the client's realm has the client, whose key is that of the credentials: with the salt that the KDC sends, otherwise with
-- the default one. Services know the client by a name
pub record HasClient (seeker : Seeker) (kdc : Kdc) (user : UserName) : Type 0 where
  pub realm_is : seeker.client.realm ≡ kdc.realm
  pub client : Principal
  pub known : principal_with (user_components seeker.client.name) kdc.principals ≡ Some client
  pub keyed : sized_key seeker.asker (asker_suite seeker.asker) (unwrap_or client.salt (default_salt seeker.asker.credentials)) ≡ Some client.key
  pub user_named : client_of (name_of seeker) kdc.realm ≡ Some user

-- all draws of both ends are within `span` seconds, less one
pub record AreDrawnWithin (span : ℕ) (draws : Draws) : Type 0 where
  pub start : ℕ
  pub by_client : AreTimely start span (of_client draws)
  pub by_kdcs : AreTimely start span (of_kdcs draws)

-- the premises: an initiator that asks for a service, whose KDC has its client, and KDCs that lead from that one to the service, over
-- nine routes at most. All draws are within the least skew of these KDCs, less one second, and no message is too long. If replies have
-- to be fresh, the draws are within the client's grace, too
pub record CanFetch (seeker : Seeker) (pairs : List (List ℕ × Kdc)) (draws : Draws) (service_key : List ℕ) (user : UserName) : Type 0 where
  pub asks : AsksForService seeker
  pub span : ℕ
  pub drawn : AreDrawnWithin span draws
  pub near : has_rule seeker.asker.rules fresh_replies ≡ true → span ≤ grace
  pub kdc : Kdc
  pub stands : StandsAt seeker.asker seeker.asker.kdc_url (asker_suite seeker.asker) span pairs seeker.asker.realm kdc
  pub has : HasClient seeker kdc user
  pub sizes : AreFirstSizes seeker kdc has.client draws.start draws.second draws.error draws.first
  pub kdcs : List Kdc
  pub few : length kdcs ≤ 9
  pub leads : LeadsTo seeker.asker seeker.wanted kdc.realm (asker_suite seeker.asker) span pairs service_key
      (held_first seeker kdc has.client draws.start draws.first) kdc kdcs draws.third draws.owns draws.rest

-- a run that ended, with the ticket of the service that honest KDCs gave: from here both ends reach one context. The ticket is valid,
-- and came through no further realms, so that it fits the rules of any acceptor
pub record HasFetched (context : Kerberos) (seeker : Seeker) (draw : Draw) (service_key : List ℕ) (user : UserName) (out : Result InitDone Error) : Type 0 where
  pub answers : Answers
  pub rep : TgsRep
  pub part : EncTicketPart
  pub honest : AreHonestKdcs seeker (asker_suite seeker.asker) service_key draw answers rep part
  pub valid : is_invalid part.flags.octets ≡ false
  pub direct : is_direct part.transited.contents ≡ true
  pub named : client_of part.cname part.crealm ≡ Some user
  pub end : EndsWithOffer context seeker service_key (asker_suite seeker.asker) draw answers rep part
  pub out_is : out ≡ Ok end.done

-- what a KdcNet's `sends` is
abbrev pub SendsTo : Net → NetworkRequest → Result (List ℕ) NetFault → Net → Type 0
SendsTo old request answer new = Sends old (serialize request.url) request.payload answer new
