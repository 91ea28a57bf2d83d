-- The client and the KDC of the example have all that a run needs.
use Rattle.std.proofs.Common.{◌≡◌, ℕ, zero, suc, ◌<◌, ◌≤◌, ◌^◌, List, [], length, replicate, take, Some, None, refl, arith, lit<, lit≤, Ok, Global}
use Rattle.url.specs.Parts.{serialize}
use Rattle.krb_aes.specs.Octets.{IsOctets}
use Rattle.krb_aes.proofs.InjectiveLemmas.{none_octets, more_octets, IsOctets-append}
use Rattle.krb_der.specs.Der.{tlv, length_octets}
use Rattle.krb_der.specs.Moment.{time_octets}
use Rattle.krb_der.specs.Layout.{spelling}
use Rattle.krb_crypto.proofs.CtsInjective.{IsOctets-take}
use Rattle.krb_crypto.specs.Sealed.{sealed}
use Rattle.krb_crypto.specs.declared.suite.CipherSuite.{CipherSuite}
use Rattle.krb_crypto.specs.declared.suite.CipherSuite.TheVariants.{Aes256CtsHmacSha196}
use Rattle.krb_messages.specs.Table.{principal_name, host_address}
use Rattle.krb_messages.specs.Layouts.{principal_name_row, principal_name_layout, host_address_row, enc_ticket_part_layout, ticket_layout, authenticator_layout}
use Rattle.krb_messages.specs.declared.ap_req.ApReq.{ApReq}
use Rattle.krb_messages.specs.declared.authenticator.Authenticator.{Authenticator}
use Rattle.krb_exchange.specs.Table.{kdc_req_body, krb_error as krb_error_kind, pa_data, etype_info2_entry}
use Rattle.krb_exchange.specs.Layouts.{kdc_req_body_row, kdc_req_body_layout, as_rep_layout, tgs_rep_layout, tgs_req_layout, enc_as_rep_part_layout, enc_tgs_rep_part_layout, krb_error_row, pa_data_row, etype_info2_entry_row, pa_enc_ts_enc_layout}
use Rattle.krb_exchange.specs.declared.kdc_req.KdcReqBody.{KdcReqBody}
use Rattle.krb_requests.specs.PaDatas.{timestamp, enc_timestamp, plain_pa_datas, timed_pa_datas}
use Rattle.krb_requests.specs.Pieces.{principal as name_with}
use Rattle.krb_requests.proofs.Lengths.{plain_fits, timed_fits}
use Rattle.krb_authenticators.specs.ApRequests.{ap_req}
use Rattle.krb_authenticators.specs.TgsRequests.{over}
use Rattle.krb_context.specs.declared.rules.Rules.{Rules}
use Rattle.krb_as.specs.FirstBodies.{first_body}
use Rattle.krb_as.specs.declared.kdc.Kdc.{Kdc as Address}
use Rattle.krb_as.specs.Kdcs.{FindsKdc}
use Rattle.krb_replies.specs.Realms.{referral_realm}
use Rattle.krb_tgs.specs.TgsAsked.{service_of, tgs_req_for, tgs_authenticator, drawn_nonce, drawn_confounder, drawn_number}
use Rattle.krb_initiator.specs.declared.seeker.Seeker.{Seeker}
use Rattle.krb_initiator.specs.InitSteps.{body_of}
use Rattle.krb_admission.specs.Clients.{client_of}
use Rattle.sspi_core.specs.declared.cause.Cause.TheVariants.{NoKdc}
use Rattle.sspi_core.specs.declared.protocol.NetworkProtocol.TheVariants.{Tcp}
use Rattle.sspi_core.proofs.Chain.{follows, gives, takes_some}
use Rattle.sspi_generator.specs.Draws.{AreInRange}
use Rattle.krb_laws_ends.specs.Answers.{IsDraw}
use Rattle.krb_kdc.specs.declared.grant.Grant.{Grant}
use Rattle.krb_kdc.specs.declared.kdc.Kdc.{Kdc}
use Rattle.krb_kdc.specs.declared.tgs_req.Target.{Target}
use Rattle.krb_context.specs.Drawn.{drawn_key}
use Rattle.krb_kdc.specs.Grants.{ticket_confounder, reply_confounder, ticket_part, reply_part, ticket, as_rep, tgs_rep}
use Rattle.krb_kdc.specs.Refusals.{etype_info2, hint, krb_error, refusal}
use Rattle.krb_kdc.specs.Requests.{granting}
use Rattle.krb_kdc.proofs.Lengths.{le_trans, data_le}
use Rattle.krb_laws_kdc.specs.Example.{example_realm, client_octets, service_octets, granting_octets, example_url, example_draw, example_draws, example_seeker, example_client, example_service, example_kdc, example_pairs, example_user}
use Rattle.krb_laws_kdc.specs.Fetching.{IsTimely, AreTimely, of_client, StandsAt, AsksForService, HasClient, AreDrawnWithin, HasService, CanFetch, Held, name_of, first_granted, first_given, held_first, shown_of, body_at, granted, given, service_target, AreFirstSizes, AreNextSizes}
use Rattle.krb_laws_kdc.specs.Granting.{IsSoundGrant, IsSoundClient, IsSoundName}
use Rattle.krb_laws_kdc.specs.Showing.{IsHolder}
use Rattle.krb_laws_kdc.proofs.AskLemmas.{is_holder}
use Rattle.krb_laws_kdc.proofs.AsLemmas.{short-timestamp}
use Rattle.krb_laws_kdc.proofs.FirstGrantLemmas.{first_client, first_sound, first_held}
use Rattle.krb_laws_kdc.proofs.HeldLemmas.{IsHeld, next_sound}
use Rattle.krb_laws_kdc.proofs.NameLemmas.{AreNames, name_sound, name_octets}
use Rattle.krb_laws_kdc.proofs.NextLemmas.{short-part as tgs-part}
use Rattle.krb_laws_kdc.proofs.RepLemmas.{short-part as as-part, confounder_size as reply-confounder, confounder_octets as reply-confounder-octets}
use Rattle.krb_laws_kdc.proofs.SmallLemmas.{sealed_le, IsSmall, ticket_part_le, ticket_le, as_part_le, tgs_part_le, as_rep_le, tgs_rep_le, as_req_le, authenticator_le, ap_req_le, tgs_req_le}
use Rattle.krb_laws_kdc.proofs.TicketLemmas.{short-part as ticket-part, confounder_size as ticket-confounder, confounder_octets as ticket-confounder-octets}

-- ---- the draws

repeated_octets : (n x : ℕ) → x < 256 → IsOctets (replicate n x)
repeated_octets zero x small = none_octets
repeated_octets (suc n) x small = more_octets x (replicate n x) small (repeated_octets n x small)

is_draw : IsDraw example_draw
is_draw = record { size = refl; octets = repeated_octets 64 4 (lit< tt); moment = lit≤ tt }

abbrev start : ℕ
start = 1_700_000_000_000_000

timely : IsTimely start 2 example_draw
timely = record { is = is_draw; from = lit≤ tt; upto = lit≤ tt }

all_timely : (n : ℕ) → AreTimely start 2 (replicate n example_draw)
all_timely zero = tt
all_timely (suc n) = (timely, all_timely n)

drawn : AreDrawnWithin 2 example_draws
drawn = record { start = start; by_client = (timely, (timely, (timely, all_timely 10))); by_kdcs = (timely, (timely, (timely, tt))) }

all_in_range : (n : ℕ) → AreInRange (replicate n example_draw)
all_in_range zero = tt
all_in_range (suc n) = (lit≤ tt, all_in_range n)

pub moments : AreInRange (of_client example_draws)
moments = (lit≤ tt, (lit≤ tt, (lit≤ tt, all_in_range 10)))

-- ---- the client and its KDC

asks : (rules : Rules) → AsksForService (example_seeker rules)
unfolding referral_realm
asks rules = record { asks_mutual = record { asked = refl; named = lit< tt; short = lit≤ tt }; under_its_own_key = refl; without_tgt = refl; no_referral = refl }

abbrev address : Address
address = record { protocol = Tcp; url = example_url; realm = example_realm }

found : FindsKdc (Some example_url) (record { vars = []; files = [] }) example_realm (Ok address)
unfolding FindsKdc
found = follows _ _ example_url _ (takes_some NoKdc (Some example_url) example_url refl) (follows _ _ Tcp _ (record { is = refl }) (gives address))

user_named : (rules : Rules) → client_of (name_of (example_seeker rules)) example_realm ≡ Some example_user
unfolding client_of
user_named rules = refl

module _ (alloc : Global) (rules : Rules) where
  abbrev seeker : Seeker
  seeker = example_seeker rules

  stands : StandsAt seeker.asker (Some example_url) (example_kdc alloc).suite 2 (example_pairs alloc) example_realm (example_kdc alloc)
  stands = record {
    address = address;
    found = found;
    tcp = refl;
    text = serialize example_url;
    there = refl;
    realm_is = refl;
    suite_is = refl;
    fair = record { some = lit≤ tt; fair = lit≤ tt };
    least = lit≤ tt;
  }

  abbrev has : HasClient seeker (example_kdc alloc) example_user
  has = record { realm_is = refl; client = example_client; known = refl; keyed = refl; user_named = user_named rules }

  -- ---- the first exchange

  abbrev kdc : Kdc
  kdc = example_kdc alloc

  abbrev suite : CipherSuite
  suite = Aes256CtsHmacSha196

  abbrev grant : Grant
  grant = first_granted seeker kdc example_client example_draw example_draw

  abbrev body : KdcReqBody
  body = body_of seeker example_draw

  name_le : length (spelling principal_name_layout (name_of seeker)) ≤ 64
  unfolding tlv length_octets principal_name principal_name_row
  name_le = lit≤ tt

  granting_le : length (spelling principal_name_layout (name_with 2 (granting example_realm))) ≤ 64
  unfolding tlv length_octets principal_name principal_name_row
  granting_le = lit≤ tt

  body_le : length (spelling kdc_req_body_layout body) ≤ 1024
  unfolding tlv length_octets time_octets first_body kdc_req_body kdc_req_body_row principal_name principal_name_row host_address host_address_row
  body_le = lit≤ tt

  small : IsSmall grant
  small = record { crealm = lit≤ tt; cname = name_le; sname = granting_le }

  name_short : length (spelling principal_name_layout (name_of seeker)) ≤ 2 ^ 24
  name_short = let h = name_le in omega (arith, h)

  client : IsSoundClient example_realm (name_of seeker)
  client = first_client seeker example_draws example_user kdc has refl start 2 timely timely name_short

  sound : IsSoundGrant example_realm body.nonce grant
  sound = first_sound seeker example_draws example_user kdc has refl start 2 timely timely name_short

  nonce_le : length body.nonce ≤ 4
  unfolding first_body
  nonce_le = lit≤ tt

  abbrev ticket_cipher : List ℕ
  ticket_cipher = sealed suite granting_octets 2 (ticket_confounder suite example_draw) (spelling enc_ticket_part_layout (ticket_part suite example_draw grant))

  ticket_cipher_le : length ticket_cipher ≤ 2048
  ticket_cipher_le =
      let plain = ticket-part suite example_realm example_draw is_draw grant client sound.authtime sound.endtime in
      le_trans _ _ _ (sealed_le suite granting_octets 2 (ticket_confounder suite example_draw) _ 1024
      (ticket-confounder suite example_realm example_draw is_draw grant client sound.authtime sound.endtime)
      (IsOctets-append _ _ (ticket-confounder-octets suite example_realm example_draw is_draw grant client sound.authtime sound.endtime) plain.octets)
      (ticket_part_le suite example_realm (lit≤ tt) example_draw is_draw grant small)) (lit≤ tt)

  first_ticket_le : length (spelling ticket_layout (ticket suite example_realm example_draw grant)) ≤ 4096
  unfolding ticket
  first_ticket_le = ticket_le suite example_realm (lit≤ tt) example_draw is_draw grant small ticket_cipher ticket_cipher_le

  reply_le : length (spelling as_rep_layout (first_given seeker kdc example_client example_draw example_draw)) ≤ 8192
  unfolding as_rep
  reply_le =
      let plain = as-part suite example_realm example_draw is_draw body.nonce grant sound in
      as_rep_le suite 11 grant (ticket suite example_realm example_draw grant)
      (sealed suite client_octets 3 (reply_confounder suite example_draw) (spelling enc_as_rep_part_layout (record { 0 = reply_part suite example_realm example_draw body.nonce grant })))
      small first_ticket_le
      (le_trans _ _ _ (sealed_le suite client_octets 3 (reply_confounder suite example_draw) _ 1024 (reply-confounder suite example_realm example_draw is_draw)
      (IsOctets-append _ _ (reply-confounder-octets suite example_realm example_draw is_draw) plain.octets)
      (as_part_le suite example_realm (lit≤ tt) example_draw is_draw grant small body.nonce nonce_le)) (lit≤ tt))

  error_le : length (refusal example_realm example_draw 25 (Some (hint suite None))) ≤ 2 ^ 23
  unfolding tlv length_octets time_octets krb_error_kind krb_error_row krb_error hint etype_info2 pa_data pa_data_row etype_info2_entry etype_info2_entry_row principal_name principal_name_row
  error_le = lit≤ tt

  abbrev confounder : List ℕ
  confounder = take 16 example_draw.random

  time_value_le : length (enc_timestamp suite client_octets example_draw.moment confounder).padata_value ≤ 512
  unfolding enc_timestamp
  time_value_le =
      let plain = short-timestamp example_draw.moment (lit≤ tt) in
      le_trans _ _ _ (data_le suite (sealed suite client_octets 1 confounder (spelling pa_enc_ts_enc_layout (timestamp example_draw.moment))) 92
      (sealed_le suite client_octets 1 confounder _ 64 refl (IsOctets-append _ _ (IsOctets-take 16 example_draw.random is_draw.octets) plain.octets) plain.short)) (lit≤ tt)

  first_sizes : AreFirstSizes seeker kdc example_client example_draw example_draw example_draw example_draw
  first_sizes =
      let plain = as_req_le plain_pa_datas body plain_fits body_le in
      let timed = as_req_le (timed_pa_datas suite client_octets example_draw.moment confounder) body (timed_fits suite client_octets example_draw.moment confounder time_value_le) body_le in
      let whole = reply_le in
      record { request = omega (arith, plain); error = error_le; again = omega (arith, timed); reply = omega (arith, whole) }

  -- ---- the second exchange

  abbrev held : Held
  held = held_first seeker kdc example_client example_draw example_draw

  is_held : IsHeld suite start held
  is_held = first_held seeker example_draws example_user kdc has refl start 2 timely timely name_short

  abbrev service : List (List ℕ)
  service = service_of seeker.wanted.target

  abbrev target : Target
  target = service_target service service_octets

  abbrev next_body : KdcReqBody
  next_body = body_at seeker.wanted example_realm example_draw

  next_body_le : length (spelling kdc_req_body_layout next_body) ≤ 1024
  unfolding tlv length_octets time_octets kdc_req_body kdc_req_body_row principal_name principal_name_row
  next_body_le = lit≤ tt

  service_le : length (spelling principal_name_layout (name_with 2 service)) ≤ 64
  unfolding tlv length_octets principal_name principal_name_row
  service_le = lit≤ tt

  names : AreNames service
  names = (refl, (refl, tt))

  service_sound : IsSoundName (name_with 2 service)
  service_sound =
      let h = service_le in
      record { sound = name_sound 2 service names; octets = name_octets 2 (lit< tt) service names (omega (arith, h)); short = omega (arith, h) }

  abbrev next_grant : Grant
  next_grant = granted suite seeker.wanted kdc held target example_draw example_draw

  next_small : IsSmall next_grant
  unfolding ticket_part
  next_small = record { crealm = lit≤ tt; cname = name_le; sname = service_le }

  next_is_sound : IsSoundGrant example_realm (drawn_nonce example_draw) next_grant
  next_is_sound =
      next_sound start 2 seeker.wanted refl kdc held example_draw example_draw target timely timely (record { some = lit≤ tt; fair = lit≤ tt }) (lit≤ tt) suite is_held service_sound

  next_client : IsSoundClient next_grant.crealm next_grant.cname
  unfolding ticket_part
  next_client = client

  abbrev next_cipher : List ℕ
  next_cipher = sealed suite service_octets 2 (ticket_confounder suite example_draw) (spelling enc_ticket_part_layout (ticket_part suite example_draw next_grant))

  next_cipher_le : length next_cipher ≤ 2048
  next_cipher_le =
      let plain = ticket-part suite example_realm example_draw is_draw next_grant next_client next_is_sound.authtime next_is_sound.endtime in
      le_trans _ _ _ (sealed_le suite service_octets 2 (ticket_confounder suite example_draw) _ 1024
      (ticket-confounder suite example_realm example_draw is_draw next_grant next_client next_is_sound.authtime next_is_sound.endtime)
      (IsOctets-append _ _ (ticket-confounder-octets suite example_realm example_draw is_draw next_grant next_client next_is_sound.authtime next_is_sound.endtime) plain.octets)
      (ticket_part_le suite example_realm (lit≤ tt) example_draw is_draw next_grant next_small)) (lit≤ tt)

  next_ticket_le : length (spelling ticket_layout (ticket suite example_realm example_draw next_grant)) ≤ 4096
  unfolding ticket
  next_ticket_le = ticket_le suite example_realm (lit≤ tt) example_draw is_draw next_grant next_small next_cipher next_cipher_le

  next_reply_le : length (spelling tgs_rep_layout (given suite seeker.wanted kdc held target example_draw example_draw)) ≤ 8192
  unfolding tgs_rep
  next_reply_le =
      let plain = tgs-part suite example_realm example_draw is_draw (drawn_nonce example_draw) next_grant next_is_sound in
      tgs_rep_le suite 13 next_grant (ticket suite example_realm example_draw next_grant)
      (sealed suite (drawn_key suite example_draw) 8 (reply_confounder suite example_draw)
      (spelling enc_tgs_rep_part_layout (record { 0 = reply_part suite example_realm example_draw (drawn_nonce example_draw) next_grant })))
      next_small next_ticket_le
      (le_trans _ _ _ (sealed_le suite (drawn_key suite example_draw) 8 (reply_confounder suite example_draw) _ 1024 (reply-confounder suite example_realm example_draw is_draw)
      (IsOctets-append _ _ (reply-confounder-octets suite example_realm example_draw is_draw) plain.octets)
      (tgs_part_le suite example_realm (lit≤ tt) example_draw is_draw next_grant next_small (drawn_nonce example_draw) (lit≤ tt))) (lit≤ tt))

  shows : IsHolder (ticket_part suite example_draw grant) example_draw.moment next_body (tgs_authenticator seeker.wanted held.rep example_draw) (drawn_confounder example_draw)
  unfolding as_rep ticket_part
  shows = is_holder seeker.wanted held.rep example_draw next_body client is_draw (ticket_part suite example_draw grant) refl refl

  next_request_le : length (spelling tgs_req_layout (tgs_req_for seeker.wanted (shown_of suite held) example_realm None example_draw)) ≤ 16384
  unfolding tgs_req_for as_rep
  next_request_le =
      let authenticator : Authenticator = over next_body (tgs_authenticator seeker.wanted held.rep example_draw) in
      let message : ApReq = ap_req suite (drawn_key suite example_draw) 7 (drawn_confounder example_draw) 0 held.rep.ticket authenticator in
      tgs_req_le next_body message next_body_le
      (ap_req_le suite 0 held.rep.ticket (sealed suite (drawn_key suite example_draw) 7 (drawn_confounder example_draw) (spelling authenticator_layout authenticator)) first_ticket_le
      (le_trans _ _ _ (sealed_le suite (drawn_key suite example_draw) 7 (drawn_confounder example_draw) (spelling authenticator_layout authenticator) 1024 shows.size shows.octets
      (authenticator_le next_body held.rep (drawn_number example_draw) example_draw.moment (lit≤ tt) name_le)) (lit≤ tt)))

  next_sizes : AreNextSizes suite seeker.wanted kdc held target example_draw example_draw
  next_sizes = let asked = next_request_le in let told = next_reply_le in record { request = omega (arith, asked); reply = omega (arith, told) }

  has_service : HasService service service_octets kdc
  has_service = record { principal = example_service; known = refl; key_is = refl }

  pub can : CanFetch seeker (example_pairs alloc) example_draws service_octets example_user
  can = record {
    asks = asks rules;
    span = 2;
    drawn = drawn;
    near = λ _. lit≤ tt;
    kdc = kdc;
    stands = stands;
    has = has;
    sizes = first_sizes;
    kdcs = [];
    few = lit≤ tt;
    leads = (has_service, next_sizes);
  }
