-- The ticket that a KDC gives to the holder of a ticket, which the client holds in turn.
use Rattle.std.proofs.Common.{◌≡◌, ℕ, ◌+◌, ◌/◌, ◌≤◌, ◌^◌, ℤ, pos, Bool, true, false, List, length, drop, Some, None, refl, sym, subst, arith, length-drop, nat_lt, if◌then◌else◌}
use Rattle.std.proofs.lemmas.List.{length-take}
use Rattle.std.proofs.lemmas.Int.{ints}
use Rattle.krb_crypto.proofs.CtsInjective.{IsOctets-take}
use Rattle.krb_crypto.specs.Suite.{key_size}
use Rattle.krb_crypto.specs.declared.suite.CipherSuite.{CipherSuite}
use Rattle.krb_der.specs.Moment.{IsTime}
use Rattle.krb_der.specs.Schema.{IsSound}
use Rattle.krb_der.specs.Layout.{spelling}
use Rattle.krb_messages.specs.Layouts.{principal_name_layout, ticket_layout}
use Rattle.krb_messages.specs.Frame.{with_length}
use Rattle.krb_messages.specs.declared.enc_ticket_part.EncTicketPart.{EncTicketPart}
use Rattle.krb_messages.specs.declared.ticket.Ticket.{Ticket}
use Rattle.krb_exchange.specs.Layouts.{tgs_req_layout, tgs_rep_layout}
use Rattle.sspi_core.specs.declared.draw.Draw.{Draw}
use Rattle.sspi_core.specs.Flags.{has_flag, use_session_key}
use Rattle.krb_requests.specs.Pieces.{principal as name_with, three_days_after}
use Rattle.krb_tgs.specs.declared.wanted.Wanted.{Wanted}
use Rattle.krb_tgs.specs.TgsAsked.{tgs_req_for, tgs_authenticator, drawn_nonce, drawn_confounder}
use Rattle.krb_laws_ends.specs.Answers.{IsDraw}
use Rattle.krb_tgs.specs.TgsAsked.{service_of}
use Rattle.krb_laws_ends.proofs.OctetsLemmas.{IsOctets-drop}
use Rattle.krb_kdc.specs.declared.kdc.Kdc.{Kdc}
use Rattle.krb_kdc.specs.declared.tgs_req.Target.{Target}
use Rattle.krb_kdc.specs.Answering.{Answers}
use Rattle.krb_kdc.specs.Clocks.{earlier, ten_hours_after, asks_latest, granted_end}
use Rattle.krb_kdc.specs.Grants.{ticket_part, ticket, tgs_rep}
use Rattle.krb_kdc.specs.TgsChecks.{ticket_key, target_of}
use Rattle.krb_laws_kdc.specs.Asking.{AreNear, IsFairSkew}
use Rattle.krb_laws_kdc.specs.Fetching.{IsTimely, Held, shown_of, body_at, granted, given, held_next}
use Rattle.krb_laws_kdc.specs.Granting.{IsSoundGrant, IsSoundClient, IsSoundName}
use Rattle.krb_laws_kdc.specs.Showing.{OpensAtKdc, IsHolder, AsksNext}
use Rattle.krb_laws_kdc.proofs.AskLemmas.{asks_next, is_holder}
use Rattle.krb_laws_kdc.proofs.RepLemmas.{ticket_sound}
use Rattle.krb_laws_kdc.proofs.TgsLemmas.{served, sname_short}
use Rattle.krb_laws_kdc.proofs.TicketLemmas.{opens, lives}

-- ---- how long a ticket lives

-- an end at least ten hours after a start, and no later than 9999-12-31T23:59:59Z
pub record IsLiving (start : ℕ) (end : ℤ) : Type 0 where
  pub second : ℕ
  pub is : end ≡ pos second
  pub after : start / 1000000 + 36000 ≤ second
  pub upto : second ≤ 253402300799

pub living_time : (start : ℕ) (end : ℤ) → IsLiving start end → IsTime end
living_time start end living =
    let upto : living.second ≤ 253402300799 = living.upto in
    let time : IsTime (pos living.second) = (omega (arith, ints), omega (arith, ints, upto)) in
    subst IsTime (sym living.is) time

pub earlier_lives : (start : ℕ) (a b : ℤ) → IsLiving start a → IsLiving start b → IsLiving start (earlier a b)
earlier_lives start a b x y =
    subst (λ (t : ℤ). IsLiving start (earlier a t)) (sym y.is) (subst (λ (t : ℤ). IsLiving start (earlier t (pos y.second))) (sym x.is) (go (nat_lt y.second x.second)))
  where
    go : (c : Bool) → IsLiving start (if c then pos y.second else pos x.second)
    go true = record { second = y.second; is = refl; after = y.after; upto = y.upto }
    go false = record { second = x.second; is = refl; after = x.after; upto = x.upto }

pub three_days_live : (start span : ℕ) (draw : Draw) → IsTimely start span draw → IsLiving start (three_days_after draw.moment)
three_days_live start span draw t = record {
  second = draw.moment / 1000000 + 259200;
  is = refl;
  after = omega (arith, t.from);
  upto = omega (arith, t.is.moment);
}

pub ten_hours_live : (start span : ℕ) (draw : Draw) → IsTimely start span draw → IsLiving start (ten_hours_after draw.moment)
ten_hours_live start span draw t = record {
  second = draw.moment / 1000000 + 36000;
  is = refl;
  after = omega (arith, t.from);
  upto = omega (arith, t.is.moment);
}

pub granted_lives : (start moment : ℕ) (till : ℤ) → IsLiving start till → IsLiving start (ten_hours_after moment) → IsLiving start (granted_end till moment)
granted_lives start moment till x y = go (asks_latest till)
  where
    go : (c : Bool) → IsLiving start (if c then ten_hours_after moment else earlier till (ten_hours_after moment))
    go true = y
    go false = earlier_lives start till (ten_hours_after moment) x y

pub near : (start span skew : ℕ) (x y : Draw) → IsTimely start span x → IsTimely start span y → span ≤ skew → AreNear skew x.moment y.moment
near start span skew x y t u least =
    record { up = omega (arith, t.upto, u.from, least); down = omega (arith, u.upto, t.from, least) }

-- ---- what is held

pub record IsHeld (suite : CipherSuite) (start : ℕ) (held : Held) : Type 0 where
  pub d : IsDraw held.draw
  pub ticket_is : held.rep.ticket ≡ ticket suite held.realm held.draw held.grant
  pub crealm_is : held.rep.crealm ≡ held.grant.crealm
  pub cname_is : held.rep.cname ≡ held.grant.cname
  pub client : IsSoundClient held.grant.crealm held.grant.cname
  pub auth : IsTime held.grant.authtime
  pub living : IsLiving start held.grant.endtime
  pub fits : length held.grant.key ≡ key_size suite
  pub sound : IsSound ticket_layout.kind (ticket_layout.view (ticket suite held.realm held.draw held.grant))

module _ (start span : ℕ) (wanted : Wanted) (unset : has_flag wanted.flags.0 use_session_key ≡ false) (kdc : Kdc)
    (held : Held) (own draw : Draw) (target : Target) (t : IsTimely start span own) (u : IsTimely start span draw)
    (fair : IsFairSkew kdc.skew) (least : span ≤ kdc.skew) where
  -- a KDC that knows the ticket's key, and what it is asked for
  module _ (served_there : target_of kdc (Some (name_with 2 (service_of wanted.target))) ≡ Some target) (h : IsHeld kdc.suite start held)
      (known : ticket_key kdc (ticket kdc.suite held.realm held.draw held.grant) ≡ Some held.grant.key)
      (short : length (spelling tgs_req_layout (tgs_req_for wanted (shown_of kdc.suite held) kdc.realm None own)) + 4 ≤ 2 ^ 24) where
    abbrev part : EncTicketPart
    part = ticket_part kdc.suite held.draw held.grant

    opens_it : OpensAtKdc kdc draw.moment held.rep.ticket part
    unfolding ticket_part
    opens_it =
        let living = h.living in
        let there : OpensAtKdc kdc draw.moment (ticket kdc.suite held.realm held.draw held.grant) part =
        opens kdc.suite held.realm held.draw h.d held.grant h.client h.auth (living_time start held.grant.endtime h.living) h.fits kdc draw.moment refl known
        (lives start span kdc.skew draw.moment living.second held.grant.endtime living.is living.after u.upto least) h.sound in
        subst (λ (x : Ticket). OpensAtKdc kdc draw.moment x part) (sym h.ticket_is) there

    holds_it : IsHolder part own.moment (body_at wanted kdc.realm own) (tgs_authenticator wanted held.rep own) (drawn_confounder own)
    unfolding ticket_part
    holds_it =
        let client : IsSoundClient held.rep.crealm held.rep.cname =
        subst (λ r. IsSoundClient r held.rep.cname) (sym h.crealm_is) (subst (λ n. IsSoundClient held.grant.crealm n) (sym h.cname_is) h.client) in
        is_holder wanted held.rep own (body_at wanted kdc.realm own) client t.is part h.crealm_is h.cname_is

    asks_it : AsksNext kdc own.moment (body_at wanted kdc.realm own) target
    asks_it = asks_next kdc wanted own target unset t.is served_there

    replied_here : (reply : List ℕ) → Answers kdc (with_length (spelling tgs_req_layout (tgs_req_for wanted (shown_of kdc.suite held) kdc.realm None own))) draw reply
        → reply ≡ with_length (spelling tgs_rep_layout (given kdc.suite wanted kdc held target own draw))
    unfolding tgs_req_for ticket_part
    replied_here reply answers =
        served kdc held.rep.ticket part own.moment (body_at wanted kdc.realm own) (tgs_authenticator wanted held.rep own) (drawn_confounder own) target draw opens_it holds_it asks_it fair
        (near start span kdc.skew own draw t u least) short reply answers

    short_here : length (spelling principal_name_layout (name_with 2 (service_of wanted.target))) ≤ 2 ^ 24
    unfolding tgs_req_for ticket_part
    short_here =
        sname_short kdc held.rep.ticket part own.moment (body_at wanted kdc.realm own) (tgs_authenticator wanted held.rep own) (drawn_confounder own) target draw opens_it holds_it asks_it fair
        (near start span kdc.skew own draw t u least) short (name_with 2 (service_of wanted.target)) refl

  pub replied : target_of kdc (Some (name_with 2 (service_of wanted.target))) ≡ Some target → (suite : CipherSuite) → kdc.suite ≡ suite → IsHeld suite start held
      → ticket_key kdc (ticket suite held.realm held.draw held.grant) ≡ Some held.grant.key
      → length (spelling tgs_req_layout (tgs_req_for wanted (shown_of suite held) kdc.realm None own)) + 4 ≤ 2 ^ 24
      → (reply : List ℕ) → Answers kdc (with_length (spelling tgs_req_layout (tgs_req_for wanted (shown_of suite held) kdc.realm None own))) draw reply
      → reply ≡ with_length (spelling tgs_rep_layout (given suite wanted kdc held target own draw))
  replied served_there suite is =
      subst (λ (s : CipherSuite). IsHeld s start held
      → ticket_key kdc (ticket s held.realm held.draw held.grant) ≡ Some held.grant.key
      → length (spelling tgs_req_layout (tgs_req_for wanted (shown_of s held) kdc.realm None own)) + 4 ≤ 2 ^ 24
      → (reply : List ℕ) → Answers kdc (with_length (spelling tgs_req_layout (tgs_req_for wanted (shown_of s held) kdc.realm None own))) draw reply
      → reply ≡ with_length (spelling tgs_rep_layout (given s wanted kdc held target own draw))) is (replied_here served_there)

  -- the service's name is no longer than the request
  pub service_short : target_of kdc (Some (name_with 2 (service_of wanted.target))) ≡ Some target → (suite : CipherSuite) → kdc.suite ≡ suite → IsHeld suite start held
      → ticket_key kdc (ticket suite held.realm held.draw held.grant) ≡ Some held.grant.key
      → length (spelling tgs_req_layout (tgs_req_for wanted (shown_of suite held) kdc.realm None own)) + 4 ≤ 2 ^ 24
      → length (spelling principal_name_layout (name_with 2 (service_of wanted.target))) ≤ 2 ^ 24
  service_short served_there suite is =
      subst (λ (s : CipherSuite). IsHeld s start held
      → ticket_key kdc (ticket s held.realm held.draw held.grant) ≡ Some held.grant.key
      → length (spelling tgs_req_layout (tgs_req_for wanted (shown_of s held) kdc.realm None own)) + 4 ≤ 2 ^ 24
      → length (spelling principal_name_layout (name_with 2 (service_of wanted.target))) ≤ 2 ^ 24) is (short_here served_there)

  module _ (suite : CipherSuite) (h : IsHeld suite start held) (named : IsSoundName target.name) where
    next_lives : IsLiving start (granted suite wanted kdc held target own draw).endtime
    unfolding ticket_part
    next_lives =
        earlier_lives start (granted_end (three_days_after own.moment) draw.moment) held.grant.endtime
        (granted_lives start draw.moment (three_days_after own.moment) (three_days_live start span own t) (ten_hours_live start span draw u)) h.living

    pub next_sound : IsSoundGrant kdc.realm (drawn_nonce own) (granted suite wanted kdc held target own draw)
    unfolding ticket_part
    next_sound =
        let size : length (drawn_nonce own) ≡ 4 = omega (arith, length-take 4 (drop 4 own.random), length-drop 4 own.random, t.is.size) in
        let living : IsLiving start (granted suite wanted kdc held target own draw).endtime = next_lives in record {
          realm_ascii = kdc.realm_ascii;
          realm_short = kdc.realm_short;
          crealm = h.client.ascii;
          cname = h.client.cname_sound;
          sname = named.sound;
          sname_octets = named.octets;
          sname_short = named.short;
          authtime = h.auth;
          endtime = living_time start (granted suite wanted kdc held target own draw).endtime living;
          nonce_some = omega (arith, size);
          nonce_octets = IsOctets-take 4 (drop 4 own.random) (IsOctets-drop 4 own.random t.is.octets);
          nonce_short = omega (arith, size);
        }

    pub next_held : length target.key ≡ key_size suite → IsHeld suite start (held_next suite wanted kdc held target own draw)
    unfolding ticket_part tgs_rep
    next_held fits = record {
      d = u.is;
      ticket_is = refl;
      crealm_is = refl;
      cname_is = refl;
      client = h.client;
      auth = h.auth;
      living = next_lives;
      fits = fits;
      sound = ticket_sound suite kdc.realm draw u.is (drawn_nonce own) (granted suite wanted kdc held target own draw) next_sound;
    }
