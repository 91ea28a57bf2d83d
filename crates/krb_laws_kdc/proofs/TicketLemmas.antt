-- The ticket that a KDC gives is opened: at itself, at the realm that it refers to, and at the service.
use Rattle.std.proofs.Common.{◌≡◌, ℕ, ◌+◌, ◌*◌, ◌/◌, ◌≤◌, ◌^◌, ℤ, pos, Bool, true, false, List, [], ◌∷◌, length, drop, replicate, Some, None, refl, sym, subst, ap, ◌∙◌, arith, lit<, lit≤, length-drop}
use Rattle.std.specs.Prelude.{if◌then◌else◌}
use Rattle.std.specs.Str.{str_to_ascii_lowercase}
use Rattle.std.proofs.lemmas.Bool.{le-ltb}
use Rattle.std.proofs.lemmas.List.{length-take}
use Rattle.krb_aes.specs.Octets.{IsOctets}
use Rattle.krb_aes.proofs.InjectiveLemmas.{IsOctets-append}
use Rattle.krb_crypto.proofs.CtsInjective.{IsOctets-take}
use Rattle.krb_crypto.specs.Suite.{key_size}
use Rattle.krb_crypto.specs.declared.suite.CipherSuite.{CipherSuite}
use Rattle.krb_crypto.proofs.SealedLemmas.{is_sealed}
use Rattle.krb_context.proofs.DrawnLemmas.{key_size_small}
use Rattle.krb_der.specs.Moment.{IsTime, time_octets}
use Rattle.krb_der.specs.Schema.{IsSound}
use Rattle.krb_der.specs.Layout.{spelling}
use Rattle.krb_messages.specs.Table.{encryption_key as encryption_key_kind, enc_ticket_part, transited_encoding}
use Rattle.krb_messages.specs.Layouts.{encryption_key_row, enc_ticket_part_row, enc_ticket_part_layout, transited_encoding_row, principal_name_layout, ticket_layout}
use Rattle.krb_messages.specs.declared.enc_ticket_part.EncTicketPart.{EncTicketPart}
use Rattle.krb_messages.specs.declared.ticket.Ticket.{Ticket}
use Rattle.sspi_core.specs.declared.draw.Draw.{Draw}
use Rattle.krb_replay.specs.Clock.{in_microseconds, is_later}
use Rattle.krb_requests.specs.Pieces.{principal as name_with}
use Rattle.krb_tgs.specs.TgsAsked.{is_same_realm}
use Rattle.krb_laws_ends.specs.Answers.{IsDraw}
use Rattle.krb_laws_ends.specs.Offers.{Carries, IsServiceTicket}
use Rattle.krb_laws_ends.proofs.OctetsLemmas.{IsShort, IsOctets-drop, short-nothing, short-append, short-tlv, short-field, short-more}
use Rattle.krb_laws_ends.proofs.HonestLemmas.{spells_itself, suite_of_integer-number, same_octets}
use Rattle.krb_kdc.specs.declared.grant.Grant.{Grant}
use Rattle.krb_kdc.specs.declared.kdc.Kdc.{Kdc}
use Rattle.krb_kdc.specs.declared.kdc.Trust.{Trust}
use Rattle.krb_kdc.specs.Grants.{ticket_confounder, ticket_part, ticket}
use Rattle.krb_kdc.specs.Opened.{IsOpened}
use Rattle.krb_kdc.specs.Registers.{same_text, trust_in}
use Rattle.krb_kdc.specs.Requests.{granting, is_granting}
use Rattle.krb_kdc.specs.TgsChecks.{trust_key, key_from, ticket_key}
use Rattle.krb_kdc.proofs.AsciiLemmas.{same_is}
use Rattle.krb_laws_kdc.specs.Granting.{IsSoundClient}
use Rattle.krb_laws_kdc.specs.Showing.{OpensAtKdc}
use Rattle.krb_laws_kdc.proofs.AsLemmas.{granting_is}
use Rattle.krb_laws_kdc.proofs.ErrorLemmas.{ascii_octets, short-octet}
use Rattle.krb_laws_kdc.proofs.RepLemmas.{short-time, drawn_fits, now_is_time, short-key, short-flags}

module _ (suite : CipherSuite) (realm : List ℕ) (draw : Draw) (d : IsDraw draw) (grant : Grant) (client : IsSoundClient grant.crealm grant.cname)
    (auth : IsTime grant.authtime) (end : IsTime grant.endtime) where
  abbrev part : EncTicketPart
  part = ticket_part suite draw grant

  abbrev given : Ticket
  given = ticket suite realm draw grant

  pub confounder_size : length (ticket_confounder suite draw) ≡ 16
  confounder_size =
      omega (arith, length-take 16 (drop (key_size suite) draw.random), length-drop (key_size suite) draw.random, d.size, key_size_small suite)

  pub confounder_octets : IsOctets (ticket_confounder suite draw)
  confounder_octets = IsOctets-take 16 _ (IsOctets-drop (key_size suite) draw.random d.octets)

  pub short-part : IsShort (2 ^ 27) (spelling enc_ticket_part_layout part)
  unfolding enc_ticket_part enc_ticket_part_row transited_encoding transited_encoding_row ticket_part
  short-part =
      let transited = short-append _ _ _ _ (short-field 1 0xa0 0x02 (1 ∷ []) (lit< tt) (lit< tt) (lit< tt) (short-octet 1 (lit< tt)))
      (short-append _ _ _ [] (short-field 0 0xa1 0x04 [] (lit< tt) (lit< tt) (lit< tt) short-nothing) short-nothing) in
      let body = short-append _ _ _ _ (short-field 5 0xa0 0x03 (0 ∷ replicate 4 0) (lit< tt) (lit< tt) (lit< tt) (short-flags suite realm draw d))
      (short-append _ _ _ _ (short-key suite realm draw d 0xa1 (lit< tt))
      (short-append _ _ _ _ (short-field (2 ^ 24) 0xa2 0x1b grant.crealm (lit< tt) (lit< tt) (lit< tt) (record { octets = ascii_octets grant.crealm client.ascii; short = client.short }))
      (short-append _ _ _ _ (short-tlv (2 ^ 25) 0xa3 (spelling principal_name_layout grant.cname) (lit< tt) (lit< tt) (record { octets = client.cname_octets; short = client.cname_short }))
      (short-append _ _ _ _ (short-field _ 0xa4 0x30 _ (lit< tt) (lit< tt) (lit< tt) transited)
      (short-append _ _ _ _ (short-field 15 0xa5 0x18 (time_octets grant.authtime) (lit< tt) (lit< tt) (lit< tt) (short-time _ auth))
      (short-append _ _ _ _ (short-field 15 0xa6 0x18 (time_octets (pos (draw.moment / 1000000))) (lit< tt) (lit< tt) (lit< tt) (short-time _ (now_is_time suite realm draw d)))
      (short-append _ _ _ [] (short-field 15 0xa7 0x18 (time_octets grant.endtime) (lit< tt) (lit< tt) (lit< tt) (short-time _ end)) short-nothing))))))) in
      short-more _ (2 ^ 27) _ (lit≤ tt) (short-field _ 0x63 0x30 _ (lit< tt) (lit< tt) (lit< tt) body)

  part_sound : IsSound enc_ticket_part_layout.kind (enc_ticket_part_layout.view part)
  unfolding enc_ticket_part enc_ticket_part_row transited_encoding transited_encoding_row encryption_key_kind encryption_key_row ticket_part
  part_sound =
      (lit≤ tt, ((lit< tt, (tt, tt)), (client.ascii, (client.cname_sound, ((lit< tt, (tt, tt)), (auth, (now_is_time suite realm draw d, (end, (tt, (tt, (tt, tt)))))))))))

  pub carries : Carries enc_ticket_part_layout suite grant.key 2 given.enc_part.cipher part
  unfolding ticket
  carries =
      let whole = short-part in record {
        plain = spelling enc_ticket_part_layout part;
        sealed =
            is_sealed suite grant.key 2 (ticket_confounder suite draw) (spelling enc_ticket_part_layout part) confounder_size
            (IsOctets-append (ticket_confounder suite draw) _ confounder_octets whole.octets);
        read = spells_itself enc_ticket_part_layout part part_sound (omega (arith, whole.short));
      }

  module _ (fits : length grant.key ≡ key_size suite) where
    opened : IsOpened enc_ticket_part_layout suite grant.key 2 given.enc_part part
    unfolding ticket
    opened = let c = carries in record {
      etype = suite_of_integer-number suite;
      plain = c.plain;
      unsealed = record { key_fits = fits; sealed = c.sealed };
      read = c.read;
    }

    -- a KDC of this suite that knows the key
    pub opens : (kdc : Kdc) (now : ℕ) → kdc.suite ≡ suite → ticket_key kdc given ≡ Some grant.key → is_later (pos now) (in_microseconds grant.endtime) kdc.skew ≡ false
        → IsSound ticket_layout.kind (ticket_layout.view given) → OpensAtKdc kdc now given part
    unfolding ticket_part
    opens kdc now is known lives sound = record {
      key = grant.key;
      known = known;
      opened = subst (λ (s : CipherSuite). IsOpened enc_ticket_part_layout s grant.key 2 given.enc_part part) (sym is) opened;
      lives = lives;
      fits = drawn_fits suite realm draw d ∙ ap key_size (sym is);
      sound = sound;
    }

    -- the service that has the key
    pub is_service_ticket : IsServiceTicket suite grant.key given part
    unfolding ticket ticket_part
    is_service_ticket = record { etype = suite_of_integer-number suite; key_fits = fits; carries = carries; session_key_fits = drawn_fits suite realm draw d }

-- ---- the key that a KDC knows

pub own_key : (kdc : Kdc) (shown : Ticket) → shown.sname ≡ name_with 2 (granting kdc.realm) → shown.realm ≡ kdc.realm → ticket_key kdc shown ≡ Some kdc.tgt_key
own_key kdc shown named from =
    ap (λ (b : Bool). if b then key_from kdc shown.realm else None) (ap (is_granting kdc.realm) named ∙ granting_is kdc.realm)
    ∙ ap (λ (b : Bool). if b then Some kdc.tgt_key else trust_key (trust_in shown.realm kdc.trusts)) (ap (λ r. same_text r kdc.realm) from ∙ same_octets kdc.realm)

pub next_key : (next : Kdc) (shown : Ticket) (back : Trust) → shown.sname ≡ name_with 2 (granting next.realm) → same_text shown.realm next.realm ≡ false
    → trust_in shown.realm next.trusts ≡ Some back → ticket_key next shown ≡ Some back.key
next_key next shown back named other trusted =
    ap (λ (b : Bool). if b then key_from next shown.realm else None) (ap (is_granting next.realm) named ∙ granting_is next.realm)
    ∙ (ap (λ (b : Bool). if b then Some next.tgt_key else trust_key (trust_in shown.realm next.trusts)) other ∙ ap trust_key trusted)

-- realms that differ in letters of either case differ
pub differ : (x y : List ℕ) → is_same_realm x y ≡ false → same_text x y ≡ false
differ x y other = go (same_text x y) refl
  where
    go : (b : Bool) → same_text x y ≡ b → b ≡ false
    go false e = refl
    go true e =
        let same : is_same_realm x y ≡ true = subst (λ (z : List ℕ). is_same_realm x z ≡ true) (same_is x y e) (same_octets (str_to_ascii_lowercase x)) in
        absurd cc

-- ---- it has not ended

pub lives : (start span skew now second : ℕ) (end : ℤ) → end ≡ pos second → start / 1000000 + 36000 ≤ second → now + 1000000 ≤ start + span * 1000000 → span ≤ skew
    → is_later (pos now) (in_microseconds end) skew ≡ false
lives start span skew now second end is after upto least =
    ap (λ (t : ℤ). is_later (pos now) (in_microseconds t) skew) is ∙ le-ltb (second * 1000000 + skew * 1000000) now (omega (arith, after, upto, least))
