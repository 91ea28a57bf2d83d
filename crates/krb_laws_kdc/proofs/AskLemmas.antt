-- A client's TGS-REQ asks a KDC that gives the ticket, and its authenticator is its holder's.
use Rattle.std.proofs.Common.{◌≡◌, ℕ, ◌+◌, ◌/◌, ◌%◌, ◌<◌, ◌^◌, pos, Bool, true, false, List, [], ◌∷◌, length, drop, Option, Some, refl, sym, subst, arith, lit<, lit≤, length-drop}
use Rattle.std.specs.Prelude.{bit_or, if◌then◌else◌}
use Rattle.std.specs.Int.{w32, to_be_bytes}
use Rattle.std.proofs.lemmas.List.{length-take}
use Rattle.std.proofs.lemmas.Int.{ints}
use Rattle.krb_aes.proofs.InjectiveLemmas.{none_octets, more_octets, IsOctets-append}
use Rattle.krb_crypto.proofs.CtsInjective.{IsOctets-take}
use Rattle.krb_crypto.specs.declared.suite.CipherSuite.{CipherSuite}
use Rattle.krb_der.specs.Moment.{IsTime, time_octets}
use Rattle.krb_der.specs.Schema.{IsSound}
use Rattle.krb_der.specs.Layout.{spelling}
use Rattle.krb_messages.specs.Layouts.{authenticator_layout, authenticator_row, checksum_row, principal_name_layout, principal_name_row}
use Rattle.krb_messages.specs.Table.{authenticator as authenticator_kind, checksum as checksum_kind, principal_name}
use Rattle.krb_messages.specs.declared.authenticator.Authenticator.{Authenticator}
use Rattle.krb_messages.specs.declared.enc_ticket_part.EncTicketPart.{EncTicketPart}
use Rattle.krb_messages.specs.declared.ticket.Ticket.{Ticket}
use Rattle.krb_exchange.specs.Table.{kdc_req_body}
use Rattle.krb_exchange.specs.Layouts.{kdc_req_body_row}
use Rattle.krb_exchange.specs.declared.kdc_rep.KdcRep.{KdcRep}
use Rattle.krb_exchange.specs.declared.kdc_req.KdcReqBody.{KdcReqBody}
use Rattle.sspi_core.specs.declared.draw.Draw.{Draw}
use Rattle.sspi_core.specs.Flags.{has_flag, delegate, use_session_key}
use Rattle.md5.specs.Md5.{md5}
use Rattle.md5.proofs.StandardFacts.{length-md5}
use Rattle.krb_as.specs.declared.kdc.Kdc.{Kdc as Address}
use Rattle.krb_replies.specs.declared.facts.ReplyFacts.{ReplyFacts}
use Rattle.krb_requests.specs.Pieces.{principal as name_with, whole_second}
use Rattle.krb_authenticators.specs.Authenticators.{microseconds, number_octets}
use Rattle.krb_authenticators.specs.TgsRequests.{over, always, tgs_options, body_checksum}
use Rattle.krb_authenticators.proofs.Lengths.{number_some}
use Rattle.krb_tgs.specs.declared.wanted.Wanted.{Wanted}
use Rattle.krb_tgs.specs.TgsAsked.{service_of, tgs_authenticator, drawn_number, drawn_nonce, drawn_confounder, tgs_req_for, tgs_request}
use Rattle.krb_laws_ends.specs.Answers.{IsDraw}
use Rattle.krb_laws_ends.proofs.AnswerLemmas.{moment_time, time_short}
use Rattle.krb_laws_ends.proofs.GrantLemmas.{IsOctets-digest, short-unsigned, short-sign, sound_sign}
use Rattle.krb_laws_ends.proofs.OctetsLemmas.{IsShort, IsOctets-drop, IsOctets-time, short-nothing, short-append, short-tlv, short-field, short-more, short-word}
use Rattle.krb_kdc.specs.declared.kdc.Kdc.{Kdc}
use Rattle.krb_kdc.specs.declared.tgs_req.Target.{Target}
use Rattle.krb_kdc.specs.TgsChecks.{has_key_bit, target_of}
use Rattle.krb_laws_kdc.specs.Fetching.{body_at}
use Rattle.krb_laws_kdc.specs.Granting.{IsSoundClient}
use Rattle.krb_laws_kdc.specs.Showing.{IsHolder, AsksNext}
use Rattle.krb_laws_kdc.proofs.ErrorLemmas.{ascii_octets}
use Rattle.krb_laws_kdc.proofs.NameLemmas.{AreNames, target_names}

-- the facts that were encrypted next to the key of a ticket are in no request
pub same_request : (wanted : Wanted) (suite : CipherSuite) (key : List ℕ) (facts others : ReplyFacts) (rep : KdcRep) (tickets : Option (List Ticket)) (draw : Draw) (kdc : Address)
    → tgs_request wanted (record { suite = suite; key = key; facts = facts; rep = rep }) tickets draw kdc
    ≡ tgs_request wanted (record { suite = suite; key = key; facts = others; rep = rep }) tickets draw kdc
unfolding tgs_request tgs_req_for
same_request wanted suite key facts others rep tickets draw kdc = refl

-- no session key of another ticket is asked for
asks_alone : (flags : ℕ) → has_flag flags use_session_key ≡ false → has_key_bit (to_be_bytes w32 (tgs_options flags)) ≡ false
asks_alone flags unset =
    let with_options : Bool → Bool → ℕ = λ d u. bit_or (bit_or always (if d then 0x40000000 else 0)) (if u then 0x00000008 else 0) in
    let P : ℕ → Type 0 = λ o. has_key_bit (to_be_bytes w32 o) ≡ false in
    let both : (d : Bool) → P (with_options d false) = λ d. elim d as (λ v. P (with_options v false)) [ true ↦ refl | false ↦ refl ] in
    subst (λ u. P (with_options (has_flag flags delegate) u)) (sym unset) (both (has_flag flags delegate))

pub asks_next : (kdc : Kdc) (wanted : Wanted) (own : Draw) (target : Target) → has_flag wanted.flags.0 use_session_key ≡ false → IsDraw own → target_of kdc (Some (name_with 2 (service_of wanted.target))) ≡ Some target
    → AsksNext kdc own.moment (body_at wanted kdc.realm own) target
unfolding kdc_req_body kdc_req_body_row principal_name principal_name_row
asks_next kdc wanted own target unset d served =
    let names : AreNames (service_of wanted.target) = target_names kdc (service_of wanted.target) target served in
    let till : IsTime (pos (own.moment / 1000000 + 259200)) = (omega (arith, ints), omega (arith, ints, d.moment)) in
    let some : 0 < length (drawn_nonce own) = omega (arith, length-take 4 (drop 4 own.random), length-drop 4 own.random, d.size) in record {
      realm = refl;
      alone = asks_alone wanted.flags.0 unset;
      etype = refl;
      till = refl;
      served = served;
      sound = (
        lit≤ tt,
        (tt, (kdc.realm_ascii, ((lit< tt, ((names.0, (names.1.0, tt)), tt)), (tt, (till, (tt, (some, ((lit< tt, (lit< tt, tt)), (tt, (tt, (tt, tt))))))))))),
      );
    }

-- ---- the authenticator

short-digest : (octets : List ℕ) → IsShort 16 (md5 octets)
unfolding md5
short-digest octets = record { octets = IsOctets-digest _ 4; short = omega (arith, length-md5 octets) }

module _ (wanted : Wanted) (rep : KdcRep) (own : Draw) (body : KdcReqBody) (client : IsSoundClient rep.crealm rep.cname) (d : IsDraw own) where
  abbrev shows : Authenticator
  shows = over body (tgs_authenticator wanted rep own)

  shows_sound : IsSound authenticator_layout.kind (authenticator_layout.view shows)
  unfolding authenticator_kind authenticator_row checksum_kind checksum_row
  shows_sound =
      (lit< tt, (client.ascii, (client.cname_sound, ((lit< tt, (tt, tt)), (lit< tt, (moment_time own.moment d.moment, (tt, (number_some (drawn_number own), (sound_sign wanted.channel_bindings, tt)))))))))

  shows_short : IsShort (2 ^ 27) (spelling authenticator_layout shows)
  unfolding authenticator_kind authenticator_row checksum_kind checksum_row
  shows_short =
      let version : IsShort 1 (5 ∷ []) = record { octets = more_octets 5 [] (lit< tt) none_octets; short = lit≤ tt } in
      let seven : IsShort 1 (7 ∷ []) = record { octets = more_octets 7 [] (lit< tt) none_octets; short = lit≤ tt } in
      let second = whole_second own.moment in
      let time : IsShort 15 (time_octets second) = record { octets = IsOctets-time second (moment_time own.moment d.moment); short = time_short second } in
      let sum = short-append _ _ _ _ (short-field 1 0xa0 0x02 (7 ∷ []) (lit< tt) (lit< tt) (lit< tt) seven)
      (short-append _ _ _ [] (short-field 16 0xa1 0x04 (body_checksum body).checksum (lit< tt) (lit< tt) (lit< tt) (short-digest _)) short-nothing) in
      let inside = short-append _ _ _ _ (short-field 1 0xa0 0x02 (5 ∷ []) (lit< tt) (lit< tt) (lit< tt) version)
      (short-append _ _ _ _ (short-field (2 ^ 24) 0xa1 0x1b rep.crealm (lit< tt) (lit< tt) (lit< tt) (record { octets = ascii_octets rep.crealm client.ascii; short = client.short }))
      (short-append _ _ _ _ (short-tlv (2 ^ 25) 0xa2 (spelling principal_name_layout rep.cname) (lit< tt) (lit< tt) (record { octets = client.cname_octets; short = client.cname_short }))
      (short-append _ _ _ _ (short-field _ 0xa3 0x30 _ (lit< tt) (lit< tt) (lit< tt) sum)
      (short-append _ _ _ _ (short-field 4 0xa4 0x02 (microseconds own.moment) (lit< tt) (lit< tt) (lit< tt) (short-word (own.moment % 1000000)))
      (short-append _ _ _ _ (short-field 15 0xa5 0x18 (time_octets second) (lit< tt) (lit< tt) (lit< tt) time)
      (short-append 0 _ [] _ short-nothing
      (short-append _ _ _ _ (short-field 5 0xa7 0x02 (number_octets (drawn_number own)) (lit< tt) (lit< tt) (lit< tt) (short-unsigned (drawn_number own)))
      (short-append _ _ _ [] (short-sign wanted.channel_bindings) short-nothing)))))))) in
      short-more _ (2 ^ 27) _ (lit≤ tt) (short-field _ 0x62 0x30 _ (lit< tt) (lit< tt) (lit< tt) inside)

  pub is_holder : (part : EncTicketPart) → rep.crealm ≡ part.crealm → rep.cname ≡ part.cname
      → IsHolder part own.moment body (tgs_authenticator wanted rep own) (drawn_confounder own)
  is_holder part realm name = record {
    same_realm = realm;
    same_name = name;
    ctime = refl;
    sound = shows_sound;
    size = omega (arith, length-take 16 (drop 8 own.random), length-drop 8 own.random, d.size);
    octets = IsOctets-append (drawn_confounder own) _ (IsOctets-take 16 (drop 8 own.random) (IsOctets-drop 8 own.random d.octets)) shows_short.octets;
  }
