-- The AP-REQ that an initiator makes of what an honest KDC granted is an honest offer.
use Rattle.std.proofs.Common.{◌≡◌, ℕ, zero, suc, ◌+◌, ◌<◌, ◌≤◌, ◌^◌, ◌%◌, Bool, true, false, List, [], ◌∷◌, ◌++◌, length, take, drop, Option, option_map, refl, sym, subst, arith, lit<, lit≤, map, length-append}
use Rattle.std.specs.Prelude.{Some, None, IfSome, replicate, nat_lt, get_or, bit_or, if◌then◌else◌}
use Rattle.std.specs.Int.{w32, to_be_bytes, to_le_bytes}
use Rattle.std.specs.Option.{option_map_or}
use Rattle.krb_aes.specs.Octets.{IsOctets}
use Rattle.krb_aes.proofs.InjectiveLemmas.{none_octets, more_octets, IsOctets-append}
use Rattle.krb_crypto.proofs.CtsInjective.{IsOctets-take}
use Rattle.krb_der.specs.Der.{tlv}
use Rattle.krb_der.specs.Moment.{time_octets}
use Rattle.krb_der.specs.Layout.{text_layout, spelling}
use Rattle.krb_der.specs.Schema.{IsSound, contents, tag_of, sequence_of}
use Rattle.krb_der.proofs.Lengths.{tlv_le, field_le, append_le, contents_shorter}
use Rattle.krb_crypto.specs.Suite.{suite_number}
use Rattle.krb_crypto.specs.Sealed.{IsSealed}
use Rattle.krb_crypto.specs.declared.suite.CipherSuite.{CipherSuite}
use Rattle.krb_crypto.proofs.SealedLemmas.{is_sealed, plain_shorter}
use Rattle.krb_messages.specs.Layouts.{ap_req_row, authenticator_layout, authenticator_row, authorization_data_element_row, checksum_row, encrypted_data_row, encryption_key_row, principal_name_layout, ticket_layout}
use Rattle.krb_messages.specs.Table.{ap_req as ap_req_kind, authenticator as authenticator_kind, authorization_data_element, checksum as checksum_kind, encrypted_data, encryption_key}
use Rattle.krb_messages.specs.declared.enc_ticket_part.EncTicketPart.{EncTicketPart}
use Rattle.krb_exchange.specs.Table.{pa_data, kdc_rep, tgs_rep}
use Rattle.krb_exchange.specs.Layouts.{pa_data_row, kdc_rep_row, tgs_rep_row, tgs_rep_layout}
use Rattle.krb_exchange.specs.declared.kdc_rep.KdcRep.{KdcRep}
use Rattle.krb_exchange.specs.declared.kdc_rep.TgsRep.{TgsRep}
use Rattle.krb_context.specs.Options.{ap_options_of, gss_flags_of, gss_deleg}
use Rattle.bitflags.specs.Sets.{without}
use Rattle.krb_replies.specs.Unseals.{IsRead}
use Rattle.krb_requests.specs.Pieces.{whole_second}
use Rattle.krb_authenticators.specs.Authenticators.{microseconds, number_octets, checksum, sign_if}
use Rattle.krb_authenticators.specs.Bindings.{bindings_hash}
use Rattle.krb_authenticators.specs.Checksums.{default_value, with_flags, with_hash}
use Rattle.krb_authenticators.proofs.ApLengths.{data_le}
use Rattle.krb_authenticators.proofs.Lengths.{le_trans, length-hash, number_some}
use Rattle.krb_ap.specs.declared.errand.Errand.{Errand}
use Rattle.krb_ap.specs.Initiators.{is_bare, exchange_flags}
use Rattle.krb_context.specs.Drawn.{drawn_key}
use Rattle.krb_context.specs.Contexts.{next_number}
use Rattle.krb_ap.specs.Shown.{drawn_confounder, gss_checksum, service_authenticator, framed_ap_req}
use Rattle.krb_admission.specs.Complete.{is_known_options, is_mutual}
use Rattle.sspi_core.specs.declared.bindings.ChannelBindings.{ChannelBindings}
use Rattle.sspi_core.specs.declared.draw.Draw.{Draw}
use Rattle.sspi_core.specs.Flags.{has_flag, mutual_auth, use_session_key}
use Rattle.md5.specs.Md5.{md5, digest_bytes}
use Rattle.krb_laws_ends.specs.Answers.{IsDraw}
use Rattle.krb_laws_ends.specs.Offers.{IsServiceTicket, Offer, message_of, octets_of, IsHonest}
use Rattle.krb_laws_ends.proofs.AnswerLemmas.{moment_time, time_short, confounder_size, confounder_octets, short-key}
use Rattle.krb_laws_ends.proofs.OctetsLemmas.{IsOctets-front, IsOctets-back, IsOctets-drop, IsOctets-inside, IsOctets-time, IsShort, short-nothing, short-word, short-append, short-tlv, short-field, short-more}
use Rattle.krb_laws_ends.proofs.RepLemmas.{short-number}

-- ---- the options

mutual_options : (flags : ℕ) → has_flag flags mutual_auth ≡ true
    → (is_known_options (record { unused = 0; octets = to_be_bytes w32 (ap_options_of flags) }) ≡ true)
    × (is_mutual (record { unused = 0; octets = to_be_bytes w32 (ap_options_of flags) }) ≡ true)
mutual_options flags asked =
    let with_options : Bool → Bool → ℕ = λ u m. bit_or (if u then 0x40000000 else 0) (if m then 0x20000000 else 0) in
    let P : ℕ → Type 0 = λ o. (is_known_options (record { unused = 0; octets = to_be_bytes w32 o }) ≡ true) × (is_mutual (record { unused = 0; octets = to_be_bytes w32 o }) ≡ true) in
    let both : (u : Bool) → P (with_options u true) = λ u. elim u as (λ v. P (with_options v true)) [ true ↦ (refl, refl) | false ↦ (refl, refl) ] in
    subst (λ m. P (with_options (has_flag flags use_session_key) m)) (sym asked) (both (has_flag flags use_session_key))

-- ---- the checksum

octet_of : (n : ℕ) (xs : List ℕ) → IsOctets xs → IsOctets (n % 256 ∷ xs)
octet_of n xs h = more_octets (n % 256) xs (omega arith) h

IsOctets-le : (n : ℕ) → IsOctets (to_le_bytes w32 n)
IsOctets-le n = octet_of n _ (octet_of _ _ (octet_of _ _ (octet_of _ _ none_octets)))

pub IsOctets-digest : (words : List ℕ) (n : ℕ) → IsOctets (digest_bytes words n)
unfolding digest_bytes
IsOctets-digest words zero = none_octets
IsOctets-digest words (suc n) = IsOctets-append (digest_bytes words n) _ (IsOctets-digest words n) (IsOctets-le _)

IsOctets-hash : (bindings : ChannelBindings) → IsOctets (bindings_hash bindings)
unfolding bindings_hash md5
IsOctets-hash bindings = IsOctets-digest _ 4

zero_octets : (n : ℕ) → IsOctets (replicate n 0)
zero_octets zero = none_octets
zero_octets (suc n) = more_octets 0 (replicate n 0) (lit< tt) (zero_octets n)

default_octets : IsOctets default_value
default_octets = more_octets 16 (replicate 23 0) (lit< tt) (zero_octets 23)

short-flags : (flags : ℕ) → IsShort 24 (with_flags default_value flags)
short-flags flags = record {
  octets =
      IsOctets-append (take 20 default_value) (to_le_bytes w32 flags ++ drop 24 default_value) (IsOctets-take 20 default_value default_octets)
      (IsOctets-append (to_le_bytes w32 flags) (drop 24 default_value) (IsOctets-le flags) (IsOctets-drop 24 default_value default_octets));
  short = lit≤ tt;
}

-- with the hash of bindings in it
short-hashed : (flags : ℕ) (hash : List ℕ) → IsOctets hash → length hash ≡ 16 → IsShort 24 (with_hash (with_flags default_value flags) hash)
short-hashed flags hash octets size =
    let value : List ℕ = with_flags default_value flags in
    let is_value : IsShort 24 value = short-flags flags in
    let front : length (take 4 value) ≡ 4 = refl in
    let back : length (drop 20 value) ≡ 4 = refl in record {
      octets =
          IsOctets-append (take 4 value) (hash ++ drop 20 value) (IsOctets-take 4 value is_value.octets)
          (IsOctets-append hash (drop 20 value) octets (IsOctets-drop 20 value is_value.octets));
      short = omega (arith, length-append (take 4 value) (hash ++ drop 20 value), length-append hash (drop 20 value), size, front, back);
    }

-- the checksum in its field
abbrev sum_contents : Option ChannelBindings → ℕ → List ℕ
sum_contents bindings flags = contents checksum_kind (checksum_row (checksum bindings (gss_checksum flags)))

type_octets : IsShort 3 (0x00 ∷ 0x80 ∷ 0x03 ∷ [])
type_octets = record { octets = more_octets 0x00 _ (lit< tt) (more_octets 0x80 _ (lit< tt) (more_octets 0x03 [] (lit< tt) none_octets)); short = lit≤ tt }

short-sum : (flags : ℕ) (bindings : Option ChannelBindings) → IsShort 55 (sum_contents bindings flags)
unfolding checksum_kind checksum_row
short-sum flags None =
    let value = short-flags (without 32 (gss_flags_of flags) gss_deleg) in
    short-more _ 55 _ (lit≤ tt) (short-append _ _ _ _ (short-field 3 0xa0 0x02 (0x00 ∷ 0x80 ∷ 0x03 ∷ []) (lit< tt) (lit< tt) (lit< tt) type_octets)
    (short-append _ _ _ _ (short-field 24 0xa1 0x04 (with_flags default_value (without 32 (gss_flags_of flags) gss_deleg)) (lit< tt) (lit< tt) (lit< tt) value) short-nothing))
short-sum flags (Some bindings) =
    let value = short-hashed (without 32 (gss_flags_of flags) gss_deleg) (bindings_hash bindings) (IsOctets-hash bindings) (length-hash bindings) in
    short-more _ 55 _ (lit≤ tt) (short-append _ _ _ _ (short-field 3 0xa0 0x02 (0x00 ∷ 0x80 ∷ 0x03 ∷ []) (lit< tt) (lit< tt) (lit< tt) type_octets)
    (short-append _ _ _ _ (short-field 24 0xa1 0x04 (with_hash (with_flags default_value (without 32 (gss_flags_of flags) gss_deleg)) (bindings_hash bindings)) (lit< tt) (lit< tt) (lit< tt) value)
    short-nothing))

sound_sum : (flags : ℕ) (bindings : Option ChannelBindings) → IsSound checksum_kind (checksum_row (checksum bindings (gss_checksum flags)))
unfolding checksum_kind checksum_row
sound_sum flags None = (lit< tt, (tt, tt))
sound_sum flags (Some bindings) = (lit< tt, (tt, tt))

-- ---- the number, and the sign of bindings

pub short-unsigned : (number : ℕ) → IsShort 5 (number_octets number)
short-unsigned number =
    let word : List ℕ = to_be_bytes w32 number in
    elim (nat_lt (get_or word 0 0) 0x80) as (λ v. IsShort 5 (if v then word else 0x00 ∷ word)) [
      | true ↦ short-more 4 5 word (lit≤ tt) (short-word number)
      | false ↦ record { octets = more_octets 0x00 word (lit< tt) (short-word number).octets; short = lit≤ tt }
    ]

abbrev pub sign_octets : Option ChannelBindings → List ℕ
sign_octets bindings =
    option_map_or (λ value. tlv 0xa8 (tlv 0x30 (contents (sequence_of authorization_data_element) value))) (option_map (map authorization_data_element_row) (sign_if bindings)) []

sign_type : IsShort 2 (0x00 ∷ 0x8f ∷ [])
sign_type = record { octets = more_octets 0x00 _ (lit< tt) (more_octets 0x8f [] (lit< tt) none_octets); short = lit≤ tt }

sign_value : IsShort 4 (0x00 ∷ 0x40 ∷ 0x00 ∷ 0x00 ∷ [])
sign_value = record { octets = more_octets 0x00 _ (lit< tt) (more_octets 0x40 _ (lit< tt) (more_octets 0x00 _ (lit< tt) (more_octets 0x00 [] (lit< tt) none_octets))); short = lit≤ tt }

pub short-sign : (bindings : Option ChannelBindings) → IsShort 64 (sign_octets bindings)
unfolding authorization_data_element authorization_data_element_row
short-sign None = short-more 0 64 [] (lit≤ tt) short-nothing
short-sign (Some bindings) =
    let element = short-append _ _ _ _ (short-field 2 0xa0 0x02 (0x00 ∷ 0x8f ∷ []) (lit< tt) (lit< tt) (lit< tt) sign_type)
    (short-append _ _ _ _ (short-field 4 0xa1 0x04 (0x00 ∷ 0x40 ∷ 0x00 ∷ 0x00 ∷ []) (lit< tt) (lit< tt) (lit< tt) sign_value) short-nothing) in
    let list = short-append _ _ _ _ (short-tlv _ 0x30 _ (lit< tt) (lit< tt) element) short-nothing in
    short-more _ 64 _ (lit≤ tt) (short-field _ 0xa8 0x30 _ (lit< tt) (lit< tt) (lit< tt) list)

pub sound_sign : (bindings : Option ChannelBindings) → IfSome (option_map (map authorization_data_element_row) (sign_if bindings)) (IsSound (sequence_of authorization_data_element))
unfolding authorization_data_element authorization_data_element_row
sound_sign None = tt
sound_sign (Some bindings) = ((lit< tt, (tt, tt)), tt)

-- ---- what a reply brings in the clear

pub record IsGranted (rep : KdcRep) : Type 0 where
  pub realm_sound : IsSound text_layout.kind (text_layout.view rep.crealm)
  pub realm_octets : IsOctets rep.crealm
  pub name_sound : IsSound principal_name_layout.kind (principal_name_layout.view rep.cname)
  pub name_octets : IsOctets (spelling principal_name_layout rep.cname)
  pub ticket_sound : IsSound ticket_layout.kind (ticket_layout.view rep.ticket)
  pub short : length rep.crealm + (length (spelling principal_name_layout rep.cname) + length (spelling ticket_layout rep.ticket)) ≤ 2 ^ 23

parts_le : (n outer inner : ℕ) (a b c d e f g : List ℕ) → length (tlv outer (tlv inner (a ++ (b ++ (c ++ (tlv 0xa3 (tlv 0x1b d) ++ (tlv 0xa4 e ++ (tlv 0xa5 f ++ g)))))))) ≤ n
    → length d + (length e + length f) ≤ n
parts_le n outer inner a b c d e f g h =
    let k : length (tlv 0xa3 (tlv 0x1b d)) + (length (tlv 0xa4 e) + length (tlv 0xa5 f)) ≤ n =
    omega (
      arith,
      h,
      contents_shorter outer (tlv inner (a ++ (b ++ (c ++ (tlv 0xa3 (tlv 0x1b d) ++ (tlv 0xa4 e ++ (tlv 0xa5 f ++ g))))))),
      contents_shorter inner (a ++ (b ++ (c ++ (tlv 0xa3 (tlv 0x1b d) ++ (tlv 0xa4 e ++ (tlv 0xa5 f ++ g)))))),
      length-append a (b ++ (c ++ (tlv 0xa3 (tlv 0x1b d) ++ (tlv 0xa4 e ++ (tlv 0xa5 f ++ g))))),
      length-append b (c ++ (tlv 0xa3 (tlv 0x1b d) ++ (tlv 0xa4 e ++ (tlv 0xa5 f ++ g)))),
      length-append c (tlv 0xa3 (tlv 0x1b d) ++ (tlv 0xa4 e ++ (tlv 0xa5 f ++ g))),
      length-append (tlv 0xa3 (tlv 0x1b d)) (tlv 0xa4 e ++ (tlv 0xa5 f ++ g)),
      length-append (tlv 0xa4 e) (tlv 0xa5 f ++ g),
      length-append (tlv 0xa5 f) g,
    ) in
    omega (arith, k, contents_shorter 0xa3 (tlv 0x1b d), contents_shorter 0x1b d, contents_shorter 0xa4 e, contents_shorter 0xa5 f)

parts_octets : (outer inner : ℕ) (a b c d e f g : List ℕ) → IsOctets (tlv outer (tlv inner (a ++ (b ++ (c ++ (tlv 0xa3 (tlv 0x1b d) ++ (tlv 0xa4 e ++ (tlv 0xa5 f ++ g))))))))
    → IsOctets d × IsOctets e
parts_octets outer inner a b c d e f g h =
    let four = IsOctets-back c _ (IsOctets-back b _ (IsOctets-back a _ (IsOctets-inside inner _ (IsOctets-inside outer _ h)))) in
    let realm : IsOctets (tlv 0xa3 (tlv 0x1b d)) = IsOctets-front (tlv 0xa3 (tlv 0x1b d)) _ four in
    let name : IsOctets (tlv 0xa4 e) = IsOctets-front (tlv 0xa4 e) _ (IsOctets-back (tlv 0xa3 (tlv 0x1b d)) _ four) in
    (IsOctets-inside 0x1b d (IsOctets-inside 0xa3 (tlv 0x1b d) realm), IsOctets-inside 0xa4 e name)

granted_by : (rep : KdcRep) → IsSound kdc_rep (kdc_rep_row rep) → IsOctets (tlv 0x6d (tlv (tag_of kdc_rep) (contents kdc_rep (kdc_rep_row rep))))
    → length (tlv 0x6d (tlv (tag_of kdc_rep) (contents kdc_rep (kdc_rep_row rep)))) ≤ 2 ^ 23 → IsGranted rep
unfolding kdc_rep kdc_rep_row
granted_by rep sound octets short =
    let hints : List ℕ = option_map_or (λ value. tlv 0xa2 (tlv (tag_of (sequence_of pa_data)) (contents (sequence_of pa_data) value))) (option_map (map pa_data_row) rep.padata) [] in
    let sealed : List ℕ = tlv 0xa6 (tlv (tag_of encrypted_data) (contents encrypted_data (encrypted_data_row rep.enc_part))) ++ [] in
    let pvno : List ℕ = tlv 0xa0 (tlv 0x02 rep.pvno) in
    let msg_type : List ℕ = tlv 0xa1 (tlv 0x02 rep.msg_type) in
    let both = parts_octets 0x6d 0x30 pvno msg_type hints rep.crealm (spelling principal_name_layout rep.cname) (spelling ticket_layout rep.ticket) sealed octets in
    record {
      realm_sound = sound.1.1.1.0;
      realm_octets = both.0;
      name_sound = sound.1.1.1.1.0;
      name_octets = both.1;
      ticket_sound = sound.1.1.1.1.1.0;
      short = parts_le (2 ^ 23) 0x6d 0x30 pvno msg_type hints rep.crealm (spelling principal_name_layout rep.cname) (spelling ticket_layout rep.ticket) sealed short;
    }

pub granted_in : (rep : TgsRep) (message : List ℕ) → IsRead tgs_rep_layout message rep → IsOctets message → length message ≤ 2 ^ 23 → IsGranted rep.0
unfolding tgs_rep tgs_rep_row
granted_in rep message read octets short =
    granted_by rep.0 read.sound (subst IsOctets read.is octets) (subst (λ (m : List ℕ). length m ≤ 2 ^ 23) read.is short)

-- ---- the authenticator

module _ (errand : Errand) (suite : CipherSuite) (rep : KdcRep) (draw : Draw) (granted : IsGranted rep) (is : IsDraw draw) where
  abbrev flags : ℕ
  flags = errand.initiator.flags.0

  sound : IsSound authenticator_layout.kind (authenticator_layout.view (service_authenticator errand suite rep draw))
  unfolding authenticator_kind authenticator_row encryption_key encryption_key_row
  sound = (
    lit< tt,
    (granted.realm_sound, (granted.name_sound, (sound_sum flags errand.bindings, (lit< tt, (moment_time draw.moment is.moment, ((lit< tt, (tt, tt)), (number_some (next_number errand.initiator.number), (sound_sign errand.bindings, tt)))))))),
  )

  -- its octets, and how many they are besides the client's
  short : IsShort (length rep.crealm + length (spelling principal_name_layout rep.cname) + 2 ^ 17) (spelling authenticator_layout (service_authenticator errand suite rep draw))
  unfolding authenticator_kind authenticator_row encryption_key encryption_key_row checksum_kind
  short =
      let a : ℕ = length rep.crealm in
      let b : ℕ = length (spelling principal_name_layout rep.cname) in
      let small : a + b ≤ 2 ^ 23 = omega (arith, granted.short) in
      let realm : IsShort a rep.crealm = record { octets = granted.realm_octets; short = omega arith } in
      let name : IsShort b (spelling principal_name_layout rep.cname) = record { octets = granted.name_octets; short = omega arith } in
      let version : IsShort 1 (5 ∷ []) = record { octets = more_octets 5 [] (lit< tt) none_octets; short = lit≤ tt } in
      let second = whole_second draw.moment in
      let time : IsShort 15 (time_octets second) = record { octets = IsOctets-time second (moment_time draw.moment is.moment); short = time_short second } in
      let key : IsShort 32 (drawn_key suite draw) = short-key suite draw is in
      let keyed = short-append _ _ _ _ (short-field 1 0xa0 0x02 (suite_number suite ∷ []) (lit< tt) (lit< tt) (lit< tt) (short-number suite))
      (short-append _ _ _ _ (short-field 32 0xa1 0x04 (drawn_key suite draw) (lit< tt) (lit< tt) (lit< tt) key) short-nothing) in
      let back = short-append _ _ _ _ (short-field 55 0xa3 0x30 (sum_contents errand.bindings flags) (lit< tt) (lit< tt) (lit< tt) (short-sum flags errand.bindings))
      (short-append _ _ _ _ (short-field 4 0xa4 0x02 (microseconds draw.moment) (lit< tt) (lit< tt) (lit< tt) (short-word (draw.moment % 1000000)))
      (short-append _ _ _ _ (short-field 15 0xa5 0x18 (time_octets second) (lit< tt) (lit< tt) (lit< tt) time)
      (short-append _ _ _ _ (short-field 64 0xa6 0x30 _ (lit< tt) (lit< tt) (lit< tt) (short-more _ 64 _ (lit≤ tt) keyed))
      (short-append _ _ _ _ (short-field 5 0xa7 0x02 (number_octets (next_number errand.initiator.number)) (lit< tt) (lit< tt) (lit< tt) (short-unsigned (next_number errand.initiator.number)))
      (short-append _ _ _ _ (short-sign errand.bindings) short-nothing))))) in
      let body = short-append _ _ _ _ (short-field 1 0xa0 0x02 (5 ∷ []) (lit< tt) (lit< tt) (lit< tt) version)
      (short-append _ _ _ _ (short-field a 0xa1 0x1b rep.crealm (lit< tt) (lit< tt) (omega (arith, small)) realm)
      (short-append _ _ _ _ (short-tlv b 0xa2 (spelling principal_name_layout rep.cname) (lit< tt) (omega (arith, small)) name)
      (short-more _ (2 ^ 16 + 2 ^ 12) _ (lit≤ tt) back))) in
      short-more _ _ _ (omega arith) (short-field (a + b + (2 ^ 16 + 2 ^ 13)) 0x62 0x30 _ (lit< tt) (lit< tt) (omega (arith, small)) (short-more _ (a + b + (2 ^ 16 + 2 ^ 13)) _ (omega arith) body))

  -- ---- the AP-REQ

  module _ (part : EncTicketPart) where
    -- the offer that an initiator makes of a grant
    abbrev pub offer_of : Offer
    offer_of = record {
      suite = suite;
      ticket = rep.ticket;
      part = part;
      dce = is_bare errand.initiator.flags;
      mechanism = errand.mechanism;
      options = ap_options_of (exchange_flags errand.initiator);
      authenticator = service_authenticator errand suite rep draw;
      confounder = drawn_confounder suite draw;
    }

    abbrev plain : List ℕ
    plain = spelling authenticator_layout (service_authenticator errand suite rep draw)

    abbrev cipher : List ℕ
    cipher = (message_of offer_of).authenticator.cipher

    message_le : (n : ℕ) → length cipher ≤ n → length (octets_of offer_of) ≤ length (spelling ticket_layout rep.ticket) + n + 200
    unfolding octets_of ap_req_kind ap_req_row
    message_le n h =
        let c : ℕ = length (spelling ticket_layout rep.ticket) in
        let body = append_le _ _ _ _ (field_le 0xa0 0x02 (5 ∷ []) 1 (lit≤ tt))
        (append_le _ _ _ _ (field_le 0xa1 0x02 (14 ∷ []) 1 (lit≤ tt))
        (append_le _ _ _ _ (field_le 0xa2 0x03 (0 ∷ to_be_bytes w32 (ap_options_of (exchange_flags errand.initiator))) 5 (lit≤ tt))
        (append_le _ _ _ _ (tlv_le 0xa3 (spelling ticket_layout rep.ticket) c (omega arith))
        (append_le _ [] _ 0 (tlv_le 0xa4 _ _ (data_le suite cipher n h)) (lit≤ tt))))) in
        le_trans _ _ _ (field_le 0x6e 0x30 _ _ body) (omega arith)

    confounded : IsOctets (drawn_confounder suite draw ++ plain)
    confounded = IsOctets-append (drawn_confounder suite draw) plain (confounder_octets suite draw is) short.octets

    sealed_in : IsSealed suite part.key.key_value 11 cipher plain
    sealed_in = is_sealed suite part.key.key_value 11 (drawn_confounder suite draw) plain (confounder_size suite draw is) confounded

    octets_short : length (octets_of offer_of) ≤ 2 ^ 23 + 2 ^ 18
    octets_short =
        let size : length plain + 28 ≡ length cipher = plain_shorter suite part.key.key_value 11 cipher plain sealed_in in
        omega (arith, message_le (length cipher) (omega arith), size, short.short, granted.short)

    framed_le : (dce : Bool) (octets : List ℕ) → length octets ≤ 2 ^ 23 + 2 ^ 18 → length errand.mechanism ≤ 2 ^ 10 → length (if dce then octets else framed_ap_req errand.mechanism octets) ≤ 2 ^ 24
    unfolding framed_ap_req
    framed_le true octets h k = omega (arith, h)
    framed_le false octets h k =
        le_trans _ _ _ (tlv_le 0x60 _ _ (append_le (tlv 0x06 errand.mechanism) ((1 ∷ 0 ∷ []) ++ octets) _ _ (tlv_le 0x06 errand.mechanism (2 ^ 10) k) (append_le (1 ∷ 0 ∷ []) octets 2 (2 ^ 23 + 2 ^ 18) (lit≤ tt) h))) (lit≤ tt)

    pub honest : (key : List ℕ) → IsServiceTicket suite key rep.ticket part → part.crealm ≡ rep.crealm → part.cname ≡ rep.cname
        → has_flag (exchange_flags errand.initiator) mutual_auth ≡ true → 0 < length errand.mechanism → length errand.mechanism ≤ 2 ^ 10 → IsHonest key offer_of
    honest key ticket same_realm same_name asked named mechanism =
        let options = mutual_options (exchange_flags errand.initiator) asked in record {
          ticket = ticket;
          same_realm = sym same_realm;
          same_name = sym same_name;
          known = options.0;
          mutual_asked = options.1;
          ticket_sound = granted.ticket_sound;
          authenticator_sound = sound;
          confounder_size = confounder_size suite draw is;
          octets = confounded;
          named = named;
          microseconds_short = lit≤ tt;
          short = framed_le (is_bare errand.initiator.flags) (octets_of offer_of) octets_short mechanism;
        }
