-- The TGS-REP of a KDC is an honest one: a referral, or the service's ticket.
use Rattle.std.specs.Prelude.{◌||◌, is_some}
use Rattle.std.proofs.Common.{◌≡◌, ℕ, ◌/◌, ◌≤◌, ◌^◌, pos, true, false, List, [], ◌∷◌, length, take, replicate, None, refl, sym, subst, ap, ◌∙◌, arith, lit<, lit≤, Ok}
use Rattle.std.proofs.lemmas.Bool.{or_left}
use Rattle.krb_aes.specs.Octets.{IsOctets}
use Rattle.krb_aes.proofs.InjectiveLemmas.{IsOctets-append}
use Rattle.krb_crypto.specs.Suite.{key_size}
use Rattle.krb_crypto.specs.declared.suite.CipherSuite.{CipherSuite}
use Rattle.krb_crypto.proofs.SealedLemmas.{is_sealed}
use Rattle.krb_der.specs.Moment.{time_octets}
use Rattle.krb_der.specs.Schema.{IsSound}
use Rattle.krb_der.specs.Layout.{spelling}
use Rattle.krb_messages.specs.Table.{encryption_key as encryption_key_kind}
use Rattle.krb_messages.specs.Layouts.{encryption_key_row, principal_name_layout}
use Rattle.krb_messages.specs.Frame.{with_length}
use Rattle.krb_exchange.specs.Table.{enc_kdc_rep_part, enc_tgs_rep_part, last_req_entry, kdc_rep as kdc_rep_kind, tgs_rep as tgs_rep_kind}
use Rattle.krb_exchange.specs.Layouts.{enc_kdc_rep_part_row, enc_tgs_rep_part_row, enc_tgs_rep_part_layout, last_req_entry_row, kdc_rep_row, tgs_rep_row, tgs_rep_layout}
use Rattle.sspi_core.specs.declared.draw.Draw.{Draw}
use Rattle.sspi_core.specs.declared.protocol.NetworkProtocol.{NetworkProtocol}
use Rattle.sspi_core.specs.declared.protocol.NetworkProtocol.TheVariants.{Tcp}
use Rattle.krb_as.specs.declared.kdc.Kdc.{Kdc as Address}
use Rattle.krb_as.specs.Replies.{Unwraps}
use Rattle.krb_replies.specs.Fresh.{same_components}
use Rattle.krb_replies.specs.Keys.{facts_in}
use Rattle.krb_replies.specs.Realms.{referral_realm}
use Rattle.krb_requests.specs.Pieces.{principal as name_with}
use Rattle.krb_as.specs.declared.asker.Asker.{Asker}
use Rattle.krb_tgs.specs.Fresh.{question_of}
use Rattle.krb_tgs.specs.TgsAsked.{is_same_realm, service_of}
use Rattle.krb_laws_ends.specs.Answers.{IsDraw}
use Rattle.krb_laws_ends.specs.HonestKdc.{Known, GrantsNext, HasKdc, Refers, Serves}
use Rattle.krb_laws_ends.proofs.OctetsLemmas.{IsShort, IsOctets-back, short-nothing, short-append, short-tlv, short-field, short-more}
use Rattle.krb_laws_ends.proofs.HonestLemmas.{spells_itself, has_suite}
use Rattle.krb_context.specs.declared.rules.Rules.{Rules}
use Rattle.krb_context.specs.Rules.{has_rule, suite_of_each_key, fresh_replies}
use Rattle.krb_kdc.specs.declared.grant.Grant.{Grant}
use Rattle.krb_context.specs.Drawn.{drawn_key}
use Rattle.krb_kdc.specs.Grants.{reply_confounder, reply_part, ticket_part, ticket, tgs_rep}
use Rattle.krb_kdc.specs.Requests.{granting}
use Rattle.krb_laws_kdc.specs.Granting.{IsSoundGrant, IsSoundClient, IsNextAnswer}
use Rattle.krb_laws_kdc.proofs.ErrorLemmas.{unwraps_tcp, ascii_octets, short-octet}
use Rattle.krb_laws_kdc.proofs.FreshLemmas.{answers_tgs_req, target_named, goes_on, goes_nowhere}
use Rattle.krb_laws_kdc.proofs.RepLemmas.{short-time, data_sound, confounder_size, confounder_octets, drawn_fits, now_is_time, short-key, short-flags, ticket_sound}
use Rattle.krb_laws_kdc.proofs.TicketLemmas.{is_service_ticket}

module _ (suite : CipherSuite) (realm : List ℕ) (draw : Draw) (d : IsDraw draw) (nonce : List ℕ) (grant : Grant) (g : IsSoundGrant realm nonce grant) where
  pub short-part : IsShort (2 ^ 27) (spelling enc_tgs_rep_part_layout (record { 0 = reply_part suite realm draw nonce grant }))
  unfolding enc_tgs_rep_part enc_tgs_rep_part_row enc_kdc_rep_part enc_kdc_rep_part_row last_req_entry last_req_entry_row reply_part
  short-part =
      let now = short-time _ (now_is_time suite realm draw d) in
      let last = short-append _ _ _ _ (short-field 1 0xa0 0x02 (0 ∷ []) (lit< tt) (lit< tt) (lit< tt) (short-octet 0 (lit< tt)))
      (short-append _ _ _ [] (short-field 15 0xa1 0x18 _ (lit< tt) (lit< tt) (lit< tt) now) short-nothing) in
      let body = short-append _ _ _ _ (short-key suite realm draw d 0xa0 (lit< tt))
      (short-append _ _ _ _ (short-field _ 0xa1 0x30 _ (lit< tt) (lit< tt) (lit< tt) (short-append _ _ _ [] (short-tlv _ 0x30 _ (lit< tt) (lit< tt) last) short-nothing))
      (short-append _ _ _ _ (short-field 4 0xa2 0x02 nonce (lit< tt) (lit< tt) (lit< tt) (record { octets = g.nonce_octets; short = g.nonce_short }))
      (short-append 0 _ [] _ short-nothing
      (short-append _ _ _ _ (short-field 5 0xa4 0x03 (0 ∷ replicate 4 0) (lit< tt) (lit< tt) (lit< tt) (short-flags suite realm draw d))
      (short-append _ _ _ _ (short-field 15 0xa5 0x18 (time_octets grant.authtime) (lit< tt) (lit< tt) (lit< tt) (short-time _ g.authtime))
      (short-append _ _ _ _ (short-field 15 0xa6 0x18 (time_octets (pos (draw.moment / 1000000))) (lit< tt) (lit< tt) (lit< tt) now)
      (short-append _ _ _ _ (short-field 15 0xa7 0x18 (time_octets grant.endtime) (lit< tt) (lit< tt) (lit< tt) (short-time _ g.endtime))
      (short-append 0 _ [] _ short-nothing
      (short-append _ _ _ _ (short-field (2 ^ 24) 0xa9 0x1b realm (lit< tt) (lit< tt) (lit< tt) (record { octets = ascii_octets realm g.realm_ascii; short = g.realm_short }))
      (short-append _ _ _ [] (short-tlv (2 ^ 25) 0xaa (spelling principal_name_layout grant.sname) (lit< tt) (lit< tt) (record { octets = g.sname_octets; short = g.sname_short })) short-nothing)))))))))) in
      short-more _ (2 ^ 27) _ (lit≤ tt) (short-field _ 0x7a 0x30 _ (lit< tt) (lit< tt) (lit< tt) body)

  pub part_sound : IsSound enc_tgs_rep_part_layout.kind (enc_tgs_rep_part_layout.view (record { 0 = reply_part suite realm draw nonce grant }))
  unfolding enc_tgs_rep_part enc_tgs_rep_part_row enc_kdc_rep_part enc_kdc_rep_part_row encryption_key_kind encryption_key_row last_req_entry last_req_entry_row reply_part
  part_sound =
      let now = now_is_time suite realm draw d in
      ((lit< tt, (tt, tt)), (((lit< tt, (now, tt)), tt), (g.nonce_some, (tt, (lit≤ tt, (g.authtime, (now, (g.endtime, (tt, (g.realm_ascii, (g.sname, (tt, (tt, tt)))))))))))))

  pub rep_sound : (key : List ℕ) → IsSound tgs_rep_layout.kind (tgs_rep_layout.view (tgs_rep suite realm draw nonce key grant))
  unfolding tgs_rep_kind tgs_rep_row kdc_rep_kind kdc_rep_row tgs_rep
  rep_sound key = (lit< tt, (lit< tt, (tt, (g.crealm, (g.cname, (ticket_sound suite realm draw d nonce grant g, (data_sound suite _, tt)))))))

  module _ (known : Known) (tcp : known.kdc.protocol ≡ Tcp) (octets : IsOctets (with_length (spelling tgs_rep_layout (tgs_rep suite realm draw nonce known.key grant))))
      (short : length (spelling tgs_rep_layout (tgs_rep suite realm draw nonce known.key grant)) ≤ 2 ^ 23) where
    abbrev reply : List ℕ
    reply = with_length (spelling tgs_rep_layout (tgs_rep suite realm draw nonce known.key grant))

    pub grants_next : (rules : Rules) (target : List ℕ) (own : Draw) → (has_rule rules fresh_replies ≡ true → IsNextAnswer known.question known.kdc.realm own.moment realm nonce draw grant)
        → (is_some (referral_realm grant.sname) || same_components grant.sname.name_string (service_of target)) ≡ true
        → GrantsNext rules target suite known (record { reply = reply; draw = own }) (tgs_rep suite realm draw nonce known.key grant) (drawn_key suite draw)
    unfolding tgs_rep reply_part
    grants_next rules target own fresh named =
        let plain : List ℕ = spelling enc_tgs_rep_part_layout (record { 0 = reply_part suite realm draw nonce grant }) in
        let message : List ℕ = spelling tgs_rep_layout (tgs_rep suite realm draw nonce known.key grant) in
        let whole = short-part in
        record {
          brings = record {
            message = message;
            unwraps = subst (λ (p : NetworkProtocol). Unwraps p (Ok reply) (Ok message)) (sym tcp) (unwraps_tcp message short);
            octets = IsOctets-back (take 4 reply) message octets;
            short = short;
            read = spells_itself tgs_rep_layout (tgs_rep suite realm draw nonce known.key grant) (rep_sound known.key) (omega (arith, short));
          };
          part = record { 0 = reply_part suite realm draw nonce grant };
          carries = record {
            plain = plain;
            sealed =
                is_sealed suite known.key 8 (reply_confounder suite draw) plain (confounder_size suite realm draw d)
                (IsOctets-append (reply_confounder suite draw) plain (confounder_octets suite realm draw d) whole.octets);
            read = spells_itself enc_tgs_rep_part_layout (record { 0 = reply_part suite realm draw nonce grant }) part_sound (omega (arith, whole.short));
          };
          same_suite = has_suite (has_rule rules suite_of_each_key) suite;
          key_is = refl;
          fits = drawn_fits suite realm draw d;
          answers = λ asks. answers_tgs_req suite realm nonce draw grant own.moment known.key target known.kdc.realm known.question (fresh asks) named;
        }

    -- to a route: a referral
    unfoldable pub refers_on : (asker : Asker) (target home : List ℕ) (address : Address) (own : Draw)
        → (has_rule asker.rules fresh_replies ≡ true → IsNextAnswer known.question known.kdc.realm own.moment realm nonce draw grant) → grant.sname ≡ name_with 2 (granting address.realm)
        → is_same_realm known.kdc.realm address.realm ≡ false
        → (has_rule asker.rules fresh_replies ≡ true → same_components (granting address.realm) (service_of target) ≡ false)
        → HasKdc asker home address.realm address
        → Refers asker target home suite known (record { reply = reply; draw = own })
        (record { key = drawn_key suite draw; kdc = address; question = question_of (tgs_rep suite realm draw nonce known.key grant).0 own })
    unfolding tgs_rep ticket reply_part referral_realm grants_next
    refers_on asker target home address own fresh named other apart found = record {
      rep = tgs_rep suite realm draw nonce known.key grant;
      grants =
          grants_next asker.rules target own fresh
          (or_left (is_some (referral_realm grant.sname)) (same_components grant.sname.name_string (service_of target)) (ap (λ n. is_some (referral_realm n)) named));
      asked = refl;
      named =
          goes_on asker.rules target (facts_in (reply_part suite realm draw nonce grant)) (tgs_rep suite realm draw nonce known.key grant).0 address.realm
          (ap referral_realm named) (λ asks. ap (λ n. same_components n.name_string (service_of target)) named ∙ apart asks);
      other = other;
      found = found;
    }

    -- to a principal: the service's ticket
    unfoldable pub serves : (rules : Rules) (target : List ℕ) (own : Draw) → (has_rule rules fresh_replies ≡ true → IsNextAnswer known.question known.kdc.realm own.moment realm nonce draw grant)
        → IsSoundClient grant.crealm grant.cname → length grant.key ≡ key_size suite → grant.sname ≡ name_with 2 (service_of target)
        → referral_realm (name_with 2 (service_of target)) ≡ None
        → Serves rules target suite grant.key known (record { reply = reply; draw = own }) (tgs_rep suite realm draw nonce known.key grant) (ticket_part suite draw grant)
    unfolding tgs_rep ticket ticket_part reply_part grants_next
    serves rules target own fresh client fits named no_referral = record {
      grants = grants_next rules target own fresh (target_named grant.sname target named);
      named = ap (λ n. n.name_string) named;
      refers_no_more =
          goes_nowhere rules target (facts_in (reply_part suite realm draw nonce grant)) (tgs_rep suite realm draw nonce known.key grant).0
          (ap referral_realm named ∙ no_referral);
      ticket = is_service_ticket suite realm draw d grant client g.authtime g.endtime fits;
      same_realm = refl;
      same_name = refl;
    }
