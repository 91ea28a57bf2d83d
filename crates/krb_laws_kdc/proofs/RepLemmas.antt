-- The AS-REP of a KDC is an honest one.
use Rattle.std.specs.Prelude.{◌&&◌}
use Rattle.std.proofs.Common.{◌≡◌, Bool, true, false, ℕ, ◌+◌, ◌/◌, ◌<◌, ◌≤◌, ◌^◌, ℤ, pos, List, [], ◌∷◌, length, take, drop, replicate, None, refl, sym, subst, ap, ◌∙◌, arith, lit<, lit≤, Ok, length-drop}
use Rattle.std.proofs.lemmas.List.{length-take}
use Rattle.std.proofs.lemmas.Int.{ints}
use Rattle.krb_aes.specs.Octets.{IsOctets}
use Rattle.krb_aes.proofs.InjectiveLemmas.{none_octets, more_octets, IsOctets-append}
use Rattle.krb_der.specs.Der.{tlv}
use Rattle.krb_der.specs.Moment.{IsTime, time_octets}
use Rattle.krb_der.specs.Schema.{IsSound}
use Rattle.krb_der.specs.Layout.{spelling}
use Rattle.krb_crypto.specs.Suite.{key_size, suite_number}
use Rattle.krb_crypto.specs.Sealed.{sealed, IsSealed}
use Rattle.krb_crypto.specs.declared.suite.CipherSuite.{CipherSuite}
use Rattle.krb_crypto.proofs.SealedLemmas.{is_sealed}
use Rattle.krb_messages.specs.Table.{encryption_key as encryption_key_kind, encrypted_data, ticket as ticket_kind}
use Rattle.krb_messages.specs.Layouts.{encryption_key_row, encryption_key_layout, encrypted_data_row, encrypted_data_layout, ticket_row, ticket_layout, principal_name_layout}
use Rattle.krb_messages.specs.Frame.{with_length}
use Rattle.krb_exchange.specs.Table.{enc_kdc_rep_part, enc_as_rep_part, last_req_entry, kdc_rep as kdc_rep_kind, as_rep as as_rep_kind}
use Rattle.krb_exchange.specs.Layouts.{enc_kdc_rep_part_row, enc_as_rep_part_row, enc_as_rep_part_layout, last_req_entry_row, kdc_rep_row, as_rep_row, as_rep_layout}
use Rattle.sspi_core.specs.declared.cause.Cause.TheVariants.{Etype}
use Rattle.sspi_core.specs.declared.draw.Draw.{Draw}
use Rattle.sspi_core.specs.declared.protocol.NetworkProtocol.TheVariants.{Tcp}
use Rattle.sspi_core.proofs.Chain.{follows, gives, takes_some}
use Rattle.krb_replies.specs.Unseals.{suite_of_integer}
use Rattle.krb_replies.specs.Salts.{TellsEtype}
use Rattle.krb_as.specs.declared.asker.Asker.{Asker}
use Rattle.krb_as.specs.Askers.{client_key}
use Rattle.krb_requests.specs.Pieces.{sealed_data, encryption_key}
use Rattle.krb_laws_ends.proofs.HonestLemmas.{spells_itself, suite_of_integer-number, has_suite}
use Rattle.krb_laws_ends.proofs.RepLemmas.{short-number}
use Rattle.krb_crypto.proofs.CtsInjective.{IsOctets-take}
use Rattle.krb_kdc.specs.declared.grant.Grant.{Grant}
use Rattle.krb_context.specs.Drawn.{drawn_key}
use Rattle.krb_context.proofs.DrawnLemmas.{key_size_small}
use Rattle.krb_kdc.specs.Grants.{reply_confounder, reply_part, ticket, as_rep}
use Rattle.krb_kdc.proofs.Lengths.{time_short}
use Rattle.krb_laws_ends.specs.Answers.{IsDraw}
use Rattle.krb_context.specs.Rules.{has_rule, as_rep_tagged_26, suite_of_each_key, fresh_replies}
use Rattle.krb_exchange.specs.declared.enc_kdc_rep_part.EncAsRepPart.{EncAsRepPart}
use Rattle.krb_exchange.specs.declared.kdc_req.KdcReqBody.{KdcReqBody}
use Rattle.krb_replies.specs.Keys.{is_tagged_26, IsFirstPart}
use Rattle.krb_laws_ends.specs.HonestKdc.{GrantsFirst}
use Rattle.krb_laws_kdc.specs.Granting.{IsSoundGrant, IsFirstAnswer}
use Rattle.krb_laws_kdc.proofs.ErrorLemmas.{unwraps_tcp, ascii_octets, short-octet}
use Rattle.krb_laws_kdc.proofs.FreshLemmas.{answers_as_req}
use Rattle.krb_laws_ends.proofs.OctetsLemmas.{IsShort, IsOctets-back, IsOctets-drop, IsOctets-time, short-nothing, short-append, short-tlv, short-field, short-more}

pub short-time : (t : ℤ) → IsTime t → IsShort 15 (time_octets t)
short-time t is = record { octets = IsOctets-time t is; short = time_short t }

pub data_sound : (suite : CipherSuite) (cipher : List ℕ) → IsSound encrypted_data_layout.kind (encrypted_data_layout.view (sealed_data suite cipher))
unfolding encrypted_data encrypted_data_row
data_sound suite cipher = (lit< tt, (tt, (tt, tt)))

module _ (suite : CipherSuite) (realm : List ℕ) (draw : Draw) (d : IsDraw draw) where
  pub drawn_fits : length (drawn_key suite draw) ≡ key_size suite
  drawn_fits = omega (arith, length-take (key_size suite) draw.random, d.size, key_size_small suite)

  pub short-drawn : IsShort 32 (drawn_key suite draw)
  short-drawn = record { octets = IsOctets-take (key_size suite) draw.random d.octets; short = omega (arith, drawn_fits, key_size_small suite) }

  pub confounder_size : length (reply_confounder suite draw) ≡ 16
  confounder_size =
      omega (arith, length-take 16 (drop (key_size suite + 16) draw.random), length-drop (key_size suite + 16) draw.random, d.size, key_size_small suite)

  pub confounder_octets : IsOctets (reply_confounder suite draw)
  confounder_octets = IsOctets-take 16 _ (IsOctets-drop (key_size suite + 16) draw.random d.octets)

  pub now_is_time : IsTime (pos (draw.moment / 1000000))
  now_is_time = (omega (arith, ints), omega (arith, ints, d.moment))

  pub short-key : (tag : ℕ) → tag < 256 → IsShort 128 (tlv tag (spelling encryption_key_layout (encryption_key suite (drawn_key suite draw))))
  unfolding encryption_key_kind encryption_key_row
  short-key tag small =
      let inside = short-append _ _ _ _ (short-field 1 0xa0 0x02 (suite_number suite ∷ []) (lit< tt) (lit< tt) (lit< tt) (short-number suite))
      (short-append _ _ _ [] (short-field 32 0xa1 0x04 (drawn_key suite draw) (lit< tt) (lit< tt) (lit< tt) short-drawn) short-nothing) in
      short-more _ 128 _ (lit≤ tt) (short-field _ tag 0x30 _ small (lit< tt) (lit< tt) inside)

  pub short-flags : IsShort 5 (0 ∷ replicate 4 0)
  short-flags = record {
    octets = more_octets 0 _ (lit< tt) (more_octets 0 _ (lit< tt) (more_octets 0 _ (lit< tt) (more_octets 0 _ (lit< tt) (more_octets 0 [] (lit< tt) none_octets))));
    short = lit≤ tt;
  }

  module _ (nonce : List ℕ) (grant : Grant) (g : IsSoundGrant realm nonce grant) where
    pub short-part : IsShort (2 ^ 27) (spelling enc_as_rep_part_layout (record { 0 = reply_part suite realm draw nonce grant }))
    unfolding enc_as_rep_part enc_as_rep_part_row enc_kdc_rep_part enc_kdc_rep_part_row last_req_entry last_req_entry_row reply_part
    short-part =
        let last = short-append _ _ _ _ (short-field 1 0xa0 0x02 (0 ∷ []) (lit< tt) (lit< tt) (lit< tt) (short-octet 0 (lit< tt)))
        (short-append _ _ _ [] (short-field 15 0xa1 0x18 _ (lit< tt) (lit< tt) (lit< tt) (short-time _ now_is_time)) short-nothing) in
        let body = short-append _ _ _ _ (short-key 0xa0 (lit< tt))
        (short-append _ _ _ _ (short-field _ 0xa1 0x30 _ (lit< tt) (lit< tt) (lit< tt) (short-append _ _ _ [] (short-tlv _ 0x30 _ (lit< tt) (lit< tt) last) short-nothing))
        (short-append _ _ _ _ (short-field 4 0xa2 0x02 nonce (lit< tt) (lit< tt) (lit< tt) (record { octets = g.nonce_octets; short = g.nonce_short }))
        (short-append 0 _ [] _ short-nothing
        (short-append _ _ _ _ (short-field 5 0xa4 0x03 (0 ∷ replicate 4 0) (lit< tt) (lit< tt) (lit< tt) short-flags)
        (short-append _ _ _ _ (short-field 15 0xa5 0x18 (time_octets grant.authtime) (lit< tt) (lit< tt) (lit< tt) (short-time _ g.authtime))
        (short-append _ _ _ _ (short-field 15 0xa6 0x18 (time_octets (pos (draw.moment / 1000000))) (lit< tt) (lit< tt) (lit< tt) (short-time _ now_is_time))
        (short-append _ _ _ _ (short-field 15 0xa7 0x18 (time_octets grant.endtime) (lit< tt) (lit< tt) (lit< tt) (short-time _ g.endtime))
        (short-append 0 _ [] _ short-nothing
        (short-append _ _ _ _ (short-field (2 ^ 24) 0xa9 0x1b realm (lit< tt) (lit< tt) (lit< tt) (record { octets = ascii_octets realm g.realm_ascii; short = g.realm_short }))
        (short-append _ _ _ [] (short-tlv (2 ^ 25) 0xaa (spelling principal_name_layout grant.sname) (lit< tt) (lit< tt) (record { octets = g.sname_octets; short = g.sname_short })) short-nothing)))))))))) in
        short-more _ (2 ^ 27) _ (lit≤ tt) (short-field _ 0x79 0x30 _ (lit< tt) (lit< tt) (lit< tt) body)

    part_sound : IsSound enc_as_rep_part_layout.kind (enc_as_rep_part_layout.view (record { 0 = reply_part suite realm draw nonce grant }))
    unfolding enc_as_rep_part enc_as_rep_part_row enc_kdc_rep_part enc_kdc_rep_part_row encryption_key_kind encryption_key_row last_req_entry last_req_entry_row reply_part
    part_sound =
        ((lit< tt, (tt, tt)), (((lit< tt, (now_is_time, tt)), tt), (g.nonce_some, (tt, (lit≤ tt, (g.authtime, (now_is_time, (g.endtime, (tt, (g.realm_ascii, (g.sname, (tt, (tt, tt)))))))))))))

    pub ticket_sound : IsSound ticket_layout.kind (ticket_layout.view (ticket suite realm draw grant))
    unfolding ticket_kind ticket_row ticket
    ticket_sound = (lit< tt, (g.realm_ascii, (g.sname, (data_sound suite _, tt))))

    rep_sound : (key : List ℕ) → IsSound as_rep_layout.kind (as_rep_layout.view (as_rep suite realm draw nonce key grant))
    unfolding as_rep_kind as_rep_row kdc_rep_kind kdc_rep_row as_rep
    rep_sound key = (lit< tt, (lit< tt, (tt, (g.crealm, (g.cname, (ticket_sound, (data_sound suite _, tt)))))))

    tells : (key used : List ℕ) → TellsEtype used (as_rep suite realm draw nonce key grant) (Ok (suite_number suite, used))
    unfolding TellsEtype as_rep
    tells key used =
        follows _ _ None _ (record { is = refl })
        (follows _ _ (suite_number suite ∷ [], used) _ (record { is = refl })
        (follows _ _ suite _ (takes_some Etype (suite_of_integer (suite_number suite ∷ [])) suite (suite_of_integer-number suite)) (gives (suite_number suite, used))))

    -- what it seals is tagged 25, whatever the client allows
    untagged : (part : EncAsRepPart) → is_tagged_26 (spelling enc_as_rep_part_layout part) ≡ false
    unfolding enc_as_rep_part tlv
    untagged part = refl

    and_false : (b : Bool) → (b && false) ≡ false
    and_false true = refl
    and_false false = refl

    -- the second reply of an honest KDC, to a client whose key this is
    pub grants_first : (asker : Asker) (used key : List ℕ) (body : KdcReqBody) (moment : ℕ) → client_key suite used asker.credentials ≡ key → length key ≡ key_size suite
        → IsOctets (with_length (spelling as_rep_layout (as_rep suite realm draw nonce key grant)))
        → length (spelling as_rep_layout (as_rep suite realm draw nonce key grant)) ≤ 2 ^ 23
        → (has_rule asker.rules fresh_replies ≡ true → IsFirstAnswer body moment realm nonce draw grant)
        → GrantsFirst asker body moment suite Tcp used (with_length (spelling as_rep_layout (as_rep suite realm draw nonce key grant))) (as_rep suite realm draw nonce key grant) (drawn_key suite draw)
    unfolding as_rep reply_part
    grants_first asker used key body moment is fits octets short fresh =
        let plain : List ℕ = spelling enc_as_rep_part_layout (record { 0 = reply_part suite realm draw nonce grant }) in
        let whole = short-part in
        let sealed_in : IsSealed suite key 3 (sealed suite key 3 (reply_confounder suite draw) plain) plain =
        is_sealed suite key 3 (reply_confounder suite draw) plain confounder_size (IsOctets-append (reply_confounder suite draw) plain confounder_octets whole.octets) in
        record {
          brings = record {
            message = spelling as_rep_layout (as_rep suite realm draw nonce key grant);
            unwraps = unwraps_tcp _ short;
            octets = IsOctets-back (take 4 (with_length (spelling as_rep_layout (as_rep suite realm draw nonce key grant)))) _ octets;
            short = short;
            read = spells_itself as_rep_layout (as_rep suite realm draw nonce key grant) (rep_sound key) (omega (arith, short));
          };
          salt = used;
          tells = tells key used;
          key_fits = ap length is ∙ fits;
          part = record { 0 = reply_part suite realm draw nonce grant };
          carries = record {
            plain = plain;
            sealed = subst (λ (k : List ℕ). IsSealed suite k 3 (sealed suite key 3 (reply_confounder suite draw) plain) plain) (sym is) sealed_in;
            read =
                subst (λ (b : Bool). IsFirstPart b plain (record { 0 = reply_part suite realm draw nonce grant }))
                (sym (ap (λ (b : Bool). has_rule asker.rules as_rep_tagged_26 && b) (untagged (record { 0 = reply_part suite realm draw nonce grant }))
                ∙ and_false (has_rule asker.rules as_rep_tagged_26)))
                (spells_itself enc_as_rep_part_layout (record { 0 = reply_part suite realm draw nonce grant }) part_sound (omega (arith, whole.short)));
          };
          same_suite = has_suite (has_rule asker.rules suite_of_each_key) suite;
          key_is = refl;
          fits = drawn_fits;
          answers = λ asks. answers_as_req suite realm nonce draw grant moment key body (fresh asks);
        }
