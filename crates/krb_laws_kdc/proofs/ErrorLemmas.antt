-- The refusal that asks for pre-authentication is an honest KDC's error.
use Rattle.std.proofs.Common.{◌≡◌, ℕ, ◌+◌, ◌%◌, ◌/◌, ◌<◌, ◌≤◌, ◌^◌, pos, true, List, [], ◌∷◌, length, Option, Some, None, IfSome, refl, arith, lit<, lit≤, nat_lt, Ok, Bool, false, sym, ap}
use Rattle.std.specs.Prelude.{codes, nat_le, unwrap_or, if◌then◌else◌}
use Rattle.std.specs.Int.{w32, to_be_bytes}
use Rattle.std.specs.Option.{option_map_or}
use Rattle.std.proofs.lemmas.Bool.{le-leb, leb-true, ltb-true}
use Rattle.std.proofs.lemmas.Int.{ints}
use Rattle.krb_aes.specs.Octets.{IsOctets}
use Rattle.krb_aes.proofs.InjectiveLemmas.{none_octets, more_octets}
use Rattle.krb_der.specs.Der.{tlv}
use Rattle.krb_der.specs.Moment.{IsTime, time_octets}
use Rattle.krb_der.specs.Schema.{IsSound, is_ascii}
use Rattle.krb_der.specs.Layout.{items_layout, spelling}
use Rattle.krb_crypto.specs.Suite.{suite_number}
use Rattle.krb_crypto.specs.declared.suite.CipherSuite.{CipherSuite}
use Rattle.krb_messages.specs.Table.{principal_name}
use Rattle.krb_messages.specs.Layouts.{principal_name_row, principal_name_layout}
use Rattle.krb_messages.specs.Frame.{with_length}
use Rattle.krb_exchange.specs.Table.{krb_error as krb_error_kind, pa_data, etype_info2_entry}
use Rattle.krb_exchange.specs.Layouts.{krb_error_row, krb_error_layout, pa_data_row, pa_data_layout, etype_info2_entry_row, etype_info2_entry_layout}
use Rattle.sspi_core.specs.declared.cause.Cause.TheVariants.{Shape, ReplyShort}
use Rattle.sspi_core.specs.declared.draw.Draw.{Draw}
use Rattle.sspi_core.specs.declared.protocol.NetworkProtocol.TheVariants.{Tcp}
use Rattle.sspi_core.specs.Moments.{last_moment}
use Rattle.sspi_core.proofs.Chain.{follows, gives, holds_true}
use Rattle.krb_as.specs.Replies.{Skips, Unpacks, Unwraps}
use Rattle.krb_context.specs.Rules.{has_rule, suite_of_each_key}
use Rattle.krb_replies.specs.Salts.{NamesSalt, NamesSuite}
use Rattle.krb_as.specs.declared.asker.Asker.{Asker}
use Rattle.krb_as.specs.Askers.{asker_suite, suite_told, time_suite, default_salt}
use Rattle.krb_as.specs.Replied.{TellsSuite, LeavesSuite}
use Rattle.krb_requests.specs.Pieces.{principal}
use Rattle.krb_laws_ends.proofs.HonestLemmas.{spells_itself, suite_of_integer-number}
use Rattle.krb_laws_ends.proofs.RepLemmas.{short-number}
use Rattle.krb_kdc.proofs.Found.{and_first, and_second}
use Rattle.krb_kdc.specs.Fitting.{IsShortSalt}
use Rattle.krb_kdc.specs.Refusals.{etype_info2, hint, krb_error, refusal}
use Rattle.krb_kdc.specs.Requests.{granting}
use Rattle.krb_kdc.proofs.Lengths.{time_short}
use Rattle.krb_kdc.proofs.RefusalLengths.{entry}
use Rattle.krb_laws_ends.specs.HonestKdc.{AnswersError}
use Rattle.krb_laws_kdc.specs.Granting.{AreAscii}
use Rattle.krb_laws_ends.proofs.OctetsLemmas.{IsShort, IsOctets-time, short-nothing, short-append, short-tlv, short-field, short-more, short-word}

-- a message after its length comes over TCP
pub unwraps_tcp : (message : List ℕ) → length message ≤ 2 ^ 23 → Unwraps Tcp (Ok (with_length message)) (Ok message)
unfolding Unwraps Unpacks Skips
unwraps_tcp message short =
    let reply : List ℕ = with_length message in
    follows _ _ reply _ (record { is = refl })
    (follows _ _ reply _ (gives reply)
    (follows _ _ tt _ (holds_true ReplyShort (nat_le 4 (length reply)) (le-leb 4 (length reply) (omega arith)))
    (follows _ _ tt _ (holds_true Shape (nat_le (length reply) 16777216) (le-leb (length reply) 16777216 (omega (arith, short)))) (record { is = refl }))))

-- ASCII octets are octets
pub ascii_octets : (text : List ℕ) → is_ascii text ≡ true → IsOctets text
ascii_octets [] e = none_octets
ascii_octets (x ∷ text) e =
    let small : x < 128 = ltb-true x 128 (and_first (nat_lt x 128) (is_ascii text) e) in
    more_octets x text (omega (arith, small)) (ascii_octets text (and_second (nat_lt x 128) (is_ascii text) e))

pub short-octet : (octet : ℕ) → octet < 256 → IsShort 1 (octet ∷ [])
short-octet octet small = record { octets = more_octets octet [] small none_octets; short = lit≤ tt }

short-salt : (salt : Option (List ℕ)) → IfSome salt (λ s. is_ascii s ≡ true) → IsShortSalt salt → IsShort (2 ^ 24 + 12) (option_map_or (λ value. tlv 0xa1 (tlv 0x1b value)) salt [])
short-salt None a h = short-more 0 (2 ^ 24 + 12) [] (lit≤ tt) short-nothing
short-salt (Some salt) a h =
    short-field (2 ^ 24) 0xa1 0x1b salt (lit< tt) (lit< tt) (lit< tt) (record { octets = ascii_octets salt a; short = leb-true (length salt) 16777216 h })

module _ (suite : CipherSuite) (realm : List ℕ) (draw : Draw) (salt : Option (List ℕ)) (ascii : AreAscii realm salt) (in_range : draw.moment ≤ last_moment) where
  short-entries : IsShort (2 ^ 25) (spelling (items_layout etype_info2_entry_layout) (entry suite salt ∷ []))
  unfolding etype_info2_entry etype_info2_entry_row
  short-entries =
      let inside = short-append _ _ _ _ (short-field 1 0xa0 0x02 (suite_number suite ∷ []) (lit< tt) (lit< tt) (lit< tt) (short-number suite))
      (short-append _ _ _ _ (short-salt salt ascii.salt_ascii ascii.salt_short) (short-append 0 0 [] [] short-nothing short-nothing)) in
      short-more _ (2 ^ 25) _ (lit≤ tt) (short-tlv _ 0x30 _ (lit< tt) (lit< tt) (short-append _ _ _ _ (short-tlv _ 0x30 _ (lit< tt) (lit< tt) inside) short-nothing))

  short-hint : IsShort (2 ^ 26) (hint suite salt)
  unfolding hint etype_info2 pa_data pa_data_row
  short-hint =
      let inside = short-append _ _ _ _ (short-field 1 0xa1 0x02 (0x13 ∷ []) (lit< tt) (lit< tt) (lit< tt) (short-octet 0x13 (lit< tt)))
      (short-append _ _ _ _ (short-field (2 ^ 25) 0xa2 0x04 _ (lit< tt) (lit< tt) (lit< tt) short-entries) short-nothing) in
      short-more _ (2 ^ 26) _ (lit≤ tt) (short-tlv _ 0x30 _ (lit< tt) (lit< tt) (short-append _ _ _ _ (short-tlv _ 0x30 _ (lit< tt) (lit< tt) inside) short-nothing))

  is_time : IsTime (pos (draw.moment / 1000000))
  is_time = (omega (arith, ints), omega (arith, ints, in_range))

  short-realm : IsShort (2 ^ 24) realm
  short-realm = record { octets = ascii_octets realm ascii.realm_ascii; short = ascii.realm_short }

  short-krbtgt : IsShort 6 (codes "krbtgt")
  short-krbtgt = record { octets = ascii_octets (codes "krbtgt") refl; short = lit≤ tt }

  pub short-sname : IsShort (2 ^ 25) (spelling principal_name_layout (principal 2 (granting realm)))
  unfolding principal_name principal_name_row
  short-sname =
      let parts = short-append _ _ _ _ (short-tlv 6 0x1b _ (lit< tt) (lit< tt) short-krbtgt) (short-append _ _ _ _ (short-tlv (2 ^ 24) 0x1b realm (lit< tt) (lit< tt) short-realm) short-nothing) in
      short-more _ (2 ^ 25) _ (lit≤ tt) (short-tlv _ 0x30 _ (lit< tt) (lit< tt) (short-append _ _ _ _ (short-field 1 0xa0 0x02 (2 ∷ []) (lit< tt) (lit< tt) (lit< tt) (short-octet 2 (lit< tt)))
      (short-append _ _ _ _ (short-field _ 0xa1 0x30 _ (lit< tt) (lit< tt) (lit< tt) parts) short-nothing)))

  short-error : IsShort (2 ^ 28) (refusal realm draw 25 (Some (hint suite salt)))
  unfolding krb_error_kind krb_error_row krb_error
  short-error =
      let body = short-append _ _ _ _ (short-field 1 0xa0 0x02 (5 ∷ []) (lit< tt) (lit< tt) (lit< tt) (short-octet 5 (lit< tt)))
      (short-append _ _ _ _ (short-field 1 0xa1 0x02 (30 ∷ []) (lit< tt) (lit< tt) (lit< tt) (short-octet 30 (lit< tt)))
      (short-append 0 _ [] _ short-nothing
      (short-append 0 _ [] _ short-nothing
      (short-append _ _ _ _ (short-field 15 0xa4 0x18 (time_octets (pos (draw.moment / 1000000))) (lit< tt) (lit< tt) (lit< tt) (record { octets = IsOctets-time _ is_time; short = time_short _ }))
      (short-append _ _ _ _ (short-field 4 0xa5 0x02 (to_be_bytes w32 (draw.moment % 1000000)) (lit< tt) (lit< tt) (lit< tt) (short-word _))
      (short-append _ _ _ _ (short-field 1 0xa6 0x02 (25 ∷ []) (lit< tt) (lit< tt) (lit< tt) (short-octet 25 (lit< tt)))
      (short-append 0 _ [] _ short-nothing
      (short-append 0 _ [] _ short-nothing
      (short-append _ _ _ _ (short-field (2 ^ 24) 0xa9 0x1b realm (lit< tt) (lit< tt) (lit< tt) short-realm)
      (short-append _ _ _ _ (short-tlv (2 ^ 25) 0xaa _ (lit< tt) (lit< tt) short-sname)
      (short-append 0 _ [] _ short-nothing
      (short-append _ _ _ [] (short-field (2 ^ 26) 0xac 0x04 (hint suite salt) (lit< tt) (lit< tt) (lit< tt) short-hint) short-nothing)))))))))))) in
      short-more _ (2 ^ 28) _ (lit≤ tt) (short-field _ 0x7e 0x30 _ (lit< tt) (lit< tt) (lit< tt) body)

  entries_sound : IsSound (items_layout etype_info2_entry_layout).kind ((items_layout etype_info2_entry_layout).view (entry suite salt ∷ []))
  unfolding etype_info2_entry etype_info2_entry_row
  entries_sound = ((lit< tt, (ascii.salt_ascii, (tt, tt))), tt)

  hint_sound : IsSound (items_layout pa_data_layout).kind ((items_layout pa_data_layout).view (etype_info2 suite salt ∷ []))
  unfolding etype_info2 pa_data pa_data_row
  hint_sound = ((lit< tt, (tt, tt)), tt)

  error_sound : IsSound krb_error_layout.kind (krb_error_layout.view (krb_error realm draw 25 (Some (hint suite salt))))
  unfolding krb_error_kind krb_error_row krb_error principal_name principal_name_row
  error_sound =
      (lit< tt, (lit< tt, (tt, (tt, (is_time, (lit< tt, (refl, (tt, (tt, (ascii.realm_ascii, ((lit< tt, ((refl, (ascii.realm_ascii, tt)), tt)), (tt, (tt, tt)))))))))))))

  names_salt : NamesSalt (krb_error realm draw 25 (Some (hint suite salt))) (Ok salt)
  unfolding NamesSalt krb_error hint etype_info2
  names_salt =
      let whole = short-hint in
      let part = short-entries in
      follows _ _ (etype_info2 suite salt ∷ []) _ (record { is = spells_itself (items_layout pa_data_layout) (etype_info2 suite salt ∷ []) hint_sound (omega (arith, whole.short)) })
      (follows _ _ (Some (entry suite salt ∷ [])) _ (record { is = spells_itself (items_layout etype_info2_entry_layout) (entry suite salt ∷ []) entries_sound (omega (arith, part.short)) })
      (gives salt))

  names_suite : NamesSuite (krb_error realm draw 25 (Some (hint suite salt))) (Ok (Some suite))
  unfolding NamesSuite krb_error hint etype_info2
  names_suite =
      let whole = short-hint in
      let part = short-entries in
      follows _ _ (etype_info2 suite salt ∷ []) _ (record { is = spells_itself (items_layout pa_data_layout) (etype_info2 suite salt ∷ []) hint_sound (omega (arith, whole.short)) })
      (follows _ _ (Some (entry suite salt ∷ [])) _ (record { is = spells_itself (items_layout etype_info2_entry_layout) (entry suite salt ∷ []) entries_sound (omega (arith, part.short)) })
      (record { is = ap Ok (sym (suite_of_integer-number suite)) }))

  leaves_suite : (asker : Asker) (is_told : Bool)
      → LeavesSuite is_told asker (krb_error realm draw 25 (Some (hint suite salt))) (Ok (if is_told then suite_told asker (Some suite) else asker_suite asker))
  unfolding TellsSuite
  leaves_suite asker true = follows _ _ (Some suite) _ names_suite (gives (suite_told asker (Some suite)))
  leaves_suite asker false = gives (asker_suite asker)

  -- the first reply of an honest KDC
  pub answers_error : (asker : Asker) → length (refusal realm draw 25 (Some (hint suite salt))) ≤ 2 ^ 23
      → AnswersError asker Tcp (with_length (refusal realm draw 25 (Some (hint suite salt)))) (time_suite asker (Some suite)) (unwrap_or salt (default_salt asker.credentials))
  answers_error asker short = record {
    error = krb_error realm draw 25 (Some (hint suite salt));
    brings = record {
      message = refusal realm draw 25 (Some (hint suite salt));
      unwraps = unwraps_tcp _ short;
      octets = short-error.octets;
      short = short;
      read = spells_itself krb_error_layout (krb_error realm draw 25 (Some (hint suite salt))) error_sound (omega (arith, short));
    };
    named = salt;
    names = names_salt;
    salt_is = refl;
    leaves = leaves_suite asker (has_rule asker.rules suite_of_each_key);
  }
