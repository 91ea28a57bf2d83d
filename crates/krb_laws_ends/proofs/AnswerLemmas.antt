-- The initiator takes the AP-REP to an honest offer, in DCE style the acceptor takes the third leg in turn, and both ends are peers.
use Rattle.std.proofs.Common.{◌≡◌, ℕ, ◌+◌, ◌<◌, ◌≤◌, ◌^◌, ◌%◌, ℤ, Bool, true, false, List, [], ◌++◌, length, drop, option_map, Option, refl, sym, subst, arith, lit<, lit≤, Ok}
use Rattle.std.specs.Prelude.{Some, nat_le}
use Rattle.std.specs.Option.{option_map_or}
use Rattle.std.proofs.lemmas.Bool.{le-leb}
use Rattle.std.proofs.lemmas.Int.{ints}
use Rattle.std.proofs.lemmas.List.{length-take, length-take-le, length-drop}
use Rattle.krb_aes.specs.Octets.{IsOctets}
use Rattle.krb_der.specs.Der.{tlv}
use Rattle.krb_der.specs.Moment.{IsTime, time_octets}
use Rattle.krb_der.specs.Schema.{IsSound, contents, tag_of}
use Rattle.krb_der.proofs.Lengths.{tlv_le, append_le}
use Rattle.krb_der.specs.Layout.{spelling}
use Rattle.krb_crypto.specs.Suite.{key_size}
use Rattle.krb_crypto.specs.Sealed.{sealed}
use Rattle.krb_crypto.specs.declared.suite.CipherSuite.{CipherSuite}
use Rattle.krb_crypto.proofs.CtsInjective.{IsOctets-take}
use Rattle.krb_messages.specs.Frame.{IsFrame, framed}
use Rattle.krb_messages.specs.Layouts.{ap_rep_layout, authenticator_layout, authenticator_row, enc_ap_rep_part_layout, principal_name_row, checksum_row}
use Rattle.krb_messages.specs.Table.{authenticator as authenticator_kind, principal_name, checksum}
use Rattle.krb_messages.specs.declared.ap_rep.ApRep.{ApRep}
use Rattle.krb_messages.specs.declared.ap_rep.EncApRepPart.{EncApRepPart}
use Rattle.krb_messages.specs.declared.authenticator.Authenticator.{Authenticator}
use Rattle.krb_context.specs.declared.context.Kerberos.{Kerberos}
use Rattle.krb_context.specs.declared.state.KerberosState.{KerberosState}
use Rattle.krb_context.specs.Params.{suite_of}
use Rattle.krb_context.specs.Rules.{has_rule, answers_its_authenticator}
use Rattle.sspi_core.proofs.Chain.{takes_some, holds_true, follows, gives}
use Rattle.krb_replies.specs.Unseals.{IsRead}
use Rattle.krb_replies.specs.Answered.{OpensApRep}
use Rattle.krb_requests.specs.Pieces.{whole_second}
use Rattle.krb_as.specs.declared.done.InitDone.{InitDone}
use Rattle.krb_as.specs.declared.turn.Turn.TheVariants.{Ends}
use Rattle.krb_ap.specs.declared.initiator.Initiator.{Initiator}
use Rattle.krb_ap.specs.Initiators.{is_bare}
use Rattle.krb_ap.specs.Answered.{IsApRep as IsApRepToken, ReadsApRep as ReadsToken, confirmed, replied, Confirms, Replies, FinishesInitiation, answers_at, answers_authenticator, TakesApRep}
use Rattle.krb_initiator.specs.declared.options.InitOptions.{InitOptions}
use Rattle.krb_initiator.specs.declared.seeker.Initiation.TheVariants.{Hears as HearsToken}
use Rattle.krb_initiator.specs.Beginnings.{initiator_of, BeginsIn}
use Rattle.krb_initiator.specs.InitSteps.{HearsAnswer}
use Rattle.krb_admission.specs.declared.admission.Admission.{Admission}
use Rattle.krb_context.specs.Drawn.{drawn_key}
use Rattle.krb_admission.specs.Admission.{mechanism, ap_rep_id, ap_rep_with, ap_rep_part, drawn_confounder, next_number_octets, reply_message, token_with, mutual_admission}
use Rattle.sspi_core.specs.declared.cause.Cause.TheVariants.{Shape, Reply, ReplyTime}
use Rattle.sspi_core.specs.declared.draw.Draw.{Draw}
use Rattle.sspi_core.specs.Usernames.{UserName}
use Rattle.krb_context.proofs.DrawnLemmas.{key_size_small}
use Rattle.krb_laws_ends.specs.Answers.{IsDraw, Offered, Hears}
use Rattle.krb_laws_ends.specs.Offers.{Offer, request_of, IsFor}
use Rattle.krb_laws_ends.proofs.OctetsLemmas.{IsOctets-front, IsOctets-back, IsOctets-drop, IsOctets-inside, IsShort, short-word}
use Rattle.krb_laws_ends.proofs.RepLemmas.{IsReadable, readable}
use Rattle.krb_laws_ends.proofs.TimeLemmas.{if_asked, answers_in_time}

-- ---- what is drawn

pub confounder_size : (suite : CipherSuite) (draw : Draw) → IsDraw draw → length (drawn_confounder suite draw) ≡ 16
confounder_size suite draw is =
    length-take-le 16 (drop (key_size suite) draw.random) (omega (arith, length-drop (key_size suite) draw.random, is.size, key_size_small suite))

pub confounder_octets : (suite : CipherSuite) (draw : Draw) → IsDraw draw → IsOctets (drawn_confounder suite draw)
confounder_octets suite draw is = IsOctets-take 16 (drop (key_size suite) draw.random) (IsOctets-drop (key_size suite) draw.random is.octets)

pub short-key : (suite : CipherSuite) (draw : Draw) → IsDraw draw → IsShort 32 (drawn_key suite draw)
short-key suite draw is = record {
  octets = IsOctets-take (key_size suite) draw.random is.octets;
  short = omega (arith, length-take (key_size suite) draw.random, key_size_small suite);
}

pub time_short : (seconds : ℤ) → length (time_octets seconds) ≤ 15
unfolding time_octets
time_short seconds = lit≤ tt

-- the second of a moment
pub moment_time : (moment : ℕ) → moment ≤ 253402041599999999 → IsTime (whole_second moment)
moment_time moment h = (omega (arith, ints), omega (arith, ints, h))

-- an authenticator's time and microseconds
authenticator_parts : (a : Authenticator) → IsOctets (spelling authenticator_layout a) → IsOctets a.cusec × IsOctets (time_octets a.ctime)
unfolding authenticator_kind authenticator_row
authenticator_parts a h =
    let version : List ℕ = tlv 0xa0 (tlv 0x02 a.authenticator_vno) in
    let realm : List ℕ = tlv 0xa1 (tlv 0x1b a.crealm) in
    let name : List ℕ = tlv 0xa2 (tlv (tag_of principal_name) (contents principal_name (principal_name_row a.cname))) in
    let sum : List ℕ = option_map_or (λ value. tlv 0xa3 (tlv (tag_of checksum) (contents checksum value))) (option_map checksum_row a.cksum) [] in
    let micro : List ℕ = tlv 0xa4 (tlv 0x02 a.cusec) in
    let time : List ℕ = tlv 0xa5 (tlv 0x18 (time_octets a.ctime)) in
    let five = IsOctets-back sum _ (IsOctets-back name _ (IsOctets-back realm _ (IsOctets-back version _ (IsOctets-inside 0x30 _ (IsOctets-inside 0x62 _ h))))) in
    let one : IsOctets micro = IsOctets-front micro _ five in
    let other : IsOctets time = IsOctets-front time _ (IsOctets-back micro _ five) in
    (IsOctets-inside 0x02 a.cusec (IsOctets-inside 0xa4 (tlv 0x02 a.cusec) one), IsOctets-inside 0x18 (time_octets a.ctime) (IsOctets-inside 0xa5 (tlv 0x18 (time_octets a.ctime)) other))

authenticator_time : (a : Authenticator) → IsSound authenticator_layout.kind (authenticator_layout.view a) → IsTime a.ctime
unfolding authenticator_kind authenticator_row
authenticator_time a h = h.1.1.1.1.1.0

authenticator_micro : (a : Authenticator) → IsSound authenticator_layout.kind (authenticator_layout.view a) → 0 < length a.cusec
unfolding authenticator_kind authenticator_row
authenticator_micro a h = h.1.1.1.1.0

-- ---- tokens

mechanism_named : (user_to_user : Bool) → 0 < length (mechanism user_to_user)
mechanism_named true = lit< tt
mechanism_named false = lit< tt

mechanism_short : (user_to_user : Bool) → length (mechanism user_to_user) ≤ 10
mechanism_short true = lit≤ tt
mechanism_short false = lit≤ tt

inside_le : (user_to_user : Bool) (message : List ℕ) → length message ≤ 500 → length (tlv 0x06 (mechanism user_to_user) ++ (ap_rep_id ++ message)) ≤ 600
inside_le user_to_user message h =
    omega (
      arith,
      append_le (tlv 0x06 (mechanism user_to_user)) (ap_rep_id ++ message) 16 502 (tlv_le 0x06 (mechanism user_to_user) 10 (mechanism_short user_to_user))
          (append_le ap_rep_id message 2 500 (lit≤ tt) h),
    )

frames_itself : (user_to_user : Bool) (message : List ℕ) → length message ≤ 500 → IsFrame (mechanism user_to_user) ap_rep_id message (framed (mechanism user_to_user) ap_rep_id message)
unfolding framed
frames_itself user_to_user message h =
    record { named = mechanism_named user_to_user; is = record { short = omega (arith, inside_le user_to_user message h); is = refl } }

frame_short : (user_to_user : Bool) (message : List ℕ) → length message ≤ 500 → length (framed (mechanism user_to_user) ap_rep_id message) ≤ 2 ^ 24
unfolding framed
frame_short user_to_user message h = omega (arith, tlv_le 0x60 (tlv 0x06 (mechanism user_to_user) ++ (ap_rep_id ++ message)) 600 (inside_le user_to_user message h))

token_short : (dce user_to_user : Bool) (message : List ℕ) → length message ≤ 500 → length (token_with dce user_to_user message) ≤ 2 ^ 24
token_short true user_to_user message h = omega (arith, h)
token_short false user_to_user message h = frame_short user_to_user message h

is_token : (dce user_to_user : Bool) (message : List ℕ) (rep : ApRep) → length message ≤ 500 → IsRead ap_rep_layout message rep → IsApRepToken dce (token_with dce user_to_user message) rep
is_token true user_to_user message rep h read = read
is_token false user_to_user message rep h read =
    record { oid = mechanism user_to_user; octets = message; frame = frames_itself user_to_user message h; read = read }

reads_token : (dce user_to_user : Bool) (message : List ℕ) (rep : ApRep) → length message ≤ 500 → IsRead ap_rep_layout message rep → ReadsToken dce (token_with dce user_to_user message) (Ok rep)
unfolding ReadsToken
reads_token dce user_to_user message rep h read =
    follows _ _ tt _ (holds_true Shape (nat_le (length (token_with dce user_to_user message)) 16777216) (le-leb (length (token_with dce user_to_user message)) 16777216 (token_short dce user_to_user message h)))
    (record { is = is_token dce user_to_user message rep h read })

-- ---- one exchange

module _ (server : Kerberos) (draw : Draw) (client : Option UserName) (offer : Offer) (for_it : IsFor server client offer) (is : IsDraw draw) where
  abbrev suite : CipherSuite
  suite = offer.suite

  abbrev key : List ℕ
  key = offer.part.key.key_value

  abbrev subkey : List ℕ
  subkey = drawn_key offer.suite draw

  -- what the acceptor makes of the offer, in either style
  abbrev pub made : Bool → Admission
  made dce = mutual_admission dce server.krb5_user_to_user server.seq_number draw (request_of offer) client

  abbrev part : EncApRepPart
  part = ap_rep_part offer.suite offer.authenticator.ctime offer.authenticator.cusec (next_number_octets server.seq_number) (Some (drawn_key offer.suite draw))

  abbrev cipher : List ℕ
  cipher = sealed offer.suite offer.part.key.key_value 12 (drawn_confounder offer.suite draw) (spelling enc_ap_rep_part_layout part)

  abbrev message : List ℕ
  message = spelling ap_rep_layout (ap_rep_with offer.suite cipher)

  is_readable : IsReadable suite key cipher part
  is_readable =
      let honest = for_it.honest in
      let times = authenticator_parts offer.authenticator (IsOctets-back offer.confounder (spelling authenticator_layout offer.authenticator) honest.octets) in
      readable suite key (drawn_confounder offer.suite draw) offer.authenticator.ctime offer.authenticator.cusec (next_number_octets server.seq_number) (Some subkey)
      honest.ticket.session_key_fits (confounder_size offer.suite draw is) (confounder_octets offer.suite draw is)
      (authenticator_time offer.authenticator honest.authenticator_sound) (record { octets = times.1; short = time_short offer.authenticator.ctime })
      (authenticator_micro offer.authenticator honest.authenticator_sound) (record { octets = times.0; short = honest.microseconds_short })
      (lit< tt) (short-word ((server.seq_number + 1) % 2 ^ 32)) (short-key offer.suite draw is)

  token_is : (dce : Bool) → (made dce).token ≡ token_with dce server.krb5_user_to_user message
  unfolding mutual_admission reply_message
  token_is dce = refl

  reads : (dce : Bool) → ReadsToken dce (made dce).token (Ok (ap_rep_with offer.suite cipher))
  reads dce =
      subst (λ (t : List ℕ). ReadsToken dce t (Ok (ap_rep_with offer.suite cipher))) (sym (token_is dce))
      (reads_token dce server.krb5_user_to_user message (ap_rep_with offer.suite cipher) is_readable.short is_readable.read)

  module _ (initiator : Kerberos) (options : InitOptions) (own : Draw) (offered : Offered initiator offer) where
    abbrev pub caller : Initiator
    caller = initiator_of initiator initiator.krb5_user_to_user options.flags

    -- what the initiator makes of the answer
    abbrev pub done_in : Bool → InitDone
    done_in true = replied caller offer.part.key.key_value true (drawn_key offer.suite draw) (next_number_octets server.seq_number) own
    done_in false = confirmed caller true (drawn_key offer.suite draw)

    ends_so : (dce : Bool) → FinishesInitiation dce caller offer.part.key.key_value part own (Ok (done_in dce))
    unfolding Confirms Replies
    ends_so true =
        follows _ _ subkey _ (record { is = refl }) (follows _ _ (next_number_octets server.seq_number) _ (record { is = refl }) (gives (done_in true)))
    ends_so false = follows _ _ subkey _ (record { is = refl }) (gives (done_in false))

    -- the AP-REP has the time of the authenticator
    in_time : answers_authenticator caller part ≡ true
    in_time =
        if_asked (has_rule initiator.rules answers_its_authenticator) (answers_at initiator.asked_at part)
        (λ asks. answers_in_time offer.suite initiator.asked_at offer.authenticator (next_number_octets server.seq_number) (Some subkey) (offered.time asks))

    takes : (dce : Bool) → is_bare options.flags ≡ dce → TakesApRep caller (made dce).token own (Ok (done_in dce))
    unfolding TakesApRep
    takes dce bare =
        let opened : OpensApRep (suite_of initiator.encryption_params) key (ap_rep_with offer.suite cipher) (Ok part) =
        subst (λ (s : CipherSuite). OpensApRep s key (ap_rep_with offer.suite cipher) (Ok part)) (sym offered.suite) is_readable.opens in
        follows _ _ (ap_rep_with offer.suite cipher) _ (subst (λ (b : Bool). ReadsToken b (made dce).token (Ok (ap_rep_with offer.suite cipher))) (sym bare) (reads dce))
        (follows _ _ key _ (takes_some Reply initiator.encryption_params.session_key key offered.key)
        (follows _ _ part _ opened
        (follows _ _ tt _ (holds_true ReplyTime (answers_authenticator caller part) in_time)
        (subst (λ (b : Bool). FinishesInitiation b caller key part own (Ok (done_in dce))) (sym bare) (ends_so dce)))))

    pub hears : (dce : Bool) → is_bare options.flags ≡ dce → Hears initiator options (made dce).token own (done_in dce)
    unfolding HearsAnswer
    hears dce bare = record {
      initiation = HearsToken caller (made dce).token;
      begins =
          subst (λ (s : KerberosState). BeginsIn s initiator (record options { token = (made dce).token }) (Ok (HearsToken caller (made dce).token))) (sym offered.state)
          (gives (HearsToken caller (made dce).token));
      ends = follows _ _ (done_in dce) _ (takes dce bare) (gives (Ends (done_in dce)));
    }
