-- The replies of a KDC to the AS-REQs of a client that it has.
use Rattle.std.proofs.Common.{◌≡◌, ℕ, ◌+◌, ◌/◌, ◌%◌, ◌≤◌, ◌^◌, pos, Bool, true, List, length, map, Option, Some, None, IfSome, refl, sym, subst, ap, ◌∙◌, arith, lit<, lit≤, Result, Ok, Err}
use Rattle.std.specs.Prelude.{if◌then◌else◌}
use Rattle.std.specs.Int.{w32, to_be_bytes}
use Rattle.std.proofs.lemmas.Int.{ints}
use Rattle.krb_aes.specs.Octets.{IsOctets}
use Rattle.krb_aes.proofs.InjectiveLemmas.{IsOctets-append}
use Rattle.krb_der.specs.Moment.{IsTime, time_octets}
use Rattle.krb_der.specs.Schema.{IsSound, sequence_of}
use Rattle.krb_der.specs.Layout.{Layout, spelling}
use Rattle.krb_crypto.specs.Suite.{key_size}
use Rattle.krb_crypto.specs.Sealed.{sealed, IsSealed}
use Rattle.krb_crypto.specs.declared.suite.CipherSuite.{CipherSuite}
use Rattle.krb_crypto.specs.declared.suite.CipherSuite.TheVariants.{Aes128CtsHmacSha196, Aes256CtsHmacSha196}
use Rattle.krb_crypto.proofs.SealedLemmas.{is_sealed, plain_shorter}
use Rattle.krb_messages.specs.Table.{encrypted_data}
use Rattle.krb_messages.specs.Layouts.{encrypted_data_row, encrypted_data_layout, principal_name_layout}
use Rattle.krb_messages.specs.Frame.{with_length}
use Rattle.krb_messages.specs.declared.principal_name.PrincipalName.{PrincipalName}
use Rattle.krb_exchange.specs.Table.{as_req, kdc_req, pa_data, pa_enc_ts_enc}
use Rattle.krb_exchange.specs.Layouts.{as_req_row, as_req_layout, kdc_req_row, kdc_req_body_layout, pa_data_row, pa_enc_ts_enc_row, pa_enc_ts_enc_layout, as_rep_layout}
use Rattle.krb_exchange.specs.declared.kdc_req.AsReq.{AsReq}
use Rattle.krb_exchange.specs.declared.kdc_req.KdcReqBody.{KdcReqBody}
use Rattle.krb_exchange.specs.declared.pa_data.PaData.{PaData}
use Rattle.sspi_core.specs.declared.cause.Cause.{Cause}
use Rattle.sspi_core.specs.declared.cause.Cause.TheVariants.{Kdc as Code}
use Rattle.sspi_core.specs.declared.draw.Draw.{Draw}
use Rattle.sspi_core.specs.Moments.{last_moment}
use Rattle.sspi_core.specs.Checks.{ok_or}
use Rattle.sspi_core.proofs.Chain.{follows, gives, takes_some, holds_true}
use Rattle.krb_replies.specs.Unseals.{suite_of_integer}
use Rattle.krb_requests.specs.Pieces.{Fits, sealed_data, sealed_under, principal as name_with, etypes}
use Rattle.krb_requests.specs.PaDatas.{pac_request, timestamp, enc_timestamp, plain_pa_datas, timed_pa_datas}
use Rattle.krb_requests.specs.Bodies.{as_req_with}
use Rattle.krb_laws_ends.proofs.HonestLemmas.{spells_itself, same_octets, suite_of_integer-number}
use Rattle.krb_kdc.specs.declared.kdc.Kdc.{Kdc}
use Rattle.krb_kdc.specs.declared.kdc.Principal.{Principal}
use Rattle.krb_kdc.specs.declared.request.Asked.TheVariants.{First}
use Rattle.krb_kdc.specs.Answering.{first_grant, Answers}
use Rattle.krb_kdc.specs.AsChecks.{granting_name, timestamp_type, FindsClient, IsTimestamp, ProvesTime}
use Rattle.krb_kdc.specs.Clocks.{is_near, ends_after}
use Rattle.krb_kdc.specs.Grants.{as_rep}
use Rattle.krb_kdc.specs.Refusals.{hint, refusal}
use Rattle.krb_kdc.specs.Registers.{same_text, principal_with}
use Rattle.krb_kdc.specs.Requests.{IsMessage, element_of, is_granting, granting, takes_suite}
use Rattle.krb_kdc.proofs.Lengths.{data_le, time_short}
use Rattle.krb_kdc.proofs.OnceLemmas.{answers_once}
use Rattle.krb_kdc.proofs.RequestLengths.{as_req_short}
use Rattle.krb_laws_kdc.specs.Asking.{AreNear, IsFairSkew, AsksFirst, client_with}
use Rattle.krb_laws_kdc.proofs.ClockLemmas.{till_after, near_passes, moment_is, microseconds_are}
use Rattle.krb_laws_ends.proofs.OctetsLemmas.{IsShort, IsOctets-time, short-nothing, short-append, short-tlv, short-field, short-more, short-word}

-- ---- what is written is read

-- a record after its length is read as that record
pub message_read : {A : Type 0} (layout : Layout A) (value : A) → IsSound layout.kind (layout.view value) → length (spelling layout value) + 4 ≤ 2 ^ 24
    → IsMessage layout (with_length (spelling layout value)) value
message_read layout value sound short = record {
  short = omega (arith, short);
  framed = omega arith;
  read = spells_itself layout value sound (omega (arith, short));
}

-- an AS-REQ is sound if its parts are
req_sound : (pa_datas : List PaData) (body : KdcReqBody) → IsSound (sequence_of pa_data) (map pa_data_row pa_datas) → IsSound kdc_req_body_layout.kind (kdc_req_body_layout.view body)
    → IsSound as_req_layout.kind (as_req_layout.view (as_req_with pa_datas body))
unfolding as_req as_req_row kdc_req kdc_req_row
req_sound pa_datas body elements sound = (lit< tt, (lit< tt, (elements, (sound, tt))))

wish_sound : IsSound pa_data (pa_data_row pac_request)
unfolding pac_request pa_data pa_data_row
wish_sound = (lit< tt, (tt, tt))

time_item_sound : (suite : CipherSuite) (key : List ℕ) (moment : ℕ) (confounder : List ℕ) → IsSound pa_data (pa_data_row (enc_timestamp suite key moment confounder))
unfolding enc_timestamp pa_data pa_data_row
time_item_sound suite key moment confounder = (lit< tt, (tt, tt))

-- ---- a time

is_second : (moment : ℕ) → moment ≤ last_moment → IsTime (pos (moment / 1000000))
is_second moment in_range = (omega (arith, ints), omega (arith, ints, in_range))

pub short-timestamp : (moment : ℕ) → moment ≤ last_moment → IsShort 64 (spelling pa_enc_ts_enc_layout (timestamp moment))
unfolding pa_enc_ts_enc pa_enc_ts_enc_row
short-timestamp moment in_range =
    short-more _ 64 _ (lit≤ tt) (short-tlv _ 0x30 _ (lit< tt) (lit< tt) (short-append _ _ _ _
    (short-field 15 0xa0 0x18 (time_octets (pos (moment / 1000000))) (lit< tt) (lit< tt) (lit< tt) (record { octets = IsOctets-time _ (is_second moment in_range); short = time_short _ }))
    (short-append _ _ _ _ (short-field 4 0xa1 0x02 (to_be_bytes w32 (moment % 1000000)) (lit< tt) (lit< tt) (lit< tt) (short-word _)) short-nothing)))

-- ---- the client is found

pub suite_taken : (suite : CipherSuite) → takes_suite suite etypes ≡ true
unfolding suite_of_integer
suite_taken Aes128CtsHmacSha196 = refl
suite_taken Aes256CtsHmacSha196 = refl

pub granting_is : (realm : List ℕ) → is_granting realm (name_with 2 (granting realm)) ≡ true
granting_is realm = same_octets realm

granted_name : (realm : List ℕ) → granting_name realm (Some (name_with 2 (granting realm))) ≡ Some (name_with 2 (granting realm))
granted_name realm = ap (λ (b : Bool). if b then Some (name_with 2 (granting realm)) else None) (granting_is realm)

module _ (kdc : Kdc) (name : PrincipalName) (principal : Principal) (moment : ℕ) (body : KdcReqBody) (asks : AsksFirst kdc name principal moment body)
    (fair : IsFairSkew kdc.skew) (draw : Draw) (near : AreNear kdc.skew moment draw.moment) where
  finds_client : FindsClient kdc draw.moment body (Ok (client_with kdc name principal))
  unfolding FindsClient
  finds_client =
      let service : PrincipalName = name_with 2 (granting kdc.realm) in
      follows _ _ tt _ (holds_true (Code 68) (same_text body.realm kdc.realm) (ap (λ r. same_text r kdc.realm) asks.realm ∙ same_octets kdc.realm))
      (follows _ _ name _ (takes_some (Code 6) body.cname name asks.named)
      (follows _ _ principal _ (takes_some (Code 6) (principal_with name.name_string kdc.principals) principal asks.known)
      (follows _ _ service _ (takes_some (Code 7) (granting_name kdc.realm body.sname) service (ap (granting_name kdc.realm) asks.service ∙ granted_name kdc.realm))
      (follows _ _ tt _ (holds_true (Code 14) (takes_suite kdc.suite body.etype) (ap (takes_suite kdc.suite) asks.etype ∙ suite_taken kdc.suite))
      (follows _ _ tt _ (holds_true (Code 11) (ends_after body.till draw.moment) (ap (λ t. ends_after t draw.moment) asks.till ∙ till_after kdc.skew moment draw.moment fair near))
      (gives (client_with kdc name principal)))))))

  -- the client's name is no longer than the request
  pub name_short : length (spelling as_req_layout (as_req_with plain_pa_datas body)) + 4 ≤ 2 ^ 24 → length (spelling principal_name_layout name) ≤ 2 ^ 24
  name_short short =
      let request : AsReq = as_req_with plain_pa_datas body in
      let read : IsMessage as_req_layout (with_length (spelling as_req_layout request)) request = message_read as_req_layout request (req_sound plain_pa_datas body (wish_sound, tt) asks.sound) short in
      let fits = (as_req_short (with_length (spelling as_req_layout request)) request read).body.cname in
      (subst (λ (n : Option PrincipalName). IfSome n (Fits principal_name_layout (2 ^ 24))) asks.named fits).short

  -- without pre-authentication
  proves_no_time : ProvesTime kdc draw.moment principal.key (Some plain_pa_datas) (Err (Code 25))
  unfolding ProvesTime pac_request
  proves_no_time = record { middle = Err (Code 25); held = record { is = refl }; rest = refl }

  pub asked_for_key : (reply : List ℕ) → length (spelling as_req_layout (as_req_with plain_pa_datas body)) + 4 ≤ 2 ^ 24
      → Answers kdc (with_length (spelling as_req_layout (as_req_with plain_pa_datas body))) draw reply
      → reply ≡ with_length (refusal kdc.realm draw 25 (Some (hint kdc.suite principal.salt)))
  asked_for_key reply short answers = answers_once kdc draw _ _ _ answers (record {
    message = refusal kdc.realm draw 25 (Some (hint kdc.suite principal.salt));
    replies = record {
      asked = Ok (First (as_req_with plain_pa_datas body));
      read = record { is = message_read as_req_layout (as_req_with plain_pa_datas body) (req_sound plain_pa_datas body (wish_sound, tt) asks.sound) short };
      answers = record { client = Ok (client_with kdc name principal); found = finds_client; answers = (Err (Code 25), proves_no_time, refl) };
    };
    framed = refl;
  })

  -- ---- with the time, sealed under the client's key
  module _ (later : ℕ) (confounder : List ℕ) (near_later : AreNear kdc.skew later draw.moment) (in_range : later ≤ last_moment)
      (size : length confounder ≡ 16) (octets : IsOctets confounder) where
    abbrev plain : List ℕ
    plain = spelling pa_enc_ts_enc_layout (timestamp later)

    short_plain : IsShort 64 plain
    short_plain = short-timestamp later in_range

    time_sound : IsSound pa_enc_ts_enc_layout.kind (pa_enc_ts_enc_layout.view (timestamp later))
    unfolding pa_enc_ts_enc pa_enc_ts_enc_row
    time_sound = (is_second later in_range, (lit< tt, tt))

    sealed_sound : (cipher : List ℕ) → IsSound encrypted_data_layout.kind (encrypted_data_layout.view (sealed_data kdc.suite cipher))
    unfolding encrypted_data encrypted_data_row
    sealed_sound cipher = (lit< tt, (tt, (tt, tt)))

    is_timestamp : length principal.key ≡ key_size kdc.suite → IsTimestamp kdc.suite principal.key (enc_timestamp kdc.suite principal.key later confounder).padata_value (pos later)
    unfolding enc_timestamp
    is_timestamp fits =
        let cipher : List ℕ = sealed kdc.suite principal.key 1 confounder plain in
        let sealed_in : IsSealed kdc.suite principal.key 1 cipher plain =
        is_sealed kdc.suite principal.key 1 confounder plain size (IsOctets-append confounder plain octets short_plain.octets) in
        let small : length plain ≤ 64 = short_plain.short in
        let long : length cipher ≤ 92 = omega (arith, small, plain_shorter kdc.suite principal.key 1 cipher plain sealed_in) in
        let whole : length (spelling encrypted_data_layout (sealed_data kdc.suite cipher)) ≤ 123 = data_le kdc.suite cipher 92 long in
        record {
          envelope = sealed_under kdc.suite principal.key 1 confounder plain;
          envelope_read = spells_itself encrypted_data_layout (sealed_data kdc.suite cipher) (sealed_sound cipher) (omega (arith, whole));
          part = timestamp later;
          opened = record {
            etype = suite_of_integer-number kdc.suite;
            plain = plain;
            unsealed = record { key_fits = fits; sealed = sealed_in };
            read = spells_itself pa_enc_ts_enc_layout (timestamp later) time_sound (omega (arith, small));
          };
          microseconds = pos (later % 1000000);
          counted = microseconds_are later;
          time_is = sym (moment_is later);
        }

    first_is : ◌≡◌ {A = Result PaData Cause} (Ok (enc_timestamp kdc.suite principal.key later confounder))
        (ok_or (Code 25) (element_of timestamp_type (Some (timed_pa_datas kdc.suite principal.key later confounder))))
    unfolding enc_timestamp
    first_is = refl

    proves_time : length principal.key ≡ key_size kdc.suite
        → ProvesTime kdc draw.moment principal.key (Some (timed_pa_datas kdc.suite principal.key later confounder)) (Ok tt)
    unfolding ProvesTime
    proves_time fits =
        follows _ _ (enc_timestamp kdc.suite principal.key later confounder) _ (record { is = first_is })
        (follows _ _ (pos later) _ (record { is = is_timestamp fits }) (holds_true (Code 37) (is_near kdc.skew draw.moment (pos later)) (near_passes kdc.skew later draw.moment near_later)))

    pub granted_ticket : (reply : List ℕ) → length principal.key ≡ key_size kdc.suite
        → length (spelling as_req_layout (as_req_with (timed_pa_datas kdc.suite principal.key later confounder) body)) + 4 ≤ 2 ^ 24
        → Answers kdc (with_length (spelling as_req_layout (as_req_with (timed_pa_datas kdc.suite principal.key later confounder) body))) draw reply
        → reply ≡ with_length (spelling as_rep_layout (as_rep kdc.suite kdc.realm draw body.nonce principal.key (first_grant kdc draw.moment body (client_with kdc name principal))))
    granted_ticket reply fits short answers =
        let pa_datas : List PaData = timed_pa_datas kdc.suite principal.key later confounder in
        answers_once kdc draw _ _ _ answers (record {
          message = spelling as_rep_layout (as_rep kdc.suite kdc.realm draw body.nonce principal.key (first_grant kdc draw.moment body (client_with kdc name principal)));
          replies = record {
            asked = Ok (First (as_req_with pa_datas body));
            read = record { is = message_read as_req_layout (as_req_with pa_datas body) (req_sound pa_datas body (time_item_sound kdc.suite principal.key later confounder, (wish_sound, tt)) asks.sound) short };
            answers = record { client = Ok (client_with kdc name principal); found = finds_client; answers = (Ok tt, proves_time fits, refl) };
          };
          framed = refl;
        })
