-- The lengths of the records of a client's requests.
use Rattle.std.proofs.Common.{◌≡◌, ℕ, suc, ◌+◌, ◌*◌, ◌<◌, ◌≤◌, ◌^◌, ℤ, true, Bool, false, List, [], ◌∷◌, length, map, sym, ap, ◌∙◌, subst, arith, lit≤, lit<, length-append}
use Rattle.std.specs.Prelude.{cond, ◌==◌, Some, None, Result, Ok, if◌then◌else◌}
use Rattle.sspi_core.specs.declared.cause.Cause.{Cause}
use Rattle.sspi_core.specs.declared.cause.Cause.TheVariants.{NotAscii}
use Rattle.sspi_core.specs.Checks.{Answers, Takes, Gives}
use Rattle.krb_context.specs.ServiceKeys.{all_ascii}
use Rattle.std.specs.List.{onto_first, AllByRecursion}
use Rattle.krb_der.specs.Der.{tlv}
use Rattle.krb_der.specs.Moment.{time_octets}
use Rattle.krb_der.specs.Schema.{IsComplete, contents, tag_of, is_ascii}
use Rattle.krb_der.specs.Layout.{items_layout, spelling}
use Rattle.krb_der.proofs.Lengths.{tlv_le, field_le, append_le, contents_shorter}
use Rattle.krb_crypto.specs.declared.suite.CipherSuite.{CipherSuite}
use Rattle.krb_messages.specs.Table.{encrypted_data, principal_name, host_address}
use Rattle.krb_messages.specs.Layouts.{encrypted_data_row, encrypted_data_layout, principal_name_row, principal_name_layout, host_address_row}
use Rattle.krb_messages.specs.declared.encryption.EncryptedData.{EncryptedData}
use Rattle.krb_messages.specs.declared.principal_name.PrincipalName.{PrincipalName}
use Rattle.krb_exchange.specs.Table.{tgt_req as tgt_req_kind, pa_data, pa_enc_ts_enc, kerb_pa_pac_request, kdc_req, kdc_req_body, as_req}
use Rattle.krb_exchange.specs.Layouts.{pa_data_row, pa_data_layout, pa_enc_ts_enc_row, pa_enc_ts_enc_layout, kerb_pa_pac_request_row, kerb_pa_pac_request_layout, kdc_req_row, as_req_row, as_req_layout, kdc_req_body_row, kdc_req_body_layout, tgt_req_row, tgt_req_layout}
use Rattle.krb_exchange.specs.declared.pa_data.PaData.{PaData}
use Rattle.krb_exchange.specs.declared.pa_data.PaEncTsEnc.{PaEncTsEnc}
use Rattle.krb_exchange.specs.declared.kdc_req.KdcReqBody.{KdcReqBody}
use Rattle.krb_exchange.specs.declared.user_to_user.TgtReq.{TgtReq}
use Rattle.krb_requests.specs.Pieces.{sealed_data, name_of, principal, principal_of, Fits}
use Rattle.krb_requests.specs.PaDatas.{pac_request, enc_timestamp, timestamp, plain_pa_datas, timed_pa_datas}
use Rattle.krb_requests.specs.declared.options.GenerateAsReqOptions.{GenerateAsReqOptions}
use Rattle.krb_requests.specs.Bodies.{tgt_req, as_req_with, as_req_body, component_octets, user_components, AreShort}

le_trans : (a b c : ℕ) → a ≤ b → b ≤ c → a ≤ c
le_trans a b c h k = omega arith

le_refl : (a : ℕ) → a ≤ a
le_refl a = omega arith

same_ok : {A : Type 0} (x y : A) → ◌≡◌ {A = Result A Cause} (Ok x) (Ok y) → x ≡ y
same_ok x y e = cc

time_short : (seconds : ℤ) → length (time_octets seconds) ≤ 15
unfolding time_octets
time_short seconds = lit≤ tt

-- the request for a PAC
pub wish_complete : IsComplete kerb_pa_pac_request (kerb_pa_pac_request_layout.view (record { include_pac = true }))
unfolding kerb_pa_pac_request kerb_pa_pac_request_row
wish_complete = (tt, tt)

pub wish_short : length (spelling kerb_pa_pac_request_layout (record { include_pac = true })) ≤ 32
unfolding kerb_pa_pac_request kerb_pa_pac_request_row
wish_short = le_trans _ _ _ (tlv_le 0x30 _ _ (append_le _ [] _ 0 (field_le 0xa0 0x01 _ 1 (lit≤ tt)) (lit≤ tt))) (lit≤ tt)

-- the time
pub time_complete : (moment : ℕ) → IsComplete pa_enc_ts_enc (pa_enc_ts_enc_layout.view (timestamp moment))
unfolding pa_enc_ts_enc pa_enc_ts_enc_row
time_complete moment = (tt, (lit< tt, tt))

pub time_le : (moment : ℕ) → length (spelling pa_enc_ts_enc_layout (timestamp moment)) ≤ 64
unfolding pa_enc_ts_enc pa_enc_ts_enc_row
time_le moment =
    le_trans _ _ _ (tlv_le 0x30 _ _ (append_le _ _ _ _ (field_le 0xa0 0x18 (time_octets _) 15 (time_short _)) (append_le _ [] _ 0 (field_le 0xa1 0x02 _ 4 (lit≤ tt)) (lit≤ tt)))) (lit≤ tt)

-- the encrypted time
pub sealed_complete : (suite : CipherSuite) (cipher : List ℕ) → IsComplete encrypted_data (encrypted_data_layout.view (sealed_data suite cipher))
unfolding encrypted_data encrypted_data_row
sealed_complete suite cipher = (lit< tt, (tt, (tt, tt)))

pub sealed_le : (suite : CipherSuite) (cipher : List ℕ) → length cipher ≤ 128 → length (spelling encrypted_data_layout (sealed_data suite cipher)) ≤ 512
unfolding encrypted_data encrypted_data_row
sealed_le suite cipher h =
    le_trans _ _ _ (tlv_le 0x30 _ _ (append_le _ _ _ _ (field_le 0xa0 0x02 _ 1 (lit≤ tt)) (append_le [] _ 0 _ (lit≤ tt) (append_le _ [] _ 0 (field_le 0xa2 0x04 cipher 128 h) (lit≤ tt))))) (lit≤ tt)

pub sealed_as : (suite : CipherSuite) (cipher : List ℕ) (made : EncryptedData) → made ≡ sealed_data suite cipher → length made.cipher ≤ 128 → length (spelling encrypted_data_layout made) ≤ 512
sealed_as suite cipher made e h =
    subst (λ (d : EncryptedData). length (spelling encrypted_data_layout d) ≤ 512) (sym e) (sealed_le suite cipher (subst (λ (d : EncryptedData). length d.cipher ≤ 128) e h))

pub sealed_below : (suite : CipherSuite) (cipher : List ℕ) (made : EncryptedData) → made ≡ sealed_data suite cipher → length made.cipher ≤ 128 → length (spelling encrypted_data_layout made) < 2 ^ 31
sealed_below suite cipher made e h = let k = sealed_as suite cipher made e h in omega (arith, k)

pub sealed_whole : (suite : CipherSuite) (cipher : List ℕ) (made : EncryptedData) → made ≡ sealed_data suite cipher → IsComplete encrypted_data (encrypted_data_layout.view made)
sealed_whole suite cipher made e = subst (λ (d : EncryptedData). IsComplete encrypted_data (encrypted_data_layout.view d)) (sym e) (sealed_complete suite cipher)

pub cipher_le : (moment n : ℕ) (time : PaEncTsEnc) (plain : List ℕ) → time ≡ timestamp moment → plain ≡ spelling pa_enc_ts_enc_layout time → n ≡ length plain + 28 → n ≤ 128
cipher_le moment n time plain e f longer =
    let k : length plain ≤ 64 = subst (λ (p : List ℕ). length p ≤ 64) (sym (f ∙ ap (λ (t : PaEncTsEnc). spelling pa_enc_ts_enc_layout t) e)) (time_le moment) in
    omega (arith, k, longer)

-- an element of pre-authentication with a type of one or two octets
abbrev pub item : PaData → List ℕ
item made = tlv (tag_of pa_data) (contents pa_data (pa_data_row made))

pub item_le : (made : PaData) → length made.padata_type ≤ 2 → length made.padata_value ≤ 512 → length (item made) ≤ 1024
unfolding pa_data pa_data_row
item_le made h k =
    le_trans _ _ _ (tlv_le 0x30 _ _ (append_le _ _ _ _ (field_le 0xa1 0x02 _ 2 h) (append_le _ [] _ 0 (field_le 0xa2 0x04 _ 512 k) (lit≤ tt)))) (lit≤ tt)

wish_item_complete : IsComplete pa_data (pa_data_row pac_request)
unfolding pac_request pa_data pa_data_row
wish_item_complete = (lit< tt, (tt, tt))

time_item_complete : (suite : CipherSuite) (key : List ℕ) (moment : ℕ) (confounder : List ℕ) → IsComplete pa_data (pa_data_row (enc_timestamp suite key moment confounder))
unfolding enc_timestamp pa_data pa_data_row
time_item_complete suite key moment confounder = (lit< tt, (tt, tt))

wish_item_le : length (item pac_request) ≤ 1024
unfolding pac_request
wish_item_le = item_le _ (lit≤ tt) (let k = wish_short in omega (arith, k))

time_item_le : (suite : CipherSuite) (key : List ℕ) (moment : ℕ) (confounder : List ℕ) → length (enc_timestamp suite key moment confounder).padata_value ≤ 512 → length (item (enc_timestamp suite key moment confounder)) ≤ 1024
unfolding enc_timestamp
time_item_le suite key moment confounder h = item_le _ (lit≤ tt) h

-- the pre-authentication of an AS-REQ
pub plain_fits : Fits (items_layout pa_data_layout) (2 ^ 12) plain_pa_datas
plain_fits = record {
  complete = (wish_item_complete, tt);
  short = le_trans _ _ _ (tlv_le 0x30 _ _ (append_le _ [] _ 0 wish_item_le (lit≤ tt))) (lit≤ tt);
}

pub timed_fits : (suite : CipherSuite) (key : List ℕ) (moment : ℕ) (confounder : List ℕ) → length (enc_timestamp suite key moment confounder).padata_value ≤ 512
    → Fits (items_layout pa_data_layout) (2 ^ 12) (timed_pa_datas suite key moment confounder)
timed_fits suite key moment confounder h = record {
  complete = (time_item_complete suite key moment confounder, (wish_item_complete, tt));
  short = le_trans _ _ _ (tlv_le 0x30 _ _ (append_le _ _ _ _ (time_item_le suite key moment confounder h) (append_le _ [] _ 0 wish_item_le (lit≤ tt)))) (lit≤ tt);
}

-- the whole request
pub request_fits : (pa_datas : List PaData) (body : KdcReqBody) → Fits (items_layout pa_data_layout) (2 ^ 24) pa_datas → Fits kdc_req_body_layout (2 ^ 28) body
    → Fits as_req_layout (2 ^ 29) (as_req_with pa_datas body)
unfolding as_req as_req_row kdc_req kdc_req_row
request_fits pa_datas body h k = record {
  complete = (lit< tt, (lit< tt, (h.complete, (k.complete, tt))));
  short =
      le_trans _ _ _ (field_le 0x6a 0x30 _ _ (append_le _ _ _ _ (field_le 0xa1 0x02 _ 1 (lit≤ tt))
      (append_le _ _ _ _ (field_le 0xa2 0x02 _ 1 (lit≤ tt))
      (append_le _ _ _ _ (tlv_le 0xa3 _ _ h.short)
      (append_le _ [] _ 0 (tlv_le 0xa4 _ _ k.short) (lit≤ tt)))))) (lit≤ tt);
}

-- a name with these components
pub principal_complete : (name_type : ℕ) (components : List (List ℕ)) → IsComplete principal_name (principal_name_row (principal name_type components))
unfolding principal_name principal_name_row
principal_complete name_type components = (lit< tt, (all_complete components, tt))
  where
    all_complete : (components : List (List ℕ)) → AllByRecursion (λ component. Unit {0}) components
    all_complete [] = tt
    all_complete (component ∷ components) = (tt, all_complete components)

pub principal_le : (name_type : ℕ) (components : List (List ℕ)) (n : ℕ) → length (component_octets components) ≤ n
    → length (spelling principal_name_layout (principal name_type components)) ≤ n + 64
unfolding principal_name principal_name_row
principal_le name_type components n h =
    le_trans _ _ _ (tlv_le 0x30 _ _ (append_le _ _ _ _ (field_le 0xa0 0x02 _ 1 (lit≤ tt)) (append_le _ [] _ 0 (field_le 0xa1 0x30 _ n h) (lit≤ tt)))) (omega arith)

-- the components of a name that is cut
onto_le : (x : ℕ) (components : List (List ℕ)) (n : ℕ) → length (component_octets components) ≤ n → length (component_octets (onto_first x components)) ≤ n + 7
onto_le x [] n h = omega (arith, append_le (tlv 0x1b (x ∷ [])) [] 7 0 (tlv_le 0x1b (x ∷ []) 1 (lit≤ tt)) (lit≤ tt))
onto_le x (component ∷ components) n h =
    omega (
      arith,
      h,
      tlv_le 0x1b (x ∷ component) (suc (length component)) (le_refl _),
      contents_shorter 0x1b component,
      length-append (tlv 0x1b (x ∷ component)) (component_octets components),
      length-append (tlv 0x1b component) (component_octets components),
    )

cut_or_go : (b : Bool) (x : ℕ) (components : List (List ℕ)) (n : ℕ) → length (component_octets components) ≤ n
    → length (component_octets (cond b ([] ∷ components) (onto_first x components))) ≤ n + 7
cut_or_go true x components n h = omega (arith, append_le (tlv 0x1b []) (component_octets components) 6 n (tlv_le 0x1b [] 0 (lit≤ tt)) h)
cut_or_go false x components n h = onto_le x components n h

pub cut_le : (text : List ℕ) → length (component_octets (user_components text)) ≤ 7 * length text + 6
cut_le [] = append_le (tlv 0x1b []) [] 6 0 (tlv_le 0x1b [] 0 (lit≤ tt)) (lit≤ tt)
cut_le (x ∷ text) = omega (arith, cut_or_go (x == 0x2f) x (user_components text) (7 * length text + 6) (cut_le text))

module _ (options : GenerateAsReqOptions) (moment : ℕ) (four : length options.nonce ≡ 4) (short : AreShort options) where
  abbrev cname : PrincipalName
  cname = principal options.cname_type (user_components options.username.now)

  abbrev sname : PrincipalName
  sname = principal 2 (map (λ part. part.now) options.snames.now)

  abbrev body : KdcReqBody
  body = as_req_body options moment options.realm.now cname sname options.hostname.now

  body_complete : IsComplete kdc_req_body (kdc_req_body_row body)
  unfolding as_req_body kdc_req_body kdc_req_body_row host_address host_address_row
  body_complete =
      (lit≤ tt, (principal_complete _ _, (tt, (principal_complete _ _, (tt, (tt, (tt, (omega (arith, four), ((lit< tt, (lit< tt, tt)), (((lit< tt, (tt, tt)), tt), (tt, (tt, tt))))))))))))

  cname_le : length (component_octets (user_components options.username.now)) ≤ 2 ^ 27
  cname_le = omega (arith, cut_le options.username.now, short.username)

  address_le : length (tlv (tag_of host_address) (contents host_address (host_address_row (record { addr_type = 0x14 ∷ []; address = options.hostname.now })))) ≤ 2 ^ 24 + 64
  unfolding host_address host_address_row
  address_le =
      le_trans _ _ _ (tlv_le 0x30 _ _ (append_le _ _ _ _ (field_le 0xa0 0x02 _ 1 (lit≤ tt)) (append_le _ [] _ 0 (field_le 0xa1 0x04 _ _ short.hostname) (lit≤ tt)))) (lit≤ tt)

  body_le : length (spelling kdc_req_body_layout body) ≤ 2 ^ 28
  unfolding as_req_body kdc_req_body kdc_req_body_row
  body_le =
      le_trans _ _ _ (tlv_le 0x30 _ _ (append_le _ _ _ _ (field_le 0xa0 0x03 _ 5 (lit≤ tt))
      (append_le _ _ _ _ (tlv_le 0xa1 _ _ (principal_le _ _ _ cname_le))
      (append_le _ _ _ _ (field_le 0xa2 0x1b _ _ short.realm)
      (append_le _ _ _ _ (tlv_le 0xa3 _ _ (principal_le _ _ _ short.snames))
      (append_le [] _ 0 _ (lit≤ tt)
      (append_le _ _ _ _ (field_le 0xa5 0x18 (time_octets _) 15 (time_short _))
      (append_le _ _ _ _ (field_le 0xa6 0x18 (time_octets _) 15 (time_short _))
      (append_le _ _ _ _ (field_le 0xa7 0x02 _ 4 (omega (arith, four)))
      (append_le _ _ _ _ (field_le 0xa8 0x30 _ 14 (append_le _ _ 7 7 (tlv_le 0x02 _ 1 (lit≤ tt)) (append_le _ [] 7 0 (tlv_le 0x02 _ 1 (lit≤ tt)) (lit≤ tt))))
      (append_le _ _ _ _ (field_le 0xa9 0x30 _ _ (append_le _ [] _ 0 address_le (lit≤ tt)))
      (append_le [] [] 0 0 (lit≤ tt) (lit≤ tt))))))))))))) (lit≤ tt)

  pub body_fits : Fits kdc_req_body_layout (2 ^ 28) body
  body_fits = record { complete = body_complete; short = body_le }

-- the names in a body are the names of the options
named : (b : Bool) (text name : List ℕ) → Takes NotAscii (if b then Some text else None) (Ok name) → name ≡ text
named true text name h = same_ok name text h.is
named false text name h = let e = h.is in absurd cc

pub name_is : (text name : List ℕ) → Answers (Takes NotAscii (name_of text)) (Ok name) → name ≡ text
name_is text name h = named (is_ascii text) text name (h.so (λ z. absurd cc))

called : (b : Bool) (asked name : PrincipalName) → Takes NotAscii (if b then Some asked else None) (Ok name) → name ≡ asked
called true asked name h = same_ok name asked h.is
called false asked name h = let e = h.is in absurd cc

pub principal_is : (name_type : ℕ) (components : List (List ℕ)) (name : PrincipalName) → Answers (Takes NotAscii (principal_of name_type components)) (Ok name) → name ≡ principal name_type components
principal_is name_type components name h = called (all_ascii components) (principal name_type components) name (h.so (λ z. absurd cc))

pub body_is : (options : GenerateAsReqOptions) (moment : ℕ) (realm : List ℕ) (cname sname : PrincipalName) (host : List ℕ) (made : KdcReqBody)
    → length options.nonce ≡ 4 → realm ≡ options.realm.now → cname ≡ principal options.cname_type (user_components options.username.now)
    → sname ≡ principal 2 (map (λ part. part.now) options.snames.now) → host ≡ options.hostname.now
    → Answers (Gives (as_req_body options moment realm cname sname host)) (Ok made) → AreShort options → Fits kdc_req_body_layout (2 ^ 28) made
body_is options moment realm cname sname host made four er ec es eh given short =
    let same : made ≡ as_req_body options moment realm cname sname host = same_ok made _ (given.so (λ z. absurd cc)).is in
    rw (same, er, ec, es, eh) (body_fits options moment four short)

-- a TGT-REQ
tgt_req_fits : (components : List (List ℕ)) → length (component_octets components) ≤ 2 ^ 24 → Fits tgt_req_layout (2 ^ 25) (tgt_req (principal 2 components))
unfolding tgt_req_kind tgt_req_row
tgt_req_fits components h = record {
  complete = (lit< tt, (lit< tt, (principal_complete 2 components, tt)));
  short =
      le_trans _ _ _ (tlv_le 0x30 _ _ (append_le _ _ _ _ (field_le 0xa0 0x02 _ 1 (lit≤ tt)) (append_le _ _ _ _ (field_le 0xa1 0x02 _ 1 (lit≤ tt))
      (append_le _ [] _ 0 (tlv_le 0xa2 _ _ (principal_le _ _ _ h)) (lit≤ tt))))) (lit≤ tt);
}

pub tgt_req_is : (components : List (List ℕ)) (server_name : PrincipalName) (made : TgtReq) → server_name ≡ principal 2 components
    → Answers (Gives (tgt_req server_name)) (Ok made) → length (component_octets components) ≤ 2 ^ 24 → Fits tgt_req_layout (2 ^ 25) made
tgt_req_is components server_name made e given h =
    let same : made ≡ tgt_req server_name = same_ok made _ (given.so (λ z. absurd cc)).is in
    rw (same, e) (tgt_req_fits components h)
