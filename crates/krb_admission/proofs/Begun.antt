-- Facts about a request that passed the checks before the gate.
use Rattle.std.proofs.Common.{◌≡◌, ℕ, ◌<◌, ◌≤◌, ◌^◌, ◌==◌, nat_le, Bool, true, false, IsTrue, List, ◌++◌, length, Some, Result, Ok, Err, refl, sym, ap, subst, arith, length-append}
use Rattle.std.proofs.lemmas.Bool.Decides.{nat_tests}
use Rattle.krb_der.specs.Der.{tlv}
use Rattle.krb_der.specs.Schema.{contents, tag_of}
use Rattle.krb_der.specs.Layout.{Layout}
use Rattle.krb_der.proofs.Lengths.{length-tlv}
use Rattle.krb_messages.specs.Table.{ap_req, authenticator as authenticator_kind, encrypted_data}
use Rattle.krb_messages.specs.Layouts.{ap_req_layout, ap_req_row, authenticator_layout, authenticator_row, encrypted_data_row}
use Rattle.krb_messages.specs.declared.ap_req.ApReq.{ApReq}
use Rattle.krb_messages.specs.declared.encryption.EncryptedData.{EncryptedData}
use Rattle.krb_messages.specs.declared.authenticator.Authenticator.{Authenticator}
use Rattle.krb_messages.specs.Frame.{IsFrame}
use Rattle.krb_crypto.specs.Suite.{key_size}
use Rattle.krb_crypto.specs.Sealed.{IsSealed}
use Rattle.krb_crypto.specs.declared.suite.CipherSuite.{CipherSuite}
use Rattle.krb_crypto.proofs.SealedLemmas.{plain_shorter}
use Rattle.krb_context.specs.States.{is_waiting}
use Rattle.krb_context.specs.declared.context.Kerberos.{Kerberos}
use Rattle.krb_context.specs.declared.rules.Rules.{Rules}
use Rattle.krb_context.specs.declared.server.ServerProperties.{ServerProperties}
use Rattle.sspi_core.specs.declared.cause.Cause.{Cause}
use Rattle.sspi_core.specs.Checks.{Holds, Goes, Then}
use Rattle.sspi_core.proofs.Chain.{held, took}
use Rattle.krb_admission.specs.declared.request.Request.{Request}
use Rattle.krb_replies.specs.Unseals.{IsRead, Unseals, OpensSealed, OpensData}
use Rattle.krb_admission.specs.Tokens.{ap_req_id, IsApReq, ReceivesApReq}
use Rattle.krb_admission.specs.Requests.{OpensAuthenticator, Requests}
use Rattle.krb_admission.specs.Allowed.{Allows}
use Rattle.krb_admission.specs.Admission.{IsAnswerable}
use Rattle.krb_admission.specs.Accepts.{BeginsAdmission}

-- both checks passed
pub record Passed {A B : Type 0} (first : Result A Cause → Type 0) (next : A → Result B Cause → Type 0) (value : B) : Type 0 where
  pub found : A
  pub held : first (Ok found)
  pub rest : next found (Ok value)

pub passed : {A B : Type 0} (first : Result A Cause → Type 0) (next : A → Result B Cause → Type 0) (value : B) → Then first next (Ok value) → Passed first next value
passed {A} {B} first next value h = go h.middle h.held h.rest
  where
    go : (m : Result A Cause) → first m → Goes next m (Ok value) → Passed first next value
    go (Ok a) p q = record { found = a; held = p; rest = q }
    go (Err e) p q = absurd cc

same_ok : {A : Type 0} (x y : A) → ◌≡◌ {A = Result A Cause} (Ok x) (Ok y) → x ≡ y
same_ok x y h = cc

-- what was opened
pub record Opened {A : Type 0} (layout : Layout A) (key : List ℕ) (usage : ℕ) (part : EncryptedData) (suite : CipherSuite) (value : A) : Type 0 where
  pub fits : length key ≡ key_size suite
  pub plain : List ℕ
  pub sealed : IsSealed suite key usage part.cipher plain
  pub read : IsRead layout plain value

is_key : (key : List ℕ) (suite : CipherSuite) → IsTrue (length key == key_size suite) → length key ≡ key_size suite
is_key key suite h = grind (arith, nat_tests)

pub opened : {A : Type 0} (layout : Layout A) (key : List ℕ) (usage : ℕ) (part : EncryptedData) (x : CipherSuite × A) → OpensData layout key usage part (Ok x) → Opened layout key usage part x.0 x.1
unfolding OpensData OpensSealed Unseals
opened {A} layout key usage part x h =
    let a = passed _ _ _ h in
    let b = passed _ _ _ a.rest in
    let c = passed _ _ _ b.held in
    let u = passed _ _ _ c.held in
    let v = passed _ _ _ u.rest in
    let e : x ≡ (a.found, b.found) = same_ok _ _ b.rest.is in
    subst (λ (y : CipherSuite × A). Opened layout key usage part y.0 y.1) (sym e) (record {
      fits = is_key key a.found (held _ _ _ u.held);
      plain = c.found;
      sealed = v.rest.is;
      read = c.rest.is;
    })

is_short : (token : List ℕ) → IsTrue (nat_le (length token) 16777216) → length token ≤ 2 ^ 24
is_short token h = grind (arith, nat_tests)

-- the octets of an AP-REQ, which are no longer than its token
pub record Received (message : ApReq) : Type 0 where
  pub octets : List ℕ
  pub read : IsRead ap_req_layout octets message
  pub short : length octets ≤ 2 ^ 24

message_within : (oid token_id message octets : List ℕ) → IsFrame oid token_id message octets → length message ≤ length octets
message_within oid token_id message octets frame =
    let e = ap (length {A = ℕ}) frame.is.is in
    omega (arith, e, length-tlv 0x60 (tlv 0x06 oid ++ (token_id ++ message)), length-append (tlv 0x06 oid) (token_id ++ message), length-append token_id message)

received_in : (dce : Bool) (token : List ℕ) (message : ApReq) → length token ≤ 2 ^ 24 → IsApReq dce token message → Received message
received_in true token message short is = record { octets = token; read = is; short = short }
received_in false token message short is = record { octets = is.octets; read = is.read; short = omega (arith, short, message_within is.oid ap_req_id is.octets token is.frame) }

pub received : (dce : Bool) (token : List ℕ) (message : ApReq) → ReceivesApReq dce token (Ok message) → Received message
unfolding ReceivesApReq
received dce token message h =
    let a = passed _ _ _ h in
    received_in dce token message (is_short token (held _ _ _ a.held)) a.rest.is

-- a request that came to the gate
pub record Begun (request : Request) : Type 0 where
  pub received : Received request.message
  pub opened : Opened authenticator_layout request.part.key.key_value 11 request.message.authenticator request.suite request.authenticator

requested : (rules : Rules) (server : ServerProperties) (dce : Bool) (token : List ℕ) (request : Request) → Requests rules server dce token (Ok request) → Begun request
unfolding Requests OpensAuthenticator
requested rules server dce token request h =
    let m = passed _ _ _ h in
    let t = passed _ _ _ m.rest in
    let s = passed _ _ _ t.rest in
    let u = passed _ _ _ s.held in
    let v = passed _ _ _ u.rest in
    let e = same_ok _ _ s.rest.is in
    let same = same_ok _ _ v.rest.is in
    subst (λ (q : Request). Begun q) (sym e) (record {
      received = received dce token m.found m.held;
      opened = subst (λ (x : CipherSuite × Authenticator). Opened authenticator_layout t.found.key.key_value 11 m.found.authenticator x.0 x.1) (sym same) (opened _ _ _ _ _ u.held);
    })

-- the request that came to the gate is that of the token, and the rules allow it
pub record Allowed (server : Kerberos) (dce : Bool) (token : List ℕ) (request : Request) : Type 0 where
  pub waits : is_waiting server.state ≡ true
  pub properties : ServerProperties
  pub has : server.server ≡ Some properties
  pub requests : Requests server.rules properties dce token (Ok request)
  pub done : Unit {0}
  pub allows : Allows server request (Ok done)

held_true : (cause : Cause) (test : Bool) (u : Unit {0}) → Holds cause test (Ok u) → test ≡ true
held_true cause true u h = refl
held_true cause false u h = let e = h.is in absurd cc

pub allowed : (server : Kerberos) (dce : Bool) (token : List ℕ) (request : Request) → BeginsAdmission server dce token (Ok request) → Allowed server dce token request
unfolding BeginsAdmission
allowed server dce token request h =
    let w = passed _ _ _ h in
    let p = passed _ _ _ w.rest in
    let r = passed _ _ _ p.rest in
    let a = passed _ _ _ r.rest in
    let e : request ≡ r.found = same_ok _ _ a.rest.is in
    subst (λ (q : Request). Allowed server dce token q) (sym e)
    (record { waits = held_true _ _ _ w.held; properties = p.found; has = took _ _ _ p.held; requests = r.held; done = a.found; allows = a.held })

pub begun : (server : Kerberos) (dce : Bool) (token : List ℕ) (request : Request) → BeginsAdmission server dce token (Ok request) → Begun request
begun server dce token request h = let a = allowed server dce token request h in requested server.rules a.properties dce token request a.requests

-- ---- lengths

cipher_within : (m : ApReq) → length m.authenticator.cipher ≤ length (tlv (tag_of ap_req) (contents ap_req (ap_req_row m)))
unfolding ap_req ap_req_row encrypted_data encrypted_data_row
cipher_within m = simp (length-tlv, length-append) (omega arith)

cusec_within : (a : Authenticator) → length a.cusec ≤ length (tlv (tag_of authenticator_kind) (contents authenticator_kind (authenticator_row a)))
unfolding authenticator_kind authenticator_row
cusec_within a = omega (arith, length-tlv, length-append {A = ℕ})

some_cusec : (a : Authenticator) (plain : List ℕ) → IsRead authenticator_layout plain a → 0 < length a.cusec
unfolding authenticator_kind authenticator_row
some_cusec a plain h = h.sound.1.1.1.1.0

pub begun_answerable : (request : Request) → Begun request → IsAnswerable request
begun_answerable request h =
    let a = cusec_within request.authenticator in
    let b = ap (length {A = ℕ}) h.opened.read.is in
    let c = plain_shorter request.suite request.part.key.key_value 11 request.message.authenticator.cipher h.opened.plain h.opened.sealed in
    let d = cipher_within request.message in
    let e = ap (length {A = ℕ}) h.received.read.is in
    record { fits = h.opened.fits; some = some_cusec request.authenticator h.opened.plain h.opened.read; short = omega (arith, h.received.short, a, b, c, d, e) }
