-- The AP-REQ to a service: what its authenticator is made of, and how long it and its token can be.
use Rattle.std.proofs.Common.{◌≡◌, ℕ, ◌+◌, ◌<◌, ◌≤◌, ◌^◌, List, [], ◌∷◌, ◌++◌, length, Option, Some, Result, Ok, Err, IfOk, arith, lit≤, refl, sym, ◌∙◌, subst}
use Rattle.krb_der.specs.Der.{tlv}
use Rattle.krb_der.specs.Schema.{Spells}
use Rattle.krb_der.specs.declared.memory.OutOfMemory.{OutOfMemory}
use Rattle.krb_der.proofs.Lengths.{tlv_le, append_le}
use Rattle.krb_crypto.specs.declared.suite.CipherSuite.{CipherSuite}
use Rattle.krb_messages.specs.Layouts.{ap_req_layout}
use Rattle.krb_messages.specs.declared.ap_req.ApReq.{ApReq}
use Rattle.krb_messages.specs.declared.authenticator.Authenticator.{Authenticator}
use Rattle.krb_exchange.specs.declared.kdc_rep.KdcRep.{KdcRep}
use Rattle.sspi_core.specs.declared.bindings.ChannelBindings.{ChannelBindings}
use Rattle.krb_requests.specs.Pieces.{Fits}
use Rattle.krb_authenticators.specs.declared.options.ChecksumOptions.{ChecksumOptions}
use Rattle.krb_authenticators.specs.Authenticators.{authenticator}

-- the message in a frame, after the mechanism's name
pub framed_short : (mechanism oid message : List ℕ) → oid ≡ mechanism → length mechanism ≤ 2 ^ 24 → length message ≤ 2 ^ 28 → length (tlv 0x06 oid ++ ((1 ∷ 0 ∷ []) ++ message)) < 2 ^ 31
framed_short mechanism oid message e h k =
    let name : length oid ≤ 2 ^ 24 = subst (λ (o : List ℕ). length o ≤ 2 ^ 24) (sym e) h in
    omega (arith, append_le (tlv 0x06 oid) ((1 ∷ 0 ∷ []) ++ message) _ (2 + 2 ^ 28) (tlv_le 0x06 oid (2 ^ 24) name) (append_le (1 ∷ 0 ∷ []) message 2 (2 ^ 28) (lit≤ tt) k))

-- the octets of an AP-REQ
pub written_short : (request : ApReq) (written : Result (List ℕ) OutOfMemory) → Fits ap_req_layout (2 ^ 28) request
    → IfOk written (λ octets. Spells ap_req_layout.kind (ap_req_layout.view request) octets) → IfOk written (λ octets. length octets ≤ 2 ^ 28)
written_short request (Ok octets) h s = subst (λ (o : List ℕ). length o ≤ 2 ^ 28) (sym s.is) h.short
written_short request (Err z) h s = tt

-- an authenticator of equal parts
pub same_authenticator : (rep : KdcRep) (number : ℕ) (suite : CipherSuite) (key drawn : List ℕ) (options wanted : ChecksumOptions) (bound bindings : Option ChannelBindings) (moment : ℕ) (made : Authenticator)
    → key ≡ drawn → options ≡ wanted → bound ≡ bindings → made ≡ authenticator rep (Some number) (Some (record { key_type = suite; key_value = key })) (Some options) bound moment
    → made ≡ authenticator rep (Some number) (Some (record { key_type = suite; key_value = drawn })) (Some wanted) bindings moment
same_authenticator rep number suite key drawn options wanted bound bindings moment made ek eo eb h = h ∙ rw (ek, eo, eb) refl
