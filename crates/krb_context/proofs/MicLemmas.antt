-- A MIC token is the other side's alone.
use Rattle.std.proofs.Common.{◌≡◌, ℕ, ◌≤◌, Bool, true, false, not, List, ◌++◌, length, take, refl, sym, ap, ap₂, ◌∙◌, arith, length-append, Ok, Err}
use Rattle.std.specs.Prelude.{Option, Some, None, is_some, is_none, ◌==◌, nat_le}
use Rattle.std.proofs.lemmas.Bool.{le-leb}
use Rattle.std.proofs.lemmas.List.{take_at}
use Rattle.krb_crypto.specs.Hmac.{hmac12}
use Rattle.krb_crypto.specs.Suite.{key_size, kc}
use Rattle.krb_crypto.specs.declared.suite.CipherSuite.{CipherSuite}
use Rattle.sspi_core.specs.declared.cause.Cause.{Cause}
use Rattle.sspi_core.specs.declared.cause.Cause.TheVariants.{Header, Direction, Sealed, NoKey, NoSubKey, KeyLength}
use Rattle.sspi_core.specs.Checks.{Holds}
use Rattle.sspi_core.proofs.Chain.{follows, gives, held, passed, took, gave, takes_some, holds_true}
use Rattle.krb_context.specs.declared.context.Kerberos.{Kerberos}
use Rattle.krb_context.specs.declared.server.ServerProperties.{ServerProperties}
use Rattle.krb_context.specs.Contexts.{is_acceptor, is_peer_acceptor, next_number}
use Rattle.krb_context.specs.Header.{is_sealed, is_from}
use Rattle.krb_context.specs.Mics.{mic_header, is_mic_header, sign_key, signed, mic_token, MakesMic, mic_header_of, MicHeads, MicKeys, ReadsMic, ChecksMic}
use Rattle.krb_context.specs.Params.{suite_of, or_else, key_of}
use Rattle.krb_context.specs.Parties.{sign_usage, sign_flags, writes_subkey, own_sign_flags}
use Rattle.krb_context.specs.Unwraps.{has_key_size}

holds_false : (cause : Cause) (test : Bool) → test ≡ false → Holds cause test (Err cause)
holds_false cause true e = absurd cc
holds_false cause false e = record { is = refl }

-- ---- the header that a writer makes

pub mic_size : (flags number : ℕ) → length (mic_header flags number) ≡ 16
unfolding mic_header
mic_size flags number = refl

mic_is_token : (flags number : ℕ) → is_mic_header (mic_header flags number) ≡ true
unfolding mic_header
mic_is_token flags number = refl

mic_clear : (subkey acceptor : Bool) (number : ℕ) → not (is_sealed (mic_header (sign_flags subkey acceptor) number)) ≡ true
unfolding mic_header
mic_clear true true number = refl
mic_clear true false number = refl
mic_clear false true number = refl
mic_clear false false number = refl

mic_side : (subkey acceptor : Bool) (number : ℕ) → is_from acceptor (mic_header (sign_flags subkey acceptor) number) ≡ true
unfolding mic_header
mic_side true true number = refl
mic_side true false number = refl
mic_side false true number = refl
mic_side false false number = refl

mic_not_own : (subkey : Bool) (server : Option ServerProperties) (number : ℕ) → is_from (is_none server) (mic_header (sign_flags subkey (is_some server)) number) ≡ false
unfolding mic_header
mic_not_own true (Some server) number = refl
mic_not_own true None number = refl
mic_not_own false (Some server) number = refl
mic_not_own false None number = refl

pub header_read : (token h : List ℕ) → 16 ≤ length token → take 16 token ≡ h → is_mic_header h ≡ true → mic_header_of token ≡ Some h
header_read token h long front is =
    let one : nat_le 16 (length token) ≡ true = le-leb 16 (length token) long in
    let two : is_mic_header (take 16 token) ≡ true = ap (λ (s : List ℕ). is_mic_header s) front ∙ is in
    rw (one, two) (ap Some front)

-- what is known of a token that was made
pub record IsMade (context : Kerberos) (payload token : List ℕ) : Type 0 where
  pub key : List ℕ
  pub sub_key : context.encryption_params.sub_session_key ≡ Some key
  pub key_length : has_key_size context.encryption_params key ≡ true
  pub is : token ≡ signed (sign_key context.encryption_params key (is_acceptor context)) payload (mic_header (own_sign_flags context) (next_number context.seq_number))

pub is_made : (context : Kerberos) (payload token : List ℕ) → MakesMic context payload (Ok token) → IsMade context payload token
unfolding MakesMic mic_token
is_made context payload token h =
    let one = passed _ _ _ h in
    let two = passed _ _ _ one.rest_held in
    record {
      key = one.found;
      sub_key = took NoSubKey context.encryption_params.sub_session_key one.found one.first_held;
      key_length = held KeyLength (has_key_size context.encryption_params one.found) two.found two.first_held;
      is = gave _ _ two.rest_held;
    }

front_of : (context : Kerberos) (payload token : List ℕ) (m : IsMade context payload token)
    → mic_header_of token ≡ Some (mic_header (own_sign_flags context) (next_number context.seq_number))
front_of context payload token m =
    let h : List ℕ = mic_header (own_sign_flags context) (next_number context.seq_number) in
    let size : length h ≡ 16 = mic_size (own_sign_flags context) (next_number context.seq_number) in
    let code : List ℕ = hmac12 (sign_key context.encryption_params m.key (is_acceptor context)) (payload ++ h) in
    header_read token h (omega (arith, ap length m.is, length-append h code, size)) (ap (take 16) m.is ∙ take_at h code 16 size)
    (mic_is_token (own_sign_flags context) (next_number context.seq_number))

-- it is accepted by the other side
pub mic_accepted : (maker other : Kerberos) (payload token : List ℕ) → is_acceptor maker ≡ is_peer_acceptor other
    → maker.encryption_params.sub_session_key ≡ other.encryption_params.sub_session_key → suite_of maker.encryption_params ≡ suite_of other.encryption_params
    → MakesMic maker payload (Ok token) → ChecksMic other token payload (Ok tt)
unfolding ReadsMic MicHeads MicKeys
mic_accepted maker other payload token roles same_key same_suite made =
    let m = is_made maker payload token made in
    let side : Bool = is_acceptor maker in
    let peer : Bool = is_peer_acceptor other in
    let number : ℕ = next_number maker.seq_number in
    let h : List ℕ = mic_header (own_sign_flags maker) number in
    let from : is_from peer h ≡ true = ap (λ (a : Bool). is_from a h) (sym roles) ∙ mic_side (writes_subkey maker) side number in
    let there : key_of other.encryption_params ≡ Some m.key = ap (λ (k : Option (List ℕ)). or_else k other.encryption_params.session_key) (sym same_key ∙ m.sub_key) in
    let sized : has_key_size other.encryption_params m.key ≡ true = ap (λ (s : CipherSuite). length m.key == key_size s) (sym same_suite) ∙ m.key_length in
    let keys : sign_key maker.encryption_params m.key side ≡ sign_key other.encryption_params m.key peer =
    ap₂ (λ (s : CipherSuite) (a : Bool). kc s m.key (sign_usage a)) same_suite roles in
    follows _ _ h _
    (follows _ _ h _ (takes_some Header (mic_header_of token) h (front_of maker payload token m))
    (follows _ _ tt _ (holds_true Direction (is_from peer h) from)
    (follows _ _ tt _ (holds_true Sealed (not (is_sealed h)) (mic_clear (writes_subkey maker) side number)) (gives h))))
    (follows _ _ m.key _
    (follows _ _ m.key _ (takes_some NoKey (key_of other.encryption_params) m.key there)
    (follows _ _ tt _ (holds_true KeyLength (has_key_size other.encryption_params m.key) sized) (gives m.key)))
    (record { is = record { is = m.is ∙ ap (λ (k : List ℕ). signed k payload h) keys } }))

-- and refused by its own
pub mic_refused : (maker : Kerberos) (payload token : List ℕ) → MakesMic maker payload (Ok token) → ChecksMic maker token payload (Err Direction)
unfolding ReadsMic MicHeads
mic_refused maker payload token made =
    let m = is_made maker payload token made in
    let h : List ℕ = mic_header (own_sign_flags maker) (next_number maker.seq_number) in
    record {
      middle = Err Direction;
      held =
          follows _ _ h _ (takes_some Header (mic_header_of token) h (front_of maker payload token m))
          (record { middle = Err Direction; held = holds_false Direction (is_from (is_peer_acceptor maker) h) (mic_not_own (writes_subkey maker) maker.server (next_number maker.seq_number)); rest = refl });
      rest = refl;
    }
