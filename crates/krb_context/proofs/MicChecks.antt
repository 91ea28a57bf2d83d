-- Facts about a MIC token whose header and key are checked.
use Rattle.std.proofs.Common.{◌≡◌, ℕ, ◌≤◌, Bool, true, false, not, List, ◌++◌, length, take, refl, ap, ap₂, ◌∙◌, Ok}
use Rattle.std.specs.Prelude.{Some, None, ◌&&◌, nat_le, if◌then◌else◌}
use Rattle.std.proofs.lemmas.Bool.{eqb-true, leb-true}
use Rattle.krb_crypto.specs.Hmac.{hmac12}
use Rattle.krb_crypto.specs.Suite.{key_size}
use Rattle.sspi_core.specs.declared.cause.Cause.TheVariants.{Header, Direction, Sealed, KeyLength}
use Rattle.sspi_core.proofs.Chain.{held, passed, took, gave}
use Rattle.krb_context.specs.declared.params.EncryptionParams.{EncryptionParams}
use Rattle.krb_context.specs.Header.{is_sealed, is_from}
use Rattle.krb_context.specs.Mics.{mic_header, is_mic_header, mic_header_of, MicHeads, MicKeys, sign_key, signed, mic_token}
use Rattle.krb_context.specs.Params.{suite_of}
use Rattle.krb_context.specs.Unwraps.{has_key_size}

front_known : (long is : Bool) (front header : List ℕ) → (if long && is then Some front else None) ≡ Some header → (long ≡ true) × (is ≡ true) × (header ≡ front)
front_known true true front header e = (refl, refl, cc)
front_known true false front header e = absurd cc
front_known false true front header e = absurd cc
front_known false false front header e = absurd cc

-- what is known of a header that was checked
pub record IsHeaded (peer : Bool) (token header : List ℕ) : Type 0 where
  pub long : 16 ≤ length token
  pub front : header ≡ take 16 token
  pub token_id : is_mic_header header ≡ true
  pub side : is_from peer header ≡ true
  pub clear : not (is_sealed header) ≡ true

pub is_headed : (peer : Bool) (token header : List ℕ) → MicHeads peer token (Ok header) → IsHeaded peer token header
unfolding MicHeads
is_headed peer token header h =
    let one = passed _ _ _ h in
    let two = passed _ _ _ one.rest_held in
    let three = passed _ _ _ two.rest_held in
    let same : header ≡ one.found = gave _ _ three.rest_held in
    let known = front_known (nat_le 16 (length token)) (is_mic_header (take 16 token)) (take 16 token) one.found (took Header (mic_header_of token) one.found one.first_held) in
    let front : header ≡ take 16 token = same ∙ known.2 in
    record {
      long = leb-true 16 (length token) known.0;
      front = front;
      token_id = ap (λ (s : List ℕ). is_mic_header s) front ∙ known.1;
      side = ap (λ (s : List ℕ). is_from peer s) same ∙ held Direction (is_from peer one.found) two.found two.first_held;
      clear = ap (λ (s : List ℕ). not (is_sealed s)) same ∙ held Sealed (not (is_sealed one.found)) three.found three.first_held;
    }

pub mic_headed : (peer : Bool) (token header : List ℕ) → MicHeads peer token (Ok header) → (16 ≤ length token) × (header ≡ take 16 token)
mic_headed peer token header h = let known = is_headed peer token header h in (known.long, known.front)

pub mic_sized : (params : EncryptionParams) (key : List ℕ) → MicKeys params (Ok key) → length key ≡ key_size (suite_of params)
unfolding MicKeys
mic_sized params key h =
    let one = passed _ _ _ h in
    let two = passed _ _ _ one.rest_held in
    let same : key ≡ one.found = gave _ _ two.rest_held in
    ap length same ∙ eqb-true (length one.found) (key_size (suite_of params)) (held KeyLength (has_key_size params one.found) two.found two.first_held)

-- what the code puts together is the token
pub made_as : (params : EncryptionParams) (key : List ℕ) (side acceptor : Bool) (own flags number : ℕ) (payload header code token : List ℕ) → side ≡ acceptor → flags ≡ own
    → header ≡ mic_header flags number → code ≡ hmac12 (sign_key params key side) (payload ++ header) → token ≡ header ++ code
    → token ≡ mic_token params key acceptor own number payload
unfolding mic_token
made_as params key side acceptor own flags number payload header code token es ef eh ec et =
    et ∙ ap (λ (c : List ℕ). header ++ c) ec
    ∙ ap₂ (λ (a : Bool) (h : List ℕ). signed (sign_key params key a) payload h) es (eh ∙ ap (λ (f : ℕ). mic_header f number) ef)
