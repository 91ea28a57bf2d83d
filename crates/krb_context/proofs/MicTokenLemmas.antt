-- A MIC token passes its checks exactly if it satisfies `IsMicToken`; the checks have one result.
use Rattle.std.proofs.Common.{◌≡◌, ℕ, ◌≤◌, Bool, true, not, List, ◌++◌, length, take, refl, sym, ap, ◌∙◌, arith, length-append, Ok}
use Rattle.std.specs.Prelude.{Some}
use Rattle.std.proofs.lemmas.List.{length-take-le}
use Rattle.krb_crypto.specs.Hmac.{hmac12}
use Rattle.sspi_core.specs.declared.cause.Cause.TheVariants.{Header, Direction, Sealed, NoKey, KeyLength}
use Rattle.sspi_core.proofs.Chain.{follows, gives, passed, took, gave, takes_some, holds_true}
use Rattle.sspi_core.proofs.Once.{Once, then_once, finds_once, takes_once, holds_once, gives_once}
use Rattle.krb_context.specs.declared.params.EncryptionParams.{EncryptionParams}
use Rattle.krb_context.specs.Header.{is_sealed, is_from}
use Rattle.krb_context.specs.Mics.{sign_key, signed, mic_header_of, IsMicToken, MicHeads, MicKeys, ReadsMic}
use Rattle.krb_context.specs.Params.{key_of}
use Rattle.krb_context.specs.Unwraps.{has_key_size}
use Rattle.krb_context.proofs.MicChecks.{is_headed}
use Rattle.krb_context.proofs.MicLemmas.{header_read}
use Rattle.krb_context.proofs.TurnLemmas.{halves}

key_known : (params : EncryptionParams) (key found : List ℕ) → key_of params ≡ Some key → MicKeys params (Ok found) → found ≡ key
unfolding MicKeys
key_known params key found there h =
    let one = passed _ _ _ h in
    let two = passed _ _ _ one.rest_held in
    let same : found ≡ one.found = gave _ _ two.rest_held in
    let both : Some one.found ≡ Some key = sym (took NoKey (key_of params) one.found one.first_held) ∙ there in
    let e : one.found ≡ key = cc in
    same ∙ e

pub accepted_is : (params : EncryptionParams) (key : List ℕ) (peer : Bool) (payload token : List ℕ) → key_of params ≡ Some key
    → ReadsMic params peer token payload (Ok tt) → IsMicToken params key peer payload token
unfolding ReadsMic
accepted_is params key peer payload token there h =
    let one = passed _ _ _ h in
    let two = passed _ _ _ one.rest_held in
    let known = is_headed peer token one.found one.first_held in
    let same : two.found ≡ key = key_known params key two.found there two.first_held in
    record {
      header = one.found;
      header_size = ap length known.front ∙ length-take-le 16 token known.long;
      token_id = known.token_id;
      side = known.side;
      clear = known.clear;
      is = two.rest_held.is.is ∙ ap (λ (k : List ℕ). signed (sign_key params k peer) payload one.found) same;
    }

pub is_accepted : (params : EncryptionParams) (key : List ℕ) (peer : Bool) (payload token : List ℕ) → key_of params ≡ Some key
    → has_key_size params key ≡ true → IsMicToken params key peer payload token → ReadsMic params peer token payload (Ok tt)
unfolding ReadsMic MicHeads MicKeys
is_accepted params key peer payload token there sized m =
    let h : List ℕ = m.header in
    let code : List ℕ = hmac12 (sign_key params key peer) (payload ++ h) in
    let front : h ≡ take 16 token = (halves token h code m.is m.header_size).0 in
    let long : 16 ≤ length token = omega (arith, ap length m.is, length-append h code, m.header_size) in
    follows _ _ h _
    (follows _ _ h _ (takes_some Header (mic_header_of token) h (header_read token h long (sym front) m.token_id))
    (follows _ _ tt _ (holds_true Direction (is_from peer h) m.side)
    (follows _ _ tt _ (holds_true Sealed (not (is_sealed h)) m.clear) (gives h))))
    (follows _ _ key _
    (follows _ _ key _ (takes_some NoKey (key_of params) key there)
    (follows _ _ tt _ (holds_true KeyLength (has_key_size params key) sized) (gives key)))
    (record { is = record { is = m.is } }))

heads_once : (peer : Bool) (token : List ℕ) → Once (MicHeads peer token)
unfolding MicHeads
heads_once peer token =
    then_once _ _ (takes_once _ _) (λ header. then_once _ _ (holds_once _ _) (λ a. then_once _ _ (holds_once _ _) (λ b. gives_once _)))

keys_once : (params : EncryptionParams) → Once (MicKeys params)
unfolding MicKeys
keys_once params = then_once _ _ (takes_once _ _) (λ key. then_once _ _ (holds_once _ _) (λ a. gives_once _))

-- the checks give one answer
pub reads_once : (params : EncryptionParams) (peer : Bool) (token payload : List ℕ) → Once (ReadsMic params peer token payload)
unfolding ReadsMic
reads_once params peer token payload =
    then_once _ _ (heads_once peer token) (λ header. then_once _ _ (keys_once params) (λ key. finds_once _ _ (λ x y s t. refl)))
