-- A text that is wrapped into a room: its token, and whether the room holds it.
use Rattle.std.proofs.Common.{◌≡◌, ℕ, ◌+◌, ◌<◌, ◌≤◌, ◌^◌, List, length, refl, ap, ◌∙◌, arith, length-append, Result, Ok, Err}
use Rattle.std.specs.Prelude.{nat_le}
use Rattle.std.specs.Result.{IsErrAnd, IfErr}
use Rattle.std.proofs.lemmas.Bool.{le-leb, lt-leb}
use Rattle.krb_aes.specs.Octets.{IsOctets}
use Rattle.sspi_core.specs.Buffer.{Buffer}
use Rattle.sspi_core.specs.Checks.{Holds}
use Rattle.sspi_core.specs.declared.cause.Cause.{Cause}
use Rattle.sspi_core.specs.declared.cause.Cause.TheVariants.{TooSmall}
use Rattle.sspi_core.specs.declared.error.Error.{Error}
use Rattle.sspi_core.specs.declared.error.Place.TheVariants.{Elsewhere}
use Rattle.sspi_core.specs.Kinds.{error_of}
use Rattle.sspi_core.proofs.Chain.{follows, halts, gives, holds_true, answers}
use Rattle.krb_context.specs.declared.context.Kerberos.{Kerberos}
use Rattle.krb_context.specs.Contexts.{is_acceptor, next_number}
use Rattle.krb_context.specs.Header.{wrap_header}
use Rattle.krb_context.specs.Parties.{writes_subkey, own_seal_flags, keys_of}
use Rattle.krb_context.specs.Refusals.{Refuses}
use Rattle.krb_context.specs.Spelled.{spelled}
use Rattle.krb_context.specs.Whole.{text_message}
use Rattle.krb_context.specs.Wrapped.{written_body}
use Rattle.krb_context.specs.Wraps.{Readies, Wraps, wrapped}
use Rattle.krb_context.specs.WrapsInto.{text_token, WrapsInto, IsWrappedIn}
use Rattle.krb_context.proofs.ChainLemmas.{refuses}
use Rattle.krb_context.proofs.PeerLemmas.{text_made}
use Rattle.krb_context.proofs.ReadyLemmas.{is_ready}
use Rattle.krb_context.proofs.UnwrapLemmas.{length-spelt}
use Rattle.krb_context.proofs.WrappedLemmas.{wrapped_spells, header_size}

-- the buffers of a text that is wrapped under a key
abbrev pub text_wrapped : Kerberos → List ℕ → List ℕ → List ℕ → List Buffer
text_wrapped context key confounder text = wrapped context key confounder (text_message context.encryption_params.ec text)

-- the token that they spell
abbrev pub own_token : Kerberos → List ℕ → List ℕ → List ℕ → List ℕ
own_token context key confounder text =
    text_token (keys_of context.encryption_params key (is_acceptor context)) (own_seal_flags context) context.encryption_params.ec (next_number context.seq_number)
    confounder text

abbrev pub IsReadyFor : Kerberos → List ℕ → List ℕ → Type 0
IsReadyFor context key text = Readies context.state context.encryption_params (text_message context.encryption_params.ec text) (Ok key)

pub token_spelled : (context : Kerberos) (key confounder text : List ℕ) → IsReadyFor context key text
    → spelled (text_wrapped context key confounder text) ≡ own_token context key confounder text
token_spelled context key confounder text h =
    text_made context key confounder (text_message context.encryption_params.ec text) (is_ready context.state context.encryption_params (text_message context.encryption_params.ec text) key h)

pub text_wraps : (context : Kerberos) (key confounder text : List ℕ) → IsReadyFor context key text
    → Wraps context confounder (text_message context.encryption_params.ec text) (Ok (text_wrapped context key confounder text))
unfolding Wraps
text_wraps context key confounder text h = follows _ _ key _ h (gives (text_wrapped context key confounder text))

-- how long a token is
pub length-token : (context : Kerberos) (key confounder text : List ℕ) → context.encryption_params.ec < 2 ^ 16 → length confounder ≡ 16 → IsOctets confounder
    → IsOctets text → IsReadyFor context key text → length (spelled (text_wrapped context key confounder text)) ≡ 60 + context.encryption_params.ec + length text
length-token context key confounder text small size octets_c octets_p h =
    let ec : ℕ = context.encryption_params.ec in
    let sent : List Buffer = text_message ec text in
    let number : ℕ = next_number context.seq_number in
    let keys = keys_of context.encryption_params key (is_acceptor context) in
    let ready = is_ready context.state context.encryption_params sent key h in
    let header : List ℕ = wrap_header (own_seal_flags context) ec 28 number in
    let body : List ℕ = written_body keys (own_seal_flags context) ec number confounder sent in
    let spelt = wrapped_spells keys (writes_subkey context) (is_acceptor context) ec number confounder sent small size octets_c octets_p ready.token ready.plain ready.stream in
    omega (
      arith,
      ap length (token_spelled context key confounder text h),
      length-append header body,
      header_size (own_seal_flags context) ec 28 number,
      length-spelt keys (is_acceptor context) ec (text_wrapped context key confounder text) text spelt,
    )

-- a room that holds the token, and one that does not
pub wraps_into : (context : Kerberos) (key confounder text : List ℕ) (room : ℕ) → IsReadyFor context key text
    → length (spelled (text_wrapped context key confounder text)) ≤ room
    → WrapsInto context confounder text room (Ok (spelled (text_wrapped context key confounder text)))
unfolding WrapsInto
wraps_into context key confounder text room h fits =
    let token : List ℕ = spelled (text_wrapped context key confounder text) in
    follows _ _ (text_wrapped context key confounder text) _ (text_wraps context key confounder text h)
    (follows _ _ tt _ (holds_true TooSmall (nat_le (length token) room) (le-leb (length token) room fits)) (gives token))

pub too_small : (context : Kerberos) (key confounder text : List ℕ) (room : ℕ) → IsReadyFor context key text
    → room < length (spelled (text_wrapped context key confounder text)) → WrapsInto context confounder text room (Err TooSmall)
unfolding WrapsInto
too_small context key confounder text room h short =
    let n : ℕ = length (spelled (text_wrapped context key confounder text)) in
    let refused : Holds TooSmall (nat_le n room) (Err TooSmall) = record { is = rw (lt-leb n room short) refl } in
    follows _ _ (text_wrapped context key confounder text) _ (text_wraps context key confounder text h) (halts _ _ TooSmall _ refused refl)

pub wrapped_in : (context : Kerberos) (key confounder text : List ℕ) (count : ℕ) → context.encryption_params.ec < 2 ^ 16 → length confounder ≡ 16 → IsOctets confounder
    → IsOctets text → IsReadyFor context key text → count ≡ 60 + context.encryption_params.ec + length text → IsWrappedIn context confounder text count
wrapped_in context key confounder text count small size octets_c octets_p h is = record {
  buffers = text_wrapped context key confounder text;
  wraps = text_wraps context key confounder text h;
  sized = length-token context key confounder text small size octets_c octets_p h ∙ omega (arith, is);
}

-- what the checks refuse they refuse in any room
pub refuses_into : (context : Kerberos) (confounder text : List ℕ) (room : ℕ) (cause : Cause)
    → Wraps context confounder (text_message context.encryption_params.ec text) (Err cause) → WrapsInto context confounder text room (Err cause)
unfolding WrapsInto
refuses_into context confounder text room cause h = halts _ _ cause _ h refl

-- an end that is not ready does not wrap
pub unready : (context : Kerberos) (confounder text : List ℕ) (cause : Cause)
    → Readies context.state context.encryption_params (text_message context.encryption_params.ec text) (Err cause)
    → Wraps context confounder (text_message context.encryption_params.ec text) (Err cause)
unfolding Wraps
unready context confounder text cause h = halts _ _ cause _ h refl

-- an error that a call hands on, whatever the confounder
pub handed_on_by : {T : Type 0} (context : Kerberos) (text : List ℕ) (cause : Cause) (answer : Result T Error)
    → Readies context.state context.encryption_params (text_message context.encryption_params.ec text) (Err cause)
    → IsErrAnd answer (λ d. d ≡ error_of cause)
    → IfErr answer (λ error. (confounder : List ℕ) → Refuses Elsewhere (Wraps context confounder (text_message context.encryption_params.ec text)) error)
handed_on_by context text cause (Ok x) h is = absurd is
handed_on_by context text cause (Err error) h is =
    λ confounder. refuses Elsewhere (Wraps context confounder (text_message context.encryption_params.ec text)) cause error (answers _ _ (unready context confounder text cause h)) is
