-- The numbers of what an end makes rise by one.
use Rattle.std.proofs.Common.{◌≡◌, ℕ, zero, suc, ◌+◌, ◌<◌, ◌^◌, ◌%◌, List, [], ◌∷◌, ◌++◌, length, take, get_or, ap, ◌∙◌, arith, Ok}
use Rattle.std.proofs.lemmas.List.{take_at}
use Rattle.std.proofs.lemmas.Nat.{from_be_bytes-to_be_bytes_4}
use Rattle.krb_crypto.specs.Hmac.{hmac12}
use Rattle.sspi_core.specs.Buffer.{Buffer}
use Rattle.krb_context.specs.declared.context.Kerberos.{Kerberos}
use Rattle.krb_context.specs.Contexts.{is_acceptor, next_number}
use Rattle.krb_context.specs.Header.{number_of}
use Rattle.krb_context.specs.Mics.{mic_header, sign_key, MakesMic}
use Rattle.krb_context.specs.Parties.{own_sign_flags}
use Rattle.krb_context.specs.Runs.{Call, wraps, clears, signs, refused, other, with_next_number, AreCalls, made_numbers}
use Rattle.krb_context.specs.Unwraps.{message_number}
use Rattle.krb_context.specs.Wraps.{Wraps}
use Rattle.krb_context.proofs.ClearLemmas.{number-clear}
use Rattle.krb_context.proofs.MicLemmas.{is_made, mic_size}
use Rattle.krb_context.proofs.PeerLemmas.{number_made}
use Rattle.krb_context.proofs.ReadyLemmas.{is_wrapped}

mic_number : (flags number : ℕ) → number < 2 ^ 32 → number_of (mic_header flags number) ≡ number
unfolding mic_header
mic_number flags number small = from_be_bytes-to_be_bytes_4 number small

wrap_takes_next : (context : Kerberos) (confounder : List ℕ) (sent made : List Buffer) → Wraps context confounder sent (Ok made)
    → message_number made ≡ next_number context.seq_number
wrap_takes_next context confounder sent made h =
    let w = is_wrapped context confounder sent made h in
    ap (λ (m : List Buffer). message_number m) w.is ∙ number_made context w.key confounder sent w.ready

mic_takes_next : (context : Kerberos) (payload token : List ℕ) → MakesMic context payload (Ok token) → number_of (take 16 token) ≡ next_number context.seq_number
mic_takes_next context payload token h =
    let m = is_made context payload token h in
    let number : ℕ = next_number context.seq_number in
    let header : List ℕ = mic_header (own_sign_flags context) number in
    let code : List ℕ = hmac12 (sign_key context.encryption_params m.key (is_acceptor context)) (payload ++ header) in
    ap (λ (s : List ℕ). number_of s) (ap (take 16) m.is ∙ take_at header code 16 (mic_size (own_sign_flags context) number))
    ∙ mic_number (own_sign_flags context) number (omega arith)

-- one number, and the numbers after it
one_more : (number first : ℕ) (rest : List ℕ) → first ≡ next_number number
    → ((k : ℕ) → k < length rest → get_or rest k 0 ≡ (next_number number + (k + 1)) % 2 ^ 32)
    → (k : ℕ) → k < length (first ∷ rest) → get_or (first ∷ rest) k 0 ≡ (number + (k + 1)) % 2 ^ 32
one_more number first rest e behind zero h = e
one_more number first rest e behind (suc k) h = let so = behind k (omega arith) in so ∙ omega arith

pub numbers_rise : (context : Kerberos) (calls : List Call) → AreCalls context calls
    → (k : ℕ) → k < length (made_numbers calls) → get_or (made_numbers calls) k 0 ≡ (context.seq_number + (k + 1)) % 2 ^ 32
numbers_rise context [] all k h = absurd (omega arith)
numbers_rise context (wraps confounder sent made ∷ calls) all k h =
    one_more context.seq_number (message_number made) (made_numbers calls) (wrap_takes_next context confounder sent made all.0)
    (numbers_rise (with_next_number context) calls all.1) k h
numbers_rise context (clears plain token ∷ calls) all k h =
    one_more context.seq_number (number_of (take 16 token)) (made_numbers calls) (number-clear context plain token all.0)
    (numbers_rise (with_next_number context) calls all.1) k h
numbers_rise context (signs payload token ∷ calls) all k h =
    one_more context.seq_number (number_of (take 16 token)) (made_numbers calls) (mic_takes_next context payload token all.0)
    (numbers_rise (with_next_number context) calls all.1) k h
numbers_rise context (refused ∷ calls) all k h = numbers_rise context calls all.1 k h
numbers_rise context (other next ∷ calls) all k h =
    numbers_rise next calls all.1 k h ∙ ap (λ (n : ℕ). (n + (k + 1)) % 2 ^ 32) all.0
