-- Facts about tokens that were accepted, and the checks of their order after those of their context.
use Rattle.std.proofs.Common.{◌≡◌, ℕ, ◌≤◌, true, List, length, Ok, Err, refl, sym, subst}
use Rattle.sspi_core.specs.declared.cause.Cause.{Cause}
use Rattle.sspi_core.specs.declared.cause.Cause.TheVariants.{Number}
use Rattle.sspi_core.specs.declared.error.Error.{Error}
use Rattle.sspi_core.specs.declared.error.Place.TheVariants.{Elsewhere}
use Rattle.sspi_core.specs.Checks.{Holds}
use Rattle.sspi_core.specs.Kinds.{error_of}
use Rattle.sspi_core.proofs.Chain.{passed, gave, halts, follows, gives, holds_true}
use Rattle.krb_context.specs.declared.context.Kerberos.{Kerberos}
use Rattle.krb_context.specs.Mics.{ReadsMic, ChecksMic}
use Rattle.krb_context.specs.Refusals.{Refuses}
use Rattle.krb_context.specs.Unwraps.{Unwraps}
use Rattle.krb_context.specs.Whole.{whole_message}
use Rattle.krb_context.proofs.MicChecks.{mic_headed}
use Rattle.krb_sessions.specs.Orders.{awaits, token_number, UnwrapsInOrder, VerifiesInOrder, RefusesMic}
use Rattle.krb_sessions.specs.declared.order.Order.{Order}

-- a MIC token that fits has a header
pub mic_long : (context : Kerberos) (mic payload : List ℕ) → ChecksMic context mic payload (Ok tt) → 16 ≤ length mic
unfolding ReadsMic
mic_long context mic payload h = let one = passed _ _ _ h in (mic_headed _ _ _ one.first_held).0

-- what does not open is not taken
pub refuses_unopened : (order : Order) (context : Kerberos) (sealed : List ℕ) (error : Error) → Refuses Elsewhere (Unwraps context (whole_message sealed)) error
    → Refuses Elsewhere (UnwrapsInOrder order context sealed) error
unfolding UnwrapsInOrder
refuses_unopened order context sealed error h = record { so = λ ne. let r = h.so ne in (r.0, r.1, halts _ _ r.0 _ r.2 refl) }

-- what opens is taken, or refused, by its number
pub unwraps_by : (order : Order) (context : Kerberos) (sealed text : List ℕ) (number : ℕ) → number ≡ token_number sealed
    → Unwraps context (whole_message sealed) (Ok text) → Holds Number (awaits order number) (Ok tt) → UnwrapsInOrder order context sealed (Ok text)
unfolding UnwrapsInOrder
unwraps_by order context sealed text number is h next =
    follows _ _ text _ h (follows _ _ tt _ (subst (λ (n : ℕ). Holds Number (awaits order n) (Ok tt)) is next) (gives text))

pub refuses_by : (order : Order) (context : Kerberos) (sealed text : List ℕ) (number : ℕ) (cause : Cause) (error : Error) → error ≡ error_of cause
    → number ≡ token_number sealed → Unwraps context (whole_message sealed) (Ok text) → Holds Number (awaits order number) (Err cause)
    → Refuses Elsewhere (UnwrapsInOrder order context sealed) error
unfolding UnwrapsInOrder
refuses_by order context sealed text number cause error told is h next = record {
  so = λ ne. (cause, told, follows _ _ text _ h (halts _ _ cause _ (subst (λ (n : ℕ). Holds Number (awaits order n) (Err cause)) is next) refl));
}

-- a MIC token that does not fit, and one that is taken, or refused, by its number
pub refuses_mic : (order : Order) (context : Kerberos) (mic payload : List ℕ) (error : Error)
    → ((cause : Cause) × (error ≡ error_of cause) × ChecksMic context mic payload (Err cause)) → RefusesMic order context mic payload error
unfolding VerifiesInOrder
refuses_mic order context mic payload error h = (h.0, h.1, halts _ _ h.0 _ h.2 refl)

pub verifies_by : (order : Order) (context : Kerberos) (mic payload : List ℕ) (number : ℕ) → number ≡ token_number mic
    → ChecksMic context mic payload (Ok tt) → Holds Number (awaits order number) (Ok tt) → VerifiesInOrder order context mic payload (Ok tt)
unfolding VerifiesInOrder
verifies_by order context mic payload number is h next =
    follows _ _ tt _ h (subst (λ (n : ℕ). Holds Number (awaits order n) (Ok tt)) is next)

pub refuses_mic_by : (order : Order) (context : Kerberos) (mic payload : List ℕ) (number : ℕ) (cause : Cause) (error : Error) → error ≡ error_of cause
    → number ≡ token_number mic → ChecksMic context mic payload (Ok tt) → Holds Number (awaits order number) (Err cause)
    → RefusesMic order context mic payload error
unfolding VerifiesInOrder
refuses_mic_by order context mic payload number cause error told is h next =
    (cause, told, follows _ _ tt _ h (subst (λ (n : ℕ). Holds Number (awaits order n) (Err cause)) is next))

-- what is taken in its order opens
pub unwraps_of : (order : Order) (context : Kerberos) (sealed text : List ℕ) → UnwrapsInOrder order context sealed (Ok text) → Unwraps context (whole_message sealed) (Ok text)
unfolding UnwrapsInOrder
unwraps_of order context sealed text h =
    let one = passed _ _ _ h in
    let two = passed _ _ _ one.rest_held in
    let same : text ≡ one.found = gave _ _ two.rest_held in
    subst (λ (s : List ℕ). Unwraps context (whole_message sealed) (Ok s)) (sym same) one.first_held

-- what opens is taken where its number is awaited
pub unwraps_next : (order : Order) (context : Kerberos) (sealed text : List ℕ) → Unwraps context (whole_message sealed) (Ok text)
    → awaits order (token_number sealed) ≡ true → UnwrapsInOrder order context sealed (Ok text)
unfolding UnwrapsInOrder
unwraps_next order context sealed text h next = follows _ _ text _ h (follows _ _ tt _ (holds_true Number (awaits order (token_number sealed)) next) (gives text))
