-- The checks of a message, its sequence number and the window.
use Rattle.std.proofs.Common.{◌≡◌, ℕ, ◌^◌, ◌<◌, Bool, true, false, List, [], ◌∷◌, take, Option, Some, None, Result, Ok, Err, inl, inr, refl, sym, ap, ◌∙◌, subst, arith}
use Rattle.std.specs.Prelude.{◌⊎◌, ◌&&◌, nat_le, length, slice_index, if◌then◌else◌}
use Rattle.std.specs.Int.{from_be_bytes, w32}
use Rattle.std.proofs.lemmas.List.{get_or-take}
use Rattle.krb_aes.specs.Octets.{IsOctets}
use Rattle.krb_context.specs.Contexts.{is_peer_acceptor}
use Rattle.krb_context.specs.Header.{is_wrap_header, number_of}
use Rattle.krb_context.specs.Spelled.{spelled}
use Rattle.krb_context.specs.Unwraps.{Heads, params_for, OpensBody, aged, ReceivesMessage, Unwraps, message_number}
use Rattle.krb_context.specs.Window.{number_verdict}
use Rattle.krb_context.specs.declared.context.Kerberos.{Kerberos}
use Rattle.krb_context.specs.declared.params.EncryptionParams.{EncryptionParams}
use Rattle.krb_context.specs.declared.window.NumberVerdict.{NumberVerdict}
use Rattle.krb_context.specs.declared.window.NumberVerdict.TheVariants.{Fresh, Old, Repeated}
use Rattle.sspi_core.specs.Buffer.{Buffer}
use Rattle.sspi_core.specs.Checks.{Finds, Takes, Holds, Passes, Gives, Goes, Then, ok_or, err_of}
use Rattle.sspi_core.specs.declared.cause.Cause.{Cause}
use Rattle.sspi_core.specs.declared.cause.Cause.TheVariants as causes

-- the causes of a refusal for a message's age
abbrev pub TellsAge : Cause → Type 0
TellsAge cause = (cause ≡ causes.Old) ⊎ (cause ≡ causes.Repeated)

pub no_age : (cause : Cause) → (cause ≡ causes.Old → ⊥) → (cause ≡ causes.Repeated → ⊥) → TellsAge cause → ⊥
no_age cause p q (inl e) = p e
no_age cause p q (inr e) = q e

-- checks that never fail for a message's age
record NoAge {A : Type 0} (checks : Result A Cause → Type 0) : Type 0 where
  never : (cause : Cause) → checks (Err cause) → TellsAge cause → ⊥

same_err : {A : Type 0} (x y : Cause) → ◌≡◌ {A = Result A Cause} (Err x) (Err y) → x ≡ y
same_err x y e = cc

same_ok : {A : Type 0} (x y : A) → ◌≡◌ {A = Result A Cause} (Ok x) (Ok y) → x ≡ y
same_ok x y e = cc

takes_no_age : {A : Type 0} (cause : Cause) (value : Option A) → (TellsAge cause → ⊥) → NoAge (λ r. Takes cause value r)
takes_no_age {A} cause value other = record { never = λ e h age. took value e h.is age }
  where
    took : (value : Option A) (e : Cause) → ◌≡◌ {A = Result A Cause} (Err e) (ok_or cause value) → TellsAge e → ⊥
    took (Some x) e is age = absurd (cc)
    took None e is age = other (subst TellsAge (same_err {A = A} e cause is) age)

holds_no_age : (cause : Cause) (test : Bool) → (TellsAge cause → ⊥) → NoAge (λ r. Holds cause test r)
holds_no_age cause test other = record { never = λ e h age. held test e h.is age }
  where
    held : (test : Bool) (e : Cause) → ◌≡◌ {A = Result (Unit {0}) Cause} (Err e) (if test then Ok tt else Err cause) → TellsAge e → ⊥
    held true e is age = absurd (cc)
    held false e is age = other (subst TellsAge (same_err {A = Unit {0}} e cause is) age)

finds_no_age : {A : Type 0} (cause : Cause) (P : A → Type 0) → (TellsAge cause → ⊥) → NoAge (λ r. Finds cause P r)
finds_no_age cause P other = record { never = λ e h age. other (subst TellsAge h.is.0 age) }

gives_no_age : {A : Type 0} (value : A) → NoAge (λ r. Gives value r)
gives_no_age {A} value = record { never = λ e h age. gave e h.is }
  where
    gave : (e : Cause) → ◌≡◌ {A = Result A Cause} (Err e) (Ok value) → ⊥
    gave e is = absurd (cc)

-- a refusal for a message's age comes after the first checks
record Behind {A B : Type 0} (first : Result A Cause → Type 0) (next : A → Result B Cause → Type 0) (answer : Result B Cause) : Type 0 where
  found : A
  held : first (Ok found)
  rest : next found answer

behind_by : {A B : Type 0} (first : Result A Cause → Type 0) (next : A → Result B Cause → Type 0) (m : Result A Cause) (cause : Cause) → NoAge first → TellsAge cause
    → first m → Goes next m (Err cause) → Behind first next (Err cause)
behind_by first next (Ok x) cause quiet age held rest = record { found = x; held = held; rest = rest }
behind_by {A} {B} first next (Err e) cause quiet age held rest = absurd (quiet.never e held (subst TellsAge (same_err {A = B} cause e rest) age))

behind : {A B : Type 0} (first : Result A Cause → Type 0) (next : A → Result B Cause → Type 0) (cause : Cause) → NoAge first → TellsAge cause → Then first next (Err cause) → Behind first next (Err cause)
behind first next cause quiet age h = behind_by first next h.middle cause quiet age h.held h.rest

passed_by : {A B : Type 0} (first : Result A Cause → Type 0) (next : A → Result B Cause → Type 0) (m : Result A Cause) (x : B) → first m → Goes next m (Ok x) → Behind first next (Ok x)
passed_by first next (Ok y) x held rest = record { found = y; held = held; rest = rest }
passed_by first next (Err e) x held rest = absurd (cc)

passed : {A B : Type 0} (first : Result A Cause → Type 0) (next : A → Result B Cause → Type 0) (x : B) → Then first next (Ok x) → Behind first next (Ok x)
passed first next x h = passed_by first next h.middle x h.held h.rest

then_no_age : {A B : Type 0} (first : Result A Cause → Type 0) (next : A → Result B Cause → Type 0) → NoAge first → ((x : A) → NoAge (next x)) → NoAge (λ r. Then first next r)
then_no_age first next one more = record {
  never = λ e h age. let b = behind first next e one age h in (more b.found).never e b.rest age;
}

heads_no_age : (params : EncryptionParams) (key : List ℕ) (peer : Bool) (text : List ℕ) → NoAge (λ r. Heads params key peer text r)
unfolding Heads
heads_no_age params key peer text =
    then_no_age _ _ (takes_no_age causes.Header _ (no_age causes.Header (λ e. cc) (λ e. cc)))
    (λ header. then_no_age _ _ (holds_no_age causes.Direction _ (no_age causes.Direction (λ e. cc) (λ e. cc)))
    (λ a. then_no_age _ _ (holds_no_age causes.ExtraCount _ (no_age causes.ExtraCount (λ e. cc) (λ e. cc)))
    (λ b. then_no_age _ _ (holds_no_age causes.KeyLength _ (no_age causes.KeyLength (λ e. cc) (λ e. cc))) (λ c. gives_no_age header))))

opens_no_age : (params : EncryptionParams) (key : List ℕ) (peer : Bool) (buffers : List Buffer) (plain : Buffer) (text header : List ℕ) → NoAge (λ r. OpensBody params key peer buffers plain text header r)
unfolding OpensBody
opens_no_age params key peer buffers plain text header =
    then_no_age _ _ (holds_no_age causes.Short _ (no_age causes.Short (λ e. cc) (λ e. cc)))
    (λ a. then_no_age _ _ (holds_no_age causes.Room _ (no_age causes.Room (λ e. cc) (λ e. cc))) (λ b. finds_no_age causes.Altered _ (no_age causes.Altered (λ e. cc) (λ e. cc))))

-- the header that was found is the front of the text
front_of : (text header : List ℕ) (test : Bool) → ◌≡◌ {A = Result (List ℕ) Cause} (Ok header) (ok_or causes.Header (if test then Some (take 16 text) else None)) → header ≡ take 16 text
front_of text header true e = same_ok header (take 16 text) e
front_of text header false e = absurd (cc)

heads_front : (params : EncryptionParams) (key : List ℕ) (peer : Bool) (text header : List ℕ) → Heads params key peer text (Ok header) → header ≡ take 16 text
unfolding Heads
heads_front params key peer text header h =
    let a = passed _ _ header h in
    let b = passed _ _ header a.rest in
    let c = passed _ _ header b.rest in
    let d = passed _ _ header c.rest in
    same_ok header a.found d.rest.is ∙ front_of text a.found (nat_le 16 (length text) && is_wrap_header (take 16 text)) a.held.is

-- the last check
pub aged_fresh : (verdict : NumberVerdict) (u : Unit {0}) → ◌≡◌ {A = Result (Unit {0}) Cause} (Ok u) (err_of (aged verdict)) → verdict ≡ Fresh
aged_fresh Fresh u e = refl
aged_fresh Old u e = absurd (cc)
aged_fresh Repeated u e = absurd (cc)

aged_as : (verdict : NumberVerdict) (cause : Cause) → ◌≡◌ {A = Result (Unit {0}) Cause} (Err cause) (err_of (aged verdict)) → aged verdict ≡ Some cause
aged_as Fresh cause e = absurd (cc)
aged_as Old cause e = ap Some (sym (same_err {A = Unit {0}} cause causes.Old e))
aged_as Repeated cause e = ap Some (sym (same_err {A = Unit {0}} cause causes.Repeated e))

pub aged_old : (verdict : NumberVerdict) → aged verdict ≡ Some causes.Old → verdict ≡ Old
aged_old Fresh e = absurd (cc)
aged_old Old e = refl
aged_old Repeated e = absurd (cc)

pub aged_repeated : (verdict : NumberVerdict) → aged verdict ≡ Some causes.Repeated → verdict ≡ Repeated
aged_repeated Fresh e = absurd (cc)
aged_repeated Old e = absurd (cc)
aged_repeated Repeated e = refl

last_by : (verdict : NumberVerdict) (opened : List ℕ) (m : Result (Unit {0}) Cause) (cause : Cause) → Passes (aged verdict) m → Goes (λ (u : Unit {0}). Gives opened) m (Err cause) → aged verdict ≡ Some cause
last_by verdict opened (Ok u) cause held rest = let e = rest.is in absurd (cc)
last_by verdict opened (Err e) cause held rest =
    aged_as verdict cause (subst (λ (c : Cause). ◌≡◌ {A = Result (Unit {0}) Cause} (Err c) (err_of (aged verdict))) (sym (same_err {A = List ℕ} cause e rest)) held.is)

-- a message that is decrypted is fresh
pub opened_is_fresh : (context : Kerberos) (message : List Buffer) (text : List ℕ) → Unwraps context message (Ok text) → number_verdict context.window (message_number message) ≡ Fresh
unfolding ReceivesMessage
opened_is_fresh context message text h =
    let a = passed _ _ text h in
    let b = passed _ _ text a.rest in
    let c = passed _ _ text b.rest in
    let d = passed _ _ text c.rest in
    let e = passed _ _ text d.rest in
    let front = heads_front (params_for context (spelled message)) a.found (is_peer_acceptor context) (spelled message) c.found c.held in
    ap (λ (header : List ℕ). number_verdict context.window (number_of header)) (sym front) ∙ aged_fresh (number_verdict context.window (number_of c.found)) e.found e.held.is

-- a message that is refused for its age is refused by the window
pub refused_by_age : (context : Kerberos) (message : List Buffer) (cause : Cause) → TellsAge cause → Unwraps context message (Err cause) → aged (number_verdict context.window (message_number message)) ≡ Some cause
unfolding ReceivesMessage
refused_by_age context message cause age h =
    let a = behind _ _ cause (takes_no_age causes.Sequence _ (no_age causes.Sequence (λ e. cc) (λ e. cc))) age h in
    let b = behind _ _ cause (takes_no_age causes.Buffers _ (no_age causes.Buffers (λ e. cc) (λ e. cc))) age a.rest in
    let c = behind _ _ cause (heads_no_age (params_for context (spelled message)) a.found (is_peer_acceptor context) (spelled message)) age b.rest in
    let d = behind _ _ cause (opens_no_age (params_for context (spelled message)) a.found (is_peer_acceptor context) message b.found (spelled message) c.found) age c.rest in
    let front = heads_front (params_for context (spelled message)) a.found (is_peer_acceptor context) (spelled message) c.found c.held in
    ap (λ (header : List ℕ). aged (number_verdict context.window (number_of header))) (sym front)
    ∙ last_by (number_verdict context.window (number_of c.found)) d.found d.rest.middle cause d.rest.held d.rest.rest

-- a number of octets is below 2^32
four-lt : (a b c d : ℕ) → a < 256 → b < 256 → c < 256 → d < 256 → from_be_bytes w32 (a ∷ b ∷ c ∷ d ∷ []) < 2 ^ 32
four-lt a b c d p q r s = omega arith

pub message_number-lt : (message : List Buffer) → IsOctets (spelled message) → message_number message < 2 ^ 32
message_number-lt message octets =
    let text = spelled message in
    let at : (k : ℕ) → k < 16 → slice_index (take 16 text) k < 256 = λ k small. subst (λ (n : ℕ). n < 256) (sym (get_or-take 16 text k 0 small)) (octets.below k) in
    four-lt _ _ _ _ (at 12 (omega arith)) (at 13 (omega arith)) (at 14 (omega arith)) (at 15 (omega arith))
