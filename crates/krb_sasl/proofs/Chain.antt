-- Steps of ordered checks whose refusals are a SaslError.
use Rattle.std.proofs.Common.{◌≡◌, Result, Ok, Err, refl, ap, ◌∙◌}
use Rattle.std.specs.Result.{IsErrAnd, IfErr, OnOk}
use Rattle.krb_sasl.specs.declared.error.SaslError.{SaslError}
use Rattle.krb_sasl.specs.declared.error.SaslError.TheVariants.{OutOfMemory}
use Rattle.krb_sasl.specs.Answers.{Answers, Refuses}
use Rattle.sspi_core.specs.Checks.{Gives, Then}
use Rattle.sspi_core.proofs.Chain.{halts, follows, is_err, same_err}

-- where memory may run out: the checks end with a refusal
pub stops : {A B : Type 0} (first : Result A SaslError → Type 0) (next : A → Result B SaslError → Type 0) (e : SaslError) (answer : Result B SaslError)
    → Answers first (Err e) → IsErrAnd answer (λ d. d ≡ e)
    → Answers (λ r. Then first next r) answer
stops {A} {B} first next e answer h is = record {
  so = λ ne. halts first next e answer (h.so (λ z. ne (is_err answer e is ∙ ap Err (same_err {A = A} e OutOfMemory z)))) is;
}

-- they go on with what was found
pub goes : {A B : Type 0} (first : Result A SaslError → Type 0) (next : A → Result B SaslError → Type 0) (a : A) (answer : Result B SaslError)
    → Answers first (Ok a) → Answers (next a) answer
    → Answers (λ r. Then first next r) answer
goes first next a answer h k = record { so = λ ne. follows first next a answer (h.so (λ z. absurd cc)) (k.so ne) }

pub answers : {A : Type 0} (checks : Result A SaslError → Type 0) (answer : Result A SaslError) → checks answer → Answers checks answer
answers checks answer h = record { so = λ ne. h }

pub given : {A : Type 0} (x : A) → Answers (Gives x) (Ok x)
given x = record { so = λ ne. record { is = refl } }

-- what follows where a call answers well
pub on_ok : {A E : Type 0} {P Q : Type 0} (answer : Result A E) → (P → Q) → OnOk answer P → OnOk answer Q
on_ok (Ok x) f h = f h
on_ok (Err e) f h = tt

-- a refusal is handed on by a chain that begins with it
pub hands_on : {A B T : Type 0} (first : Result A SaslError → Type 0) (next : A → Result B SaslError → Type 0) (e : SaslError) (answer : Result T SaslError) → Answers first (Err e)
    → IsErrAnd answer (λ d. d ≡ e) → IfErr answer (λ refusal. Refuses (λ (r : Result B SaslError). Then first next r) refusal)
hands_on first next e (Ok x) h is = absurd is
hands_on {A} first next e (Err d) h is = record { so = λ ne. halts first next e (Err d) (h.so (λ z. ne (is ∙ same_err {A = A} e OutOfMemory z))) is }

pub ruleset chain = (stops, goes, answers, given)
