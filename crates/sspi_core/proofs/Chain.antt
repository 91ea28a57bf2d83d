-- Steps of ordered checks, whatever their refusals are; where memory may run out, a refusal is a Cause.
use Rattle.std.proofs.Common.{◌≡◌, Bool, true, false, IsTrue, rules, Result, Ok, Err, refl, sym, ap, ◌∙◌, subst}
use Rattle.std.specs.Prelude.{Option, Some, None, MatchOption}
use Rattle.std.specs.Result.{IsErrAnd, result_map_both}
use Rattle.sspi_core.specs.declared.cause.Cause.{Cause}
use Rattle.sspi_core.specs.declared.cause.Cause.TheVariants.{Memory}
use Rattle.sspi_core.specs.Checks.{Finds, FoundOr, Takes, ok_or, Holds, Passes, Gives, Goes, Then, Answers}

pub is_err : {A E : Type 0} (answer : Result A E) (e : E) → IsErrAnd answer (λ d. d ≡ e) → answer ≡ Err e
is_err (Ok x) e h = absurd h
is_err (Err d) e h = ap Err h

pub same_err : {A E : Type 0} (d e : E) → ◌≡◌ {A = Result A E} (Err d) (Err e) → d ≡ e
same_err d e h = cc

-- the checks end with a refusal
pub halts : {A B E : Type 0} (first : Result A E → Type 0) (next : A → Result B E → Type 0) (e : E) (answer : Result B E) → first (Err e) → IsErrAnd answer (λ d. d ≡ e)
    → Then first next answer
halts first next e answer h is = record { middle = Err e; held = h; rest = is_err answer e is }

-- the checks go on with what was found
pub follows : {A B E : Type 0} (first : Result A E → Type 0) (next : A → Result B E → Type 0) (a : A) (answer : Result B E) → first (Ok a) → next a answer
    → Then first next answer
follows first next a answer h k = record { middle = Ok a; held = h; rest = k }

-- the same where memory may run out
pub stops : {A B : Type 0} (first : Result A Cause → Type 0) (next : A → Result B Cause → Type 0) (e : Cause) (answer : Result B Cause) → Answers first (Err e) → IsErrAnd answer (λ d. d ≡ e) → Answers (λ r. Then first next r) answer
stops {A} {B} first next e answer h is = record {
  so = λ ne. halts first next e answer (h.so (λ z. ne (is_err answer e is ∙ ap Err (same_err {A = A} e Memory z)))) is;
}

pub goes : {A B : Type 0} (first : Result A Cause → Type 0) (next : A → Result B Cause → Type 0) (a : A) (answer : Result B Cause) → Answers first (Ok a) → Answers (next a) answer → Answers (λ r. Then first next r) answer
goes first next a answer h k = record { so = λ ne. follows first next a answer (h.so (λ z. absurd cc)) (k.so ne) }

pub answers : {A : Type 0} (checks : Result A Cause → Type 0) (answer : Result A Cause) → checks answer → Answers checks answer
answers checks answer h = record { so = λ ne. h }

pub given : {A : Type 0} (x : A) → Answers (Gives x) (Ok x)
given x = record { so = λ ne. record { is = refl } }

pub gives : {A E : Type 0} (x : A) → Gives {E = E} x (Ok x)
gives x = record { is = refl }

pub held : {E : Type 0} (refusal : E) (test : Bool) (x : Unit {0}) → Holds refusal test (Ok x) → IsTrue test
held refusal true x h = search rules
held refusal false x h = let e = h.is in absurd cc

-- ---- what is known after checks that were passed

-- a chain that ends well found something first and went on with it
pub record Passed {A B E : Type 0} (first : Result A E → Type 0) (next : A → Result B E → Type 0) (b : B) : Type 0 where
  pub found : A
  pub first_held : first (Ok found)
  pub rest_held : next found (Ok b)

passed_through : {A B E : Type 0} (first : Result A E → Type 0) (next : A → Result B E → Type 0) (b : B) (middle : Result A E)
    → first middle → Goes next middle (Ok b) → Passed first next b
passed_through first next b (Ok a) h rest = record { found = a; first_held = h; rest_held = rest }
passed_through first next b (Err e) h rest = absurd cc

pub passed : {A B E : Type 0} (first : Result A E → Type 0) (next : A → Result B E → Type 0) (b : B) → Then first next (Ok b) → Passed first next b
passed first next b h = passed_through first next b h.middle h.held h.rest

-- what was taken is there
pub took : {A E : Type 0} (refusal : E) (value : Option A) (a : A) → Takes refusal value (Ok a) → value ≡ Some a
took refusal (Some x) a h = let e = h.is in cc
took refusal None a h = let e = h.is in absurd cc

pub gave : {A E : Type 0} (x a : A) → Gives {E = E} x (Ok a) → a ≡ x
gave x a h = let e = h.is in cc

pub no_refusal : {E : Type 0} (refusal : Option E) (x : Unit {0}) → Passes refusal (Ok x) → refusal ≡ None
no_refusal None x h = refl
no_refusal (Some e) x h = let e = h.is in absurd cc

-- ---- steps of a chain that are known

pub takes_some : {A E : Type 0} (refusal : E) (value : Option A) (a : A) → value ≡ Some a → Takes refusal value (Ok a)
takes_some refusal value a e = record { is = sym (ap (ok_or refusal) e) }

pub holds_true : {E : Type 0} (refusal : E) (test : Bool) → test ≡ true → Holds refusal test (Ok tt)
holds_true refusal true e = record { is = refl }
holds_true refusal false e = absurd cc

-- what a search found, or that there is nothing, as a check
pub finds_from : {A E : Type 0} (refusal : E) (P : A → Type 0) (o : Option A) (answer : Result A E)
    → MatchOption o ((a : A) → ¬ (P a)) P → Takes refusal o answer → Finds refusal P answer
finds_from refusal P (Some x) answer h t = record { is = subst (λ r. FoundOr refusal P r) (sym t.is) h }
finds_from refusal P None answer h t = record { is = subst (λ r. FoundOr refusal P r) (sym t.is) (refl, h) }

-- a refusal in the place of a lent value
pub lent_err : {T U E : Type 0} (f : T → U) (answer : Result T E) (e : E) → IsErrAnd answer (λ d. d ≡ e)
    → IsErrAnd (result_map_both f (λ d. d) answer) (λ d. d ≡ e)
lent_err f (Ok x) e is = absurd is
lent_err f (Err d) e is = is

pub ruleset chain = (stops, goes, answers, given)

pub ruleset plain_chain = (halts, follows, gives)
