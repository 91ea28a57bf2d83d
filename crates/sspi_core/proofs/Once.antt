-- Ordered checks have at most one answer.
use Rattle.std.proofs.Common.{◌≡◌, Bool, Option, Result, Ok, Err, sym, ap, ◌∙◌, subst}
use Rattle.sspi_core.specs.Checks.{Finds, Takes, Holds, Passes, Gives, Goes, Then}

pub record Once {A E : Type 0} (checks : Result A E → Type 0) : Type 0 where
  pub same : (r s : Result A E) → checks r → checks s → r ≡ s

goes_once : {A B E : Type 0} (next : A → Result B E → Type 0) (m : Result A E) (r s : Result B E) → ((a : A) → Once (next a)) → Goes next m r → Goes next m s → r ≡ s
goes_once next (Ok a) r s of h k = (of a).same r s h k
goes_once next (Err e) r s of h k = h ∙ sym k

pub then_once : {A B E : Type 0} (first : Result A E → Type 0) (next : A → Result B E → Type 0) → Once first → ((a : A) → Once (next a)) → Once (λ r. Then first next r)
then_once {A} {B} {E} first next one of = record {
  same = λ r s h k.
      let e = one.same h.middle k.middle h.held k.held in
      goes_once next h.middle r s of h.rest (subst (λ (m : Result A E). Goes next m s) (sym e) k.rest);
}

find_once : {A E : Type 0} (refusal : E) (P : A → Type 0) → ((x y : A) → P x → P y → x ≡ y) → (r s : Result A E) → Finds refusal P r → Finds refusal P s → r ≡ s
find_once refusal P of (Ok x) (Ok y) h k = ap Ok (of x y h.is k.is)
find_once refusal P of (Ok x) (Err e) h k = absurd (k.is.1 x h.is)
find_once refusal P of (Err e) (Ok y) h k = absurd (h.is.1 y k.is)
find_once refusal P of (Err e) (Err d) h k = ap Err (h.is.0 ∙ sym k.is.0)

pub finds_once : {A E : Type 0} (refusal : E) (P : A → Type 0) → ((x y : A) → P x → P y → x ≡ y) → Once (λ r. Finds refusal P r)
finds_once refusal P of = record { same = find_once refusal P of }

pub takes_once : {A E : Type 0} (refusal : E) (value : Option A) → Once (λ r. Takes refusal value r)
takes_once refusal value = record { same = λ r s h k. h.is ∙ sym k.is }

pub holds_once : {E : Type 0} (refusal : E) (test : Bool) → Once (λ r. Holds refusal test r)
holds_once refusal test = record { same = λ r s h k. h.is ∙ sym k.is }

pub passes_once : {E : Type 0} (refusal : Option E) → Once (λ r. Passes refusal r)
passes_once refusal = record { same = λ r s h k. h.is ∙ sym k.is }

pub gives_once : {A E : Type 0} (value : A) → Once {E = E} (λ r. Gives value r)
gives_once value = record { same = λ r s h k. h.is ∙ sym k.is }
