-- The parts of a name give the name back.
use Rattle.std.proofs.Common.{◌≡◌, ℕ, zero, suc, ◌+◌, ◌-◌, ◌<◌, ◌≤◌, true, false, not, IsTrue, List, [], ◌∷◌, ◌++◌, ◌==◌, ◌||◌, length, take, drop, get_or, refl, ap, ◌∙◌, arith}
use Rattle.std.specs.Prelude.{Some, None}
use Rattle.std.specs.List.{before_last, after_last, suffix_len}
use Rattle.std.proofs.Math.Seq.{take-append_seam, drop-append-add, get_or-append_seam}
use Rattle.std.proofs.lemmas.List.{length-append, get_or-append-add}
use Rattle.std.proofs.lemmas.List.Sums.{suffix_len_is}
use Rattle.sspi_core.specs.Usernames.{UserName, UserPrincipal, DownLevel, has, backslash, at_sign, is_plain, is_user_name, upn_text}
use Rattle.sspi_core.specs.Identities.{user_text, domain_text, has_empty_domain, named}
use Rattle.sspi_core.proofs.Truths.{both, neither, no}

has-append : (c : ℕ) (xs ys : List ℕ) → has c xs ≡ false → has c (xs ++ ys) ≡ has c ys
has-append c [] ys h = refl
has-append c (x ∷ xs) ys h = let parts = neither (x == c) (has c xs) h in rw parts.0 (has-append c xs ys parts.1)

has_later : (c : ℕ) (xs ys : List ℕ) → has c ys ≡ true → has c (xs ++ ys) ≡ true
has_later c [] ys h = h
has_later c (x ∷ xs) ys h = elim (x == c) as (λ v. (v || has c (xs ++ ys)) ≡ true) [ true ↦ refl | false ↦ has_later c xs ys h ]

has_not : (c : ℕ) (s : List ℕ) (k : ℕ) → has c s ≡ false → k < length s → (get_or s k 0 == c) ≡ false
has_not c [] k h inside = absurd (omega arith)
has_not c (b ∷ s) zero h inside = (neither _ _ h).0
has_not c (b ∷ s) (suc k) h inside = has_not c s k (neither _ _ h).1 (omega arith)

behind : (account suffix : List ℕ) (k : ℕ) → has at_sign suffix ≡ false → length account + 1 ≤ k → k < length (upn_text account suffix)
    → not (get_or (upn_text account suffix) k 0 == at_sign) ≡ true
behind account suffix k none low high =
    let place : k ≡ length account + suc (k - length account - 1) = omega arith in
    let sizes : length (upn_text account suffix) ≡ length account + suc (length suffix) = length-append account (at_sign ∷ suffix) in
    let here : get_or (upn_text account suffix) k 0 ≡ get_or suffix (k - length account - 1) 0 =
    ap (λ (n : ℕ). get_or (upn_text account suffix) n 0) place ∙ get_or-append-add account (at_sign ∷ suffix) (suc (k - length account - 1)) 0 in
    rw (here, has_not at_sign suffix (k - length account - 1) none (omega arith)) refl

last_parts : (account suffix : List ℕ) → has at_sign suffix ≡ false
    → (before_last (λ c. c == at_sign) (upn_text account suffix) ≡ account) × (after_last (λ c. c == at_sign) (upn_text account suffix) ≡ suffix)
last_parts account suffix none =
    let text : List ℕ = upn_text account suffix in
    let sizes : length (upn_text account suffix) ≡ length account + suc (length suffix) = length-append account (at_sign ∷ suffix) in
    let sign : get_or (upn_text account suffix) (length account + 1 - 1) 0 ≡ at_sign =
    ap (λ (n : ℕ). get_or (upn_text account suffix) n 0) (omega arith) ∙ get_or-append_seam account at_sign suffix 0 in
    let count : suffix_len (λ c. not (c == at_sign)) (upn_text account suffix) ≡ length (upn_text account suffix) - (length account + 1) =
    suffix_len_is (λ c. not (c == at_sign)) (upn_text account suffix) (length account + 1) 0 (omega arith)
    (λ k low high. behind account suffix k none low high) (λ positive. rw sign refl) in (
      ap (λ (n : ℕ). take n (upn_text account suffix)) (omega arith) ∙ take-append_seam account (at_sign ∷ suffix),
      ap (λ (n : ℕ). drop n (upn_text account suffix)) (omega arith) ∙ drop-append-add account (at_sign ∷ suffix) 1,
    )

pub names_return_lem : (name : UserName) → IsTrue (is_user_name name) → has_empty_domain name ≡ false → named (user_text name) (domain_text name) ≡ Some name
names_return_lem (UserPrincipal account suffix) good full =
    let parts = both _ _ good in
    let plain = both _ _ parts.1 in
    let none : has backslash (upn_text account suffix) ≡ false = has-append backslash account (at_sign ∷ suffix) (no _ parts.0) ∙ no _ plain.0 in
    let some : has at_sign (upn_text account suffix) ≡ true = has_later at_sign account (at_sign ∷ suffix) refl in
    let cut = last_parts account suffix (no _ plain.1) in
    rw (none, some, cut.0, cut.1, good) refl
names_return_lem (DownLevel account None) good full =
    let parts = both (is_plain account) true good in
    let plain = both (not (has backslash account)) (not (has at_sign account)) parts.0 in
    let no_backslash : has backslash account ≡ false = no _ plain.0 in
    let no_at_sign : has at_sign account ≡ false = no _ plain.1 in
    rw (no_backslash, no_at_sign) refl
names_return_lem (DownLevel account (Some domain)) good full = rw (full, good) refl
