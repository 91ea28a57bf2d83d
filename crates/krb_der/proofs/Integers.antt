-- The number that octets spell, read octet by octet.
use Rattle.std.proofs.Common.{◌≡◌, ℕ, suc, ◌+◌, ◌*◌, ◌^◌, ◌<◌, ◌≤◌, inl, inr, List, [], ◌∷◌, length, get_or, drop, sym, ap, subst, ◌∙◌, arith, ℤ, pos, ◌+ℤ◌, ◌-ℤ◌, ◌*ℤ◌, FitsSigned}
use Rattle.std.specs.Int.{w64}
use Rattle.std.specs.List.{fold}
use Rattle.std.proofs.Math.Nat.{pow-suc}
use Rattle.std.proofs.Math.Seq.{drop-cons}
use Rattle.std.proofs.lemmas.List.{nil_from_length, length-drop}
use Rattle.std.proofs.lemmas.Bool.{cases_lt, lt-ltb, le-ltb}
use Rattle.jiff_core.proofs.SignedLemmas.{signed_arith}
use Rattle.krb_der.specs.Reading.{number_of}
use Rattle.krb_der.specs.Integer.{integer_value, sign_of}
use Rattle.krb_der.proofs.Values.{IsBytes, IsBytes-tail, IsBytes-drop}

-- one octet more
abbrev pub more : ℤ → ℕ → ℤ
more number octet = number *ℤ pos 256 +ℤ pos octet

next_place : (p k : ℕ) → 256 * p * 256 ^ k ≡ p * 256 ^ suc k
next_place p k = rw pow-suc (grind arith)

-- octets that follow a number n, less a multiple of their place
more_less : (octets : List ℕ) (n p : ℕ) → fold more (pos n -ℤ pos p) octets ≡ pos (fold (λ n octet. 256 * n + octet) n octets) -ℤ pos (p * 256 ^ length octets)
more_less [] n p = omega (arith, signed_arith)
more_less (x ∷ octets) n p =
    let one : more (pos n -ℤ pos p) x ≡ pos (256 * n + x) -ℤ pos (256 * p) = omega (arith, signed_arith) in
    let place = next_place p (length octets) in
    ap (λ z. fold more z octets) one ∙ more_less octets (256 * n + x) (256 * p) ∙ ap (λ k. pos (fold (λ n octet. 256 * n + octet) (256 * n + x) octets) -ℤ pos k) place

pub whole_value : (octets : List ℕ) → fold more (sign_of octets) octets ≡ integer_value octets
whole_value octets =
    elim (cases_lt (get_or octets 0 0) 0x80) [
      | inl lt ↦ rw (lt-ltb (get_or octets 0 0) 0x80 lt) (more_less octets 0 0 ∙ omega (arith, signed_arith))
      | inr le ↦ rw (le-ltb (get_or octets 0 0) 0x80 le) (more_less octets 0 1 ∙ ap (λ k. pos (number_of octets) -ℤ pos k) (omega arith))
    ]

-- what does not fit does not fit with more octets
unfit_more : (number : ℤ) (octet : ℕ) → octet < 256 → (FitsSigned w64 number → ⊥) → FitsSigned w64 (more number octet) → ⊥
unfit_more number octet lt unfit fits = unfit (omega (arith, signed_arith))

pub unfit_all : (octets : List ℕ) (number : ℤ) → IsBytes octets → (FitsSigned w64 number → ⊥) → FitsSigned w64 (fold more number octets) → ⊥
unfit_all [] number bytes unfit = unfit
unfit_all (x ∷ octets) number bytes unfit = unfit_all octets (more number x) (IsBytes-tail x octets bytes) (unfit_more number x (bytes 0) unfit)

-- ---- the loop over octets

pub stopped : (octets : List ℕ) (i : ℕ) (number : ℤ) → IsBytes octets → i < length octets → fold more number (drop i octets) ≡ fold more (sign_of octets) octets
    → (FitsSigned w64 (more number (get_or octets i 0)) → ⊥) → FitsSigned w64 (integer_value octets) → ⊥
stopped octets i number bytes lt so_far unfit fits =
    let next : fold more number (drop i octets) ≡ fold more (more number (get_or octets i 0)) (drop (suc i) octets) = ap (fold more number) (drop-cons octets i 0 lt) in
    unfit_all (drop (suc i) octets) (more number (get_or octets i 0)) (IsBytes-drop (suc i) octets bytes) unfit (subst (FitsSigned w64) (sym (whole_value octets) ∙ sym so_far ∙ next) fits)

pub done : (octets : List ℕ) (i : ℕ) (number : ℤ) → length octets ≤ i → fold more number (drop i octets) ≡ fold more (sign_of octets) octets → number ≡ integer_value octets
done octets i number le so_far =
    let none : drop i octets ≡ [] = nil_from_length (drop i octets) (omega (arith, length-drop i octets)) in
    sym (ap (fold more number) none) ∙ so_far ∙ whole_value octets
