-- Endings of a text, and the first mapping that fits.
use Rattle.std.proofs.Common.{◌≡◌, ℕ, zero, suc, ◌+◌, ◌-◌, ◌<◌, ◌≤◌, Bool, true, false, cond, eqb, List, [], ◌∷◌, ◌++◌, map, length, length-drop, take, drop, get_or, refl, sym, ap, ◌∙◌, arith, Option, Some, None, option_map, Decides, MatchOption}
use Rattle.std.specs.Prelude.{◌==◌, bytes_eq}
use Rattle.std.specs.Char.{to_ascii_lowercase}
use Rattle.std.specs.List.{find, cons_option}
use Rattle.std.specs.Option.{option_or}
use Rattle.std.proofs.lemmas.Bool.Decides.{same_from_decides, nat_tests}
use Rattle.std.proofs.lemmas.Slice.Eq.{bytes_eq-Decides}
use Rattle.std.proofs.Math.Seq.{drop-cons}
use Rattle.std.proofs.lemmas.List.{take_all}
use Rattle.krb_conf.specs.Key.{is_same_text, under}
use Rattle.krb_conf.specs.Krb5Conf.{values_under}
use Rattle.krb_conf.specs.Realm.{ends_with_text, after_last}

-- the answer of `eq_ignore_ascii_case`
pub is_same_text-is : (r : Bool) (x y : List ℕ) → Decides r (map to_ascii_lowercase x ≡ map to_ascii_lowercase y) → r ≡ is_same_text x y
is_same_text-is r x y h = same_from_decides r _ h (bytes_eq-Decides (map to_ascii_lowercase x) (map to_ascii_lowercase y))

-- an ending that begins with a dot
pub ends_with_text-dot : (text ending : List ℕ) (start : ℕ) → length ending + 1 ≤ length text → start ≡ length text - (length ending + 1) → get_or text start 0 ≡ 46
    → is_same_text (drop (start + 1) text) ending ≡ ends_with_text text (46 ∷ ending)
ends_with_text-dot text ending start fit is dot =
    let at : start ≡ length text - length (46 ∷ ending) = omega arith in
    let next : start + 1 ≡ suc start = omega arith in
    let cut : drop start text ≡ 46 ∷ drop (start + 1) text = drop-cons text start 0 (omega arith) ∙ ap (λ x. x ∷ drop (suc start) text) dot ∙ ap (λ n. 46 ∷ drop n text) (sym next) in
    ap (λ xs. is_same_text xs (46 ∷ ending)) (sym cut) ∙ ap (λ n. is_same_text (drop n text) (46 ∷ ending)) at

-- where no such sign is, and where the last one is
pub after_last-none : (sign : ℕ) (text : List ℕ) → ((i : ℕ) → i < length text → get_or text i 0 ≡ sign → ⊥) → after_last sign text ≡ None
after_last-none sign [] h = refl
after_last-none sign (c ∷ text) h =
    let other : eqb c sign ≡ false = grind (arith, nat_tests, λ (e : c ≡ sign). h 0 (omega arith) e) in
    let deep : after_last sign text ≡ None = after_last-none sign text (λ i lt e. h (suc i) (omega (arith, lt)) e) in
    ap (λ o. option_or o (cond (eqb c sign) (Some text) None)) deep ∙ ap (λ b. cond b (Some text) None) other

pub after_last-some : (sign : ℕ) (text : List ℕ) (k : ℕ) → k < length text → get_or text k 0 ≡ sign → ((i : ℕ) → k < i → i < length text → get_or text i 0 ≡ sign → ⊥)
    → after_last sign text ≡ Some (drop (k + 1) text)
after_last-some sign [] k lt is h = absurd (omega arith)
after_last-some sign (c ∷ text) zero lt is h =
    let one : 1 ≡ 0 + 1 = omega arith in
    let same : eqb c sign ≡ true = grind (arith, nat_tests, is) in
    let deep : after_last sign text ≡ None = after_last-none sign text (λ i l e. h (suc i) (omega arith) (omega (arith, l)) e) in
    ap (λ o. option_or o (cond (eqb c sign) (Some text) None)) deep ∙ ap (λ b. cond b (Some text) None) same ∙ ap (λ n. Some (drop n (c ∷ text))) one
after_last-some sign (c ∷ text) (suc k) lt is h =
    let deep : after_last sign text ≡ Some (drop (k + 1) text) = after_last-some sign text k (omega (arith, lt)) is (λ i a l e. h (suc i) (omega (arith, a)) (omega (arith, l)) e) in
    let next : suc (k + 1) ≡ suc k + 1 = omega arith in
    ap (λ o. option_or o (cond (eqb c sign) (Some text) None)) deep ∙ ap (λ n. Some (drop n (c ∷ text))) next

-- the first mapping below a path that fits
pub under_found : (fits : List ℕ × List ℕ → Bool) (path : List (List ℕ)) (items : List (List ℕ × List ℕ)) (i : ℕ) (item : List ℕ × List ℕ) (rest : List ℕ)
    → i < length items → item ≡ get_or items i item → Some rest ≡ under path item.0 → fits (rest, item.1) ≡ true
    → find fits (values_under path (drop i items)) ≡ Some (rest, item.1)
under_found fits path items i item rest lt is found fit =
    let cut : drop i items ≡ item ∷ drop (suc i) items = drop-cons items i item lt ∙ ap (λ x. x ∷ drop (suc i) items) (sym is) in
    ap (λ xs. find fits (values_under path xs)) cut
    ∙ ap (λ o. find fits (cons_option (option_map (λ (r : List ℕ). (r, item.1)) o) (values_under path (drop (suc i) items)))) (sym found)
    ∙ ap (λ b. cond b (Some (rest, item.1)) (find fits (values_under path (drop (suc i) items)))) fit

-- the same answer, of what is left of a text
pub is_same_text-rest : (r : Bool) (text ending : List ℕ) (start : ℕ)
    → Decides r (map to_ascii_lowercase (take (length text - start) (drop start text)) ≡ map to_ascii_lowercase ending) → r ≡ is_same_text (drop start text) ending
is_same_text-rest r text ending start h =
    is_same_text-is r (take (length text - start) (drop start text)) ending h
    ∙ ap (λ xs. is_same_text xs ending) (take_all (length text - start) (drop start text) (omega (arith, length-drop start text)))
