-- Prefixes and paths, case ignored.
use Rattle.std.proofs.Common.{Bor, ◌≤◌, get_or, take, drop, take-append-drop, append_assoc, ◌≡◌, ℕ, suc, ◌+◌, ◌<◌, Bool, true, false, cond, eqb, List, [], ◌∷◌, ◌++◌, map, length, refl, sym, ap, ◌∙◌, arith, Option, Some, None, inl, inr}
use Rattle.std.specs.Prelude.{◌==◌, option_and_then, if◌then◌else◌}
use Rattle.std.specs.Char.{to_ascii_lowercase}
use Rattle.std.proofs.lemmas.Bool.Decides.{nat_tests, eqb_tells}
use Rattle.std.proofs.lemmas.List.{take_more, take_all, map-append}
use Rattle.krb_conf.specs.Ascii.{bar}
use Rattle.krb_conf.specs.Key.{after_prefix, joined}

both_none : (b : Bool) (r : Option (List ℕ)) → r ≡ None → cond b r None ≡ None
both_none true r h = h
both_none false r h = refl

-- a text that is shorter than the prefix
pub after_prefix-short : (prefix text : List ℕ) → length text < length prefix → after_prefix prefix text ≡ None
after_prefix-short [] text h = absurd (omega arith)
after_prefix-short (p ∷ prefix) [] h = refl
after_prefix-short (p ∷ prefix) (c ∷ text) h = both_none _ _ (after_prefix-short prefix text (omega arith))

heads : (x y : ℕ) (xs ys : List ℕ) → x ∷ xs ≡ y ∷ ys → (x ≡ y) × (xs ≡ ys)
heads x y xs ys h = (cc, cc)

-- a text that begins with the prefix
pub after_prefix-begins : (prefix front rest : List ℕ) → map to_ascii_lowercase front ≡ map to_ascii_lowercase prefix
    → after_prefix prefix (front ++ rest) ≡ Some rest
after_prefix-begins [] [] rest h = refl
after_prefix-begins [] (f ∷ front) rest h = absurd (cc)
after_prefix-begins (p ∷ prefix) [] rest h = absurd (cc)
after_prefix-begins (p ∷ prefix) (f ∷ front) rest h =
    let parts = heads (to_ascii_lowercase f) (to_ascii_lowercase p) (map to_ascii_lowercase front) (map to_ascii_lowercase prefix) h in
    let same : eqb (to_ascii_lowercase p) (to_ascii_lowercase f) ≡ true = grind (arith, nat_tests, parts.0) in
    ap (λ b. cond b (after_prefix prefix (front ++ rest)) None) same ∙ after_prefix-begins prefix front rest parts.1

-- a text of the prefix's length at least that begins otherwise
pub after_prefix-differs : (prefix front rest : List ℕ) → length front ≡ length prefix → (map to_ascii_lowercase front ≡ map to_ascii_lowercase prefix → ⊥)
    → after_prefix prefix (front ++ rest) ≡ None
after_prefix-differs [] [] rest n h = absurd (h refl)
after_prefix-differs [] (f ∷ front) rest n h = absurd (omega arith)
after_prefix-differs (p ∷ prefix) [] rest n h = absurd (omega arith)
after_prefix-differs (p ∷ prefix) (f ∷ front) rest n h =
    elim (eqb_tells (to_ascii_lowercase p) (to_ascii_lowercase f)) [
      | inl same ↦ ap (λ b. cond b (after_prefix prefix (front ++ rest)) None) same.0
          ∙ after_prefix-differs prefix front rest (omega arith) (λ t. h (ap (λ x. x ∷ map to_ascii_lowercase front) (sym same.1) ∙ ap (λ xs. to_ascii_lowercase p ∷ xs) t))
      | inr other ↦ ap (λ b. cond b (after_prefix prefix (front ++ rest)) None) other.0
    ]

-- one prefix after another
pub after_prefix-append : (xs ys text : List ℕ) → after_prefix (xs ++ ys) text ≡ option_and_then (after_prefix ys) (after_prefix xs text)
after_prefix-append [] ys text = refl
after_prefix-append (x ∷ xs) ys [] = refl
after_prefix-append (x ∷ xs) ys (c ∷ text) =
    elim (to_ascii_lowercase x == to_ascii_lowercase c) as (λ b. cond b (after_prefix (xs ++ ys) text) None ≡ option_and_then (after_prefix ys) (cond b (after_prefix xs text) None)) [
      | true ↦ after_prefix-append xs ys text
      | false ↦ refl
    ]

-- the two parts of a cut
pub cut-is : (n : ℕ) (text front rest : List ℕ) → front ≡ take n text → rest ≡ drop n text → text ≡ front ++ rest
cut-is n text front rest f r = sym (take-append-drop n text) ∙ ap (λ x. x ++ drop n text) (sym f) ∙ ap (λ x. front ++ x) (sym r)

-- a path with one more name
pub joined-more : (first : List ℕ) (names : List (List ℕ)) (name : List ℕ) → joined (first ∷ (names ++ name ∷ [])) ≡ (joined (first ∷ names) ++ (bar ∷ [])) ++ name
joined-more first [] name = sym (append_assoc first (bar ∷ []) name)
joined-more first (n ∷ names) name =
    ap (λ x. first ++ (bar ∷ x)) (joined-more n names name)
    ∙ sym (append_assoc first (bar ∷ (joined (n ∷ names) ++ (bar ∷ []))) name)
    ∙ ap (λ x. x ++ name) (sym (append_assoc first (bar ∷ joined (n ∷ names)) (bar ∷ [])))

-- the same, where a loop has come to the i-th name
pub join_step : (first : List ℕ) (names : List (Bor (List ℕ))) (i : ℕ) (d : Bor (List ℕ)) (old pushed new : List ℕ) → i < length names
    → old ≡ joined (first ∷ map (λ name. name.now) (take i names)) → pushed ≡ old ++ (bar ∷ []) → new ≡ pushed ++ (get_or names i d).now
    → new ≡ joined (first ∷ map (λ name. name.now) (take (i + 1) names))
join_step first names i d old pushed new lt was p n =
    n ∙ ap (λ x. x ++ (get_or names i d).now) (p ∙ ap (λ x. x ++ (bar ∷ [])) was)
    ∙ sym (joined-more first (map (λ name. name.now) (take i names)) (get_or names i d).now)
    ∙ ap (λ x. joined (first ∷ x)) (sym (map-append (λ (name : Bor (List ℕ)). name.now) (take i names) (get_or names i d ∷ [])))
    ∙ ap (λ x. joined (first ∷ map (λ name. name.now) x)) (sym (take_more names i d lt))

pub join_all : (first : List ℕ) (names : List (Bor (List ℕ))) (path : List (Bor (List ℕ))) (i : ℕ) (f : Bor (List ℕ)) (old : List ℕ) → length names ≤ i
    → old ≡ joined (first ∷ map (λ name. name.now) (take i names)) → first ≡ f.now → path ≡ f ∷ names
    → old ≡ joined (map (λ name. name.now) path)
join_all first names path i f old le was is p =
    was ∙ ap (λ x. joined (first ∷ map (λ name. name.now) x)) (take_all i names le) ∙ ap (λ x. joined (x ∷ map (λ name. name.now) names)) is
    ∙ ap (λ x. joined (map (λ name. name.now) x)) (sym p)

only_bar : (c : ℕ) → to_ascii_lowercase c ≡ 124 → c ≡ 124
only_bar c h = grind (arith, nat_tests)

-- what is known of a key that begins with a text and a `|`
pub record Follows (path key rest : List ℕ) : Type 0 where
  pub within : length path < length key
  pub at : get_or key (length path) 0 ≡ 124
  pub is : rest ≡ drop (length path + 1) key

some_first : (b : Bool) (x y : List ℕ) → cond b (Some x) None ≡ Some y → (b ≡ true) × (y ≡ x)
some_first true x y h = (refl, cc)
some_first false x y h = absurd (cc)

some_more : (b : Bool) (x : Option (List ℕ)) (y : List ℕ) → cond b x None ≡ Some y → x ≡ Some y
some_more true x y h = h
some_more false x y h = absurd (cc)

pub after_bar : (path key rest : List ℕ) → after_prefix (path ++ (bar ∷ [])) key ≡ Some rest → Follows path key rest
after_bar [] [] rest h = absurd (cc)
after_bar [] (c ∷ cs) rest h =
    let is = some_first (eqb 124 (to_ascii_lowercase c)) cs rest h in
    let lower : to_ascii_lowercase c ≡ 124 = grind (arith, nat_tests, is.0) in
    record { within = omega arith; at = only_bar c lower; is = is.1 }
after_bar (p ∷ path) [] rest h = absurd (cc)
after_bar (p ∷ path) (c ∷ cs) rest h =
    let deep = after_bar path cs rest (some_more _ _ rest h) in
    let next : suc (length path + 1) ≡ length (p ∷ path) + 1 = omega arith in
    record { within = omega (arith, deep.within); at = deep.at; is = deep.is ∙ ap (λ n. drop n (c ∷ cs)) next }

-- a path and then a `|`, found one after the other
pub then_bar : (path key asked read : List ℕ) (first second : Option (List ℕ)) → asked ≡ path → read ≡ key
    → first ≡ after_prefix asked read → second ≡ option_and_then (after_prefix (bar ∷ [])) first → second ≡ after_prefix (path ++ (bar ∷ [])) key
then_bar path key asked read first second a r f s =
    s ∙ ap (option_and_then (after_prefix (bar ∷ []))) (f ∙ ap (λ x. after_prefix x read) a ∙ ap (after_prefix path) r)
    ∙ sym (after_prefix-append path (bar ∷ []) key)
