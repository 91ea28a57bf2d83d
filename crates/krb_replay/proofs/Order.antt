-- The order of records, and lists in that order.
use Rattle.std.proofs.Common.{◌≡◌, ℕ, zero, suc, ◌+◌, ◌<◌, ℤ, Bool, true, false, ◌&&◌, ◌||◌, cond, List, [], ◌∷◌, length, get_or, Ok, Err, Result, Ordering, Less, Equal, Greater, is_eq, refl, sym, ap, ◌∙◌, arith, inl, inr}
use Rattle.std.proofs.lemmas.Bool.{cases_lt, false≢true}
use Rattle.std.proofs.lemmas.Int.{ints}
use Rattle.std.proofs.lemmas.List.Folds.{list_any_none, list_any-from_Any}
use Rattle.std.proofs.lemmas.List.Sorted.{searchable_from_sorted}
use Rattle.std.specs.List.{list_any, filter, fold, AllByRecursion, insert}
use Rattle.std.specs.Result.{MatchResult}
use Rattle.std.specs.List.Sorted.{IsNonDecreasingBy, IsBinarySearchResult, IsSearchInRange}
use Rattle.std.specs.Ordering.{is_lt, is_gt, int_cmp, int_eq, nat_cmp, ordering_then, ordering_reverse, ordering_index}
use Rattle.std.specs.Cmp.{IsTotalOrder, int_cmp_total, on_total, then_total, upto}
use Rattle.std.specs.Cmp.Lexicographic.{slice_cmp, lists_ties, lists_total, nat_list_cmp_total, texts_ties}
use Rattle.krb_replay.specs.declared.record.Record.{Record}
use Rattle.krb_replay.specs.Records.{record_eq, record_cmp, has_record}
use Rattle.krb_replay.specs.Order.{Ascends, IsPlace, place, in_order}

pub record_total : IsTotalOrder record_cmp
record_total =
    then_total (on_total (λ r. r.ctime) int_cmp_total) (then_total (on_total (λ r. r.cusec) nat_list_cmp_total) (then_total (on_total (λ r. r.realm) nat_list_cmp_total)
    (then_total (on_total (λ r. r.name) (then_total (on_total (λ n. n.name_type) nat_list_cmp_total) (on_total (λ n. n.name_string) (lists_total nat_list_cmp_total))))
    (on_total (λ r. r.tag) nat_list_cmp_total))))

both_ties : (r s : Ordering) (p q : Bool) → p ≡ is_eq r → q ≡ is_eq s → (p && q) ≡ is_eq (ordering_then r s)
both_ties Less s p q e f = ap (λ b. b && q) e
both_ties Equal s p q e f = ap (λ b. b && q) e ∙ f
both_ties Greater s p q e f = ap (λ b. b && q) e

int_ties : (a b : ℤ) → int_eq a b ≡ is_eq (int_cmp a b)
int_ties a b = grind (arith, ints)

-- records that compare alike are the same
pub record_ties : (a b : Record) → record_eq a b ≡ is_eq (record_cmp a b)
record_ties a b =
    both_ties _ _ _ _ (int_ties a.ctime b.ctime) (both_ties _ _ _ _ (texts_ties a.cusec b.cusec) (both_ties _ _ _ _ (texts_ties a.realm b.realm)
    (both_ties _ _ _ _ (both_ties _ _ _ _ (texts_ties a.name.name_type b.name.name_type) (lists_ties (slice_cmp nat_cmp) texts_ties a.name.name_string b.name.name_string))
    (texts_ties a.tag b.tag))))

turn : (r : Ordering) → is_lt (ordering_reverse r) ≡ is_gt r
turn Less = refl
turn Equal = refl
turn Greater = refl

turned : (x y : Record) → is_lt (record_cmp y x) ≡ is_gt (record_cmp x y)
turned x y = ap is_lt (record_total.antisymm y x) ∙ turn (record_cmp x y)

not_above : (r : Ordering) → is_lt r ≡ true → is_gt r ≡ false
not_above Less e = refl
not_above Equal e = refl
not_above Greater e = cc

all_weaker : (P Q : Record → Type 0) → ((x : Record) → P x → Q x) → (xs : List Record) → AllByRecursion P xs → AllByRecursion Q xs
all_weaker P Q f [] h = tt
all_weaker P Q f (x ∷ xs) h = (f x h.0, all_weaker P Q f xs h.1)

-- ---- what a search finds

adjacent : (xs : List Record) (j k : ℕ) (d : Record) → j ≡ k + 1 → j < length xs → Ascends xs → is_lt (record_cmp (get_or xs j d) (get_or xs k d)) ≡ false
adjacent [] j k d e h a = absurd (omega arith)
adjacent (x ∷ xs) zero k d e h a = absurd (omega arith)
adjacent (x ∷ []) (suc j) k d e h a = absurd (omega arith)
adjacent (x ∷ y ∷ ys) (suc zero) zero d e h a = turned x y ∙ a.0.0
adjacent (x ∷ y ∷ ys) (suc (suc j)) zero d e h a = absurd (omega arith)
adjacent (x ∷ y ∷ ys) (suc j) (suc k) d e h a = adjacent (y ∷ ys) j k d (omega arith) (omega arith) a.1

searchable : (xs : List Record) (r : Record) → Ascends xs → IsNonDecreasingBy (λ y. ordering_index (record_cmp y r)) xs
searchable xs r a = searchable_from_sorted record_total (λ (x : Record). x) xs r (λ k d low high. adjacent xs (k + 1) k d refl high a)

pub absent : (xs : List Record) (r : Record) (i : ℕ) → IsPlace xs r i → has_record xs r ≡ false
absent xs r i p = list_any_none (λ x. record_eq x r) xs (λ k d h. elim (cases_lt k i) [ inl l ↦ record_ties (get_or xs k d) r ∙ ap is_eq (p.less k d (omega arith) l) | inr l ↦ record_ties (get_or xs k d) r ∙ ap is_eq (p.greater k d l h) ])

-- what the search answers, in the book's words
pub found : (xs : List Record) (r : Record) (res : Result ℕ ℕ) → Ascends xs → IsSearchInRange res (length xs) → IsBinarySearchResult (λ y. record_cmp y r) xs res → MatchResult res (λ i. has_record xs r ≡ true) (IsPlace xs r)
found xs r (Ok i) a within h = list_any-from_Any (λ x. record_eq x r) xs (i, get_or xs i r, within, own xs i r within, record_ties (get_or xs i r) r ∙ ap is_eq (h r))
  where
    own : (xs : List Record) (i : ℕ) (d : Record) → i < length xs → get_or xs i (get_or xs i d) ≡ get_or xs i d
    own [] i d h = absurd (omega arith)
    own (x ∷ xs) zero d h = refl
    own (x ∷ xs) (suc i) d h = own xs i d (omega arith)
found xs r (Err i) a within h = let p = h (searchable xs r a) in record { within = within; less = p.0; greater = p.1 }

-- ---- a record put in its place

above_place : (x r : Record) (xs : List Record) → is_gt (record_cmp x r) ≡ false → AllByRecursion (λ y. is_gt (record_cmp x y) ≡ false) xs → AllByRecursion (λ y. is_gt (record_cmp x y) ≡ false) (place xs r)
above_place x r [] h a = (h, tt)
above_place x r (y ∷ ys) h a =
    elim (is_lt (record_cmp y r)) as (λ b. AllByRecursion (λ y. is_gt (record_cmp x y) ≡ false) (cond b (y ∷ place ys r) (r ∷ y ∷ ys))) [ true ↦ (a.0, above_place x r ys h a.1) | false ↦ (h, a) ]

pub Ascends-place : (xs : List Record) (r : Record) → Ascends xs → Ascends (place xs r)
Ascends-place [] r a = (tt, tt)
Ascends-place (x ∷ xs) r a = by (is_lt (record_cmp x r)) refl (Ascends-place xs r a.1)
  where
    by : (b : Bool) → is_lt (record_cmp x r) ≡ b → Ascends (place xs r) → Ascends (cond b (x ∷ place xs r) (r ∷ x ∷ xs))
    by true e rest = (above_place x r xs (not_above _ e) a.0, rest)
    by false e rest = let up = sym (turned r x) ∙ e in ((up, all_weaker _ _ (λ y h. upto record_total r x y up h) xs a.0), a)

or_swap : (p q r : Bool) → (p || (q || r)) ≡ ((q || r) || p)
or_swap true true r = refl
or_swap true false true = refl
or_swap true false false = refl
or_swap false true r = refl
or_swap false false true = refl
or_swap false false false = refl

or_none : (p : Bool) → p ≡ (p || false)
or_none true = refl
or_none false = refl

or_assoc : (p q r : Bool) → (p || (q || r)) ≡ ((p || q) || r)
or_assoc true q r = refl
or_assoc false q r = refl

module _ (p : Record → Bool) where
  any-place : (xs : List Record) (r : Record) → list_any p (place xs r) ≡ (list_any p xs || p r)
  any-place [] r = or_swap (p r) false false
  any-place (x ∷ xs) r =
      elim (is_lt (record_cmp x r)) as (λ b. list_any p (cond b (x ∷ place xs r) (r ∷ x ∷ xs)) ≡ (list_any p (x ∷ xs) || p r)) [ true ↦ ap (λ b. p x || b) (any-place xs r) ∙ or_assoc (p x) (list_any p xs) (p r) | false ↦ or_swap (p r) (p x) (list_any p xs) ]

  -- as many pass in order
  any-in_order_from : (acc xs : List Record) → list_any p (fold place acc xs) ≡ (list_any p acc || list_any p xs)
  any-in_order_from acc [] = or_none (list_any p acc)
  any-in_order_from acc (x ∷ xs) = any-in_order_from (place acc x) xs ∙ ap (λ b. b || list_any p xs) (any-place acc x) ∙ sym (or_assoc (list_any p acc) (p x) (list_any p xs))

  pub any-in_order : (xs : List Record) → list_any p (in_order xs) ≡ list_any p xs
  any-in_order xs = any-in_order_from [] xs

  -- ---- a filter that keeps what is above a record that it keeps

  module _ (up : (x y : Record) → is_lt (record_cmp x y) ≡ false → p y ≡ true → p x ≡ true) where
    filter-place : (xs : List Record) (r : Record) (b : Bool) → p r ≡ b → filter p (place xs r) ≡ cond b (place (filter p xs) r) (filter p xs)
    filter-place [] r true e = rw e
    filter-place [] r false e = rw e
    filter-place (x ∷ xs) r b e = by (is_lt (record_cmp x r)) (p x) b refl refl e (filter-place xs r b e)
      where
        by : (l q b : Bool) → is_lt (record_cmp x r) ≡ l → p x ≡ q → p r ≡ b → filter p (place xs r) ≡ cond b (place (filter p xs) r) (filter p xs) → filter p (cond l (x ∷ place xs r) (r ∷ x ∷ xs)) ≡ cond b (place (filter p (x ∷ xs)) r) (filter p (x ∷ xs))
        by true true true f g e rest = rw (g, f, rest)
        by true true false f g e rest = rw (g, rest)
        by true false true f g e rest = rw (g, rest)
        by true false false f g e rest = rw (g, rest)
        by false q false f g e rest = rw e
        by false true true f g e rest = rw (e, g, f)
        by false false true f g e rest = absurd (false≢true (sym g ∙ up x r f e))

    filter-in_order_from : (acc xs : List Record) → filter p (fold place acc xs) ≡ fold place (filter p acc) (filter p xs)
    filter-in_order_from acc [] = refl
    filter-in_order_from acc (x ∷ xs) = by (p x) refl (filter-in_order_from (place acc x) xs)
      where
        by : (b : Bool) → p x ≡ b → filter p (fold place (place acc x) xs) ≡ fold place (filter p (place acc x)) (filter p xs) → filter p (fold place acc (x ∷ xs)) ≡ fold place (filter p acc) (cond b (x ∷ filter p xs) (filter p xs))
        by true e rest = rest ∙ ap (λ l. fold place l (filter p xs)) (filter-place acc x true e)
        by false e rest = rest ∙ ap (λ l. fold place l (filter p xs)) (filter-place acc x false e)

    pub filter-in_order : (xs : List Record) → filter p (in_order xs) ≡ in_order (filter p xs)
    filter-in_order xs = filter-in_order_from [] xs

    all_pass : (x : Record) (xs : List Record) → p x ≡ true → AllByRecursion (λ y. is_gt (record_cmp x y) ≡ false) xs → filter p xs ≡ xs
    all_pass x [] e a = refl
    all_pass x (y ∷ ys) e a = rw (up y x (turned x y ∙ a.0) e, all_pass x ys e a.1)

    -- where the first passes, each does
    pub filter-from_front : (x : Record) (xs : List Record) → p x ≡ true → Ascends (x ∷ xs) → filter p (x ∷ xs) ≡ x ∷ xs
    filter-from_front x xs e a = rw (e, all_pass x xs e a.0)

pub length-place : (xs : List Record) (r : Record) → length (place xs r) ≡ length xs + 1
length-place [] r = refl
length-place (x ∷ xs) r =
    elim (is_lt (record_cmp x r)) as (λ b. length (cond b (x ∷ place xs r) (r ∷ x ∷ xs)) ≡ length (x ∷ xs) + 1) [ true ↦ omega (arith, length-place xs r) | false ↦ omega arith ]

length-in_order_from : (acc xs : List Record) → length (fold place acc xs) ≡ length acc + length xs
length-in_order_from acc [] = omega arith
length-in_order_from acc (x ∷ xs) = omega (arith, length-in_order_from (place acc x) xs, length-place acc x)

pub length-in_order : (xs : List Record) → length (in_order xs) ≡ length xs
length-in_order xs = omega (arith, length-in_order_from [] xs)

pub IsPlace-rest : (x : Record) (xs : List Record) (r : Record) (i : ℕ) → IsPlace (x ∷ xs) r (suc i) → IsPlace xs r i
IsPlace-rest x xs r i p = record {
  within = omega (arith, p.within);
  less = λ k d low high. p.less (suc k) d (omega arith) (omega arith);
  greater = λ k d low high. p.greater (suc k) d (omega arith) (omega arith);
}

-- an insertion at its place puts a record in its place
pub insert-is_place : (xs : List Record) (r : Record) (i : ℕ) → IsPlace xs r i → insert xs i r ≡ place xs r
insert-is_place [] r i p = at i (omega (arith, p.within))
  where
    at : (i : ℕ) → i ≡ 0 → insert [] i r ≡ r ∷ []
    at zero e = refl
    at (suc i) e = absurd (omega arith)
insert-is_place (x ∷ xs) r zero p = rw (p.greater 0 x (omega arith) (omega arith))
insert-is_place (x ∷ xs) r (suc i) p = rw (p.less 0 x (omega arith) (omega arith)) (ap (λ l. x ∷ l) (insert-is_place xs r i (IsPlace-rest x xs r i p)))

-- ---- what is below

pub below : (x y z : Record) → is_gt (record_cmp x y) ≡ false → record_cmp y z ≡ Less → record_cmp x z ≡ Less
below x y z h e = by (record_cmp x y) refl h
  where
    by : (o : Ordering) → record_cmp x y ≡ o → is_gt o ≡ false → record_cmp x z ≡ Less
    by Less f g = record_total.trans x y z f e
    by Equal f g = record_total.congr x y z f ∙ e
    by Greater f g = absurd (false≢true (sym g))

less_is : (r : Ordering) → is_lt r ≡ true → r ≡ Less
less_is Less e = refl
less_is Equal e = absurd (false≢true e)
less_is Greater e = absurd (false≢true e)

pub less_by : (a b : Record) → is_lt (record_cmp a b) ≡ true → record_cmp a b ≡ Less
less_by a b e = less_is (record_cmp a b) e
