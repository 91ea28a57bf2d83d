-- Entries that are put into a map in the order of their keys.
use Rattle.std.proofs.Common.{◌≡◌, ℕ, suc, ◌<◌, List, [], ◌∷◌, ◌++◌, map, refl, ap, sym, ◌∙◌, subst, append_assoc, arith, Ordering, Less, Greater}
use Rattle.std.specs.Ordering.{MatchOrdering, nat_cmp}
use Rattle.std.specs.List.{All}
use Rattle.std.specs.BTreeMap.{insert_entry}
use Rattle.std.specs.Map.{keys_of}
use Rattle.std.proofs.lemmas.List.{map-append}
use Rattle.std.proofs.lemmas.Cmp.{ranked, by_ranked}

-- each key is below k
abbrev pub AreBelow : ℕ → List ℕ → Type 0
AreBelow k [] = Unit {0}
AreBelow k (q ∷ qs) = (q < k) × AreBelow k qs

-- each key of the first list is below each of the second
abbrev pub Precede : List ℕ → List ℕ → Type 0
Precede keys [] = Unit {0}
Precede keys (k ∷ rest) = AreBelow k keys × Precede keys rest

less : (x y : ℕ) → nat_cmp x y ≡ Less → x < y
less x y e = let P : Ordering → Type 0 = λ o. MatchOrdering o (x < y) (x ≡ y) (y < x) in subst P e (ranked x y (nat_cmp x y) refl)

greater : (x y : ℕ) → y < x → nat_cmp x y ≡ Greater
greater x y lt = by_ranked _ _ _ (nat_cmp x y) (ranked x y (nat_cmp x y) refl) (λ e p. absurd (omega arith)) (λ e p. absurd (omega arith)) (λ e p. e)

-- an entry whose key is above all others comes last
pub put-last : {A : Type 0} (entries : List (ℕ × A)) (k : ℕ) (value : A) → AreBelow k (keys_of entries) → insert_entry nat_cmp entries k value ≡ entries ++ (k, value) ∷ []
put-last [] k value below = refl
put-last (entry ∷ entries) k value below = rw (greater k entry.0 below.0) (ap (λ l. entry ∷ l) (put-last entries k value below.1))

below_push : (k r : ℕ) (keys : List ℕ) → AreBelow r keys → k < r → AreBelow r (keys ++ k ∷ [])
below_push k r [] below lt = (lt, tt)
below_push k r (q ∷ keys) below lt = (below.0, below_push k r keys below.1 lt)

pub precede-push : (keys rest : List ℕ) (k : ℕ) → Precede keys rest → All (λ r. nat_cmp k r ≡ Less) rest → Precede (keys ++ k ∷ []) rest
precede-push keys [] k precede above = tt
precede-push keys (r ∷ rest) k precede above =
    (below_push k r keys precede.0 (less k r (above 0 r (omega arith))), precede-push keys rest k precede.1 (λ i d lt. above (suc i) d (omega (arith, lt))))

pub precede-nothing : (rest : List ℕ) → Precede [] rest
precede-nothing [] = tt
precede-nothing (k ∷ rest) = (tt, precede-nothing rest)

-- the next entry of a map, put after those before it
pub record IsPut {A B : Type 0} (f : ℕ × A → B) (now : List (ℕ × B)) (rest : List (ℕ × A)) (all : List (ℕ × B)) : Type 0 where
  pub whole : now ++ map (λ (entry : ℕ × A). (entry.0, f entry)) rest ≡ all
  pub precede : Precede (keys_of now) (keys_of rest)

pub put-next : {A B : Type 0} (f : ℕ × A → B) (before now : List (ℕ × B)) (here rest : List (ℕ × A)) (all : List (ℕ × B)) (id : ℕ) (x : A) → here ≡ (id, x) ∷ rest → IsPut f before here all
    → now ≡ insert_entry nat_cmp before id (f (id, x)) → All (λ k. nat_cmp id k ≡ Less) (keys_of rest) → IsPut f now rest all
put-next {A = A} {B = B} f before now here rest all id x is p put above =
    let K : List (ℕ × A) → Type 0 = λ h. Precede (keys_of before) (keys_of h) in
    let M : List (ℕ × A) → Type 0 = λ h. before ++ map (λ (entry : ℕ × A). (entry.0, f entry)) h ≡ all in
    let below : AreBelow id (keys_of before) × Precede (keys_of before) (keys_of rest) = subst K is p.precede in
    let now_is : now ≡ before ++ (id, f (id, x)) ∷ [] = put ∙ put-last before id (f (id, x)) below.0 in
    let keys_are : keys_of now ≡ keys_of before ++ id ∷ [] = ap (λ (l : List (ℕ × B)). keys_of l) now_is ∙ map-append (λ (e : ℕ × B). e.0) before ((id, f (id, x)) ∷ []) in
    let P : List ℕ → Type 0 = λ ks. Precede ks (keys_of rest) in
    record {
      whole = ap (λ l. l ++ map (λ (entry : ℕ × A). (entry.0, f entry)) rest) now_is ∙ append_assoc before ((id, f (id, x)) ∷ []) (map (λ (entry : ℕ × A). (entry.0, f entry)) rest) ∙ subst M is p.whole;
      precede = subst P (sym keys_are) (precede-push (keys_of before) (keys_of rest) id below.1 above);
    }

pub put-none : {A B : Type 0} (f : ℕ × A → B) (before : List (ℕ × B)) (here : List (ℕ × A)) → before ≡ [] → IsPut f before here (map (λ (entry : ℕ × A). (entry.0, f entry)) here)
put-none {A = A} {B = B} f before here none =
    let P : List (ℕ × B) → Type 0 = λ l. IsPut f l here (map (λ (entry : ℕ × A). (entry.0, f entry)) here) in
    subst P (sym none) (record { whole = refl; precede = precede-nothing (keys_of here) })
