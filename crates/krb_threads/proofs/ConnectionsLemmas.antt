-- The connections of a worker, with one more declared end at a time.
use Rattle.std.proofs.Common.{◌≡◌, ℕ, zero, suc, ◌<◌, Bool, true, false, cond, List, [], ◌∷◌, ◌++◌, length, get_or, refl, sym, ap, ◌∙◌, subst, arith, Ordering, Less}
use lib.ListN.{length-map}
use Rattle.std.specs.Ordering.{MatchOrdering, nat_cmp}
use Rattle.std.specs.BTreeMap.{insert_entry}
use Rattle.std.specs.Map.{keys_of}
use Rattle.std.proofs.lemmas.List.{map-append}
use Rattle.std.proofs.lemmas.Cmp.{ranked}
use Rattle.krb_script.specs.declared.endpoint.Endpoint.{Endpoint}
use Rattle.krb_machine.specs.Described.{connection_of, connections_with}
use Rattle.krb_machine.specs.declared.connection.Connection.{Connection}
use Rattle.krb_machine.proofs.OrderLemmas.{AreBelow, put-last}
use Rattle.krb_input.specs.Parted.{is_of}
use Rattle.krb_threads.specs.Journaled.{connections_of}
use Rattle.krb_input.proofs.PartingLemmas.{filter-in, filter-out}

less : (x y : ℕ) → nat_cmp x y ≡ Less → x < y
less x y e = let P : Ordering → Type 0 = λ o. MatchOrdering o (x < y) (x ≡ y) (y < x) in subst P e (ranked x y (nat_cmp x y) refl)

-- keys that come before this one
pub below-at : (k : ℕ) (ks rest : List ℕ) → ((i d : ℕ) → i < length ks → nat_cmp (get_or (ks ++ rest) i d) k ≡ Less) → AreBelow k ks
below-at k [] rest h = tt
below-at k (q ∷ ks) rest h = (less q k (h zero 0 (omega arith)), below-at k ks rest (λ i d lt. h (suc i) d (omega (arith, lt))))

pub below-turn : (all front rest : List (ℕ × Endpoint)) (k : ℕ) → all ≡ front ++ rest → ((i d : ℕ) → i < length front → nat_cmp (get_or (keys_of all) i d) k ≡ Less) → AreBelow k (keys_of front)
below-turn all front rest k is h =
    let keys_are : keys_of all ≡ keys_of front ++ keys_of rest = ap (λ (es : List (ℕ × Endpoint)). keys_of es) is ∙ map-append (λ (e : ℕ × Endpoint). e.0) front rest in
    let len : length (keys_of front) ≡ length front = length-map front (λ (e : ℕ × Endpoint). e.0) in
    let P : List ℕ → Type 0 = λ ks. (i d : ℕ) → i < length front → nat_cmp (get_or ks i d) k ≡ Less in
    below-at k (keys_of front) (keys_of rest) (λ i d lt. subst P keys_are h i d (omega (arith, lt, len)))

below_one : (k : ℕ) (b : Bool) (entry : ℕ × Connection) (rest : List (ℕ × Connection)) → entry.0 < k → AreBelow k (keys_of rest) → AreBelow k (keys_of (cond b (entry ∷ rest) rest))
below_one k true entry rest lt below = (lt, below)
below_one k false entry rest lt below = below

module _ (worker skew : ℕ) where
  abbrev own : List (ℕ × Endpoint) → List (ℕ × Connection)
  own endpoints = connections_of worker (connections_with skew endpoints)

  below_own : (k : ℕ) (endpoints : List (ℕ × Endpoint)) → AreBelow k (keys_of endpoints) → AreBelow k (keys_of (own endpoints))
  below_own k [] below = tt
  below_own k (entry ∷ endpoints) below =
      below_one k (is_of worker entry.0) (entry.0, connection_of skew entry.1) (own endpoints) below.0 (below_own k endpoints below.1)

  grown : (endpoints : List (ℕ × Endpoint)) (id : ℕ) (endpoint : Endpoint)
      → connections_with skew (endpoints ++ (id, endpoint) ∷ []) ≡ connections_with skew endpoints ++ (id, connection_of skew endpoint) ∷ []
  grown endpoints id endpoint = map-append (λ (entry : ℕ × Endpoint). (entry.0, connection_of skew entry.1)) endpoints ((id, endpoint) ∷ [])

  -- an end of this worker
  pub put-own : (endpoints : List (ℕ × Endpoint)) (id : ℕ) (endpoint : Endpoint) (made : Connection) (before after : List (ℕ × Connection)) → before ≡ own endpoints → is_of worker id ≡ true
      → made ≡ connection_of skew endpoint → AreBelow id (keys_of endpoints) → after ≡ insert_entry nat_cmp before id made → after ≡ own (endpoints ++ (id, endpoint) ∷ [])
  put-own endpoints id endpoint made before after so_far is made_is below put =
      put ∙ ap (λ es. insert_entry nat_cmp es id made) so_far ∙ put-last (own endpoints) id made (below_own id endpoints below)
      ∙ ap (λ (x : Connection). own endpoints ++ (id, x) ∷ []) made_is
      ∙ sym (filter-in (λ (entry : ℕ × Connection). is_of worker entry.0) (connections_with skew endpoints) (id, connection_of skew endpoint) is)
      ∙ ap (connections_of worker) (sym (grown endpoints id endpoint))

  -- an end of the other worker
  pub put-other : (endpoints : List (ℕ × Endpoint)) (id : ℕ) (endpoint : Endpoint) → is_of worker id ≡ false → own endpoints ≡ own (endpoints ++ (id, endpoint) ∷ [])
  put-other endpoints id endpoint is =
      sym (filter-out (λ (entry : ℕ × Connection). is_of worker entry.0) (connections_with skew endpoints) (id, connection_of skew endpoint) is)
      ∙ ap (connections_of worker) (sym (grown endpoints id endpoint))
