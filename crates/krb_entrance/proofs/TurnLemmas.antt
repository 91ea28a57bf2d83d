-- Keys that are tried in turn.
use Rattle.std.proofs.Common.{◌≡◌, ℕ, suc, zero, ◌+◌, ◌<◌, List, ◌∷◌, ◌++◌, length, take, drop, get_or, Bool, true, Option, sym, ap, ◌∙◌, subst, inl, inr, arith, add-one, drop-cons}
use Rattle.std.specs.Prelude.{All}
use Rattle.std.proofs.lemmas.List.{take-append-drop}
use Rattle.krb_context.specs.Refusals.{Refuses}
use Rattle.krb_entrance.specs.declared.candidate.Candidate.{Candidate}
use Rattle.krb_entrance.specs.declared.keys.Keys.{Keys}
use Rattle.krb_entrance.specs.Candidates.{Stops}
use Rattle.krb_entrance.specs.Turns.{leads_on, IsClosed, Opens, EndsBehind, EndsInTurn}
use Rattle.sspi_core.specs.Kinds.{error_of}
use Rattle.sspi_core.specs.declared.cause.Cause.TheVariants.{Memory}
use Rattle.sspi_core.specs.declared.draw.Draw.{Draw}
use Rattle.sspi_core.specs.declared.error.Error.{Error}
use Rattle.sspi_core.specs.declared.error.Place.TheVariants.{Elsewhere}

module _ (channel : Option (List ℕ)) (token : List ℕ) (draw : Draw) where
  -- a refusal that another key may mend closes the acceptor
  pub closed_by : (keys : Keys) (error : Error) → Refuses Elsewhere (Stops keys channel token draw) error → leads_on error.cause ≡ true
      → IsClosed channel token draw keys
  closed_by keys error refuses leads =
      let L : Error → Bool = λ e. leads_on e.cause in
      let no : error ≡ error_of Memory → ⊥ = λ e. absurd cc (sym leads ∙ ap L e) in
      let there = refuses.so no in
      record { cause = there.0; another = sym (ap L there.1) ∙ leads; stops = there.2 }

  pub All-front : (keys : Keys) (all : List Keys) → IsClosed channel token draw keys → All (IsClosed channel token draw) all
      → All (IsClosed channel token draw) (keys ∷ all)
  All-front keys all here there zero d l = here
  All-front keys all here there (suc k) d l = there k d (omega arith)

  pub opens_behind : (newest : Keys) (older : List Keys) (candidate : Candidate) → IsClosed channel token draw newest
      → Opens older channel token draw candidate → Opens (newest ∷ older) channel token draw candidate
  opens_behind newest older candidate here opens = record {
    front = newest ∷ opens.front;
    keys = opens.keys;
    behind = opens.behind;
    parts = ap (λ (s : List Keys). newest ∷ s) opens.parts;
    closed = All-front newest opens.front here opens.closed;
    passes = opens.passes;
  }

  pub ends_in_turn : (newest : Keys) (older : List Keys) (kept error : Error) → IsClosed channel token draw newest
      → Refuses Elsewhere (Stops newest channel token draw) kept → EndsBehind older channel token draw kept error → EndsInTurn newest older channel token draw error
  ends_in_turn newest older kept error here refuses (inl ends) = inl (record {
    front = newest ∷ ends.front;
    keys = ends.keys;
    behind = ends.behind;
    parts = ap (λ (s : List Keys). newest ∷ s) ends.parts;
    closed = All-front newest ends.front here ends.closed;
    refuses = ends.refuses;
  })
  ends_in_turn newest older kept error here refuses (inr all) = inr (record {
    refuses = subst (Refuses Elsewhere (Stops newest channel token draw)) (sym all.is_kept) refuses;
    closed = All-front newest older here all.closed;
  })

-- a list around one of its elements
pub parts_at : {X : Type 0} (xs : List X) (i : ℕ) (x : X) → i < length xs → x ≡ get_or xs i x → xs ≡ take i xs ++ x ∷ drop (i + 1) xs
parts_at {X} xs i x lt is =
    let e : drop i xs ≡ x ∷ drop (i + 1) xs = rw (add-one, drop-cons xs i x) (ap (λ (y : X). y ∷ drop (suc i) xs) (sym is)) in
    sym (take-append-drop i xs) ∙ ap (λ (ys : List X). take i xs ++ ys) e
