-- The files that are found among those that a path names.
use Rattle.std.proofs.Common.{◌≡◌, ℕ, ◌+◌, ◌<◌, List, [], ◌∷◌, ◌++◌, map, length, take, get_or, refl, sym, ap, ◌∙◌, append_assoc, Bor, Option, Some, None, option_map}
use Rattle.std.specs.Option.{option_to_list}
use Rattle.std.specs.List.{filter_map, cons_option}
use Rattle.std.proofs.lemmas.List.{length_push, take_more, map-append, append-nil}

-- what a list and one element more give
filter_map-push : {A B : Type 0} (f : A → Option B) (xs : List A) (x : A) (r : Option B) → f x ≡ r
    → filter_map f (xs ++ x ∷ []) ≡ filter_map f xs ++ option_to_list r
filter_map-push f [] x None e = rw e refl
filter_map-push f [] x (Some y) e = rw e refl
filter_map-push f (z ∷ xs) x r e =
    elim (f z) as (λ o. cons_option o (filter_map f (xs ++ x ∷ [])) ≡ cons_option o (filter_map f xs) ++ option_to_list r) [
      | None ↦ filter_map-push f xs x r e
      | Some y ↦ ap (λ ys. y ∷ ys) (filter_map-push f xs x r e)
    ]

-- a loop over the parts, where one more part came
pub one_more_path : {B : Type 0} (f : List ℕ → Option B) (parts : List (List ℕ)) (yielded : List (Bor (List ℕ))) (part : Bor (List ℕ)) (r : Option B) (old new : List B)
    → (length yielded < length parts) × (part.now ≡ get_or parts (length yielded) part.now) → f part.now ≡ r
    → old ≡ filter_map f (take (length yielded) parts) → new ≡ old ++ option_to_list r
    → new ≡ filter_map f (take (length (yielded ++ part ∷ [])) parts)
one_more_path f parts yielded part r old new turn gives was now =
    now ∙ ap (λ xs. xs ++ option_to_list r) was
    ∙ sym (filter_map-push f (take (length yielded) parts) (get_or parts (length yielded) part.now) r (ap f (sym turn.1) ∙ gives))
    ∙ ap (filter_map f) (sym (take_more parts (length yielded) part.now turn.0))
    ∙ ap (λ n. filter_map f (take n parts)) (sym (length_push yielded part))
