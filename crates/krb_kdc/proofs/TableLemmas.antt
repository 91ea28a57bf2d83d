-- A value that is found in a map is found in its list.
use Rattle.std.proofs.Common.{◌≡◌, ℕ, Bool, true, false, cond, List, [], ◌∷◌, ◌++◌, Option, Some, None, refl, sym, ap, ◌∙◌}
use Rattle.std.specs.Prelude.{map, ◌&&◌}
use Rattle.std.specs.Bool.{Decides}
use Rattle.std.specs.Cmp.{unsigned_Decides}
use Rattle.std.specs.Cmp.Lexicographic.{pointwise_decides}
use Rattle.std.specs.List.{find, list_all}
use Rattle.std.specs.Map.{lookup}
use Rattle.std.proofs.lemmas.List.{map-append}
use Rattle.std.proofs.lemmas.List.Folds.{list_all-append}
use Rattle.indexmap.specs.IndexMap.{IndexMap, insert_entry}
use Rattle.indexmap.proofs.CallerLemmas.{insert_entry-new}
use Rattle.krb_kdc.specs.Registers.{same_text, same_components}
use Rattle.krb_kdc.proofs.Found.{and_first, and_second}

pub texts_decide : (xs ys : List ℕ) → Decides (same_text xs ys) (xs ≡ ys)
texts_decide = pointwise_decides unsigned_Decides

pub components_decide : (xs ys : List (List ℕ)) → Decides (same_components xs ys) (xs ≡ ys)
components_decide = pointwise_decides texts_decide

module _ {K V : Type 0} (eq : K → K → Bool) (decide : (x y : K) → Decides (eq x y) (x ≡ y)) (key : V → K) where
  -- an entry's key is the value's own key
  abbrev is_keyed : K × V → Bool
  is_keyed entry = eq (key entry.1) entry.0

  flip_from : (x y : K) (a b : Bool) → eq x y ≡ a → eq y x ≡ b → eq x y ≡ eq y x
  flip_from x y true b e f = e ∙ sym ((decide y x).1 (sym ((decide x y).0 e)))
  flip_from x y false true e f = (decide x y).1 (sym ((decide y x).0 f)) ∙ sym f
  flip_from x y false false e f = e ∙ sym f

  flip : (x y : K) → eq x y ≡ eq y x
  flip x y = flip_from x y (eq x y) (eq y x) refl refl

  pub looked_up : (k : K) (entries : List (K × V)) → list_all is_keyed entries ≡ true
      → lookup (eq k) entries ≡ find (λ (v : V). eq (key v) k) (map (λ (e : K × V). e.1) entries)
  looked_up k [] all = refl
  looked_up k (e ∷ entries) all =
      let own : key e.1 ≡ e.0 = (decide (key e.1) e.0).0 (and_first (is_keyed e) (list_all is_keyed entries) all) in
      ap (λ (b : Bool). cond b (Some e.1) (lookup (eq k) entries)) (flip k e.0 ∙ ap (λ (x : K). eq x k) (sym own))
      ∙ ap (λ (o : Option V). cond (eq (key e.1) k) (Some e.1) o) (looked_up k entries (and_second (is_keyed e) (list_all is_keyed entries) all))

  -- one value more, at its own key, which is new
  pub added : {S : Type 0} (old : IndexMap K V S) (k : K) (v : V) (new : List (K × V)) → list_all is_keyed old.entries ≡ true → k ≡ key v
      → find (λ (w : V). eq (key w) (key v)) (map (λ (e : K × V). e.1) old.entries) ≡ None → new ≡ insert_entry eq old.entries k v
      → (map (λ (e : K × V). e.1) new ≡ map (λ (e : K × V). e.1) old.entries ++ v ∷ []) × (list_all is_keyed new ≡ true)
  added old k v new all own none is =
      let absent : lookup (eq k) old.entries ≡ None =
      looked_up k old.entries all ∙ ap (λ (x : K). find (λ (w : V). eq (key w) x) (map (λ (e : K × V). e.1) old.entries)) own ∙ none in
      let grown : new ≡ old.entries ++ (k, v) ∷ [] = is ∙ insert_entry-new eq old k v absent in
      let last : list_all is_keyed ((k, v) ∷ []) ≡ true = rw ((decide (key v) k).1 (sym own)) refl in (
        ap (map (λ (e : K × V). e.1)) grown ∙ map-append (λ (e : K × V). e.1) old.entries ((k, v) ∷ []),
        ap (list_all is_keyed) grown ∙ list_all-append is_keyed old.entries ((k, v) ∷ []) ∙ ap (λ (b : Bool). b && list_all is_keyed ((k, v) ∷ [])) all ∙ last,
      )
