-- Names, one after another.
use Rattle.std.proofs.Common.{◌≡◌, ◌<◌, ◌+◌, ℕ, List, [], ◌∷◌, ◌++◌, length, take, drop, get_or, Option, Some, None, refl, sym, ap, ap₂, ◌∙◌}
use Rattle.std.specs.Prelude.{map}
use Rattle.std.proofs.lemmas.List.{take-append-drop, take_more, drop_more, map-append}
use Rattle.krb_der.specs.Reading.{◌>>=◌}
use Rattle.krb_script.specs.Fields.{name_of}
use Rattle.krb_realm.specs.Fields.{names_in}

abbrev joined : Option (List ℕ) → Option (List (List ℕ)) → Option (List (List ℕ))
joined first more = first >>= (λ (x : List ℕ). more >>= (λ (xs : List (List ℕ)). Some (x ∷ xs)))

none_behind : (first : Option (List ℕ)) → joined first None ≡ None
none_behind None = refl
none_behind (Some x) = refl

-- one field that is no name, and there are no names
pub none-among : (front : List (List ℕ)) (field : List ℕ) (rest : List (List ℕ)) → name_of field ≡ None → names_in (front ++ field ∷ rest) ≡ None
none-among [] field rest none = ap (λ (o : Option (List ℕ)). joined o (names_in rest)) none
none-among (x ∷ front) field rest none = ap (joined (name_of x)) (none-among front field rest none) ∙ none_behind (name_of x)

abbrev both : Option (List (List ℕ)) → Option (List ℕ) → Option (List (List ℕ))
both found last = found >>= (λ (xs : List (List ℕ)). last >>= (λ (b : List ℕ). Some (xs ++ b ∷ [])))

only_last : (last : Option (List ℕ)) → joined last (Some []) ≡ both (Some []) last
only_last None = refl
only_last (Some b) = refl

joined_both : (first : Option (List ℕ)) (found : Option (List (List ℕ))) (last : Option (List ℕ)) → joined first (both found last) ≡ both (joined first found) last
joined_both None found last = refl
joined_both (Some x) None last = refl
joined_both (Some x) (Some xs) None = refl
joined_both (Some x) (Some xs) (Some b) = refl

-- one field more
one_more : (front : List (List ℕ)) (field : List ℕ) → names_in (front ++ field ∷ []) ≡ both (names_in front) (name_of field)
one_more [] field = only_last (name_of field)
one_more (x ∷ front) field = ap (joined (name_of x)) (one_more front field) ∙ joined_both (name_of x) (names_in front) (name_of field)

-- a field that is no name, by its place
pub fails-at : {T : Type 0} (octets : T → List ℕ) (fields : List T) (i : ℕ) (d : T) → i < length fields → name_of (octets (get_or fields i d)) ≡ None
    → names_in (map octets fields) ≡ None
fails-at octets fields i d low none =
    ap (λ l. names_in (map octets l)) (sym (take-append-drop i fields) ∙ ap (λ l. take i fields ++ l) (drop_more fields i d low))
    ∙ ap names_in (map-append octets (take i fields) (get_or fields i d ∷ drop (i + 1) fields))
    ∙ none-among (map octets (take i fields)) (octets (get_or fields i d)) (map octets (drop (i + 1) fields)) none

-- one name more, by its place
pub one-more-at : {T : Type 0} (octets : T → List ℕ) (fields : List T) (i : ℕ) (d : T) (xs : List (List ℕ)) (b : List ℕ) → i < length fields
    → names_in (map octets (take i fields)) ≡ Some xs → name_of (octets (get_or fields i d)) ≡ Some b
    → names_in (map octets (take (i + 1) fields)) ≡ Some (xs ++ b ∷ [])
one-more-at octets fields i d xs b low told found =
    ap (λ l. names_in (map octets l)) (take_more fields i d low)
    ∙ ap names_in (map-append octets (take i fields) (get_or fields i d ∷ []))
    ∙ one_more (map octets (take i fields)) (octets (get_or fields i d)) ∙ ap₂ both told found
