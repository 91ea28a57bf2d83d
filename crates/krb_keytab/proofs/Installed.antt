-- The names of a realm, and their keys.
use Rattle.std.proofs.Common.{◌≡◌, ℕ, ◌+◌, ◌<◌, Bool, true, false, cond, List, [], ◌∷◌, ◌++◌, length, get_or, take, refl, sym, ap, subst, ◌∙◌, Result}
use Rattle.std.specs.Prelude.{◌||◌, ◌&&◌, not, map, option_map, OnOk}
use Rattle.std.specs.Cmp.{nat_eq_equiv}
use Rattle.std.specs.Cmp.Lexicographic.{lists_equiv}
use Rattle.std.specs.List.{list_any, flat_map}
use Rattle.std.specs.Option.{option_to_list}
use Rattle.std.proofs.lemmas.List.{map_push}
use Rattle.std.proofs.lemmas.List.Sums.{fold_more}
use Rattle.std.proofs.lemmas.List.Folds.{flat_map-map}
use Rattle.krb_messages.specs.declared.principal_name.PrincipalName.{PrincipalName}
use Rattle.krb_context.specs.ServiceKeys.{service_named}
use Rattle.krb_keytab.specs.declared.entry.KeytabEntry.{KeytabEntry}
use Rattle.krb_keytab.specs.declared.realm_keys.RealmKeys.{RealmKeys}
use Rattle.krb_keytab.specs.Finding.{same_octets, same_names}
use Rattle.krb_keytab.specs.Installing.{names_with, names_of, key_for, service_key_of, keys_of}
use Rattle.krb_keytab.specs.RealmKeys.{LentName, key_at, pair_at}

pub any_map : {X Y : Type 0} (test : Y → Bool) (view : X → Y) (xs : List X) → list_any test (map view xs) ≡ list_any (λ x. test (view x)) xs
any_map test view [] = refl
any_map test view (x ∷ xs) = ap (λ (b : Bool). test (view x) || b) (any_map test view xs)

module _ (realm : List ℕ) (names new : List LentName) (entry : KeytabEntry) where
  abbrev seen : List (List (List ℕ))
  seen = map (λ (other : LentName). other.now) names

  -- a set compares the new name with each, a list of names each with the new one
  abbrev is_among : Bool
  is_among = list_any (λ (other : LentName). same_names entry.components other.now) names

  same_any : list_any (λ other. same_names other entry.components) seen ≡ is_among
  same_any =
      any_map (λ (other : List (List ℕ)). same_names other entry.components) (λ (other : LentName). other.now) names
      ∙ (λ i. list_any (λ (other : LentName). (lists_equiv (lists_equiv nat_eq_equiv)).symm other.now entry.components i) names)

  one_more : (name : LentName) → name.now ≡ entry.components → (among : Bool) → map (λ (other : LentName). other.now) (cond among names (names ++ name ∷ [])) ≡ cond (not among) (seen ++ entry.components ∷ []) seen
  one_more name own true = refl
  one_more name own false = map_push (λ (other : LentName). other.now) names name ∙ ap (λ (n : List (List ℕ)). seen ++ n ∷ []) own

  pub named : (name : LentName) → name.now ≡ entry.components → same_octets entry.realm realm ≡ true → new ≡ cond is_among names (names ++ name ∷ []) → map (λ (other : LentName). other.now) new ≡ names_with realm seen entry
  named name own of_realm e =
      ap (map (λ (other : LentName). other.now)) e ∙ one_more name own is_among
      ∙ ap (λ (among : Bool). cond (not among) (seen ++ entry.components ∷ []) seen) (sym same_any)
      ∙ ap (λ (b : Bool). cond (b && not (list_any (λ other. same_names other entry.components) seen)) (seen ++ entry.components ∷ []) seen) (sym of_realm)

pub names_more : (realm : List ℕ) (entries : List KeytabEntry) (i : ℕ) (entry : KeytabEntry) → i < length entries → entry ≡ get_or entries i entry → names_with realm (names_of realm (take i entries)) entry ≡ names_of realm (take (i + 1) entries)
unfolding names_of
names_more realm entries i entry lt is =
    ap (λ (e : KeytabEntry). names_with realm (names_of realm (take i entries)) e) is ∙ sym (fold_more (λ names e. names_with realm names e) [] entries i entry lt)

pub named_keys : {E : Type 0} (realm : List ℕ) (entries : List KeytabEntry) (names : List LentName) (keys : RealmKeys) (r : Result (Unit {0}) E) (old new : List (PrincipalName × List ℕ))
    → map (λ name. name.now) names ≡ names_of realm entries → ((name : LentName) → key_at keys name ≡ key_for entries realm name.now)
    → OnOk r (new ≡ old ++ flat_map (λ name. option_to_list (pair_at keys name)) names) → OnOk r (new ≡ old ++ keys_of realm entries)
unfolding keys_of
named_keys realm entries names keys r old new are at done =
    let pair : List (List ℕ) → List (PrincipalName × List ℕ) = λ name. option_to_list (service_key_of entries realm name) in
    let found : flat_map (λ (name : LentName). option_to_list (pair_at keys name)) names ≡ flat_map (λ (name : LentName). pair name.now) names =
    (λ i. flat_map (λ (name : LentName). option_to_list (option_map (λ (key : List ℕ). (service_named name.now, key)) (at name i))) names) in
    let all : flat_map (λ (name : LentName). option_to_list (pair_at keys name)) names ≡ flat_map pair (names_of realm entries) =
    found ∙ sym (flat_map-map pair (λ (name : LentName). name.now) names) ∙ ap (flat_map pair) are in
    subst (λ (pairs : List (PrincipalName × List ℕ)). OnOk r (new ≡ old ++ pairs)) all done
