-- The key that an acceptor finds for a name is the one that was installed for it.
use Rattle.std.proofs.Common.{◌≡◌, ℕ, Bool, true, false, cond, List, [], ◌∷◌, ◌++◌, Option, Some, None, refl, sym, ap, ◌∙◌}
use Rattle.std.specs.Prelude.{◌&&◌, ◌||◌, not, fold, option_map}
use Rattle.std.specs.List.{list_any, flat_map, AllByRecursion}
use Rattle.std.specs.Option.{option_to_list}
use Rattle.std.specs.Bool.{Decides}
use Rattle.std.specs.Cmp.{unsigned_Decides}
use Rattle.std.specs.Cmp.Lexicographic.{pointwise_decides}
use Rattle.std.proofs.lemmas.List.Folds.{list_any-append}
use Rattle.krb_messages.specs.declared.principal_name.PrincipalName.{PrincipalName}
use Rattle.krb_context.specs.declared.server.ServerProperties.{ServerProperties}
use Rattle.krb_context.specs.Params.{or_else}
use Rattle.krb_context.specs.AdditionalKeys.{same_components, additional_key}
use Rattle.krb_context.specs.ServiceKeys.{service_named, service_key}
use Rattle.krb_keytab.specs.declared.entry.KeytabEntry.{KeytabEntry}
use Rattle.krb_keytab.specs.Finding.{Wanted, is_wanted, same_octets, same_names, greatest}
use Rattle.krb_keytab.specs.Installing.{names_with, names_of, sized_key, key_for, service_key_of, keys_of, with_keys}

octets_decide : (xs ys : List ℕ) → Decides (same_octets xs ys) (xs ≡ ys)
octets_decide = pointwise_decides unsigned_Decides

pub names_decide : (xs ys : List (List ℕ)) → Decides (same_names xs ys) (xs ≡ ys)
names_decide = pointwise_decides octets_decide

-- ---- no entry, no key

none_greatest : (passes : KeytabEntry → Bool) (entries : List KeytabEntry) → AllByRecursion (λ entry. passes entry ≡ false) entries → greatest passes entries ≡ None
unfolding greatest
none_greatest passes [] none = refl
none_greatest passes (entry ∷ entries) none = rw none.0 (none_greatest passes entries none.1)

-- an entry of another realm or name
abbrev pub IsOther : List ℕ → List (List ℕ) → KeytabEntry → Type 0
IsOther realm components entry = (same_octets entry.realm realm && same_names entry.components components) ≡ false

pub not_wanted : (wanted : Wanted) (entry : KeytabEntry) → IsOther wanted.realm wanted.components entry → is_wanted wanted entry ≡ false
not_wanted wanted entry other = rw other refl

none_wanted : (wanted : Wanted) (entries : List KeytabEntry) → AllByRecursion (IsOther wanted.realm wanted.components) entries → AllByRecursion (λ entry. is_wanted wanted entry ≡ false) entries
none_wanted wanted [] others = tt
none_wanted wanted (entry ∷ entries) others = (not_wanted wanted entry others.0, none_wanted wanted entries others.1)

no_sized_key : (realm : List ℕ) (components : List (List ℕ)) (entries : List KeytabEntry) (key_type size : ℕ) → AllByRecursion (IsOther realm components) entries → sized_key entries realm components key_type size ≡ None
no_sized_key realm components entries key_type size others =
    let wanted : Wanted = record { realm = realm; components = components; key_type = key_type; version = None; size = Some size } in
    ap (option_map (λ (entry : KeytabEntry). entry.key)) (none_greatest (is_wanted wanted) entries (none_wanted wanted entries others))

no_key : (realm : List ℕ) (components : List (List ℕ)) (entries : List KeytabEntry) → AllByRecursion (IsOther realm components) entries → key_for entries realm components ≡ None
no_key realm components entries others = rw (no_sized_key realm components entries 18 32 others) (no_sized_key realm components entries 17 16 others)

-- ---- a name that is not among the realm's

abbrev has : List (List ℕ) → List (List (List ℕ)) → Bool
has components names = list_any (λ name. same_names name components) names

neither : (a b : Bool) → (a || b) ≡ false → (a ≡ false) × (b ≡ false)
neither true b e = absurd cc
neither false b e = (refl, e)

has_last : (components : List (List ℕ)) (names : List (List (List ℕ))) (name : List (List ℕ)) → has components (names ++ name ∷ []) ≡ false → (has components names ≡ false) × (same_names name components ≡ false)
has_last components names name none =
    let both = neither (has components names) (has components (name ∷ [])) (sym (list_any-append (λ other. same_names other components) names (name ∷ [])) ∙ none) in
    (both.0, (neither (same_names name components) false both.1).0)

-- what a step adds, when the name is not among the names afterwards
one_entry : (realm : List ℕ) (components : List (List ℕ)) (names : List (List (List ℕ))) (entry : KeytabEntry) (of_realm among : Bool) → same_octets entry.realm realm ≡ of_realm → has entry.components names ≡ among
    → has components (cond (of_realm && not among) (names ++ entry.components ∷ []) names) ≡ false → (has components names ≡ false) × ((of_realm && same_names entry.components components) ≡ false)
one_entry realm components names entry false among r a none = (none, refl)
one_entry realm components names entry true false r a none = has_last components names entry.components none
one_entry realm components names entry true true r a none =
    (none, differs (same_names entry.components components) refl)
  where
    differs : (same : Bool) → same_names entry.components components ≡ same → same ≡ false
    differs false e = refl
    differs true e =
        let is : entry.components ≡ components = (names_decide entry.components components).0 e in
        absurd (let no : true ≡ false = sym a ∙ ap (λ (c : List (List ℕ)). has c names) is ∙ none in cc)

not_named : (realm : List ℕ) (components : List (List ℕ)) (names : List (List (List ℕ))) (entries : List KeytabEntry) → has components (fold (λ names entry. names_with realm names entry) names entries) ≡ false
    → (has components names ≡ false) × AllByRecursion (IsOther realm components) entries
not_named realm components names [] none = (none, tt)
not_named realm components names (entry ∷ entries) none =
    let others = not_named realm components (names_with realm names entry) entries none in
    let here = one_entry realm components names entry (same_octets entry.realm realm) (has entry.components names) refl refl others.0 in
    (here.0, (here.1, others.1))

unnamed : (realm : List ℕ) (components : List (List ℕ)) (entries : List KeytabEntry) → has components (names_of realm entries) ≡ false → key_for entries realm components ≡ None
unfolding names_of
unnamed realm components entries none = no_key realm components entries (not_named realm components [] entries none).1

-- ---- the key that is found

module _ (realm : List ℕ) (entries : List KeytabEntry) (components : List (List ℕ)) where
  abbrev pairs_of : List (List (List ℕ)) → List (PrincipalName × List ℕ)
  pairs_of names = flat_map (λ name. option_to_list (service_key_of entries realm name)) names

  one_pair : (name : List (List ℕ)) (key : Option (List ℕ)) (rest : List (PrincipalName × List ℕ)) (same : Bool) → same_names name components ≡ same → key_for entries realm name ≡ key
      → additional_key (option_to_list (option_map (λ k. (service_named name, k)) key) ++ rest) components ≡ cond same (or_else key (additional_key rest components)) (additional_key rest components)
  unfolding additional_key
  one_pair name None rest true s k = refl
  one_pair name None rest false s k = refl
  one_pair name (Some key) rest true s k = rw s refl
  one_pair name (Some key) rest false s k = rw s refl

  or_same : (key : Option (List ℕ)) (any : Bool) → or_else key (cond any key None) ≡ key
  or_same None true = refl
  or_same None false = refl
  or_same (Some key) any = refl

  found_step : (name : List (List ℕ)) (names : List (List (List ℕ))) (same any : Bool) → same_names name components ≡ same
      → additional_key (pairs_of names) components ≡ cond any (key_for entries realm components) None
      → additional_key (pairs_of (name ∷ names)) components ≡ cond (same || any) (key_for entries realm components) None
  found_step name names false any s others = one_pair name (key_for entries realm name) (pairs_of names) false s refl ∙ others
  found_step name names true any s others =
      let is : name ≡ components = (names_decide name components).0 s in
      let key : key_for entries realm name ≡ key_for entries realm components = ap (key_for entries realm) is in
      one_pair name (key_for entries realm name) (pairs_of names) true s refl
      ∙ ap (λ (k : Option (List ℕ)). or_else k (additional_key (pairs_of names) components)) key
      ∙ ap (or_else (key_for entries realm components)) others
      ∙ or_same (key_for entries realm components) any

  found : (names : List (List (List ℕ))) → additional_key (pairs_of names) components ≡ cond (has components names) (key_for entries realm components) None
  unfolding additional_key
  found [] = refl
  found (name ∷ names) = found_step name names (same_names name components) (has components names) refl (found names)

  chosen : (any : Bool) → has components (names_of realm entries) ≡ any → cond any (key_for entries realm components) None ≡ key_for entries realm components
  chosen true e = refl
  chosen false e = sym (unnamed realm components entries e)

  pub installed_key : (server : ServerProperties) → server.ticket_decryption_key ≡ None → server.additional_service_keys ≡ [] → service_key (with_keys server (keys_of realm entries)) components ≡ key_for entries realm components
  unfolding service_key keys_of
  installed_key server no_ticket no_more =
      let no_primary : (b : Bool) → cond b server.ticket_decryption_key None ≡ None = λ b. without b server.ticket_decryption_key no_ticket in
      ap (λ (k : Option (List ℕ)). or_else k (additional_key (server.additional_service_keys ++ pairs_of (names_of realm entries)) components)) (no_primary (same_components server.service_name.name_string components))
      ∙ ap (λ (front : List (PrincipalName × List ℕ)). additional_key (front ++ pairs_of (names_of realm entries)) components) no_more
      ∙ found (names_of realm entries)
      ∙ chosen (has components (names_of realm entries)) refl
    where
      without : (b : Bool) (key : Option (List ℕ)) → key ≡ None → cond b key None ≡ None
      without true key e = e
      without false key e = refl
