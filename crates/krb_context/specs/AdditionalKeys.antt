-- Further services with their keys, by the components of a name.
use Rattle.std.specs.Prelude.{ℕ, suc, Bool, List, [], ◌∷◌, find, Option, Some, None, option_map, ◌==◌, if◌then◌else◌}
use Rattle.std.specs.Cmp.Lexicographic.{pointwise}
use Rattle.krb_messages.specs.declared.principal_name.PrincipalName.{PrincipalName}

-- the components of names, compared
abbrev pub same_components : List (List ℕ) → List (List ℕ) → Bool
same_components a b = pointwise (pointwise ◌==◌) a b

-- the key of the first further service with these components
unfoldable pub additional_key : List (PrincipalName × List ℕ) → List (List ℕ) → Option (List ℕ)
additional_key services components =
    option_map (λ (service : PrincipalName × List ℕ). service.1)
    (find (λ (service : PrincipalName × List ℕ). same_components service.0.name_string components) services)

-- the count of services before the first with these components, if there is one
abbrev pub first_place : List (PrincipalName × List ℕ) → List (List ℕ) → Option ℕ
first_place [] components = None
first_place (service ∷ services) components =
    if same_components service.0.name_string components then Some 0 else option_map suc (first_place services components)
