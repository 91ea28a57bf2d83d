-- How the names of principals are written, each on one line whatever its octets are.
use Rattle.std.specs.Prelude.{ℕ, Bool, ◌||◌, not, ◌==◌, if◌then◌else◌, List, [], ◌∷◌, ◌++◌, codes}
use Rattle.std.specs.Char.{is_ascii_graphic}
use Rattle.std.specs.List.{flat_map}
use Rattle.hex.specs.Hex.{encode_lower}

-- an octet that ends a component (/) or the components (@), or that escapes another (\)
abbrev pub is_mark : ℕ → Bool
is_mark octet = octet == 47 || (octet == 64 || octet == 92)

-- An octet of a name as it is; after a \ if it is a mark; as \x and two hex digits if it is not of 21 to 7E.
abbrev pub octet_text : ℕ → List ℕ
octet_text octet =
    if not (is_ascii_graphic octet) then codes "\\x" ++ encode_lower (octet ∷ []) else
    if is_mark octet then 92 ∷ octet ∷ [] else octet ∷ []

-- a component, or a realm
abbrev pub part_text : List ℕ → List ℕ
part_text part = flat_map octet_text part

-- components with a / between two
abbrev pub components_text : List (List ℕ) → List ℕ
components_text [] = []
components_text (part ∷ parts) = part_text part ++ flat_map (λ other. 47 ∷ part_text other) parts

-- the components, an @ and the realm
abbrev pub principal_text : List (List ℕ) → List ℕ → List ℕ
principal_text components realm = components_text components ++ (64 ∷ part_text realm)
