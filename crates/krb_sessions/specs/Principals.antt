-- A principal's name as text (RFC 1964, section 2.1.1).
use Rattle.std.specs.Prelude.{ℕ, List, [], ◌∷◌, ◌++◌, Option, Some, None, ◌==◌, ◌||◌, if◌then◌else◌}
use Rattle.std.specs.List.{flat_map}

-- the octet after the `\` for an octet that is quoted: `/`, `@` and `\` themselves, and a letter for newline, tab, backspace and null
abbrev pub quote : ℕ → Option ℕ
quote octet =
    if octet == 0x2f || octet == 0x40 || octet == 0x5c then Some octet
    else (if octet == 0x0a then Some 0x6e else (if octet == 0x09 then Some 0x74 else (if octet == 0x08 then Some 0x62 else (if octet == 0 then Some 0x30 else None))))

abbrev pub behind_quote : ℕ → Option ℕ → List ℕ
behind_quote octet (Some letter) = 0x5c ∷ letter ∷ []
behind_quote octet None = octet ∷ []

-- an octet of a component or of a realm
abbrev pub quoted : ℕ → List ℕ
quoted octet = behind_quote octet (quote octet)

-- a component or a realm
abbrev pub part_text : List ℕ → List ℕ
part_text part = flat_map quoted part

-- a further component
abbrev pub further_text : List ℕ → List ℕ
further_text part = 0x2f ∷ part_text part

-- the components, a `/` between two
abbrev pub components_text : List (List ℕ) → List ℕ
components_text [] = []
components_text (first ∷ further) = part_text first ++ flat_map further_text further

-- the components and the realm, a `@` between
abbrev pub principal_text : List (List ℕ) → List ℕ → List ℕ
principal_text components realm = components_text components ++ 0x40 ∷ part_text realm
