-- The lines that give an acceptor its keys.
use Rattle.std.specs.Prelude.{ℕ, Bool, false, not, ◌&&◌, ◌==◌, nat_lt, if◌then◌else◌, List, [], ◌∷◌, ◌++◌, length, codes}
use Rattle.std.specs.Char.{is_ascii_graphic}
use Rattle.std.specs.Fmt.{decimal}
use Rattle.std.specs.List.{flat_map, list_all}
use Rattle.hex.specs.Hex.{encode_lower}
use Rattle.krb_messages.specs.declared.principal_name.PrincipalName.{PrincipalName}
use Rattle.krb_keys.specs.Names.{components_text}

-- The service of a line is of octets 21 to 7E and is cut at each /: so an octet of a component is of these and no /.
abbrev pub is_plain_octet : ℕ → Bool
is_plain_octet octet = is_ascii_graphic octet && not (octet == 47)

abbrev pub is_plain : List ℕ → Bool
is_plain part = list_all is_plain_octet part

-- whether a line can have a service of these components: it has an octet, and is cut into them
abbrev pub can_stand : List (List ℕ) → Bool
can_stand [] = false
can_stand (part ∷ []) = nat_lt 0 (length part) && is_plain part
can_stand (part ∷ other ∷ parts) = list_all is_plain (part ∷ other ∷ parts)

-- components with a / between two
abbrev pub service_text : List (List ℕ) → List ℕ
service_text [] = []
service_text (part ∷ parts) = part ++ flat_map (λ other. 47 ∷ other) parts

-- key <acceptor> <service> <hex>
abbrev pub key_line : ℕ → List (List ℕ) → List ℕ → List ℕ
key_line acceptor components key =
    (codes "key " ++ (decimal acceptor ++ codes " ")) ++ (service_text components ++ (codes " " ++ (encode_lower key ++ codes "\n")))

-- a comment in the place of a line that cannot be
abbrev pub left_out_line : List (List ℕ) → List ℕ
left_out_line components = codes "# no key line can name " ++ (components_text components ++ codes "\n")

abbrev pub line_of : ℕ → (PrincipalName × List ℕ) → List ℕ
line_of acceptor pair =
    if can_stand pair.0.name_string then key_line acceptor pair.0.name_string pair.1 else left_out_line pair.0.name_string

-- a line for each name and its key, in their order
abbrev pub key_lines_text : ℕ → List (PrincipalName × List ℕ) → List ℕ
key_lines_text acceptor keys = flat_map (line_of acceptor) keys
