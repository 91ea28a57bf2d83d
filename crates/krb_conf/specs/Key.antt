-- Keys and paths, compared with the case of ASCII letters ignored.
use Rattle.std.specs.Prelude.{ℕ, Bool, List, [], ◌∷◌, ◌++◌, ◌==◌, Option, Some, None, if◌then◌else◌, bytes_eq}
use Rattle.std.specs.Char.{to_ascii_lowercase}
use Rattle.std.specs.List.{join_with_byte}
use Rattle.std.specs.Str.{str_to_ascii_lowercase}
use Rattle.krb_conf.specs.Ascii.{bar}

-- the two texts are the same but for the case of ASCII letters
abbrev pub is_same_text : List ℕ → List ℕ → Bool
is_same_text x y = bytes_eq (str_to_ascii_lowercase x) (str_to_ascii_lowercase y)

-- what follows the prefix in the text, if the text begins with it
abbrev pub after_prefix : List ℕ → List ℕ → Option (List ℕ)
after_prefix [] text = Some text
after_prefix (p ∷ prefix) [] = None
after_prefix (p ∷ prefix) (c ∷ text) =
    if to_ascii_lowercase p == to_ascii_lowercase c then after_prefix prefix text else None

-- the names of a path, joined by `|`
abbrev pub joined : List (List ℕ) → List ℕ
joined path = join_with_byte bar path

-- the key is that of the path
abbrev pub is_at : List (List ℕ) → List ℕ → Bool
is_at path key = is_same_text key (joined path)

-- what follows the path and a `|` in the key, if the key begins so
abbrev pub under : List (List ℕ) → List ℕ → Option (List ℕ)
under path key = after_prefix (joined path ++ bar ∷ []) key
