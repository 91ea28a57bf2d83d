-- Which entry of a keytab is found, and which keys of a realm are used.
use Rattle.std.specs.Prelude.{◌≡◌, ℕ, ◌<◌, ◌≤◌, Bool, true, false, ◌&&◌, List, ◌∷◌, ◌++◌, length, fold, Option, Some, None, nat_lt, ◌==◌, if◌then◌else◌, All}
use Rattle.std.specs.Cmp.Lexicographic.{pointwise}
use Rattle.krb_keytab.specs.declared.entry.KeytabEntry.{KeytabEntry}

-- A query for an entry: a realm and the components of a name, octet for octet, a type of key and, if they are given, a version and a
-- number of octets of the key.
pub record Wanted : Type 0 where
  pub realm : List ℕ
  pub components : List (List ℕ)
  pub key_type : ℕ
  pub version : Option ℕ
  pub size : Option ℕ

abbrev pub same_octets : List ℕ → List ℕ → Bool
same_octets a b = pointwise ◌==◌ a b

abbrev pub same_names : List (List ℕ) → List (List ℕ) → Bool
same_names a b = pointwise (pointwise ◌==◌) a b

-- whether a number is the one that is given, if one is
abbrev pub is_given : Option ℕ → ℕ → Bool
is_given None n = true
is_given (Some m) n = n == m

abbrev pub is_wanted : Wanted → KeytabEntry → Bool
is_wanted wanted entry =
    same_octets entry.realm wanted.realm && same_names entry.components wanted.components && (entry.key_type == wanted.key_type)
    && is_given wanted.version entry.version && is_given wanted.size (length entry.key)

-- of two entries the one of the greater version, of equals the later
abbrev pub greater : Option KeytabEntry → KeytabEntry → KeytabEntry
greater None entry = entry
greater (Some best) entry = if nat_lt entry.version best.version then best else entry

-- of the entries that pass the test the one of the greatest version, of equals the last
unfoldable pub greatest : (KeytabEntry → Bool) → List KeytabEntry → Option KeytabEntry
greatest passes entries = fold (λ best entry. if passes entry then Some (greater best entry) else best) None entries

-- The greatest, as it is meant: it passes, none before it that passes is of a greater version, each after it that passes of a lower
-- one.
pub record IsGreatest (passes : KeytabEntry → Bool) (entries : List KeytabEntry) (entry : KeytabEntry) : Type 0 where
  pub before : List KeytabEntry
  pub behind : List KeytabEntry
  pub parts : entries ≡ before ++ entry ∷ behind
  pub is : passes entry ≡ true
  pub no_greater : All (λ other. passes other ≡ true → other.version ≤ entry.version) before
  pub lower : All (λ other. passes other ≡ true → other.version < entry.version) behind

abbrev pub FindsGreatest : (KeytabEntry → Bool) → List KeytabEntry → Option KeytabEntry → Type 0
FindsGreatest passes entries None = All (λ entry. passes entry ≡ false) entries
FindsGreatest passes entries (Some entry) = IsGreatest passes entries entry
