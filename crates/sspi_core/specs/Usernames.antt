-- Names of users.
use Rattle.std.specs.Prelude.{◌≡◌, ℕ, List, ◌∷◌, ◌++◌, Bool, true, not, ◌&&◌, ◌==◌, Option, Some, None, if◌then◌else◌}
use Rattle.std.specs.List.{list_any, before_first, after_first, before_last, after_last}

-- an account and the suffix after the last `@`, or an account and its NetBIOS domain
pub data UserName : Type 0 where
  UserPrincipal : (account : List ℕ) → (suffix : List ℕ) → UserName
  DownLevel : (account : List ℕ) → (domain : Option (List ℕ)) → UserName

-- the code of `@`
abbrev pub at_sign : ℕ
at_sign = 64

-- the code of `\`
abbrev pub backslash : ℕ
backslash = 92

abbrev pub has : ℕ → List ℕ → Bool
has sign text = list_any (λ c. c == sign) text

-- a text without `\` and `@`
abbrev pub is_plain : List ℕ → Bool
is_plain text = not (has backslash text) && not (has at_sign text)

abbrev pub is_plain_option : Option (List ℕ) → Bool
is_plain_option None = true
is_plain_option (Some text) = is_plain text

-- whether the parts can be told from the whole text
abbrev pub is_user_name : UserName → Bool
is_user_name (UserPrincipal account suffix) = not (has backslash account) && is_plain suffix
is_user_name (DownLevel account domain) = is_plain account && is_plain_option domain

-- the name, where it is one
abbrev pub user_name : UserName → Option UserName
user_name name = if is_user_name name then Some name else None

-- the name that a text is
abbrev pub parsed : List ℕ → Option UserName
parsed text =
    if has backslash text then
    (if has at_sign text then None else user_name (DownLevel (after_first (λ c. c == backslash) text) (Some (before_first (λ c. c == backslash) text))))
    else
    (if has at_sign text then user_name (UserPrincipal (before_last (λ c. c == at_sign) text) (after_last (λ c. c == at_sign) text))
    else user_name (DownLevel text None))

-- the whole text of a user principal name
abbrev pub upn_text : List ℕ → List ℕ → List ℕ
upn_text account suffix = account ++ at_sign ∷ suffix

-- the parts round the first `\`
abbrev pub IsCutAtFirst : List ℕ → List ℕ → List ℕ → Type 0
IsCutAtFirst text before after =
    (has backslash text ≡ true) × (before ≡ before_first (λ c. c == backslash) text) × (after ≡ after_first (λ c. c == backslash) text)

-- the parts round the last `@`
abbrev pub IsCutAtLast : List ℕ → List ℕ → List ℕ → Type 0
IsCutAtLast text before after =
    (has at_sign text ≡ true) × (before ≡ before_last (λ c. c == at_sign) text) × (after ≡ after_last (λ c. c == at_sign) text)
