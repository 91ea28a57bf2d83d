-- The names of services, and how long a token may be.
use Rattle.std.specs.Prelude.{ℕ, List, ◌==◌}
use Rattle.std.specs.List.{slice_split}

-- the components of a service's name, which `/` separates
abbrev pub components : List ℕ → List (List ℕ)
components name = slice_split (λ octet. octet == 0x2f) name

-- the number of octets that a token may have if its acceptor sets no other bound
abbrev pub token_limit : ℕ
token_limit = 65536
