-- A reading goes on after a line that is not too long.
use Rattle.std.proofs.Common.{◌≡◌, ℕ, ◌+◌, ◌≤◌, min, false, List, ◌∷◌, length, Option, Some, refl, ap, ◌∙◌}
use Rattle.std.proofs.lemmas.Bool.{le-ltb}
use Rattle.krb_text.specs.Limits.{max_line, max_input, is_long}
use Rattle.krb_script.specs.Script.{Declared, declare_line, read_lines, read_on}
use Rattle.krb_script.specs.declared.stop.Stop.TheVariants.{Bad}

pub short : (total at : ℕ) (line : List ℕ) → length line ≤ max_line → min (at + length line + 1) total ≤ max_input → is_long total at line ≡ false
short total at line l t = rw (le-ltb max_line (length line) l, le-ltb max_input (min (at + length line + 1) total) t) refl

pub read-short : (total at n : ℕ) (so_far : Declared) (line : List ℕ) (rest : List (List ℕ)) → is_long total at line ≡ false
    → read_lines total at n so_far (line ∷ rest)
    ≡ read_on (declare_line so_far line) (λ next. read_lines total (at + length line + 1) (n + 1) next rest) (record { so_far = so_far; number = n; stop = Bad })
read-short total at n so_far line rest e = rw e refl

pub read-next : (total at n : ℕ) (so_far next : Declared) (line : List ℕ) (rest : List (List ℕ)) → is_long total at line ≡ false → declare_line so_far line ≡ Some next
    → read_lines total at n so_far (line ∷ rest) ≡ read_lines total (at + length line + 1) (n + 1) next rest
read-next total at n so_far next line rest e d =
    read-short total at n so_far line rest e ∙ ap (λ o. read_on o (λ next. read_lines total (at + length line + 1) (n + 1) next rest) (record { so_far = so_far; number = n; stop = Bad })) d
