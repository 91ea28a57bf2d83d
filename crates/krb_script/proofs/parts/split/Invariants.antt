use Rattle.std.proofs.Common.{◌≡◌, ◌≤◌, ◌++◌, length}
use Rattle.std.specs.Prelude.{◌==◌, map}
use Rattle.std.specs.List.{slice_split}
use Rattle.krb_script.proofs.parts.split.Given as goal

abbrev pub invariant-parts : goal.invariant-parts
invariant-parts l =
    (slice_split (λ b. b == l.separator) l.text ≡ map (λ x. x.now) l.parts.items ++ slice_split (λ b. b == l.separator) l.rest)
    × (length l.rest ≤ length l.text)

abbrev pub decreases-parts : goal.decreases-parts
decreases-parts l = length l.rest
