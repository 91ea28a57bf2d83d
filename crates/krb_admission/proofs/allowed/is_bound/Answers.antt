use Rattle.std.proofs.Common.{◌≡◌, ℕ, List, ap, ◌∙◌}
use Rattle.std.specs.Prelude.{bytes_eq}
use Rattle.std.proofs.lemmas.Bool.Decides.{same_from_decides}
use Rattle.std.proofs.lemmas.Slice.Eq.{bytes_eq-Decides}
use Rattle.krb_admission.proofs.allowed.is_bound.Goals as goal

pub returns-in-Some : goal.returns-in-Some
returns-in-Some c =
    let same = same_from_decides c.is_equal.result _ c.is_equal.ensures (bytes_eq-Decides c.hash_told.result.now c.in-Some.hash) in
    rw c.in-Some.is (same ∙ ap (λ (octets : List ℕ). bytes_eq octets c.in-Some.hash) c.hash_told.ensures)
