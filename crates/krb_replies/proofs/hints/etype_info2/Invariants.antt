use Rattle.std.proofs.Common.{◌≡◌, drop, [], ◌∷◌}
use Rattle.std.specs.Prelude.{◌==◌}
use Rattle.std.specs.List.{find}
use Rattle.std.specs.Cmp.Lexicographic.{pointwise}
use Rattle.krb_replies.proofs.hints.etype_info2.Given as goal

abbrev pub invariant-loop-element : goal.invariant-loop-element
invariant-loop-element l =
    find (λ element. pointwise ◌==◌ element.padata_type (0x13 ∷ [])) l.elements ≡ find (λ element. pointwise ◌==◌ element.padata_type (0x13 ∷ [])) (drop l.element-index l.elements)
