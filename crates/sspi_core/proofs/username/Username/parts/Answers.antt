use Rattle.std.proofs.Common.{◌+◌, ℕ, List, sym, subst}
use Rattle.std.specs.Str.{IsUtf8, IsCharBoundary}
use Rattle.sspi_core.proofs.NameLemmas.{cut_behind}
use Rattle.sspi_core.proofs.username.Username.parts.Goals as goal

pub range_from-requires : goal.range_from-requires
range_from-requires c =
    let whole = rw c.in-UserPrincipal.is at c.self.invariant in
    λ _. subst (λ (t : List ℕ). IsCharBoundary t (c.in-UserPrincipal.place + 1)) (sym c.as_str-upn.ensures)
    (cut_behind c.in-UserPrincipal.text c.in-UserPrincipal.place (subst IsUtf8 c.as_str-upn.ensures c.as_str-upn.utf8) whole.0)
