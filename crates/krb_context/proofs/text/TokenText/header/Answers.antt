use Rattle.std.proofs.Common.{rules, ◌≡◌, ◌++◌, List, take, subst}
use Rattle.std.specs.Prelude.{ℕ}
use Rattle.krb_context.proofs.text.TokenText.header.Goals as goal

pub returns-then-self-ge16 : goal.returns-then-self-ge16
returns-then-self-ge16 c =
    let P : List ℕ → Type 0 = λ s. c.copy_from_slice.new.self ≡ take 16 s in
    let front : c.copy_from_slice.new.self ≡ take 16 (c.self.inside.token.now ++ c.self.inside.rest.now) = search rules in
    subst P c.self.view_is front
