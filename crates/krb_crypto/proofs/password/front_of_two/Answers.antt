use Rattle.std.proofs.Common.{rules, List, ℕ, ◌++◌, ◌∙◌, ap₂, lit≤}
use Rattle.krb_crypto.proofs.ListLemmas.{put_mid_end}
use Rattle.krb_crypto.proofs.password.front_of_two.Goals as goal

pub returns : goal.returns
returns c =
    put_mid_end c.copy_from_slice.new.self _ c.copy_from_slice-2.new.self 20 12 (search rules) (lit≤ tt)
    ∙ ap₂ (λ (x y : List ℕ). x ++ y) c.copy_from_slice.ensures.after c.copy_from_slice-2.ensures.after
