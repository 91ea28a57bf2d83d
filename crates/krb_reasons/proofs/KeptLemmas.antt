-- The octets from a position on, after they are moved to the front and the rest is cut off.
use Rattle.std.proofs.Common.{◌≡◌, ℕ, ◌-◌, ◌≤◌, List, length, length-drop, take, drop, ap, ◌∙◌, arith}
use Rattle.std.specs.List.{copy_within}
use Rattle.std.proofs.lemmas.List.{take_all}
use Rattle.std.proofs.lemmas.List.Edits.{take-paste}

pub moved : (items : List ℕ) (n : ℕ) → n ≤ length items → take (length items - n) (copy_within items n (length items) 0) ≡ drop n items
moved items n fits =
    let len = length-drop n items in
    let count = length items - n in
    ap (λ k. take k (copy_within items n (length items) 0)) (omega arith)
    ∙ take-paste items 0 (drop n items) count (omega arith) (omega arith) ∙ take_all count (drop n items) (omega arith)
