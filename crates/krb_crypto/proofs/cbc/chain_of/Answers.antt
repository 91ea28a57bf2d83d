use Rattle.std.proofs.Common.{rules, ℕ, List, ◌≡◌, ◌++◌, length, drop, replicate, ap, ap₂, ◌∙◌}
use Rattle.std.proofs.lemmas.List.{append-nil, take_at, drop_at}
use Rattle.krb_crypto.proofs.cbc.chain_of.Goals as goal

pub returns : goal.returns
returns c =
    let front : List ℕ = c.copy_from_slice.new.self in
    let size : length front ≡ 16 = search rules in
    let back : List ℕ = c.copy_from_slice-2.new.self in
    ap₂ (λ (u v : List ℕ). u ++ v) (take_at front (replicate 48 0) 16 size ∙ c.copy_from_slice.ensures.after)
    (ap (λ (l : List ℕ). back ++ drop 48 l) (drop_at front (replicate 48 0) 16 size) ∙ append-nil back ∙ c.copy_from_slice-2.ensures.after)
