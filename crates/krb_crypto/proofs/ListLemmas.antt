-- Lists that are written to their end.
use Rattle.std.proofs.Common.{◌≡◌, ℕ, ◌≤◌, List, [], ◌++◌, length, drop, ap, ap₂, ◌∙◌}
use Rattle.std.proofs.lemmas.List.{append-nil, take_at, drop_at, drop_all}
use borrow.Rule.Slice.PartMut.{put_mid}

-- all from n on is written over
pub put_mid_end : (a z b : List ℕ) (n j : ℕ) → length a ≡ n → length z ≤ j → put_mid n j (a ++ z) b ≡ a ++ b
put_mid_end a z b n j size fits =
    let nothing : drop j (drop n (a ++ z)) ≡ [] = ap (drop j) (drop_at a z n size) ∙ drop_all j z fits in
    ap₂ (λ (x y : List ℕ). x ++ y) (take_at a z n size) (ap (λ (l : List ℕ). b ++ l) nothing ∙ append-nil b)
