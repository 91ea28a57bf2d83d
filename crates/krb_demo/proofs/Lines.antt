-- One more number, and its lines.
use Rattle.std.proofs.Common.{◌≡◌, ℕ, ◌+◌, ◌-◌, ◌≤◌, List, [], ◌∷◌, ◌++◌, sym, ap, ◌∙◌, append_assoc, arith}
use Rattle.std.specs.List.{flat_map, range_with_len}
use Rattle.std.proofs.lemmas.List.{flat_map_more, map-id}
use Rattle.std.proofs.lemmas.List.FromFn.{map-range_with_len_more}

-- the numbers from 1 to n + 1
one_more : (n : ℕ) → range_with_len 1 (n + 1) ≡ range_with_len 1 n ++ (n + 1) ∷ []
one_more n = sym (map-id (range_with_len 1 (n + 1))) ∙ map-range_with_len_more (λ k. k) 1 n (n + 1) (omega arith) ∙ ap (λ (ks : List ℕ). ks ++ (n + 1) ∷ []) (map-id (range_with_len 1 n))

lines_more : (line : ℕ → List ℕ) (input : List ℕ) (n : ℕ) → (input ++ flat_map line (range_with_len 1 n)) ++ line (n + 1) ≡ input ++ flat_map line (range_with_len 1 (n + 1))
lines_more line input n = flat_map_more line input (range_with_len 1 n) (n + 1) ∙ ap (λ (ks : List ℕ). input ++ flat_map line ks) (sym (one_more n))

-- the lines up to k: the lines before k, then line k
pub lines_up_to : (line : ℕ → List ℕ) (input : List ℕ) (k : ℕ) → 1 ≤ k → (input ++ flat_map line (range_with_len 1 (k - 1))) ++ line k ≡ input ++ flat_map line (range_with_len 1 (k + 1 - 1))
lines_up_to line input k some =
    let here : k - 1 + 1 ≡ k = omega arith in
    let next : k - 1 + 1 ≡ k + 1 - 1 = omega arith in
    ap (λ (j : ℕ). (input ++ flat_map line (range_with_len 1 (k - 1))) ++ line j) (sym here) ∙ lines_more line input (k - 1) ∙ ap (λ (j : ℕ). input ++ flat_map line (range_with_len 1 j)) next

-- a line of five pieces
pub regroup : (a b c d e : List ℕ) → a ++ (b ++ (c ++ (d ++ e))) ≡ a ++ b ++ c ++ d ++ e
regroup a b c d e = simp append_assoc
