-- Parts of two texts, one after the other, and the octets that the checksum covers.
use Rattle.std.proofs.Common.{◌≡◌, ℕ, ◌+◌, ◌-◌, ◌<◌, ◌≤◌, List, [], ◌∷◌, ◌++◌, length, take, drop, get_or, refl, sym, ap, ap₂, ◌∙◌, arith, add-one}
use Rattle.std.proofs.Math.Seq.{take-suc, take-append-add}
use Rattle.std.proofs.lemmas.List.{append-nil, append_assoc, length-drop, drop-drop, take_all, drop-append-le}
use Rattle.sspi_core.specs.Buffer.{Buffer}
use Rattle.krb_context.specs.Spelled.{covered, covered_of}

-- a range that goes over the seam
pub over_seam : (a b : List ℕ) (from to : ℕ) → from ≤ length a → length a ≤ to
    → drop from a ++ take (to - length a) b ≡ take (to - from) (drop from (a ++ b))
over_seam a b from to low high =
    let size : to - from ≡ length (drop from a) + (to - length a) = omega (arith, length-drop from a) in
    sym (ap (take (to - from)) (drop-append-le from a b low) ∙ ap (λ (n : ℕ). take n (drop from a ++ b)) size ∙ take-append-add (drop from a) b (to - length a))

pub turned : (text first second : List ℕ) (turn len : ℕ) → 16 + turn ≤ length text → len ≡ length text
    → first ≡ take (len - (16 + turn)) (drop (16 + turn) text) → second ≡ first ++ take (16 + turn - 16) (drop 16 text)
    → second ≡ drop turn (drop 16 text) ++ take turn (drop 16 text)
turned text first second turn len fits el ef es =
    let back : first ≡ drop turn (drop 16 text) =
    ef ∙ take_all (len - (16 + turn)) (drop (16 + turn) text) (omega (arith, length-drop (16 + turn) text))
    ∙ ap (λ (n : ℕ). drop n text) (omega arith) ∙ sym (drop-drop turn 16 text) in
    let count : 16 + turn - 16 ≡ turn = omega arith in
    es ∙ ap₂ (λ (u v : List ℕ). u ++ v) back (ap (λ (n : ℕ). take n (drop 16 text)) count)

pub covered-append : (p : List ℕ) (xs ys : List Buffer) → covered p (xs ++ ys) ≡ covered p xs ++ covered p ys
covered-append p [] ys = refl
covered-append p (x ∷ xs) ys = ap (λ (l : List ℕ). covered_of p x ++ l) (covered-append p xs ys) ∙ sym (append_assoc (covered_of p x) (covered p xs) (covered p ys))

pub covered_more : (p : List ℕ) (bs : List Buffer) (i : ℕ) (d : Buffer) → i < length bs
    → covered p (take (i + 1) bs) ≡ covered p (take i bs) ++ covered_of p (get_or bs i d)
covered_more p bs i d h =
    ap (covered p) (ap (λ (n : ℕ). take n bs) (add-one i) ∙ take-suc bs i d h) ∙ covered-append p (take i bs) (get_or bs i d ∷ [])
    ∙ ap (λ (l : List ℕ). covered p (take i bs) ++ l) (append-nil (covered_of p (get_or bs i d)))
