-- The rounds one after another, in the tower.
use Rattle.std.proofs.Common.{◌≡◌, ℕ, zero, suc, ◌+◌, ◌-◌, ◌<◌, ◌≤◌, List, [], ◌∷◌, map, get_or, bit_xor, refl, sym, ap₂, ◌∙◌, arith}
use lib.Lanes.{zip2}
use Rattle.krb_aes.specs.Octets.{IsBlock}
use Rattle.krb_aes.specs.Round.{xor_octets, full_round, last_round, round_key}
use Rattle.krb_aes.specs.Aes.{state_after, cipher}
use Rattle.krb_aes.proofs.InjectiveLemmas.{IsBlock-column_octets, IsBlock-state_after}
use Rattle.krb_aes.specs.Tower.{tower, tower_key, plain_key}
use Rattle.krb_aes.proofs.LookUps.{IsVector, lane_fits}
use Rattle.krb_aes.proofs.ForwardRounds.{tower-xor}

pub IsBlock-vector : (v : List ℕ) → IsVector v → IsBlock v
IsBlock-vector v fits = record { size = fits.0; octets = record { below = λ k. lane_fits v k fits.1 } }

pub tower_octets-xor : (xs ys : List ℕ) → ((i : ℕ) → get_or xs i 0 < 256) → ((i : ℕ) → get_or ys i 0 < 256)
    → zip2 bit_xor (map tower xs) (map tower ys) ≡ map tower (xor_octets xs ys)
tower_octets-xor [] ys hx hy = refl
tower_octets-xor (x ∷ xs) [] hx hy = refl
tower_octets-xor (x ∷ xs) (y ∷ ys) hx hy =
    ap₂ (λ (n : ℕ) (l : List ℕ). n ∷ l) (sym (tower-xor x y (hx zero) (hy zero))) (tower_octets-xor xs ys (λ i. hx (suc i)) (λ i. hy (suc i)))

pub start_is : (words block v key : List ℕ) → IsVector block → v ≡ map tower block → key ≡ map tower (round_key words 0)
    → zip2 bit_xor v key ≡ map tower (state_after words block 0)
unfolding state_after
start_is words block v key fits ev ek =
    ap₂ (zip2 bit_xor) ev ek
    ∙ tower_octets-xor block (round_key words 0) (λ i. lane_fits block i fits.1) (λ i. (IsBlock-column_octets _).octets.below i)

pub step_is : (words block v key next : List ℕ) (r : ℕ) → 1 ≤ r → IsVector block → v ≡ map tower (state_after words block (r - 1))
    → key ≡ map tower_key (round_key words r)
    → ((s k : List ℕ) → IsBlock s → IsBlock k → v ≡ map tower s → key ≡ map tower_key k → next ≡ map tower (full_round s k))
    → next ≡ map tower (state_after words block (r + 1 - 1))
unfolding state_after
step_is words block v key next zero some fits ev ek step = elim some [ ]
step_is words block v key next (suc r) some fits ev ek step =
    let before : suc r - 1 ≡ r = omega arith in
    let after : suc r + 1 - 1 ≡ suc r = omega arith in
    rw after
    (step (state_after words block r) (round_key words (suc r)) (IsBlock-state_after words block r (IsBlock-vector block fits)) (IsBlock-column_octets _)
    (rw before at ev) ek)

pub end_is : (words block v key out : List ℕ) (n r : ℕ) → r ≡ n → IsVector block → v ≡ map tower (state_after words block (r - 1))
    → key ≡ map plain_key (round_key words n)
    → ((s k : List ℕ) → IsBlock s → IsBlock k → v ≡ map tower s → key ≡ map plain_key k → out ≡ last_round s k)
    → out ≡ cipher n words block
unfolding cipher
end_is words block v key out n r at fits ev ek step =
    step (state_after words block (n - 1)) (round_key words n) (IsBlock-state_after words block (n - 1) (IsBlock-vector block fits)) (IsBlock-column_octets _)
    (rw at at ev) ek
