-- CBC with ciphertext stealing takes different texts to different texts, over a cipher that does so with blocks.
use Rattle.std.proofs.Common.{◌≡◌, ℕ, zero, suc, ◌+◌, ◌-◌, ◌*◌, ◌<◌, ◌≤◌, List, [], ◌∷◌, ◌++◌, length, take, drop, replicate, lit<, inl, inr, refl, sym, ap, ap₂, ◌∙◌, arith, add-one}
use Rattle.std.proofs.Math.Seq.{take-add}
use Rattle.std.proofs.lemmas.Bool.{ne_eqb, cases_lt}
use Rattle.std.specs.Int.Bits.{xor_zero_r}
use Rattle.std.proofs.lemmas.List.{length-append, length-replicate, length-take-le, length-drop, take_at, drop_at, take-append-drop}
use Rattle.krb_aes.specs.Round.{xor_octets}
use Rattle.krb_aes.specs.Octets.{IsOctets, IsBlock}
use Rattle.krb_aes.specs.Aes.{aes}
use Rattle.krb_aes.proofs.RoundLemmas.{cons_same}
use Rattle.krb_aes.proofs.InverseLemmas.{xor_octets_twice}
use Rattle.krb_aes.proofs.InjectiveLemmas.{none_octets, more_octets, rest_octets, IsOctets-append, IsBlock-last, IsBlock-aes, aes_injective}
use Rattle.krb_crypto.specs.Cts.{cipher_block, cbc, block_count, padded, cts}
use Rattle.krb_crypto.proofs.CtsLemmas.{take_over, block-padded, last_block-padded}
use Rattle.krb_crypto.proofs.OpenLemmas.{take-padded, xor_octets_comm}

-- a cipher of blocks that can be undone
pub record IsCipher (E : List ℕ → List ℕ) : Type 0 where
  pub keeps : (x : List ℕ) → IsBlock x → IsBlock (E x)
  pub injective : (x y : List ℕ) → IsBlock x → IsBlock y → E x ≡ E y → x ≡ y

pub IsCipher-aes : (key : List ℕ) → IsCipher (aes key)
IsCipher-aes key = record { keeps = IsBlock-aes key; injective = aes_injective key }

-- ---- octets

pub IsOctets-take : (n : ℕ) (xs : List ℕ) → IsOctets xs → IsOctets (take n xs)
IsOctets-take zero xs h = none_octets
IsOctets-take (suc n) [] h = none_octets
IsOctets-take (suc n) (x ∷ xs) h = more_octets x (take n xs) (h.below 0) (IsOctets-take n xs (rest_octets x xs h))

IsOctets-drop : (n : ℕ) (xs : List ℕ) → IsOctets xs → IsOctets (drop n xs)
IsOctets-drop zero xs h = h
IsOctets-drop (suc n) [] h = none_octets
IsOctets-drop (suc n) (x ∷ xs) h = IsOctets-drop n xs (rest_octets x xs h)

IsOctets-zeros : (n : ℕ) → IsOctets (replicate n 0)
IsOctets-zeros zero = none_octets
IsOctets-zeros (suc n) = more_octets 0 (replicate n 0) (lit< tt) (IsOctets-zeros n)

IsBlock-zeros : IsBlock (replicate 16 0)
IsBlock-zeros = record { size = refl; octets = IsOctets-zeros 16 }

IsOctets-padded : (t : List ℕ) → IsOctets t → IsOctets (padded t)
unfolding padded
IsOctets-padded t h = IsOctets-append t (replicate (16 * block_count (length t) - length t) 0) h (IsOctets-zeros (16 * block_count (length t) - length t))

length-padded : (t : List ℕ) → length (padded t) ≡ 16 * block_count (length t)
unfolding padded
length-padded t =
    length-append t (replicate (16 * block_count (length t) - length t) 0)
    ∙ omega (arith, length-replicate {A = ℕ} (16 * block_count (length t) - length t) 0)

IsBlock-block : (p : List ℕ) (a : ℕ) → IsOctets p → a + 16 ≤ length p → IsBlock (take 16 (drop a p))
IsBlock-block p a h fits = record {
  size = length-take-le 16 (drop a p) (omega (arith, length-drop a p));
  octets = IsOctets-take 16 (drop a p) (IsOctets-drop a p h);
}

-- ---- sums

-- a sum with a known term shows the other
xor_cancel : (a b u v : List ℕ) → a ≡ b → length a ≡ length u → length a ≡ length v → xor_octets a u ≡ xor_octets b v → u ≡ v
xor_cancel a b u v same eu ev e =
    let e' : xor_octets u a ≡ xor_octets v a =
    xor_octets_comm u a (sym eu) ∙ e ∙ ap (λ (l : List ℕ). xor_octets l v) (sym same) ∙ xor_octets_comm a v ev in
    sym (xor_octets_twice u a (sym eu)) ∙ ap (λ (l : List ℕ). xor_octets l a) e' ∙ xor_octets_twice v a (sym ev)

drop-xor_octets : (n : ℕ) (xs ys : List ℕ) → length xs ≡ length ys → drop n (xor_octets xs ys) ≡ xor_octets (drop n xs) (drop n ys)
drop-xor_octets zero xs ys e = refl
drop-xor_octets (suc n) [] ys e = refl
drop-xor_octets (suc n) (x ∷ xs) [] e = absurd (omega (arith, e))
drop-xor_octets (suc n) (x ∷ xs) (y ∷ ys) e = drop-xor_octets n xs ys (omega (arith, e))

xor_octets-zeros : (xs : List ℕ) (n : ℕ) → length xs ≡ n → xor_octets xs (replicate n 0) ≡ xs
xor_octets-zeros [] n e = refl
xor_octets-zeros (x ∷ xs) zero e = absurd (omega (arith, e))
xor_octets-zeros (x ∷ xs) (suc n) e = cons_same (xor_zero_r x) (xor_octets-zeros xs n (omega (arith, e)))

-- two joined lists whose first parts have one length
fronts_same : (xs ys u v : List ℕ) (n : ℕ) → length xs ≡ n → length ys ≡ n → xs ++ u ≡ ys ++ v → xs ≡ ys
fronts_same xs ys u v n ex ey e = sym (take_at xs u n ex) ∙ ap (take n) e ∙ take_at ys v n ey

backs_same : (xs ys u v : List ℕ) (n : ℕ) → length xs ≡ n → length ys ≡ n → xs ++ u ≡ ys ++ v → u ≡ v
backs_same xs ys u v n ex ey e = sym (drop_at xs u n ex) ∙ ap (drop n) e ∙ drop_at ys v n ey

-- ---- blocks

IsBlock-cipher_block : (E : List ℕ → List ℕ) (p : List ℕ) (i : ℕ) → IsCipher E → IsOctets p → 16 * i ≤ length p → IsBlock (cipher_block E p i)
unfolding cipher_block
IsBlock-cipher_block E p zero of h fits = IsBlock-zeros
IsBlock-cipher_block E p (suc i) of h fits =
    of.keeps (xor_octets (cipher_block E p i) (take 16 (drop (16 * i) p)))
    (IsBlock-last (cipher_block E p i) (take 16 (drop (16 * i) p)) (IsBlock-cipher_block E p i of h (omega arith)) (IsBlock-block p (16 * i) h (omega arith)))

length-cbc : (E : List ℕ → List ℕ) (p : List ℕ) (i : ℕ) → IsCipher E → IsOctets p → 16 * i ≤ length p → length (cbc E p i) ≡ 16 * i
unfolding cbc
length-cbc E p zero of h fits = refl
length-cbc E p (suc i) of h fits =
    length-append (cbc E p i) (cipher_block E p (suc i))
    ∙ omega (arith, length-cbc E p i of h (omega arith), (IsBlock-cipher_block E p (suc i) of h fits).size)

-- equal cipher blocks after equal ones come from equal blocks
block_same : (E : List ℕ → List ℕ) (p q : List ℕ) (i : ℕ) → IsCipher E → IsOctets p → IsOctets q → 16 * suc i ≤ length p → 16 * suc i ≤ length q
    → cipher_block E p i ≡ cipher_block E q i → cipher_block E p (suc i) ≡ cipher_block E q (suc i)
    → take 16 (drop (16 * i) p) ≡ take 16 (drop (16 * i) q)
unfolding cipher_block
block_same E p q i of hp hq fp fq before after =
    let cp = IsBlock-cipher_block E p i of hp (omega arith) in
    let cq = IsBlock-cipher_block E q i of hq (omega arith) in
    let bp = IsBlock-block p (16 * i) hp (omega arith) in
    let bq = IsBlock-block q (16 * i) hq (omega arith) in
    xor_cancel (cipher_block E p i) (cipher_block E q i) (take 16 (drop (16 * i) p)) (take 16 (drop (16 * i) q)) before
    (cp.size ∙ sym bp.size) (cp.size ∙ sym bq.size)
    (of.injective (xor_octets (cipher_block E p i) (take 16 (drop (16 * i) p))) (xor_octets (cipher_block E q i) (take 16 (drop (16 * i) q)))
    (IsBlock-last (cipher_block E p i) (take 16 (drop (16 * i) p)) cp bp) (IsBlock-last (cipher_block E q i) (take 16 (drop (16 * i) q)) cq bq) after)

chained_same : (E : List ℕ → List ℕ) (p q : List ℕ) (i : ℕ) → IsCipher E → IsOctets p → IsOctets q → 16 * i ≤ length p → 16 * i ≤ length q
    → cbc E p i ≡ cbc E q i → cipher_block E p i ≡ cipher_block E q i
unfolding cbc cipher_block
chained_same E p q zero of hp hq fp fq e = refl
chained_same E p q (suc i) of hp hq fp fq e =
    backs_same (cbc E p i) (cbc E q i) (cipher_block E p (suc i)) (cipher_block E q (suc i)) (16 * i)
    (length-cbc E p i of hp (omega arith)) (length-cbc E q i of hq (omega arith)) e

front_same : (E : List ℕ → List ℕ) (p q : List ℕ) (i : ℕ) → IsCipher E → IsOctets p → IsOctets q → 16 * i ≤ length p → 16 * i ≤ length q
    → cbc E p i ≡ cbc E q i → take (16 * i) p ≡ take (16 * i) q
unfolding cbc
front_same E p q zero of hp hq fp fq e = refl
front_same E p q (suc i) of hp hq fp fq e =
    let before : cbc E p i ≡ cbc E q i =
    fronts_same (cbc E p i) (cbc E q i) (cipher_block E p (suc i)) (cipher_block E q (suc i)) (16 * i)
    (length-cbc E p i of hp (omega arith)) (length-cbc E q i of hq (omega arith)) e in
    let here = block_same E p q i of hp hq fp fq (chained_same E p q i of hp hq (omega arith) (omega arith) before) (chained_same E p q (suc i) of hp hq fp fq e) in
    let place : 16 * suc i ≡ 16 * i + 16 = omega arith in
    rw place (take-add (16 * i) 16 p ∙ ap₂ (λ (u v : List ℕ). u ++ v) (front_same E p q i of hp hq (omega arith) (omega arith) before) here ∙ sym (take-add (16 * i) 16 q))

-- ---- the end

-- the text's length, in blocks and octets: i whole blocks before the last two, of which the last has `rest` octets
pub record IsSplit (t : List ℕ) (i rest : ℕ) : Type 0 where
  pub size : length t ≡ 16 * i + 16 + rest
  pub some : 0 < rest
  pub few : rest ≤ 16

exchanged_length : (E : List ℕ → List ℕ) (p : List ℕ) (i rest : ℕ) → IsCipher E → IsOctets p → 16 * (i + 2) ≤ length p
    → length (cbc E p i ++ cipher_block E p (i + 2)) ≡ 16 * i + 16
exchanged_length E p i rest of h fits =
    length-append (cbc E p i) (cipher_block E p (i + 2))
    ∙ omega (arith, length-cbc E p i of h (omega arith), (IsBlock-cipher_block E p (i + 2) of h fits).size)

-- what a text of more than one block becomes
cts_is : (E : List ℕ → List ℕ) (t : List ℕ) (i rest : ℕ) → IsCipher E → IsOctets t → IsSplit t i rest
    → cts E t ≡ (cbc E (padded t) i ++ cipher_block E (padded t) (i + 2)) ++ take rest (cipher_block E (padded t) (i + 1))
unfolding cts
cts_is E t i rest of h s =
    let p : List ℕ = padded t in
    let count : block_count (length t) ≡ i + 2 = omega (arith, s.size, s.some, s.few) in
    let test = ne_eqb (block_count (length t)) 1 (λ e. omega arith) in
    let two : i + 2 - 2 ≡ i = omega arith in
    let one : i + 2 - 1 ≡ i + 1 = omega arith in
    rw test
    (rw (count, two, one)
    (ap (λ (n : ℕ). take n (cbc E p i ++ cipher_block E p (i + 2) ++ cipher_block E p (i + 1))) s.size
    ∙ take_over (cbc E p i ++ cipher_block E p (i + 2)) (cipher_block E p (i + 1)) (16 * i + 16) rest
    (exchanged_length E p i rest of (IsOctets-padded t h) (omega (arith, length-padded t)))))

-- the last cipher block shows the end of the one before, and then the last octets
last_same : (E : List ℕ → List ℕ) (x y : List ℕ) (i rest : ℕ) → IsCipher E → IsOctets x → IsOctets y → IsSplit x i rest → IsSplit y i rest
    → cipher_block E (padded x) (i + 2) ≡ cipher_block E (padded y) (i + 2)
    → take rest (cipher_block E (padded x) (i + 1)) ≡ take rest (cipher_block E (padded y) (i + 1))
    → (cipher_block E (padded x) (i + 1) ≡ cipher_block E (padded y) (i + 1)) × (drop (16 * i + 16) x ≡ drop (16 * i + 16) y)
unfolding cipher_block
last_same E x y i rest of hx hy sx sy e_last e_front =
    let b : ℕ = 16 * i + 16 in
    let p : List ℕ = padded x in
    let q : List ℕ = padded y in
    let cx : block_count (length x) ≡ i + 2 = omega (arith, sx.size, sx.some, sx.few) in
    let cy : block_count (length y) ≡ i + 2 = omega (arith, sy.size, sy.some, sy.few) in
    let next : i + 2 ≡ suc (i + 1) = omega arith in
    let place : 16 * (i + 1) ≡ b = omega arith in
    let op = IsOctets-padded x hx in
    let oq = IsOctets-padded y hy in
    let bp = IsBlock-cipher_block E p (i + 1) of op (omega (arith, length-padded x)) in
    let bq = IsBlock-cipher_block E q (i + 1) of oq (omega (arith, length-padded y)) in
    let lp = IsBlock-block p (16 * (i + 1)) op (omega (arith, length-padded x)) in
    let lq = IsBlock-block q (16 * (i + 1)) oq (omega (arith, length-padded y)) in
    let B : List ℕ = cipher_block E p (i + 1) in
    let B' : List ℕ = cipher_block E q (i + 1) in
    let L : List ℕ = take 16 (drop (16 * (i + 1)) p) in
    let L' : List ℕ = take 16 (drop (16 * (i + 1)) q) in
    let sums : xor_octets B L ≡ xor_octets B' L' =
    of.injective (xor_octets B L) (xor_octets B' L') (IsBlock-last B L bp lp) (IsBlock-last B' L' bq lq) (rw next at e_last) in
    let L_is : L ≡ drop b x ++ replicate (16 - rest) 0 =
    ap (λ (n : ℕ). take 16 (drop n p)) place ∙ last_block-padded x b (omega (arith, sx.size)) (omega arith)
    ∙ ap (λ (n : ℕ). drop b x ++ replicate n 0) (omega (arith, sx.size)) in
    let L'_is : L' ≡ drop b y ++ replicate (16 - rest) 0 =
    ap (λ (n : ℕ). take 16 (drop n q)) place ∙ last_block-padded y b (omega (arith, sy.size)) (omega arith)
    ∙ ap (λ (n : ℕ). drop b y ++ replicate n 0) (omega (arith, sy.size)) in
    let size_x : length (drop b x) ≡ rest = length-drop b x ∙ omega (arith, sx.size) in
    let size_y : length (drop b y) ≡ rest = length-drop b y ∙ omega (arith, sy.size) in
    let end_B : drop rest (xor_octets B L) ≡ drop rest B =
    drop-xor_octets rest B L (bp.size ∙ sym lp.size)
    ∙ ap (xor_octets (drop rest B)) (ap (drop rest) L_is ∙ drop_at (drop b x) (replicate (16 - rest) 0) rest size_x)
    ∙ xor_octets-zeros (drop rest B) (16 - rest) (length-drop rest B ∙ ap (λ (n : ℕ). n - rest) bp.size) in
    let end_B' : drop rest (xor_octets B' L') ≡ drop rest B' =
    drop-xor_octets rest B' L' (bq.size ∙ sym lq.size)
    ∙ ap (xor_octets (drop rest B')) (ap (drop rest) L'_is ∙ drop_at (drop b y) (replicate (16 - rest) 0) rest size_y)
    ∙ xor_octets-zeros (drop rest B') (16 - rest) (length-drop rest B' ∙ ap (λ (n : ℕ). n - rest) bq.size) in
    let same_B : B ≡ B' =
    sym (take-append-drop rest B)
    ∙ ap₂ (λ (u v : List ℕ). u ++ v) e_front (sym end_B ∙ ap (drop rest) sums ∙ end_B')
    ∙ take-append-drop rest B' in
    let same_L : L ≡ L' = xor_cancel B B' L L' same_B (bp.size ∙ sym lp.size) (bp.size ∙ sym lq.size) sums in (
      same_B,
      sym (take_at (drop b x) (replicate (16 - rest) 0) rest size_x) ∙ ap (take rest) (sym L_is ∙ same_L ∙ L'_is)
          ∙ take_at (drop b y) (replicate (16 - rest) 0) rest size_y,
    )

pub cts_injective_long : (E : List ℕ → List ℕ) (x y : List ℕ) (i rest : ℕ) → IsCipher E → IsOctets x → IsOctets y → IsSplit x i rest → IsSplit y i rest
    → cts E x ≡ cts E y → x ≡ y
cts_injective_long E x y i rest of hx hy sx sy e =
    let a : ℕ = 16 * i in
    let b : ℕ = 16 * i + 16 in
    let p : List ℕ = padded x in
    let q : List ℕ = padded y in
    let op = IsOctets-padded x hx in
    let oq = IsOctets-padded y hy in
    let fp : 16 * (i + 2) ≤ length p = omega (arith, length-padded x, sx.size, sx.some, sx.few) in
    let fq : 16 * (i + 2) ≤ length q = omega (arith, length-padded y, sy.size, sy.some, sy.few) in
    let wp = exchanged_length E p i rest of op fp in
    let wq = exchanged_length E q i rest of oq fq in
    let parts : (cbc E p i ++ cipher_block E p (i + 2)) ++ take rest (cipher_block E p (i + 1)) ≡ (cbc E q i ++ cipher_block E q (i + 2)) ++ take rest (cipher_block E q (i + 1)) =
    sym (cts_is E x i rest of hx sx) ∙ e ∙ cts_is E y i rest of hy sy in
    let heads = fronts_same (cbc E p i ++ cipher_block E p (i + 2)) (cbc E q i ++ cipher_block E q (i + 2)) (take rest (cipher_block E p (i + 1))) (take rest (cipher_block E q (i + 1))) b wp wq parts in
    let tails = backs_same (cbc E p i ++ cipher_block E p (i + 2)) (cbc E q i ++ cipher_block E q (i + 2)) (take rest (cipher_block E p (i + 1))) (take rest (cipher_block E q (i + 1))) b wp wq parts in
    let np = length-cbc E p i of op (omega arith) in
    let nq = length-cbc E q i of oq (omega arith) in
    let cbcs = fronts_same (cbc E p i) (cbc E q i) (cipher_block E p (i + 2)) (cipher_block E q (i + 2)) a np nq heads in
    let lasts = backs_same (cbc E p i) (cbc E q i) (cipher_block E p (i + 2)) (cipher_block E q (i + 2)) a np nq heads in
    let ends = last_same E x y i rest of hx hy sx sy lasts tails in
    let front : take a x ≡ take a y =
    sym (take-padded x a (omega (arith, sx.size))) ∙ front_same E p q i of op oq (omega arith) (omega arith) cbcs ∙ take-padded y a (omega (arith, sy.size)) in
    let middle : take 16 (drop a x) ≡ take 16 (drop a y) =
    sym (block-padded x a (omega (arith, sx.size)))
    ∙ block_same E p q i of op oq (omega arith) (omega arith) (chained_same E p q i of op oq (omega arith) (omega arith) cbcs) (rw (add-one i) at ends.0)
    ∙ block-padded y a (omega (arith, sy.size)) in
    sym (take-append-drop b x)
    ∙ ap₂ (λ (u v : List ℕ). u ++ v)
    (take-add a 16 x ∙ ap₂ (λ (u v : List ℕ). u ++ v) front middle ∙ sym (take-add a 16 y))
    ends.1
    ∙ take-append-drop b y

-- ---- every length

split_of : (t : List ℕ) → 16 < length t → IsSplit t (block_count (length t) - 2) (length t - 16 * (block_count (length t) - 1))
split_of t long = record { size = omega arith; some = omega arith; few = omega arith }

pub length-cts : (E : List ℕ → List ℕ) (t : List ℕ) → IsCipher E → IsOctets t → 16 < length t → length (cts E t) ≡ length t
length-cts E t of h long =
    let i : ℕ = block_count (length t) - 2 in
    let rest : ℕ = length t - 16 * (block_count (length t) - 1) in
    let s : IsSplit t i rest = split_of t long in
    let p : List ℕ = padded t in
    let op = IsOctets-padded t h in
    let fits : 16 * (i + 2) ≤ length p = omega (arith, length-padded t) in
    ap length (cts_is E t i rest of h s)
    ∙ length-append (cbc E p i ++ cipher_block E p (i + 2)) (take rest (cipher_block E p (i + 1)))
    ∙ ap₂ (λ (m n : ℕ). m + n) (exchanged_length E p i rest of op fits)
    (length-take-le rest (cipher_block E p (i + 1)) (omega (arith, s.few, (IsBlock-cipher_block E p (i + 1) of op (omega arith)).size)))
    ∙ sym s.size

cts_short : (E : List ℕ → List ℕ) (t : List ℕ) → length t ≡ 16 → cts E t ≡ E t
unfolding cts
cts_short E t e = rw e refl

-- a text of at least a block is shown by its CTS
pub cts_injective : (E : List ℕ → List ℕ) (x y : List ℕ) → IsCipher E → IsOctets x → IsOctets y → 16 ≤ length x → 16 ≤ length y
    → cts E x ≡ cts E y → x ≡ y
cts_injective E x y of hx hy lx ly e = elim (cases_lt 16 (length x)) [
  | inl long_x ↦ elim (cases_lt 16 (length y)) [
    | inl long_y ↦
        let same : length x ≡ length y = sym (length-cts E x of hx long_x) ∙ ap length e ∙ length-cts E y of hy long_y in
        let i : ℕ = block_count (length x) - 2 in
        let rest : ℕ = length x - 16 * (block_count (length x) - 1) in
        let sx : IsSplit x i rest = split_of x long_x in
        let sy : IsSplit y i rest = record { size = sym same ∙ sx.size; some = sx.some; few = sx.few } in
        cts_injective_long E x y i rest of hx hy sx sy e
    | inr short_y ↦
        let size_y : length y ≡ 16 = omega arith in
        let sy = of.keeps y (record { size = size_y; octets = hy }) in
        absurd (omega (arith, length-cts E x of hx long_x, ap length (e ∙ cts_short E y size_y), sy.size))
  ]
  | inr short_x ↦
      let size_x : length x ≡ 16 = omega arith in
      let sx = of.keeps x (record { size = size_x; octets = hx }) in
      elim (cases_lt 16 (length y)) [
        | inl long_y ↦ absurd (omega (arith, length-cts E y of hy long_y, ap length (sym e ∙ cts_short E x size_x), sx.size))
        | inr short_y ↦
            let size_y : length y ≡ 16 = omega arith in
            of.injective x y (record { size = size_x; octets = hx }) (record { size = size_y; octets = hy }) (sym (cts_short E x size_x) ∙ e ∙ cts_short E y size_y)
      ]
]

-- AES with ciphertext stealing
pub aes_cts_injective : (key x y : List ℕ) → IsOctets x → IsOctets y → 16 ≤ length x → 16 ≤ length y → cts (aes key) x ≡ cts (aes key) y → x ≡ y
aes_cts_injective key x y hx hy lx ly e = cts_injective (aes key) x y (IsCipher-aes key) hx hy lx ly e

-- CTS keeps a text's length
pub length-aes_cts : (key t : List ℕ) → IsOctets t → 16 ≤ length t → length (cts (aes key) t) ≡ length t
length-aes_cts key t h long = elim (cases_lt 16 (length t)) [
  | inl more ↦ length-cts (aes key) t (IsCipher-aes key) h more
  | inr few ↦
      let size : length t ≡ 16 = omega arith in
      ap length (cts_short (aes key) t size) ∙ (IsBlock-aes key t (record { size = size; octets = h })).size ∙ sym size
]
