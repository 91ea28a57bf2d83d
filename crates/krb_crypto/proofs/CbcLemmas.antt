-- How the blocks of a CBC are decrypted, several at a time (RFC 3962, section 5).
use Rattle.std.proofs.Common.{◌≡◌, ℕ, zero, suc, ◌+◌, ◌-◌, ◌*◌, ◌<◌, ◌≤◌, List, [], ◌∷◌, ◌++◌, length, take, drop, bit_xor, refl, sym, ap, ap₂, ◌∙◌, arith}
use lib.Lanes.{zip2}
use Rattle.std.proofs.Math.Seq.{take-add}
use Rattle.std.proofs.lemmas.List.{length-append, length-take-le, length-drop, take_all, take_at, drop_at, take-take, drop-drop, drop-take}
use Rattle.std.proofs.lemmas.Slice.{take-put_mid, drop-put_mid}
use borrow.Rule.Slice.PartMut.{put_mid}
use Rattle.krb_aes.specs.Octets.{block_at}
use Rattle.krb_aes.specs.Round.{xor_octets}
use Rattle.krb_aes.proofs.FourBlockLemmas.{block-xor}
use Rattle.krb_crypto.specs.Cbc.{BeginsAs, IsDecryptedTo}
use Rattle.krb_crypto.specs.Cts.{cipher_block, cbc}
use Rattle.krb_crypto.proofs.CtsLemmas.{length-put_mid, take_over}
use Rattle.krb_crypto.proofs.OpenLemmas.{xor_octets_undone, length-xor}

-- ---- sums on the lanes of vectors

pub zip2-xor_octets : (xs ys : List ℕ) → zip2 bit_xor xs ys ≡ xor_octets xs ys
zip2-xor_octets [] ys = refl
zip2-xor_octets (x ∷ xs) [] = refl
zip2-xor_octets (x ∷ xs) (y ∷ ys) = ap (λ (l : List ℕ). bit_xor x y ∷ l) (zip2-xor_octets xs ys)

block_at-xor : (b : ℕ) (xs ys : List ℕ) → block_at b (xor_octets xs ys) ≡ xor_octets (block_at b xs) (block_at b ys)
block_at-xor b xs ys =
    ap (λ (l : List ℕ). block_at b l) (sym (zip2-xor_octets xs ys)) ∙ block-xor b xs ys ∙ zip2-xor_octets (block_at b xs) (block_at b ys)

-- ---- blocks

-- a block of a part is a block of the whole
block_within : (xs : List ℕ) (a b n : ℕ) → b < n → take 16 (drop (16 * b) (take (16 * n) (drop a xs))) ≡ take 16 (drop (a + 16 * b) xs)
block_within xs a b n h =
    let whole : 16 * n ≡ 16 * b + (16 * n - 16 * b) = omega arith in
    ap (λ (m : ℕ). take 16 (drop (16 * b) (take m (drop a xs)))) whole
    ∙ ap (take 16) (drop-take (16 * b) (16 * n - 16 * b) (drop a xs))
    ∙ take-take 16 (16 * n - 16 * b) (drop (16 * b) (drop a xs)) (omega arith)
    ∙ ap (take 16) (drop-drop (16 * b) a xs)

-- the block after the first
next_block_at : (previous blocks : List ℕ) (b : ℕ) → length previous ≡ 16 → block_at (suc b) (previous ++ blocks) ≡ block_at b blocks
next_block_at previous blocks b e =
    let place : 16 * suc b ≡ 16 + 16 * b = omega arith in
    ap (λ (m : ℕ). take 16 (drop m (previous ++ blocks))) place
    ∙ ap (take 16) (sym (drop-drop (16 * b) 16 (previous ++ blocks)) ∙ ap (drop (16 * b)) (drop_at previous blocks 16 e))

length-block_at : (b n : ℕ) (xs : List ℕ) → b < n → length xs ≡ 16 * n → length (block_at b xs) ≡ 16
length-block_at b n xs h e = length-take-le 16 (drop (16 * b) xs) (omega (arith, length-drop (16 * b) xs))

-- the cipher maps the sum of a plain block and the cipher block before it to the cipher block
abbrev pub AreOpened : (List ℕ → List ℕ) → List ℕ → List ℕ → List ℕ → ℕ → Type 0
AreOpened E previous blocks plain n = (b : ℕ) → b < n → E (xor_octets (block_at b (previous ++ blocks)) (block_at b plain)) ≡ block_at b blocks

-- what a text becomes that begins as what is decrypted so far and then has these plain blocks
blocks_begin : (E : List ℕ → List ℕ) (t previous blocks plain q : List ℕ) (i n : ℕ)
    → BeginsAs E t previous q i → length previous ≡ 16 → blocks ≡ take (16 * n) (drop (16 * i) t)
    → AreOpened E previous blocks plain n → take (16 * n) (drop (16 * i) q) ≡ plain
    → (b m : ℕ) → m ≡ i + b → b ≤ n → BeginsAs E t (block_at b (previous ++ blocks)) q m
unfolding cbc cipher_block
blocks_begin E t previous blocks plain q i n begins width eb opened ep zero m at few =
    let here : m ≡ i = omega arith in
    let first : block_at 0 (previous ++ blocks) ≡ previous = take_at previous blocks 16 width in
    rw (here, first) begins
blocks_begin E t previous blocks plain q i n begins width eb opened ep (suc b) m at few =
    let before = blocks_begin E t previous blocks plain q i n begins width eb opened ep b (i + b) refl (omega arith) in
    let here : m ≡ suc (i + b) = omega arith in
    let place : 16 * i + 16 * b ≡ 16 * (i + b) = omega arith in
    let after : 16 * (i + b) + 16 ≡ 16 * suc (i + b) = omega arith in
    let plain_at : take 16 (drop (16 * (i + b)) q) ≡ block_at b plain =
    ap (λ (m : ℕ). take 16 (drop m q)) (sym place) ∙ sym (block_within q (16 * i) b n (omega arith)) ∙ ap (λ (l : List ℕ). block_at b l) ep in
    let block_is : block_at b blocks ≡ take 16 (drop (16 * (i + b)) t) =
    ap (λ (l : List ℕ). block_at b l) eb ∙ block_within t (16 * i) b n (omega arith) ∙ ap (λ (m : ℕ). take 16 (drop m t)) place in
    let chained : cipher_block E q (suc (i + b)) ≡ block_at b blocks =
    ap E (ap₂ xor_octets before.chained plain_at) ∙ opened b (omega arith) in
    let next : block_at (suc b) (previous ++ blocks) ≡ block_at b blocks = next_block_at previous blocks b width in
    rw (here, next)
    record {
      blocks =
          ap₂ (λ (u v : List ℕ). u ++ v) before.blocks (chained ∙ block_is) ∙ sym (take-add (16 * (i + b)) 16 t)
          ∙ ap (λ (m : ℕ). take m t) after;
      chained = chained;
    }

-- n blocks more
pub IsDecryptedTo_blocks : (E : List ℕ → List ℕ) (t text previous blocks plain new last : List ℕ) (i n k : ℕ)
    → IsDecryptedTo E t text previous i → 1 ≤ n → 16 * i + 16 * n ≤ length t → blocks ≡ take (16 * n) (drop (16 * i) t)
    → AreOpened E previous blocks plain n → length plain ≡ 16 * n → new ≡ plain → k ≡ 16 * n → last ≡ block_at n (previous ++ blocks) → length last ≡ 16
    → IsDecryptedTo E t (put_mid (16 * i) k text new) last (i + n)
IsDecryptedTo_blocks E t text previous blocks plain new last i n k held some fits eb opened size en ek el width =
    let a : ℕ = 16 * i in
    let w : ℕ = 16 * n in
    let size_new : length new ≡ w = ap length en ∙ size in
    let fits_text : a + w ≤ length text = omega (arith, held.size) in
    let place : 16 * (i + n) ≡ a + w = omega arith in
    let front : take (a + w) (put_mid a k text new) ≡ take a text ++ new = take-put_mid a k text new (a + w) (omega arith) (omega arith) in
    let size_front : length (take a text) ≡ a = length-take-le a text (omega arith) in
    record {
      size = length-put_mid a k text new (omega arith) (size_new ∙ sym ek) ∙ held.size;
      width = width;
      back =
          drop-put_mid a k text new (16 * (i + n)) (omega arith) (omega arith) (size_new ∙ sym ek)
          ∙ rw place (sym (drop-drop w a text) ∙ ap (drop w) held.back ∙ drop-drop w a t);
      begins = λ q h.
          let head : take (a + w) q ≡ take a text ++ new = rw place at h ∙ front in
          let before : take a q ≡ take a text =
          sym (take-take a (a + w) q (omega arith)) ∙ ap (take a) head ∙ take_at (take a text) new a size_front in
          let here : take w (drop a q) ≡ plain = sym (drop-take a w q) ∙ ap (drop a) head ∙ drop_at (take a text) new a size_front ∙ en in
          rw el (blocks_begin E t previous blocks plain q i n (held.begins q before) held.width eb opened here n (i + n) refl (omega arith));
    }

-- the same at a place and up to a block that are written otherwise
pub IsDecryptedTo_further : (E : List ℕ → List ℕ) (t text previous blocks plain new last : List ℕ) (i n k at m : ℕ) → at ≡ 16 * i → m ≡ i + n
    → IsDecryptedTo E t text previous i → 1 ≤ n → 16 * i + 16 * n ≤ length t → blocks ≡ take (16 * n) (drop (16 * i) t)
    → AreOpened E previous blocks plain n → length plain ≡ 16 * n → new ≡ plain → k ≡ 16 * n → last ≡ block_at n (previous ++ blocks) → length last ≡ 16
    → IsDecryptedTo E t (put_mid at k text new) last m
IsDecryptedTo_further E t text previous blocks plain new last i n k at m ea em held some fits eb opened size en ek el width =
    rw (ea, em) (IsDecryptedTo_blocks E t text previous blocks plain new last i n k held some fits eb opened size en ek el width)

-- ---- four blocks

-- the inverse of the cipher at each of four blocks, added to the cipher block before it, is the plain text
pub four_opened : (E : List ℕ → List ℕ) (previous blocks d plain : List ℕ) → length previous ≡ 16 → length blocks ≡ 64 → length d ≡ 64
    → plain ≡ xor_octets d (previous ++ take 48 blocks) → ((b : ℕ) → b < 4 → E (block_at b d) ≡ block_at b blocks) → AreOpened E previous blocks plain 4
four_opened E previous blocks d plain width long size ep ed = λ b few.
    let chain : List ℕ = previous ++ take 48 blocks in
    let start : 0 + 16 * b ≡ 16 * b = omega arith in
    let joined : length (previous ++ blocks) ≡ 80 = omega (arith, length-append previous blocks) in
    let same : block_at b chain ≡ block_at b (previous ++ blocks) =
    ap (λ (l : List ℕ). block_at b l) (sym (take_over previous blocks 16 48 width)) ∙ block_within (previous ++ blocks) 0 b 4 few
    ∙ ap (λ (m : ℕ). take 16 (drop m (previous ++ blocks))) start in
    let taken : block_at b plain ≡ xor_octets (block_at b d) (block_at b (previous ++ blocks)) =
    ap (λ (l : List ℕ). block_at b l) ep ∙ block_at-xor b d chain ∙ ap (xor_octets (block_at b d)) same in
    let sizes : length (block_at b d) ≡ length (block_at b (previous ++ blocks)) =
    length-block_at b 4 d few size ∙ sym (length-block_at b 5 (previous ++ blocks) (omega arith) joined) in
    ap E (ap (xor_octets (block_at b (previous ++ blocks))) taken ∙ xor_octets_undone (block_at b d) (block_at b (previous ++ blocks)) sizes) ∙ ed b few

-- the last of four blocks
pub last_of_four : (previous blocks last : List ℕ) → length previous ≡ 16 → last ≡ take 16 (drop 48 blocks) → last ≡ block_at 4 (previous ++ blocks)
last_of_four previous blocks last width e = e ∙ sym (next_block_at previous blocks 3 width)

-- the blocks of the text are still those that were there
pub still_there : (E : List ℕ → List ℕ) (t text previous blocks : List ℕ) (i n : ℕ) → IsDecryptedTo E t text previous i
    → blocks ≡ take n (drop (16 * i) text) → blocks ≡ take n (drop (16 * i) t)
still_there E t text previous blocks i n held e = e ∙ ap (take n) held.back

-- the same of the next four
pub next_there : (E : List ℕ → List ℕ) (t text previous blocks : List ℕ) (i n : ℕ) → IsDecryptedTo E t text previous i
    → blocks ≡ take n (drop (16 * i + 64) text) → blocks ≡ take n (drop (16 * (i + 4)) t)
next_there E t text previous blocks i n held e =
    let place : 16 * i + 64 ≡ 16 * (i + 4) = omega arith in
    e ∙ ap (take n) (sym (drop-drop 64 (16 * i) text) ∙ ap (drop 64) held.back ∙ drop-drop 64 (16 * i) t ∙ ap (λ (m : ℕ). drop m t) place)

-- ---- one block

pub one_opened : (E : List ℕ → List ℕ) (previous block d plain : List ℕ) → length previous ≡ 16 → length block ≡ 16 → length d ≡ 16
    → plain ≡ xor_octets d previous → E d ≡ block → AreOpened E previous block plain 1
one_opened E previous block d plain width long size ep ed zero few =
    let first : block_at 0 (previous ++ block) ≡ previous = take_at previous block 16 width in
    let size_plain : length plain ≡ 16 = ap length ep ∙ length-xor d previous (size ∙ sym width) ∙ size in
    ap E (ap₂ xor_octets first (take_all 16 plain (omega arith) ∙ ep) ∙ xor_octets_undone d previous (size ∙ sym width)) ∙ ed ∙ sym (take_all 16 block (omega arith))
one_opened E previous block d plain width long size ep ed (suc b) few = absurd (omega arith)

pub last_of_one : (previous block : List ℕ) → length previous ≡ 16 → length block ≡ 16 → block ≡ block_at 1 (previous ++ block)
last_of_one previous block width long = sym (next_block_at previous block 0 width ∙ take_all 16 block (omega arith))
