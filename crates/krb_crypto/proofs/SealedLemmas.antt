-- A sealed text and its parts (RFC 3962, section 6).
use Rattle.std.proofs.Common.{◌≡◌, ℕ, ◌+◌, ◌<◌, ◌≤◌, List, ◌++◌, length, take, drop, slice_index, refl, sym, ap, ap₂, ◌∙◌, arith}
use Rattle.std.proofs.lemmas.List.{length-append, length-take-le, take-append-drop, take_at, drop_at}
use Rattle.krb_aes.specs.Aes.{aes, block_cipher, IsScheduleOf}
use Rattle.krb_aes.specs.Octets.{IsOctets}
use Rattle.krb_aes.specs.declared.schedule.KeySchedule.{KeySchedule}
use Rattle.krb_aes.proofs.CipherLemmas.{block_cipher-aes}
use Rattle.krb_crypto.specs.Cts.{cts}
use Rattle.krb_crypto.specs.Hmac.{hmac, hmac12, xor_each, block_key}
use Rattle.sha1.specs.Sha1.{sha1, digest_bytes}
use Rattle.krb_crypto.specs.SealingPair.{SealingPair, sealing_pair}
use Rattle.krb_crypto.specs.Sealed.{sealed_text, sealed, IsSealedUnder, IsSealed}
use Rattle.krb_crypto.proofs.CtsInjective.{aes_cts_injective, length-aes_cts, IsOctets-take}
use Rattle.krb_crypto.specs.declared.suite.CipherSuite.{CipherSuite}

-- the cipher under a schedule of a key, as a function
pub cts-schedule : (key text : List ℕ) (s : KeySchedule) → IsScheduleOf key s → cts (block_cipher s) text ≡ cts (aes key) text
cts-schedule key text s of = ap (λ (E : List ℕ → List ℕ). cts E text) (λ i b. block_cipher-aes key b s of i)

length-sha1 : (m : List ℕ) → length (sha1 m) ≡ 20
unfolding sha1 digest_bytes
length-sha1 m = refl

pub length-hmac12 : (key m : List ℕ) → length (hmac12 key m) ≡ 12
unfolding hmac
length-hmac12 key m =
    length-take-le 12 (sha1 (xor_each 0x5c (block_key key) ++ sha1 (xor_each 0x36 (block_key key) ++ m)))
    (omega (arith, length-sha1 (xor_each 0x5c (block_key key) ++ sha1 (xor_each 0x36 (block_key key) ++ m))))

-- a sealed text from its two parts
pub sealed_of_parts : (keys : SealingPair) (text body code : List ℕ) → body ≡ cts (aes keys.encryption) text → code ≡ hmac12 keys.integrity text
    → body ++ code ≡ sealed_text keys text
unfolding sealed_text
sealed_of_parts keys text body code eb ec = ap₂ (λ (x y : List ℕ). x ++ y) eb ec

-- the revealed plain text is sealed to the text, if the code after the revealed text is its code
pub revealed_is_sealed : (keys : SealingPair) (old new : List ℕ) (end : ℕ) → 16 ≤ end → end ≤ length new
    → cts (aes keys.encryption) (take end new) ≡ take end old → hmac12 keys.integrity (take end new) ≡ drop end old
    → ((k : ℕ) → slice_index new k < 256) → IsSealedUnder keys old (drop 16 (take end new))
unfolding sealed_text
revealed_is_sealed keys old new end long fits front code octets =
    let o : List ℕ = take end new in
    let size : length o ≡ end = length-take-le end new fits in
    let whole : take 16 o ++ drop 16 o ≡ o = take-append-drop 16 o in
    let each : IsOctets o = IsOctets-take end new (record { below = octets }) in
    record {
      confounder = take 16 o;
      size = length-take-le 16 o (omega arith);
      octets = rw whole each;
      is = rw whole (ap₂ (λ (x y : List ℕ). x ++ y) front code ∙ take-append-drop end old);
    }

-- two texts that are sealed alike are one text
pub sealed_text_injective : (keys : SealingPair) (m n : List ℕ) → IsOctets m → IsOctets n → 16 ≤ length m → 16 ≤ length n
    → sealed_text keys m ≡ sealed_text keys n → m ≡ n
unfolding sealed_text
sealed_text_injective keys m n om on lm ln whole =
    let k : List ℕ = keys.encryption in
    let hm : List ℕ = hmac12 keys.integrity m in
    let hn : List ℕ = hmac12 keys.integrity n in
    let code_m : length hm ≡ 12 = length-hmac12 keys.integrity m in
    let code_n : length hn ≡ 12 = length-hmac12 keys.integrity n in
    let size : length (cts (aes k) m) ≡ length (cts (aes k) n) =
    omega (arith, length-append (cts (aes k) m) hm, length-append (cts (aes k) n) hn, ap length whole) in
    let front : cts (aes k) m ≡ cts (aes k) n =
    sym (take_at (cts (aes k) m) hm (length (cts (aes k) m)) refl) ∙ ap (take (length (cts (aes k) m))) whole
    ∙ take_at (cts (aes k) n) hn (length (cts (aes k) m)) (sym size) in
    aes_cts_injective k m n om on lm ln front

-- if the code after the revealed text is another than its code, no plain text is sealed to the text
pub not_sealed : (keys : SealingPair) (old new : List ℕ) (end : ℕ) → 16 ≤ end → end + 12 ≡ length old → end ≤ length new
    → cts (aes keys.encryption) (take end new) ≡ take end old → (hmac12 keys.integrity (take end new) ≡ drop end old → ⊥)
    → ((k : ℕ) → slice_index new k < 256) → (plain : List ℕ) → IsSealedUnder keys old plain → ⊥
unfolding sealed_text
not_sealed keys old new end long all fits front differs octets plain s =
    let k : List ℕ = keys.encryption in
    let o : List ℕ = take end new in
    let m : List ℕ = s.confounder ++ plain in
    let h : List ℕ = hmac12 keys.integrity m in
    let size : length o ≡ end = length-take-le end new fits in
    let code_size : length h ≡ 12 = length-hmac12 keys.integrity m in
    let cts_size : length (cts (aes k) m) ≡ end = omega (arith, length-append (cts (aes k) m) h, ap length s.is) in
    let m_size : 16 ≤ length m = omega (arith, length-append s.confounder plain, s.size) in
    let front_m : cts (aes k) m ≡ take end old = sym (take_at (cts (aes k) m) h end cts_size) ∙ ap (take end) s.is in
    let back : h ≡ drop end old = sym (drop_at (cts (aes k) m) h end cts_size) ∙ ap (drop end) s.is in
    let each : IsOctets o = IsOctets-take end new (record { below = octets }) in
    let opened : m ≡ o = aes_cts_injective k m o s.octets each m_size (omega arith) (front_m ∙ sym front) in
    differs (ap (hmac12 keys.integrity) (sym opened) ∙ back)

-- ---- what is sealed to a text

-- the text of a confounder and a plain text
long_text : (confounder plain : List ℕ) → length confounder ≡ 16 → 16 ≤ length (confounder ++ plain)
long_text confounder plain size = omega (arith, length-append confounder plain)

-- sealing takes different confounders and different plain texts to different texts
pub sealed_injective : (suite : CipherSuite) (key : List ℕ) (usage : ℕ) (c p d q : List ℕ)
    → length c ≡ 16 → length d ≡ 16 → IsOctets (c ++ p) → IsOctets (d ++ q)
    → sealed suite key usage c p ≡ sealed suite key usage d q → (c ≡ d) × (p ≡ q)
sealed_injective suite key usage c p d q size_c size_d oc od e =
    let same : c ++ p ≡ d ++ q =
    sealed_text_injective (sealing_pair suite key usage) (c ++ p) (d ++ q) oc od (long_text c p size_c) (long_text d q size_d) e in (
      sym (take_at c p 16 size_c) ∙ ap (take 16) same ∙ take_at d q 16 size_d,
      sym (drop_at c p 16 size_c) ∙ ap (drop 16) same ∙ drop_at d q 16 size_d,
    )

-- one plain text at most is sealed to a text
pub sealed_once_under : (keys : SealingPair) (text p q : List ℕ) → IsSealedUnder keys text p → IsSealedUnder keys text q → p ≡ q
sealed_once_under keys text p q s t =
    let same : s.confounder ++ p ≡ t.confounder ++ q =
    sealed_text_injective keys (s.confounder ++ p) (t.confounder ++ q) s.octets t.octets
    (long_text s.confounder p s.size) (long_text t.confounder q t.size) (s.is ∙ sym t.is) in
    sym (drop_at s.confounder p 16 s.size) ∙ ap (drop 16) same ∙ drop_at t.confounder q 16 t.size

pub sealed_once : (suite : CipherSuite) (key : List ℕ) (usage : ℕ) (text p q : List ℕ) → IsSealed suite key usage text p → IsSealed suite key usage text q → p ≡ q
sealed_once suite key usage text p q s t = sealed_once_under (sealing_pair suite key usage) text p q s t

-- what was sealed is sealed so
pub is_sealed : (suite : CipherSuite) (key : List ℕ) (usage : ℕ) (confounder plain : List ℕ) → length confounder ≡ 16 → IsOctets (confounder ++ plain)
    → IsSealed suite key usage (sealed suite key usage confounder plain) plain
is_sealed suite key usage confounder plain size octets = record { confounder = confounder; size = size; octets = octets; is = refl }

-- a sealed text is 12 octets longer than what is sealed in it
pub length-sealed_text : (keys : SealingPair) (text : List ℕ) → 16 ≤ length text → IsOctets text → length (sealed_text keys text) ≡ length text + 12
unfolding sealed_text
length-sealed_text keys text long octets =
    length-append (cts (aes keys.encryption) text) (hmac12 keys.integrity text)
    ∙ omega (arith, length-aes_cts keys.encryption text octets long, length-hmac12 keys.integrity text)

-- a plain text is 28 octets shorter than its sealed text
pub plain_shorter : (suite : CipherSuite) (key : List ℕ) (usage : ℕ) (text plain : List ℕ) → IsSealed suite key usage text plain → length plain + 28 ≡ length text
plain_shorter suite key usage text plain s =
    omega (
      arith,
      ap length s.is,
      length-sealed_text (sealing_pair suite key usage) (s.confounder ++ plain) (long_text s.confounder plain s.size) s.octets,
      length-append s.confounder plain,
      s.size,
    )
