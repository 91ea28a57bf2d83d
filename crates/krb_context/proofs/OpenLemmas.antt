-- A sealed body is opened in one way only (RFC 4121, section 4.2.4).
use Rattle.std.proofs.Common.{◌≡◌, ℕ, ◌+◌, ◌-◌, ◌<◌, ◌≤◌, List, ◌++◌, length, take, drop, slice_index, refl, sym, subst, ap, ap₂, ◌∙◌, arith}
use Rattle.std.proofs.lemmas.List.{append_assoc, length-append, length-take-le, length-drop, drop-drop, take-append-drop, take_at, drop_at, take_rest}
use Rattle.krb_aes.specs.Aes.{aes}
use Rattle.krb_crypto.specs.Cts.{cts}
use Rattle.krb_crypto.specs.Hmac.{hmac12}
use Rattle.krb_crypto.specs.SealingPair.{SealingPair}
use Rattle.krb_crypto.proofs.CtsInjective.{aes_cts_injective}
use Rattle.krb_crypto.proofs.SealedLemmas.{length-hmac12}
use Rattle.sspi_core.specs.Buffer.{Buffer}
use Rattle.krb_context.specs.Decrypted.{IsDecrypted, HasCode}
use Rattle.krb_context.specs.Header.{IsCopyOf}
use Rattle.krb_context.specs.Spelled.{covered}
use Rattle.krb_context.specs.Spelt.{inner_text, sealed_body, covered_code, IsSealedAs}

-- the parts of an inner text
pub record IsParted (confounder p filler copy o : List ℕ) (ec : ℕ) : Type 0 where
  pub first : take 16 o ≡ confounder
  pub middle : take (length o - 16 - ec - 16) (drop 16 o) ≡ p
  pub back : drop (length o - 16 - ec) o ≡ filler ++ copy
  pub last : drop (length o - 16) o ≡ copy

pub parted : (confounder p filler copy : List ℕ) (ec : ℕ) → length confounder ≡ 16 → length filler ≡ ec → length copy ≡ 16
    → IsParted confounder p filler copy (inner_text confounder p filler copy) ec
parted confounder p filler copy ec size_c size_f size_h =
    let o : List ℕ = inner_text confounder p filler copy in
    let grouped : o ≡ confounder ++ (p ++ (filler ++ copy)) = append_assoc (confounder ++ p) filler copy ∙ append_assoc confounder p (filler ++ copy) in
    let tail : length (filler ++ copy) ≡ ec + 16 = omega (arith, length-append filler copy) in
    let size_o : length o ≡ 16 + (length p + (ec + 16)) =
    ap length grouped ∙ length-append confounder (p ++ (filler ++ copy)) ∙ omega (arith, length-append p (filler ++ copy)) in
    let n : length o - 16 - ec - 16 ≡ length p = omega arith in
    let m : length o - 16 - ec ≡ length (confounder ++ p) = omega (arith, length-append confounder p) in
    let l : length o - 16 ≡ length (confounder ++ p ++ filler) = omega (arith, length-append (confounder ++ p) filler, length-append confounder p) in
    record {
      first = ap (take 16) grouped ∙ take_at confounder (p ++ (filler ++ copy)) 16 size_c;
      middle =
          ap₂ (λ (k : ℕ) (s : List ℕ). take k s) n (ap (drop 16) grouped ∙ drop_at confounder (p ++ (filler ++ copy)) 16 size_c)
          ∙ take_at p (filler ++ copy) (length p) refl;
      back = ap₂ (λ (k : ℕ) (s : List ℕ). drop k s) m (append_assoc (confounder ++ p) filler copy) ∙ drop_at (confounder ++ p) (filler ++ copy) (length (confounder ++ p)) refl;
      last = ap (λ (k : ℕ). drop k o) l ∙ drop_at (confounder ++ p ++ filler) copy (length (confounder ++ p ++ filler)) refl;
    }

-- the checksum over the parts
pub code_of_parts : (key : List ℕ) (buffers : List Buffer) (confounder p filler copy o : List ℕ) (ec : ℕ) → IsParted confounder p filler copy o ec
    → covered_code key buffers o (length o - 16 - ec) ≡ hmac12 key (confounder ++ covered p buffers ++ filler ++ copy)
unfolding covered_code
code_of_parts key buffers confounder p filler copy o ec parts =
    ap (hmac12 key)
    (ap₂ (λ (u v : List ℕ). u ++ v)
    (ap₂ (λ (u v : List ℕ). u ++ v) parts.first (ap (λ (s : List ℕ). covered s buffers) parts.middle)) parts.back
    ∙ sym (append_assoc (confounder ++ covered p buffers) filler copy))

-- a sealed body is what was decrypted
pub decrypted_is : (keys : SealingPair) (ec : ℕ) (header : List ℕ) (buffers : List Buffer) (whole p o : List ℕ)
    → IsDecrypted keys ec whole o → (s : IsSealedAs keys ec header buffers whole p)
    → (inner_text s.confounder p s.filler s.copy ≡ o)
    × (hmac12 keys.integrity (s.confounder ++ covered p buffers ++ s.filler ++ s.copy) ≡ drop (length o) whole)
unfolding sealed_body
decrypted_is keys ec header buffers whole p o d s =
    let m : List ℕ = inner_text s.confounder p s.filler s.copy in
    let e : List ℕ = cts (aes keys.encryption) m in
    let h : List ℕ = hmac12 keys.integrity (s.confounder ++ covered p buffers ++ s.filler ++ s.copy) in
    let size_h : length h ≡ 12 = length-hmac12 keys.integrity (s.confounder ++ covered p buffers ++ s.filler ++ s.copy) in
    let size_e : length e ≡ length o = omega (arith, length-append e h, ap length s.is, d.size) in
    let size_m : 16 ≤ length m =
    omega (arith, length-append (s.confounder ++ p ++ s.filler) s.copy, length-append (s.confounder ++ p) s.filler, length-append s.confounder p, s.confounder_size) in
    let front : e ≡ take (length o) whole = sym (take_at e h (length o) size_e) ∙ ap (take (length o)) (sym s.is) in
    let back : h ≡ drop (length o) whole = sym (drop_at e h (length o) size_e) ∙ ap (drop (length o)) (sym s.is) in (
      aes_cts_injective keys.encryption m o (record { below = s.octets }) (record { below = d.octets }) size_m (omega (arith, d.size, d.long)) (front ∙ sym d.opened),
      back,
    )

-- where a text is sealed, the checksum agrees, and so does the header's copy
pub sealed_agrees : (keys : SealingPair) (ec : ℕ) (header : List ℕ) (buffers : List Buffer) (whole p o : List ℕ)
    → IsDecrypted keys ec whole o → IsSealedAs keys ec header buffers whole p
    → HasCode keys ec buffers whole o × IsCopyOf header (drop (length o - 16) o)
    × (p ≡ take (length o - 16 - ec - 16) (drop 16 o))
sealed_agrees keys ec header buffers whole p o d s =
    let both = decrypted_is keys ec header buffers whole p o d s in
    let parts : IsParted s.confounder p s.filler s.copy o ec =
    subst (λ (t : List ℕ). IsParted s.confounder p s.filler s.copy t ec) both.0 (parted s.confounder p s.filler s.copy ec s.confounder_size s.filler_size s.copied.size) in (
      code_of_parts keys.integrity buffers s.confounder p s.filler s.copy o ec parts ∙ both.1,
      subst (IsCopyOf header) (sym parts.last) s.copied,
      sym parts.middle,
    )

-- where both agree, the middle is sealed
pub agrees_sealed : (keys : SealingPair) (ec : ℕ) (header : List ℕ) (buffers : List Buffer) (whole o : List ℕ)
    → IsDecrypted keys ec whole o → HasCode keys ec buffers whole o
    → IsCopyOf header (drop (length o - 16) o) → IsSealedAs keys ec header buffers whole (take (length o - 16 - ec - 16) (drop 16 o))
unfolding sealed_body covered_code
agrees_sealed keys ec header buffers whole o d agrees copied =
    let confounder : List ℕ = take 16 o in
    let n : ℕ = length o - 16 - ec - 16 in
    let p : List ℕ = take n (drop 16 o) in
    let end : ℕ = length o - 16 - ec in
    let filler : List ℕ = take ec (drop end o) in
    let copy : List ℕ = drop (length o - 16) o in
    let tail : filler ++ copy ≡ drop end o =
    ap (λ (s : List ℕ). filler ++ s) (ap (λ (k : ℕ). drop k o) (omega (arith, d.size, d.long)) ∙ sym (drop-drop ec end o)) ∙ take-append-drop ec (drop end o) in
    let behind : p ++ drop end o ≡ drop 16 o =
    ap (λ (s : List ℕ). p ++ s) (ap (λ (k : ℕ). drop k o) (omega (arith, d.size, d.long)) ∙ sym (drop-drop n 16 o)) ∙ take-append-drop n (drop 16 o) in
    let inner : inner_text confounder p filler copy ≡ o =
    append_assoc (confounder ++ p) filler copy ∙ ap (λ (s : List ℕ). confounder ++ p ++ s) tail ∙ append_assoc confounder p (drop end o)
    ∙ ap (λ (s : List ℕ). confounder ++ s) behind ∙ take-append-drop 16 o in
    let code : hmac12 keys.integrity (confounder ++ covered p buffers ++ filler ++ copy) ≡ drop (length o) whole =
    ap (hmac12 keys.integrity) (append_assoc (confounder ++ covered p buffers) filler copy ∙ ap (λ (s : List ℕ). confounder ++ covered p buffers ++ s) tail) ∙ agrees in
    record {
      confounder = confounder;
      confounder_size = length-take-le 16 o (omega (arith, d.size, d.long));
      filler = filler;
      filler_size = length-take-le ec (drop end o) (omega (arith, length-drop end o, d.size, d.long));
      copy = copy;
      copied = copied;
      octets = subst (λ (s : List ℕ). (k : ℕ) → slice_index s k < 256) (sym inner) d.octets;
      is =
          sym (ap₂ (λ (u v : List ℕ). u ++ v) (ap (cts (aes keys.encryption)) inner ∙ d.opened) code ∙ take-append-drop (length o) whole);
    }

-- the header's copy: the last 16 octets of o, in terms of an equal slice and its length
pub copy_is : (o slice : List ℕ) (n : ℕ) → slice ≡ o → n ≡ length o → take (length slice - (n - 16)) (drop (n - 16) slice) ≡ drop (length o - 16) o
copy_is o slice n es en = take_rest slice (n - 16) ∙ ap₂ (λ (k : ℕ) (s : List ℕ). drop (k - 16) s) en es

-- what is sealed under these keys is sealed once
pub sealed_once : (keys : SealingPair) (ec : ℕ) (header : List ℕ) (buffers others : List Buffer) (whole p q : List ℕ)
    → IsSealedAs keys ec header buffers whole p → IsSealedAs keys ec header others whole q → p ≡ q
unfolding sealed_body
sealed_once keys ec header buffers others whole p q s t =
    let m : List ℕ = inner_text s.confounder p s.filler s.copy in
    let n : List ℕ = inner_text t.confounder q t.filler t.copy in
    let e : List ℕ = cts (aes keys.encryption) m in
    let f : List ℕ = cts (aes keys.encryption) n in
    let h : List ℕ = hmac12 keys.integrity (s.confounder ++ covered p buffers ++ s.filler ++ s.copy) in
    let k : List ℕ = hmac12 keys.integrity (t.confounder ++ covered q others ++ t.filler ++ t.copy) in
    let size_h : length h ≡ 12 = length-hmac12 keys.integrity (s.confounder ++ covered p buffers ++ s.filler ++ s.copy) in
    let size_k : length k ≡ 12 = length-hmac12 keys.integrity (t.confounder ++ covered q others ++ t.filler ++ t.copy) in
    let size_m : 16 ≤ length m =
    omega (arith, length-append (s.confounder ++ p ++ s.filler) s.copy, length-append (s.confounder ++ p) s.filler, length-append s.confounder p, s.confounder_size) in
    let size_n : 16 ≤ length n =
    omega (arith, length-append (t.confounder ++ q ++ t.filler) t.copy, length-append (t.confounder ++ q) t.filler, length-append t.confounder q, t.confounder_size) in
    let size_e : length e ≡ length whole - 12 = omega (arith, ap length s.is, length-append e h) in
    let size_f : length f ≡ length whole - 12 = omega (arith, ap length t.is, length-append f k) in
    let same : e ≡ f =
    sym (take_at e h (length whole - 12) size_e) ∙ ap (take (length whole - 12)) (sym s.is ∙ t.is) ∙ take_at f k (length whole - 12) size_f in
    let inner : m ≡ n = aes_cts_injective keys.encryption m n (record { below = s.octets }) (record { below = t.octets }) size_m size_n same in
    let one : IsParted s.confounder p s.filler s.copy m ec = parted s.confounder p s.filler s.copy ec s.confounder_size s.filler_size s.copied.size in
    let two : IsParted t.confounder q t.filler t.copy n ec = parted t.confounder q t.filler t.copy ec t.confounder_size t.filler_size t.copied.size in
    sym one.middle ∙ ap (λ (o : List ℕ). take (length o - 16 - ec - 16) (drop 16 o)) inner ∙ two.middle
