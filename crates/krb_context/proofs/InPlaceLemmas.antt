-- A room that is written from its front on.
use Rattle.std.proofs.Common.{◌≡◌, ℕ, ◌+◌, ◌-◌, ◌≤◌, List, [], ◌++◌, length, take, drop, replicate, sym, ap, ap₂, ◌∙◌, arith, length-append, length-drop}
use Rattle.std.proofs.lemmas.List.{append-nil, append_assoc, take_at, drop_at, drop-drop, drop_all, length-replicate, length-take-le}
use borrow.Rule.Slice.PartMut.{put_mid}
use Rattle.krb_aes.specs.Aes.{aes}
use Rattle.krb_crypto.specs.Cts.{cts}
use Rattle.krb_crypto.specs.Hmac.{hmac12}
use Rattle.krb_crypto.specs.SealingPair.{SealingPair}
use Rattle.krb_crypto.proofs.SealedLemmas.{length-hmac12}
use Rattle.krb_context.specs.Spelt.{inner_text, sealed_body}
use Rattle.krb_context.specs.Whole.{text_message}

-- one part more
pub more_written : (old done part : List ℕ) (n k : ℕ) → length done ≡ n → length part ≡ k
    → put_mid n k (done ++ drop n old) part ≡ (done ++ part) ++ drop (n + k) old
more_written old done part n k size size_part =
    ap₂ (λ (u v : List ℕ). u ++ (part ++ drop k v)) (take_at done (drop n old) n size) (drop_at done (drop n old) n size)
    ∙ ap (λ (s : List ℕ). done ++ (part ++ s)) (drop-drop k n old)
    ∙ sym (append_assoc done part (drop (n + k) old))

-- the last part
pub all_written : (old done part : List ℕ) (n k : ℕ) → length done ≡ n → length part + n ≡ length old → k ≡ length (done ++ drop n old) - n
    → put_mid n k (done ++ drop n old) part ≡ done ++ part
all_written old done part n k size whole ek =
    let count : k ≡ length part = omega (arith, length-append done (drop n old), length-drop n old) in
    more_written old done part n k size (sym count)
    ∙ ap (λ (s : List ℕ). (done ++ part) ++ s) (drop_all (n + k) old (omega arith)) ∙ append-nil (done ++ part)

-- the four parts of the text to encrypt
pub inner_written : (confounder text copy old first second third last : List ℕ) (ec a k b l d m : ℕ)
    → first ≡ confounder → second ≡ text → third ≡ replicate (length (take l (drop b (put_mid a k (first ++ drop 16 old) second)))) 0 → last ≡ copy
    → length confounder ≡ 16 → length copy ≡ 16 → length old ≡ 32 + ec + length text
    → a ≡ 16 → k ≡ length text → b ≡ 16 + length text → l ≡ ec → d ≡ 16 + length text + ec
    → m ≡ length (put_mid b l (put_mid a k (first ++ drop 16 old) second) third) - d
    → put_mid d m (put_mid b l (put_mid a k (first ++ drop 16 old) second) third) last ≡ inner_text confounder text (replicate ec 0) copy
inner_written confounder text copy old first second third last ec a k b l d m ef es et eh size_c size_h size ea ek eb el ed em =
    let filler : List ℕ = replicate ec 0 in
    let size_f : length filler ≡ ec = length-replicate ec 0 in
    let one : put_mid a k (first ++ drop 16 old) second ≡ (confounder ++ text) ++ drop b old =
    ap₂ (λ (u v : List ℕ). put_mid a k (u ++ drop 16 old) v) ef es
    ∙ ap (λ (n : ℕ). put_mid n k (confounder ++ drop 16 old) text) ea ∙ more_written old confounder text 16 k size_c (sym ek)
    ∙ ap (λ (n : ℕ). (confounder ++ text) ++ drop n old) (omega arith) in
    let size_one : length (confounder ++ text) ≡ b = omega (arith, length-append confounder text) in
    let rest : drop b (put_mid a k (first ++ drop 16 old) second) ≡ drop b old = ap (drop b) one ∙ drop_at (confounder ++ text) (drop b old) b size_one in
    let count : length (take l (drop b (put_mid a k (first ++ drop 16 old) second))) ≡ ec =
    ap (λ (s : List ℕ). length (take l s)) rest ∙ length-take-le l (drop b old) (omega (arith, length-drop b old)) ∙ el in
    let zeros : third ≡ filler = et ∙ ap (λ (n : ℕ). replicate n 0) count in
    let two : put_mid b l (put_mid a k (first ++ drop 16 old) second) third ≡ ((confounder ++ text) ++ filler) ++ drop d old =
    ap₂ (λ (u v : List ℕ). put_mid b l u v) one zeros
    ∙ more_written old (confounder ++ text) filler b l size_one (size_f ∙ sym el)
    ∙ ap (λ (n : ℕ). ((confounder ++ text) ++ filler) ++ drop n old) (omega arith) in
    ap₂ (λ (u v : List ℕ). put_mid d m u v) two eh
    ∙ all_written old ((confounder ++ text) ++ filler) copy d m
    (omega (arith, length-append (confounder ++ text) filler, length-append confounder text, size_f)) (omega arith)
    (em ∙ ap (λ (s : List ℕ). length s - d) two)

-- the encrypted text and the checksum, where nothing else is covered
pub sealed_alone : (keys : SealingPair) (ec : ℕ) (confounder p filler copy inner encrypted code : List ℕ)
    → inner ≡ inner_text confounder p filler copy → code ≡ hmac12 keys.integrity (inner ++ []) → encrypted ≡ cts (aes keys.encryption) inner
    → encrypted ++ code ≡ sealed_body keys (text_message ec p) confounder p filler copy
unfolding sealed_body
sealed_alone keys ec confounder p filler copy inner encrypted code ei ec_is ee =
    ap₂ (λ (u v : List ℕ). u ++ v) (ee ∙ ap (cts (aes keys.encryption)) ei)
    (ec_is ∙ ap (hmac12 keys.integrity)
    (append-nil inner ∙ ei ∙ sym (ap (λ (s : List ℕ). confounder ++ s ++ filler ++ copy) (append-nil p))))

-- a body before it is turned: its end is overwritten by the checksum
pub body_written : (keys : SealingPair) (ec end m : ℕ) (confounder p filler copy body inner encrypted code last : List ℕ)
    → length confounder ≡ 16 → length filler ≡ ec → length copy ≡ 16 → length body ≡ 44 + ec + length p → end ≡ length body - 12
    → inner ≡ inner_text confounder p filler copy → code ≡ hmac12 keys.integrity (take end (inner ++ drop end body) ++ [])
    → encrypted ≡ cts (aes keys.encryption) (take end (inner ++ drop end body)) → length encrypted ≡ length (take end (inner ++ drop end body)) → last ≡ code
    → m ≡ length (encrypted ++ drop end (inner ++ drop end body)) - end
    → put_mid end m (encrypted ++ drop end (inner ++ drop end body)) last ≡ sealed_body keys (text_message ec p) confounder p filler copy
body_written keys ec end m confounder p filler copy body inner encrypted code last size_c size_f size_h size eb ei ec_is ee size_e el em =
    let size_i : length inner ≡ end =
    omega (arith, ap length ei, length-append ((confounder ++ p) ++ filler) copy, length-append (confounder ++ p) filler, length-append confounder p) in
    let front : take end (inner ++ drop end body) ≡ inner = take_at inner (drop end body) end size_i in
    let back : drop end (inner ++ drop end body) ≡ drop end body = drop_at inner (drop end body) end size_i in
    let code_is : code ≡ hmac12 keys.integrity (inner ++ []) = ec_is ∙ ap (λ (s : List ℕ). hmac12 keys.integrity (s ++ [])) front in
    let size_l : length last ≡ 12 = ap length (el ∙ code_is) ∙ length-hmac12 keys.integrity (inner ++ []) in
    ap (λ (s : List ℕ). put_mid end m (encrypted ++ s) last) back
    ∙ all_written body encrypted last end m (size_e ∙ ap length front ∙ size_i) (omega (arith, size_l)) (em ∙ ap (λ (s : List ℕ). length (encrypted ++ s) - end) back)
    ∙ ap (λ (s : List ℕ). encrypted ++ s) el
    ∙ sealed_alone keys ec confounder p filler copy inner encrypted code ei code_is (ee ∙ ap (cts (aes keys.encryption)) front)

-- a room of which all but the front was overwritten
pub after_front : (front back out : List ℕ) (n k : ℕ) → n ≤ length out → k ≡ length out - n → front ++ drop n (put_mid n k out back) ≡ front ++ back
after_front front back out n k fits ek =
    ap (λ (s : List ℕ). front ++ s)
    (drop_at (take n out) (back ++ drop k (drop n out)) n (length-take-le n out fits)
    ∙ ap (λ (s : List ℕ). back ++ s) (drop_all k (drop n out) (omega (arith, length-drop n out))) ∙ append-nil back)
