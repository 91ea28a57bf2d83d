-- Derived keys of one and of two blocks (RFC 3961, section 5.1).
use Rattle.std.proofs.Common.{◌≡◌, ℕ, List, ◌++◌, length, sym, ap, ap₂, ◌∙◌, arith}
use Rattle.std.proofs.lemmas.List.{append-nil}
use Rattle.krb_crypto.proofs.ListLemmas.{put_mid_end}
use borrow.Rule.Slice.PartMut.{put_mid}
use Rattle.krb_aes.specs.Aes.{aes}
use Rattle.krb_crypto.specs.Suite.{repeated, dk, constant_block}
use Rattle.krb_crypto.specs.declared.suite.CipherSuite.{CipherSuite}
use Rattle.krb_crypto.specs.declared.suite.CipherSuite.TheVariants.{Aes128CtsHmacSha196, Aes256CtsHmacSha196}

pub joined_is : (a b z first second : List ℕ) → length first ≡ 16 → length z ≡ 16 → a ≡ first → b ≡ second → put_mid 16 16 (a ++ z) b ≡ first ++ second
joined_is a b z first second size size_z ea eb =
    let size_a : length a ≡ 16 = ap length ea ∙ size in
    put_mid_end a z b 16 16 size_a (omega arith) ∙ ap₂ (λ (x y : List ℕ). x ++ y) ea eb

pub dk_short : (suite : CipherSuite) (key constant block r : List ℕ) → suite ≡ Aes128CtsHmacSha196 → block ≡ constant_block constant
    → r ≡ aes key block → r ≡ dk suite key constant
unfolding dk repeated
dk_short suite key constant block r es eb er = rw es (er ∙ ap (aes key) eb ∙ sym (append-nil (aes key (constant_block constant))))

pub dk_long : (suite : CipherSuite) (key constant block r s both : List ℕ) → suite ≡ Aes256CtsHmacSha196 → block ≡ constant_block constant
    → r ≡ aes key block → s ≡ aes key r → both ≡ r ++ s → both ≡ dk suite key constant
unfolding dk repeated
dk_long suite key constant block r s both es eb er eS e =
    let first : r ≡ aes key (constant_block constant) = er ∙ ap (aes key) eb in
    rw es (e ∙ ap₂ (λ (x y : List ℕ). x ++ y) first (eS ∙ ap (aes key) first ∙ sym (append-nil (aes key (aes key (constant_block constant))))))
