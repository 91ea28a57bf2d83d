-- How long the key of a password is.
use Rattle.std.proofs.Common.{◌≡◌, ℕ, ◌%◌, ◌<◌, List, [], ◌++◌, length, refl, arith, length-append}
use Rattle.std.specs.Prelude.{codes}
use Rattle.std.specs.Int.{w128, to_be_bytes}
use Rattle.krb_aes.specs.Octets.{IsBlock}
use Rattle.krb_aes.specs.Aes.{aes}
use Rattle.krb_aes.proofs.InjectiveLemmas.{none_octets, more_octets, IsBlock-aes}
use Rattle.krb_crypto.specs.Fold.{n_fold}
use Rattle.krb_crypto.specs.Suite.{key_size, dk, repeated, constant_block}
use Rattle.krb_crypto.specs.Password.{password_key}
use Rattle.krb_crypto.specs.declared.suite.CipherSuite.{CipherSuite}
use Rattle.krb_crypto.specs.declared.suite.CipherSuite.TheVariants.{Aes128CtsHmacSha196, Aes256CtsHmacSha196}

low : (n : ℕ) → n % 256 < 256
low n = omega arith

-- sixteen octets of a number are a block
number_block : (n : ℕ) → IsBlock (to_be_bytes w128 n)
number_block n = record {
  size = refl;
  octets =
      more_octets _ _ (low _) (more_octets _ _ (low _) (more_octets _ _ (low _) (more_octets _ _ (low _)
      (more_octets _ _ (low _) (more_octets _ _ (low _) (more_octets _ _ (low _) (more_octets _ _ (low _)
      (more_octets _ _ (low _) (more_octets _ _ (low _) (more_octets _ _ (low _) (more_octets _ _ (low _)
      (more_octets _ _ (low _) (more_octets _ _ (low _) (more_octets _ _ (low _) (more_octets _ _ (low _) none_octets)))))))))))))));
}

folded : (constant : List ℕ) → IsBlock (n_fold constant)
unfolding n_fold
folded constant = number_block _

dk_length : (suite : CipherSuite) (key constant : List ℕ) → IsBlock (constant_block constant) → length (dk suite key constant) ≡ key_size suite
unfolding dk repeated
dk_length Aes128CtsHmacSha196 key constant h =
    let one = IsBlock-aes key (constant_block constant) h in
    omega (arith, one.size, length-append (aes key (constant_block constant)) [])
dk_length Aes256CtsHmacSha196 key constant h =
    let one = IsBlock-aes key (constant_block constant) h in
    let two = IsBlock-aes key (aes key (constant_block constant)) one in
    omega (arith, one.size, two.size, length-append (aes key (constant_block constant)) (aes key (aes key (constant_block constant)) ++ []), length-append (aes key (aes key (constant_block constant))) [])

-- as long as the keys of its suite
pub password_length : (suite : CipherSuite) (password salt : List ℕ) → length (password_key suite password salt) ≡ key_size suite
password_length suite password salt = dk_length suite _ (codes "kerberos") (folded (codes "kerberos"))
