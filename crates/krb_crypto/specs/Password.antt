-- Password keys: PBKDF2 (RFC 2898, section 5.2) with HMAC-SHA1, and the key that is derived from it (RFC 3962, section 4).
use Rattle.std.specs.Prelude.{ℕ, zero, suc, ◌+◌, ◌-◌, ◌/◌, List, [], ◌++◌, take, codes}
use Rattle.std.specs.Int.{w32, to_be_bytes}
use Rattle.krb_aes.specs.Round.{xor_octets}
use Rattle.krb_crypto.specs.Hmac.{hmac}
use Rattle.krb_crypto.specs.Suite.{key_size, dk}
use Rattle.krb_crypto.specs.declared.suite.CipherSuite.{CipherSuite}

-- U_(n + 1) of block i: the code of the salt and the number i, and then each time the code of the one before
unfoldable pub iterated : List ℕ → List ℕ → ℕ → ℕ → List ℕ
iterated password salt i zero = hmac password (salt ++ to_be_bytes w32 i)
iterated password salt i (suc n) = hmac password (iterated password salt i n)

-- the sum of U_1 to U_(n + 1) of block i
unfoldable pub summed : List ℕ → List ℕ → ℕ → ℕ → List ℕ
summed password salt i zero = iterated password salt i zero
summed password salt i (suc n) = xor_octets (summed password salt i n) (iterated password salt i (suc n))

-- T_1 to T_n: each the sum of as many U as there are iterations
unfoldable pub blocks : List ℕ → List ℕ → ℕ → ℕ → List ℕ
blocks password salt iterations zero = []
blocks password salt iterations (suc n) = blocks password salt iterations n ++ summed password salt (suc n) (iterations - 1)

-- the first octets of these, of which each block has 20
abbrev pub pbkdf2 : List ℕ → List ℕ → ℕ → ℕ → List ℕ
pbkdf2 password salt iterations size = take size (blocks password salt iterations ((size + 19) / 20))

-- the key of a password: 4,096 iterations, and DK with the constant `kerberos`
abbrev pub password_key : CipherSuite → List ℕ → List ℕ → List ℕ
password_key suite password salt = dk suite (pbkdf2 password salt 4096 (key_size suite)) (codes "kerberos")
