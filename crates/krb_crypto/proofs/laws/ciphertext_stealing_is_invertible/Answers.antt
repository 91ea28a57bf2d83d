use Rattle.krb_crypto.proofs.CtsInjective.{length-aes_cts, aes_cts_injective}
use Rattle.krb_crypto.proofs.laws.ciphertext_stealing_is_invertible.Goals as goal

pub returns : goal.returns
returns c = λ key x octets long. (length-aes_cts key x octets long, λ y octets_y long_y same. aes_cts_injective key x y octets octets_y long long_y same)
