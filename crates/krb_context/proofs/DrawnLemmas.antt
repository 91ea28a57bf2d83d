-- How long the keys of a suite are, and those that are drawn.
use Rattle.std.proofs.Common.{◌≡◌, ℕ, ◌≤◌, ◌^◌, List, length, arith, lit≤, sym, subst}
use Rattle.std.proofs.lemmas.List.{length-take}
use Rattle.krb_crypto.specs.Suite.{key_size}
use Rattle.krb_crypto.specs.declared.suite.CipherSuite.{CipherSuite}
use Rattle.krb_crypto.specs.declared.suite.CipherSuite.TheVariants.{Aes128CtsHmacSha196, Aes256CtsHmacSha196}
use Rattle.sspi_core.specs.declared.draw.Draw.{Draw}
use Rattle.krb_context.specs.Drawn.{drawn_key}

pub key_size_small : (suite : CipherSuite) → key_size suite ≤ 32
key_size_small Aes128CtsHmacSha196 = lit≤ tt
key_size_small Aes256CtsHmacSha196 = lit≤ tt

pub drawn_short : (suite : CipherSuite) (draw : Draw) → length (drawn_key suite draw) ≤ 32
drawn_short suite draw = omega (arith, key_size_small suite, length-take (key_size suite) draw.random)

pub key_short : (suite : CipherSuite) (draw : Draw) (key : List ℕ) → key ≡ drawn_key suite draw → length key ≤ 2 ^ 24
key_short suite draw key e = subst (λ (o : List ℕ). length o ≤ 2 ^ 24) (sym e) (omega (arith, drawn_short suite draw))
