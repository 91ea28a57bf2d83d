-- The key that a draw gives for a suite.
use Rattle.std.specs.Prelude.{ℕ, List, take}
use Rattle.krb_crypto.specs.Suite.{key_size}
use Rattle.krb_crypto.specs.declared.suite.CipherSuite.{CipherSuite}
use Rattle.sspi_core.specs.declared.draw.Draw.{Draw}

-- a new key of the suite: the first octets of the draw
abbrev pub drawn_key : CipherSuite → Draw → List ℕ
drawn_key suite draw = take (key_size suite) draw.random
