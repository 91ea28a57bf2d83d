-- HMAC under a key that is digested already, of a message that comes in pieces.
use Rattle.std.specs.Prelude.{ℕ, List, ◌++◌}
use Rattle.sha1.specs.Sha1.{Holds}
use Rattle.krb_crypto.specs.Hmac.{xor_each, block_key}
use Rattle.krb_crypto.specs.declared.hmac.HmacKey.{HmacKey}
use Rattle.krb_crypto.specs.declared.hmac.HmacState.{HmacState}

-- the digests after the two pads of this key
pub record IsHmacKeyOf (key : List ℕ) (kept : HmacKey) : Type 0 where
  pub inner : Holds kept.inner (xor_each 0x36 (block_key key))
  pub outer : Holds kept.outer (xor_each 0x5c (block_key key))

-- HMAC under this key, of a message that has come so far
pub record IsHmacOf (key message : List ℕ) (state : HmacState) : Type 0 where
  pub inner : Holds state.inner (xor_each 0x36 (block_key key) ++ message)
  pub outer : Holds state.outer (xor_each 0x5c (block_key key))
