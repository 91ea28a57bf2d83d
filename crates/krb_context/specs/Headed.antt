-- The properties of a token whose header is checked.
use Rattle.std.specs.Prelude.{◌≡◌, ◌≤◌, ℕ, List, length, take, Bool, true}
use Rattle.krb_crypto.specs.Suite.{key_size}
use Rattle.krb_context.specs.declared.params.EncryptionParams.{EncryptionParams}
use Rattle.krb_context.specs.Header.{is_wrap_header, is_from}
use Rattle.krb_context.specs.Params.{suite_of}
use Rattle.krb_context.specs.Unwraps.{has_count}

pub record IsHeaded (params : EncryptionParams) (key : List ℕ) (peer : Bool) (text header : List ℕ) : Type 0 where
  pub long : 16 ≤ length text
  pub front : header ≡ take 16 text
  pub token : is_wrap_header header ≡ true
  pub side : is_from peer header ≡ true
  pub count : has_count params.ec header ≡ true
  pub key_length : length key ≡ key_size (suite_of params)
