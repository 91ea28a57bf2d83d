-- Facts about a message that an end is ready to wrap.
use Rattle.std.proofs.Common.{◌≡◌, ℕ, ◌+◌, ◌≤◌, true, false, not, List, length, sym, ap, ◌∙◌, Ok}
use Rattle.std.specs.Prelude.{Some, ◌&&◌}
use Rattle.std.proofs.lemmas.Bool.{and_parts, not-true, eqb-true, leb-true}
use Rattle.krb_crypto.specs.Suite.{key_size}
use Rattle.sspi_core.specs.declared.cause.Cause.TheVariants.{Sequence, Buffers, KeyLength, TooSmall}
use Rattle.sspi_core.specs.declared.buffer.Part.TheVariants.{Token, Stream, Plain}
use Rattle.sspi_core.specs.Buffer.{Buffer}
use Rattle.sspi_core.specs.Messages.{find_part}
use Rattle.sspi_core.proofs.Chain.{held, passed, took, gave}
use Rattle.krb_context.specs.declared.context.Kerberos.{Kerberos}
use Rattle.krb_context.specs.declared.params.EncryptionParams.{EncryptionParams}
use Rattle.krb_context.specs.declared.state.KerberosState.{KerberosState}
use Rattle.krb_context.specs.Params.{suite_of}
use Rattle.krb_context.specs.Parties.{ready_key}
use Rattle.krb_context.specs.Spelled.{has_part}
use Rattle.krb_context.specs.Unwraps.{has_key_size}
use Rattle.krb_context.specs.Wrapped.{limit_of}
use Rattle.krb_context.specs.Wraps.{has_parts, has_token_room, Readies, wrapped, Wraps}

pub record IsReady (state : KerberosState) (params : EncryptionParams) (buffers : List Buffer) (key : List ℕ) : Type 0 where
  pub ready : ready_key state params ≡ Some key
  pub token : has_part Token buffers ≡ true
  pub plain : has_part Plain buffers ≡ true
  pub stream : has_part Stream buffers ≡ false
  pub sized : has_key_size params key ≡ true
  pub key_length : length key ≡ key_size (suite_of params)
  pub room : 60 + params.ec ≤ limit_of (find_part Token buffers)

pub is_ready : (state : KerberosState) (params : EncryptionParams) (buffers : List Buffer) (key : List ℕ) → Readies state params buffers (Ok key)
    → IsReady state params buffers key
unfolding Readies
is_ready state params buffers key h =
    let one = passed _ _ _ h in
    let two = passed _ _ _ one.rest_held in
    let three = passed _ _ _ two.rest_held in
    let four = passed _ _ _ three.rest_held in
    let same : key ≡ one.found = gave _ _ four.rest_held in
    let parts : has_parts buffers ≡ true = held Buffers (has_parts buffers) two.found two.first_held in
    let both = and_parts (has_part Token buffers && has_part Plain buffers) (not (has_part Stream buffers)) parts in
    let pair = and_parts (has_part Token buffers) (has_part Plain buffers) both.0 in
    let sized : has_key_size params key ≡ true = ap (λ (k : List ℕ). has_key_size params k) same ∙ held KeyLength (has_key_size params one.found) three.found three.first_held in
    record {
      ready = took Sequence (ready_key state params) one.found one.first_held ∙ ap Some (sym same);
      token = pair.0;
      plain = pair.1;
      stream = not-true (has_part Stream buffers) both.1;
      sized = sized;
      key_length = eqb-true (length key) (key_size (suite_of params)) sized;
      room = leb-true (60 + params.ec) (limit_of (find_part Token buffers)) (held TooSmall (has_token_room params.ec buffers) four.found four.first_held);
    }

-- what is known of a message that was wrapped
pub record IsWrapped (context : Kerberos) (confounder : List ℕ) (buffers made : List Buffer) : Type 0 where
  pub key : List ℕ
  pub ready : IsReady context.state context.encryption_params buffers key
  pub is : made ≡ wrapped context key confounder buffers

pub is_wrapped : (context : Kerberos) (confounder : List ℕ) (buffers made : List Buffer) → Wraps context confounder buffers (Ok made) → IsWrapped context confounder buffers made
unfolding Wraps
is_wrapped context confounder buffers made h =
    let one = passed _ _ _ h in
    record { key = one.found; ready = is_ready _ _ _ _ one.first_held; is = gave _ _ one.rest_held }
