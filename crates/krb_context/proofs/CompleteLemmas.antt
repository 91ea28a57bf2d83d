-- An end that is ready wraps.
use Rattle.std.proofs.Common.{◌≡◌, ℕ, ◌+◌, ◌≤◌, true, List, Ok}
use Rattle.std.specs.Prelude.{Some}
use Rattle.std.proofs.lemmas.Bool.{le-leb}
use Rattle.sspi_core.specs.Buffer.{Buffer}
use Rattle.sspi_core.specs.declared.cause.Cause.TheVariants.{Sequence, Buffers, KeyLength, TooSmall}
use Rattle.sspi_core.specs.declared.buffer.Part.TheVariants.{Token}
use Rattle.sspi_core.specs.Messages.{find_part}
use Rattle.sspi_core.proofs.Chain.{follows, gives, takes_some, holds_true}
use Rattle.krb_context.specs.declared.context.Kerberos.{Kerberos}
use Rattle.krb_context.specs.Parties.{ready_key}
use Rattle.krb_context.specs.Unwraps.{has_key_size}
use Rattle.krb_context.specs.Wrapped.{limit_of}
use Rattle.krb_context.specs.Wraps.{has_parts, has_token_room, Readies, wrapped, Wraps}

pub ready_wraps : (context : Kerberos) (key confounder : List ℕ) (buffers : List Buffer) → ready_key context.state context.encryption_params ≡ Some key
    → has_key_size context.encryption_params key ≡ true → has_parts buffers ≡ true → 60 + context.encryption_params.ec ≤ limit_of (find_part Token buffers)
    → Wraps context confounder buffers (Ok (wrapped context key confounder buffers))
unfolding Wraps Readies
ready_wraps context key confounder buffers ready sized parts room =
    let params = context.encryption_params in
    follows _ _ key _
    (follows _ _ key _ (takes_some Sequence (ready_key context.state params) key ready)
    (follows _ _ tt _ (holds_true Buffers (has_parts buffers) parts)
    (follows _ _ tt _ (holds_true KeyLength (has_key_size params key) sized)
    (follows _ _ tt _ (holds_true TooSmall (has_token_room params.ec buffers) (le-leb (60 + params.ec) (limit_of (find_part Token buffers)) room)) (gives key)))))
    (gives (wrapped context key confounder buffers))
