-- The message that a writer makes (RFC 4121, section 4.2.4): one of the texts that spell its data.
use Rattle.std.specs.Prelude.{ℕ, ◌+◌, List, ◌++◌, take, drop, replicate, Option, Some, None}
use Rattle.std.specs.List.{slice_rotate_right}
use Rattle.krb_crypto.specs.SealingPair.{SealingPair}
use Rattle.sspi_core.specs.declared.buffer.Part.TheVariants.{Token, Plain}
use Rattle.sspi_core.specs.Buffer.{Buffer}
use Rattle.sspi_core.specs.Messages.{write}
use Rattle.krb_context.specs.Header.{wrap_header}
use Rattle.krb_context.specs.Spelled.{part_octets}
use Rattle.krb_context.specs.Spelt.{sealed_body}

-- how much a buffer holds at most
abbrev pub limit_of : Option Buffer → ℕ
limit_of (Some b) = b.limit
limit_of None = 0

-- the body: the EC octets are zeros, and so is the right rotation count (RRC) in the header's copy
unfoldable pub written_body : SealingPair → ℕ → ℕ → ℕ → List ℕ → List Buffer → List ℕ
written_body keys flags ec number confounder buffers =
    slice_rotate_right
    (sealed_body keys buffers confounder (part_octets Plain buffers) (replicate ec 0) (wrap_header flags ec 0 number)) (28 + ec)

-- the buffers: the token is the header and 44 + ec octets of the body, the data are the rest
unfoldable pub wrapped_by : SealingPair → ℕ → ℕ → ℕ → List ℕ → List Buffer → List Buffer
wrapped_by keys flags ec number confounder buffers =
    let body = written_body keys flags ec number confounder buffers in
    write Token (wrap_header flags ec 28 number ++ take (44 + ec) body) (write Plain (drop (44 + ec) body) buffers)
