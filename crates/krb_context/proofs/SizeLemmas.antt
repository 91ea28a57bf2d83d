-- The result of a wrap: the lengths of its parts, and its number.
use Rattle.std.proofs.Common.{◌≡◌, ℕ, zero, suc, ◌+◌, ◌<◌, ◌^◌, ◌%◌, Bool, true, List, ◌++◌, length, take, drop, ap, ◌∙◌, arith, length-append, length-drop}
use Rattle.std.specs.Prelude.{Option, is_some}
use Rattle.std.proofs.lemmas.List.{length-take-le}
use Rattle.krb_aes.specs.Octets.{IsOctets}
use Rattle.sspi_core.specs.declared.buffer.Part.TheVariants.{Token, Plain}
use Rattle.sspi_core.specs.Buffer.{Buffer}
use Rattle.sspi_core.specs.Messages.{write}
use Rattle.krb_context.specs.declared.context.Kerberos.{Kerberos}
use Rattle.krb_context.specs.Contexts.{is_acceptor, next_number, number_after_messages}
use Rattle.krb_context.specs.Header.{wrap_header}
use Rattle.krb_context.specs.Parties.{writes_subkey, own_seal_flags, keys_of}
use Rattle.krb_context.specs.Spelled.{octets_of, part_octets, has_part, spelled}
use Rattle.krb_context.specs.Spelt.{Spelt}
use Rattle.krb_context.specs.Unwraps.{message_number}
use Rattle.krb_context.specs.Wrapped.{written_body, wrapped_by}
use Rattle.krb_context.specs.Wraps.{wrapped}
use Rattle.krb_context.proofs.PeerLemmas.{text_made, number_made}
use Rattle.krb_context.proofs.ReadyLemmas.{IsReady}
use Rattle.krb_context.proofs.UnwrapLemmas.{length-spelt}
use Rattle.krb_context.proofs.WrapLemmas.{token-after-plain, plain-after-token}
use Rattle.krb_context.proofs.WrappedLemmas.{part-written, wrapped_spells, header_size}

token_written : (token plain : List ℕ) (bs : List Buffer) → has_part Token bs ≡ true → part_octets Token (write Token token (write Plain plain bs)) ≡ token
token_written token plain bs has =
    part-written Token token (write Plain plain bs) (ap (λ (o : Option Buffer). is_some o) (token-after-plain plain bs) ∙ has)

plain_written : (token plain : List ℕ) (bs : List Buffer) → has_part Plain bs ≡ true → part_octets Plain (write Token token (write Plain plain bs)) ≡ plain
plain_written token plain bs has = ap octets_of (plain-after-token token (write Plain plain bs)) ∙ part-written Plain plain bs has

pub record IsSized (ec n next : ℕ) (made : List Buffer) : Type 0 where
  pub token : length (part_octets Token made) ≡ 60 + ec
  pub plain : length (part_octets Plain made) ≡ n
  pub number : message_number made ≡ next

pub wrapped_sizes : (sender : Kerberos) (key confounder : List ℕ) (sent : List Buffer) → sender.encryption_params.ec < 2 ^ 16 → length confounder ≡ 16 → IsOctets confounder
    → IsOctets (part_octets Plain sent) → IsReady sender.state sender.encryption_params sent key
    → IsSized sender.encryption_params.ec (length (part_octets Plain sent)) (next_number sender.seq_number) (wrapped sender key confounder sent)
unfolding wrapped_by
wrapped_sizes sender key confounder sent small size octets_c octets_p ready =
    let ec : ℕ = sender.encryption_params.ec in
    let side : Bool = is_acceptor sender in
    let number : ℕ = next_number sender.seq_number in
    let p : List ℕ = part_octets Plain sent in
    let h : List ℕ = wrap_header (own_seal_flags sender) ec 28 number in
    let body : List ℕ = written_body (keys_of sender.encryption_params key side) (own_seal_flags sender) ec number confounder sent in
    let made : List Buffer = wrapped sender key confounder sent in
    let is : spelled made ≡ h ++ body = text_made sender key confounder sent ready in
    let h_size : length h ≡ 16 = header_size (own_seal_flags sender) ec 28 number in
    let spelt : Spelt (keys_of sender.encryption_params key side) side ec made p =
    wrapped_spells (keys_of sender.encryption_params key side) (writes_subkey sender) side ec number confounder sent small size octets_c octets_p ready.token ready.plain ready.stream in
    let long : length body ≡ length p + (44 + ec) =
    omega (arith, ap length is, length-append h body, h_size, length-spelt (keys_of sender.encryption_params key side) side ec made p spelt) in
    let front : length (take (44 + ec) body) ≡ 44 + ec = length-take-le (44 + ec) body (omega (arith, long)) in
    record {
      token = ap length (token_written (h ++ take (44 + ec) body) (drop (44 + ec) body) sent ready.token) ∙ omega (arith, length-append h (take (44 + ec) body), h_size, front);
      plain = ap length (plain_written (h ++ take (44 + ec) body) (drop (44 + ec) body) sent ready.plain) ∙ omega (arith, length-drop (44 + ec) body, long);
      number = number_made sender key confounder sent ready;
    }

pub number_after_messages-is : (number times : ℕ) → number < 2 ^ 32 → number_after_messages number times ≡ (number + times) % 2 ^ 32
number_after_messages-is number zero small = omega arith
number_after_messages-is number (suc times) small = let so = number_after_messages-is number times small in omega (arith, so)
