use Rattle.std.proofs.Common.{sym, subst}
use Rattle.std.specs.Prelude.{List, length}
use Rattle.sspi_core.specs.Buffer.{Buffer}
use Rattle.sspi_core.specs.declared.buffer.Part.TheVariants.{Plain}
use Rattle.krb_context.specs.Contexts.{next_number}
use Rattle.krb_context.specs.Spelled.{part_octets}
use Rattle.krb_context.proofs.ReadyLemmas.{is_wrapped}
use Rattle.krb_context.proofs.SizeLemmas.{IsSized, wrapped_sizes}
use Rattle.krb_context.proofs.laws.wrapped_messages_have_lengths_and_numbers.Goals as goal

pub returns : goal.returns
returns c = λ sender confounder sent made small size octets_c octets_p wraps.
    let w = is_wrapped sender confounder sent made wraps in
    let sized : IsSized sender.encryption_params.ec (length (part_octets Plain sent)) (next_number sender.seq_number) made =
    subst (λ (m : List Buffer). IsSized sender.encryption_params.ec (length (part_octets Plain sent)) (next_number sender.seq_number) m) (sym w.is)
    (wrapped_sizes sender w.key confounder sent small size octets_c octets_p w.ready) in
    (sized.token, sized.plain, sized.number)
