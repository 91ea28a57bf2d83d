use Rattle.std.proofs.Common.{◌≡◌, ◌≤◌, List, ℕ, length, false, sym, subst}
use Rattle.std.specs.Prelude.{IfSome}
use Rattle.sspi_core.specs.declared.buffer.Part.TheVariants.{Stream, Plain}
use Rattle.sspi_core.specs.Buffer.{Buffer}
use Rattle.sspi_core.specs.Messages.{find_part}
use Rattle.sspi_core.specs.declared.error.Place.TheVariants.{Elsewhere}
use Rattle.krb_context.specs.Spelled.{has_part}
use Rattle.krb_context.specs.Unwraps.{Unwraps}
use Rattle.krb_context.proofs.ChainLemmas.{handed_on}
use Rattle.krb_context.proofs.UnwrapLemmas.{is_opened, fits}
use Rattle.krb_context.proofs.context.Kerberos.decrypt_message.Goals as goal

pub returns-in_err-opened-clause-refused : goal.returns-in_err-opened-clause-refused
returns-in_err-opened-clause-refused c =
    handed_on Elsewhere (Unwraps c.args.self.now c.args.message.now) _ c.from_residual.result (rw c.of.ensures at c.in_err-opened.ensures.opens) c.from_residual.ensures.1

pub put_opened-requires : goal.put_opened-requires
put_opened-requires c =
    let o = is_opened _ _ _ _ _ (c.in_ok-opened.ensures.opens.so (λ z. absurd cc)) in
    let P : List Buffer → List ℕ → Type 0 = λ buffers text. has_part Stream buffers ≡ false → IfSome (find_part Plain buffers) (λ b. length text ≤ b.limit) in
    subst (λ (s : List ℕ). P c.args.message.now s) (sym c.into_octets.ensures)
    (subst (λ (b : List Buffer). P b c.in_ok-opened.opened) c.of.ensures (fits _ _ _ _ o))
