use Rattle.std.proofs.Common.{◌≡◌, ◌≤◌, length, sym, ap, subst, ◌∙◌}
use Rattle.std.specs.Prelude.{Option, IfSome}
use Rattle.sspi_core.specs.declared.buffer.Part.TheVariants.{Token, Plain}
use Rattle.sspi_core.specs.Buffer.{Buffer}
use Rattle.sspi_core.specs.Messages.{find_part}
use Rattle.krb_context.proofs.WrapLemmas.{fits_in, within_limit, token-after-plain}
use Rattle.krb_context.proofs.seal.put_sealed.Goals as goal

pub write-requires : goal.write-requires
write-requires c = fits_in (find_part Plain c.args.message.now) (length c.args.plain) c.requires.size c.plain_limit-limit.ensures

pub write-requires-2 : goal.write-requires-2
write-requires-2 c =
    let same : find_part Token c.write.new.self ≡ find_part Token c.args.message.now =
    ap (find_part Token) c.write.ensures ∙ token-after-plain c.args.plain c.args.message.now in
    subst (λ (o : Option Buffer). IfSome o (λ b. length c.args.token ≤ b.limit)) (sym same) (within_limit (find_part Token c.args.message.now) (length c.args.token) c.requires.room)
