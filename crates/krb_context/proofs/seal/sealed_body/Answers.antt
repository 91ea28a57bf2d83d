use Rattle.std.proofs.Common.{◌≡◌, ◌+◌, ℕ, List, length, replicate, ap, ap₂, ◌∙◌}
use Rattle.std.proofs.lemmas.List.{length-replicate}
use Rattle.sspi_core.specs.declared.buffer.Part.TheVariants.{Plain}
use Rattle.sspi_core.specs.Buffer.{Buffer}
use Rattle.krb_context.specs.Spelled.{part_octets}
use Rattle.krb_context.specs.Spelt.{inner_text, covered_code}
use Rattle.krb_context.proofs.WrapLemmas.{sealed_from}
use Rattle.krb_context.proofs.seal.sealed_body.Goals as goal

pub returns-clause-whole : goal.returns-clause-whole
returns-clause-whole c =
    let p : List ℕ = part_octets Plain c.args.message.now in
    let ep : c.part_octets-plain.result.now ≡ p = c.part_octets-plain.ensures in
    sealed_from c.args.sealing.now c.args.message.now c.args.confounder.now p (replicate c.args.ec 0) c.args.copy.now c.in_ok-text.text.items c.as_slice.result.now
    c.encrypt_whole.new.text.items c.covered_code-code.result c.extend_from_slice.new.self.items c.args.ec
    c.told-confounder (length-replicate c.args.ec 0) c.told-copy
    (c.in_ok-text.ensures ∙ ap (λ (s : List ℕ). inner_text c.args.confounder.now s (replicate c.args.ec 0) c.args.copy.now) ep)
    c.as_slice.ensures.value
    (c.covered_code-code.ensures
    ∙ ap₂ (λ (buffers : List Buffer) (s : List ℕ). covered_code c.args.sealing.now.integrity buffers c.as_slice.result.now (16 + length s)) c.of.ensures ep)
    c.encrypt_whole.ensures.encrypted c.in_ok-extend_from_slice.ensures.items
