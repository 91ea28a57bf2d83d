use Rattle.std.proofs.Common.{◌+◌, ◌-◌, List, ℕ, ◌++◌, replicate, length, drop, refl, ap, ◌∙◌}
use Rattle.std.specs.List.{slice_rotate_right}
use Rattle.std.proofs.lemmas.List.{length-replicate}
use Rattle.krb_context.proofs.InPlaceLemmas.{body_written}
use Rattle.krb_context.proofs.in_place.write_body.Goals as goal

pub returns : goal.returns
returns c =
    let ec = c.args.ec in
    let body : List ℕ = c.args.body.now in
    let end : ℕ = length body - 12 in
    let held : List ℕ = c.encrypt_text.new.text ++ drop end (c.write_inner.new.inner ++ drop end body) in
    c.rotate_right.ensures.after
    ∙ ap (λ (s : List ℕ). slice_rotate_right s (28 + ec))
    (body_written c.args.sealing.now ec end (length held - end) c.args.confounder.now c.args.text.now (replicate ec 0) c.args.copy.now body
    c.write_inner.new.inner c.encrypt_text.new.text c.checksum-code.result c.copy_from_slice.new.self
    c.told-confounder (length-replicate ec 0) c.told-copy c.requires refl c.write_inner.ensures c.checksum-code.ensures c.encrypt_text.ensures
    c.encrypt_text.auto.text c.copy_from_slice.ensures.after refl)
