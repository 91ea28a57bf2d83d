use Rattle.std.proofs.Common.{◌+◌, ◌-◌, List, ℕ, ◌++◌, replicate, length, refl, ap, ap₂, ◌∙◌, arith}
use Rattle.std.specs.List.{slice_rotate_right}
use Rattle.krb_context.specs.Spelt.{sealed_body}
use Rattle.krb_context.specs.Whole.{text_message}
use Rattle.krb_context.specs.Wrapped.{written_body}
use Rattle.krb_context.proofs.InPlaceLemmas.{after_front}
use Rattle.krb_context.proofs.in_place.write_token.Goals as goal

pub returns : goal.returns
unfolding written_body
returns c =
    let ec = c.args.ec in
    let body = λ (copy : List ℕ). slice_rotate_right
    (sealed_body c.args.sealing.now (text_message ec c.args.text.now) c.args.confounder.now c.args.text.now (replicate ec 0) copy) (28 + ec) in
    after_front c.copy_from_slice.new.self c.write_body.new.body c.args.out.now 16 (length c.args.out.now - 16) (omega (arith, c.requires)) refl
    ∙ ap₂ (λ (u v : List ℕ). u ++ v) (c.copy_from_slice.ensures.after ∙ c.wrap_header.ensures) (c.write_body.ensures ∙ ap body c.wrap_header-copy.ensures)
