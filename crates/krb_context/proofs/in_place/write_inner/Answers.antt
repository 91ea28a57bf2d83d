use Rattle.std.proofs.Common.{◌+◌, ◌-◌, length, refl, arith}
use Rattle.krb_context.proofs.InPlaceLemmas.{inner_written}
use Rattle.krb_context.proofs.in_place.write_inner.Goals as goal

pub returns : goal.returns
returns c =
    let n = length c.args.text.now in
    let ec = c.args.ec in
    inner_written c.args.confounder.now c.args.text.now c.args.copy.now c.args.inner.now c.copy_from_slice.new.self c.copy_from_slice-2.new.self c.fill.new.self
    c.copy_from_slice-3.new.self ec 16 (16 + n - 16) (16 + n) (16 + n + ec - (16 + n)) (16 + n + ec) _
    c.copy_from_slice.ensures.after c.copy_from_slice-2.ensures.after (c.fill.ensures.after (λ y e. e)) c.copy_from_slice-3.ensures.after
    c.told-confounder c.told-copy c.requires refl (omega arith) refl (omega arith) refl refl
