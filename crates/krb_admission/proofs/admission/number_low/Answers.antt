use Rattle.std.proofs.Common.{◌+◌, ◌*◌, ◌%◌, ◌^◌, ◌<◌, arith}
use Rattle.krb_admission.proofs.Words.{low_more, room}
use Rattle.krb_admission.proofs.admission.number_low.Goals as goal

pub overflow_add-word : goal.overflow_add-word
overflow_add-word c =
    let small : c.from.result < 256 = omega (arith, c.type_inv.octets c.loop-octet.octet-index, c.from.ensures) in
    let fits : c.loop-octet.word * 2 ^ 8 % 2 ^ 32 + c.from.result < 2 ^ 32 = room c.loop-octet.word c.from.result small in
    omega (arith, fits)

pub loop-octet-preserved : goal.loop-octet-preserved
loop-octet-preserved c =
    let small : c.from.result < 256 = omega (arith, c.type_inv.octets c.loop-octet.octet-index, c.from.ensures) in
    low_more c.args.octets.now c.loop-octet.octet-index c.loop-octet.word c.from.result c.loop-octet-test.true c.from.ensures small c.loop-octet.invariant
