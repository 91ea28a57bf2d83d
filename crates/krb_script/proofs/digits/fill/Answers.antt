use Rattle.std.proofs.Common.{◌+◌, ◌*◌, slice_index, arith}
use Rattle.hex.proofs.Pairs.{decode_step, decode_done}
use Rattle.krb_script.proofs.DigitLemmas.{pair_of}
use Rattle.krb_script.proofs.digits.fill.Goals as goal

pub octets-preserved : goal.octets-preserved
octets-preserved c =
    let pair = pair_of (slice_index c.args.text.now (2 * c.octets.i)) (slice_index c.args.text.now (2 * c.octets.i + 1)) (2 * c.octets.i) c.digit_value.result c.digit_value-in-octets.result c.digit_value.ensures.value c.digit_value-in-octets.ensures.value in
    decode_step _ _ c.octets.i _ (omega (arith, c.requires.twice)) (omega arith) pair c.octets.invariant

pub returns : goal.returns
returns c = decode_done _ c.octets.octets c.octets.i (omega arith) (omega (arith, c.requires.twice)) c.octets.invariant
