use Rattle.std.proofs.Common.{rules}
use Rattle.krb_admission.proofs.Lengths.{part_short}
use Rattle.krb_admission.proofs.ap_rep.generate_ap_rep.Goals as goal

pub seal_ap_rep-requires-clause-part : goal.seal_ap_rep-requires-clause-part
seal_ap_rep-requires-clause-part c =
    rw c.in_ok-part.ensures (part_short c.suite-suite.result c.args.ctime c.args.cusec.now c.args.seq_number _ c.requires.some c.requires.short (search rules) (rw c.lent-subkey.ensures c.requires.subkey))
