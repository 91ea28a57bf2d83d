use Rattle.std.proofs.Common.{◌^◌}
use Rattle.krb_messages.specs.Layouts.{ap_rep_layout}
use Rattle.krb_requests.specs.Pieces.{Fits}
use Rattle.krb_authenticators.proofs.Lengths.{ok_is}
use Rattle.krb_ap.proofs.PartLengths.{part_fits, rep_within}
use Rattle.krb_ap.proofs.ap_rep.seal_ap_rep.Goals as goal

pub sealed_part-requires-clause-part : goal.sealed_part-requires-clause-part
sealed_part-requires-clause-part c = rw c.in_ok-part.ensures (part_fits c.args.seq_number c.args.now c.requires.some c.requires.short)

pub returns-clause-within : goal.returns-clause-within
returns-clause-within c =
    ok_is (Fits ap_rep_layout (2 ^ 27)) _ _ c.ap_rep_with.ensures (rep_within c.args.suite c.in_ok-enc_part.enc_part _ c.in_ok-enc_part.ensures.made c.in_ok-enc_part.ensures.short)
