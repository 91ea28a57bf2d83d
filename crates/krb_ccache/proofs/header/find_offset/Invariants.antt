use Rattle.std.proofs.Common.{length}
use Rattle.krb_ccache.proofs.Headers.{IsLeft}
use Rattle.krb_ccache.proofs.header.find_offset.Given as goal

abbrev pub decreases-loop-tag : goal.decreases-loop-tag
decreases-loop-tag l = length l.rest

abbrev pub invariant-loop-tag : goal.invariant-loop-tag
invariant-loop-tag l = IsLeft l.header l.rest
