use Rattle.std.proofs.Common.{◌≡◌, true, take}
use Rattle.std.specs.List.{list_all}
use Rattle.krb_der.specs.Schema.{is_ascii}
use Rattle.krb_requests.proofs.pieces.all_ascii.Given as goal

abbrev pub invariant-loop-part : goal.invariant-loop-part
invariant-loop-part l = list_all (λ part. is_ascii part.now) (take l.part-index l.parts) ≡ true
