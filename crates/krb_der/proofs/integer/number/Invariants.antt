use Rattle.std.proofs.Common.{◌≡◌, drop}
use Rattle.std.specs.List.{fold}
use Rattle.krb_der.specs.Integer.{sign_of}
use Rattle.krb_der.proofs.Integers.{more}
use Rattle.krb_der.proofs.integer.number.Given as goal

abbrev pub invariant-loop-octet : goal.invariant-loop-octet
invariant-loop-octet l = fold more l.number (drop l.octet-index l.octets) ≡ fold more (sign_of l.octets) l.octets
