use Rattle.std.proofs.Common.{◌≡◌, take, Some}
use Rattle.std.specs.Prelude.{map}
use Rattle.krb_realm.specs.Fields.{names_in}
use Rattle.krb_realm.proofs.fields.names.Given as goal

abbrev pub invariant-loop-part : goal.invariant-loop-part
invariant-loop-part l = names_in (map (λ part. part.now) (take l.part-index l.parts)) ≡ Some l.names.items
