use Rattle.std.proofs.Common.{◌≡◌, ℕ, List, take}
use Rattle.std.specs.HashMap.{get}
use Rattle.krb_context.specs.AdditionalKeys.{same_components, first_place}
use Rattle.krb_context.proofs.service_keys.AdditionalServiceKeys.new.Given as goal

abbrev pub invariant-loop-place : goal.invariant-loop-place
invariant-loop-place l = (other : List (List ℕ)) → get same_components l.places other ≡ first_place (take l.place l.service-items) other
