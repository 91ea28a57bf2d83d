-- The result of the checks of a TGT-REQ, restated for the TGT-REQ that was found.
use Rattle.std.proofs.Common.{◌≡◌, Option, Some, subst}
use Rattle.krb_server.specs.TgtReqs.{Found}

pub found_one : {A : Type 0} (P : A → Type 0) (found : Option A) (x : A) → found ≡ Some x → Found P found → P x
found_one P found x e h = subst (λ o. Found P o) e h
