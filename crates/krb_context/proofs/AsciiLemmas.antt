-- Parts of a name that are ASCII.
use Rattle.std.proofs.Common.{◌≡◌, ◌<◌, ◌≤◌, ℕ, true, false, List, length, take, get_or, sym, ap, ◌∙◌}
use Rattle.std.specs.Prelude.{map}
use Rattle.std.specs.List.{list_all}
use Rattle.std.proofs.lemmas.List.{take_all}
use Rattle.std.proofs.lemmas.List.Folds.{list_all-map, list_all_at}
use Rattle.krb_der.specs.Schema.{is_ascii}
use Rattle.krb_context.specs.ServiceKeys.{all_ascii}

-- one part is not
pub not_all_ascii : {T : Type 0} (octets : T → List ℕ) (parts : List T) (i : ℕ) (d : T) → i < length parts → is_ascii (octets (get_or parts i d)) ≡ false
    → all_ascii (map octets parts) ≡ false
not_all_ascii octets parts i d low not_here =
    list_all-map (λ part. is_ascii part) octets parts ∙ list_all_at (λ part. is_ascii (octets part)) parts i d low not_here

-- all parts are
pub each_ascii : {T : Type 0} (octets : T → List ℕ) (parts : List T) (n : ℕ) → length parts ≤ n → list_all (λ part. is_ascii (octets part)) (take n parts) ≡ true
    → all_ascii (map octets parts) ≡ true
each_ascii octets parts n all so =
    list_all-map (λ part. is_ascii part) octets parts ∙ ap (list_all (λ part. is_ascii (octets part))) (sym (take_all n parts all)) ∙ so
