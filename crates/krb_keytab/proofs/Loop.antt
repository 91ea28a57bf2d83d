-- Reading components one after another, as a loop does.
use Rattle.std.proofs.Common.{◌≡◌, ℕ, suc, ◌-◌, ◌+◌, ◌≤◌, ◌<◌, List, [], ◌∷◌, ◌++◌, Option, Some, None, refl, sym, ap, ◌∙◌, append_assoc, arith}
use Rattle.std.proofs.lemmas.List.{append-nil}
use Rattle.krb_der.specs.declared.fault.Fault.{Fault}
use Rattle.krb_der.specs.declared.fault.Fault.TheVariants.{Shape, OutOfMemory}
use Rattle.krb_der.specs.Layout.{Fails}
use Rattle.krb_der.specs.Reading.{◌>>=◌}
use Rattle.krb_keytab.specs.Reading.{part_at, parts_at}

-- what was read before, and what is still read
abbrev pub with_front : List (List ℕ) → Option (List (List ℕ) × List ℕ) → Option (List (List ℕ) × List ℕ)
with_front front read = read >>= λ x. Some (front ++ x.0, x.1)

regroup : (front : List (List ℕ)) (part : List ℕ) (read : Option (List (List ℕ) × List ℕ)) → with_front front (read >>= λ x. Some (part ∷ x.0, x.1)) ≡ with_front (front ++ part ∷ []) read
regroup front part (Some x) = ap (λ (parts : List (List ℕ)). Some (parts, x.1)) (simp append_assoc)
regroup front part None = refl

pub goes_on : (front : List (List ℕ)) (count i : ℕ) (octets part behind : List ℕ) (total : Option (List (List ℕ) × List ℕ)) → i < count → part_at octets ≡ Some (part, behind)
    → with_front front (parts_at (count - i) octets) ≡ total → with_front (front ++ part ∷ []) (parts_at (count - (i + 1)) behind) ≡ total
unfolding parts_at
goes_on front count i octets part behind total lt h so_far =
    let k : count - i ≡ suc (count - (i + 1)) = omega arith in
    let one : with_front front (parts_at (count - i) octets) ≡ with_front (front ++ part ∷ []) (parts_at (count - (i + 1)) behind) = rw (k, h) (regroup front part (parts_at (count - (i + 1)) behind)) in
    sym one ∙ so_far

pub ends : (e : Fault) (front : List (List ℕ)) (count i : ℕ) (octets : List ℕ) (total : Option (List (List ℕ) × List ℕ)) → i < count → Fails e (part_at octets)
    → with_front front (parts_at (count - i) octets) ≡ total → Fails e total
unfolding parts_at
ends OutOfMemory front count i octets total lt h so_far = tt
ends Shape front count i octets total lt h so_far =
    let k : count - i ≡ suc (count - (i + 1)) = omega arith in
    let one : with_front front (parts_at (count - i) octets) ≡ None = rw (k, h) refl in
    sym so_far ∙ one

pub is_done : (front : List (List ℕ)) (count i : ℕ) (octets : List ℕ) (total : Option (List (List ℕ) × List ℕ)) → count ≤ i → with_front front (parts_at (count - i) octets) ≡ total → total ≡ Some (front, octets)
unfolding parts_at
is_done front count i octets total le so_far =
    let k : count - i ≡ 0 = omega arith in
    let one : with_front front (parts_at (count - i) octets) ≡ Some (front, octets) = rw k (ap (λ (parts : List (List ℕ)). Some (parts, octets)) (append-nil front)) in
    sym so_far ∙ one
