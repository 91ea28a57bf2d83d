-- The place of the first service with given components.
use Rattle.std.proofs.Common.{◌≡◌, ◌<◌, ◌+◌, ℕ, suc, add-one, take, Bool, true, false, cond, List, [], ◌∷◌, ◌++◌, length, get_or, Option, Some, None, is_some, option_map, refl, sym, ap, ◌∙◌, subst, arith}
use Rattle.std.proofs.lemmas.List.{length-take-le}
use Rattle.std.proofs.Math.Seq.{take-suc}
use Rattle.std.specs.Prelude.{find, if◌then◌else◌}
use Rattle.std.specs.Bool.{Decides}
use Rattle.std.specs.Option.{option_or}
use Rattle.std.specs.Cmp.Lexicographic.{pointwise_decides, bytes_decides}
use Rattle.krb_messages.specs.declared.principal_name.PrincipalName.{PrincipalName}
use Rattle.krb_context.specs.AdditionalKeys.{same_components, first_place, additional_key}

components_decide : (a b : List (List ℕ)) → Decides (same_components a b) (a ≡ b)
components_decide a b = pointwise_decides bytes_decides a b

-- ---- one service more

behind : (t u : Bool) (found : Option ℕ) (n : ℕ)
    → (if t then Some 0 else option_map suc (option_or found (if u then Some n else None)))
    ≡ option_or (if t then Some 0 else option_map suc found) (if u then Some (suc n) else None)
behind true u found n = refl
behind false u (Some x) n = refl
behind false true None n = refl
behind false false None n = refl

first_alone : (u : Bool) → ◌≡◌ {A = Option ℕ} (if u then Some 0 else None) (option_or None (if u then Some 0 else None))
first_alone u = refl

pub place_behind : (services : List (PrincipalName × List ℕ)) (service : PrincipalName × List ℕ) (components : List (List ℕ))
    → first_place (services ++ service ∷ []) components
    ≡ option_or (first_place services components) (if same_components service.0.name_string components then Some (length services) else None)
place_behind [] service components = first_alone (same_components service.0.name_string components)
place_behind (s ∷ services) service components =
    ap (λ (found : Option ℕ). if same_components s.0.name_string components then Some 0 else option_map suc found) (place_behind services service components)
    ∙ behind (same_components s.0.name_string components) (same_components service.0.name_string components) (first_place services components) (length services)

-- the first place with given components, once one more service is added at the end
pub place_pushed : (services : List (PrincipalName × List ℕ)) (service : PrincipalName × List ℕ) (components : List (List ℕ)) (place : ℕ) (before now : Option ℕ)
    → before ≡ first_place services components → now ≡ option_or before (if same_components service.0.name_string components then Some place else None)
    → place ≡ length services → now ≡ first_place (services ++ service ∷ []) components
place_pushed services service components place before now was noted last =
    noted ∙ ap (λ (o : Option ℕ). option_or o (if same_components service.0.name_string components then Some place else None)) was
    ∙ ap (λ (n : ℕ). option_or (first_place services components) (if same_components service.0.name_string components then Some n else None)) last
    ∙ sym (place_behind services service components)

-- the places of the services so far and of the next
pub place_step : (services : List (PrincipalName × List ℕ)) (place : ℕ) (service : PrincipalName × List ℕ) (components : List (List ℕ)) (before now : Option ℕ)
    → place < length services → service ≡ get_or services place service → before ≡ first_place (take place services) components
    → now ≡ option_or before (if same_components service.0.name_string components then Some place else None)
    → now ≡ first_place (take (place + 1) services) components
place_step services place service components before now low is was noted =
    place_pushed (take place services) service components place before now was noted (sym (length-take-le place services (omega arith)))
    ∙ ap (λ (l : List (PrincipalName × List ℕ)). first_place l components)
    (ap (λ (s : PrincipalName × List ℕ). take place services ++ s ∷ []) is ∙ sym (take-suc services place service low)
    ∙ ap (λ (n : ℕ). take n services) (sym (add-one place)))

-- ---- a place that is noted

known_by : (found : Option ℕ) (same : Bool) (place : ℕ) → (same ≡ true → is_some found ≡ true) → found ≡ option_or found (if same then Some place else None)
known_by (Some x) same place h = refl
known_by None true place h = let e = h refl in absurd cc
known_by None false place h = refl

-- an earlier service has the same components, so the first place is unchanged
pub place_known : (places : List (List ℕ) → Option ℕ) (components other : List (List ℕ)) (place : ℕ) → is_some (places components) ≡ true
    → places other ≡ option_or (places other) (if same_components components other then Some place else None)
place_known places components other place known =
    known_by (places other) (same_components components other) place
    (λ e. subst (λ (c : List (List ℕ)). is_some (places c) ≡ true) ((components_decide components other).0 e) known)

none_of : (found : Option ℕ) → is_some found ≡ false → found ≡ None
none_of None e = refl
none_of (Some x) e = absurd cc

new_by : (found : Option ℕ) (same : Bool) (place : ℕ) → (same ≡ true → found ≡ None) → cond same (Some place) found ≡ option_or found (if same then Some place else None)
new_by found true place h = sym (ap (λ (o : Option ℕ). option_or o (Some place)) (h refl))
new_by None false place h = refl
new_by (Some x) false place h = refl

-- none does
pub place_new : (places noted : List (List ℕ) → Option ℕ) (components other : List (List ℕ)) (place : ℕ) → is_some (places components) ≡ false
    → noted other ≡ cond (same_components components other) (Some place) (places other)
    → noted other ≡ option_or (places other) (if same_components components other then Some place else None)
place_new places noted components other place new put =
    put ∙ new_by (places other) (same_components components other) place
    (λ e. subst (λ (c : List (List ℕ)). places c ≡ None) ((components_decide components other).0 e) (none_of (places components) new))

-- ---- the service at a place

-- the service that is found is the one at the place, with its key
pub record Stands (services : List (PrincipalName × List ℕ)) (place : ℕ) (found : Option (PrincipalName × List ℕ)) : Type 0 where
  pub low : place < length services
  pub is : (d : PrincipalName × List ℕ) → found ≡ Some (get_or services place d)

stands_behind : (s : PrincipalName × List ℕ) (services : List (PrincipalName × List ℕ)) (same : Bool) (at : Option ℕ) (found : Option (PrincipalName × List ℕ)) (place : ℕ)
    → ((p : ℕ) → at ≡ Some p → Stands services p found)
    → (if same then Some 0 else option_map suc at) ≡ Some place → Stands (s ∷ services) place (cond same (Some s) found)
stands_behind s services true at found place h e =
    subst (λ (p : ℕ). Stands (s ∷ services) p (Some s)) (zero_is place e) (record { low = omega arith; is = λ d. refl })
  where
    zero_is : (p : ℕ) → ◌≡◌ {A = Option ℕ} (Some 0) (Some p) → 0 ≡ p
    zero_is p e = cc
stands_behind s services false None found place h e = absurd cc
stands_behind s services false (Some p) found place h e =
    let there = h p refl in
    subst (λ (p : ℕ). Stands (s ∷ services) p found) (next_is p place e) (record { low = let low = there.low in omega arith; is = λ d. there.is d })
  where
    next_is : (p q : ℕ) → ◌≡◌ {A = Option ℕ} (Some (suc p)) (Some q) → suc p ≡ q
    next_is p q e = cc

pub stands_at : (services : List (PrincipalName × List ℕ)) (components : List (List ℕ)) (place : ℕ) → first_place services components ≡ Some place
    → Stands services place (find (λ (service : PrincipalName × List ℕ). same_components service.0.name_string components) services)
stands_at [] components place e = absurd cc
stands_at (s ∷ services) components place e =
    stands_behind s services (same_components s.0.name_string components) (first_place services components)
    (find (λ (service : PrincipalName × List ℕ). same_components service.0.name_string components) services) place (λ p q. stands_at services components p q) e

none_behind : (same : Bool) (at : Option ℕ) (s : PrincipalName × List ℕ) (found : Option (PrincipalName × List ℕ)) → (at ≡ None → found ≡ None)
    → (if same then Some 0 else option_map suc at) ≡ None → cond same (Some s) found ≡ None
none_behind true at s found h e = absurd cc
none_behind false None s found h e = h refl
none_behind false (Some p) s found h e = absurd cc

-- no service is found if no place is found
pub stands_nowhere : (services : List (PrincipalName × List ℕ)) (components : List (List ℕ)) → first_place services components ≡ None
    → find (λ (service : PrincipalName × List ℕ). same_components service.0.name_string components) services ≡ None
stands_nowhere [] components e = refl
stands_nowhere (s ∷ services) components e =
    none_behind (same_components s.0.name_string components) (first_place services components) s
    (find (λ (service : PrincipalName × List ℕ). same_components service.0.name_string components) services) (λ q. stands_nowhere services components q) e

-- ---- the key that is found

pub place_low : (services : List (PrincipalName × List ℕ)) (components : List (List ℕ)) (place : ℕ) → first_place services components ≡ Some place → place < length services
place_low services components place e = (stands_at services components place e).low

pub key_there : (services : List (PrincipalName × List ℕ)) (components : List (List ℕ)) (place : ℕ) (d : PrincipalName × List ℕ)
    → first_place services components ≡ Some place → additional_key services components ≡ Some (get_or services place d).1
unfolding additional_key
key_there services components place d e =
    ap (option_map (λ (service : PrincipalName × List ℕ). service.1)) ((stands_at services components place e).is d)

pub key_nowhere : (services : List (PrincipalName × List ℕ)) (components : List (List ℕ)) → first_place services components ≡ None → additional_key services components ≡ None
unfolding additional_key
key_nowhere services components e =
    ap (option_map (λ (service : PrincipalName × List ℕ). service.1)) (stands_nowhere services components e)
