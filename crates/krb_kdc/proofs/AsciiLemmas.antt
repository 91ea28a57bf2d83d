-- The names by which a KDC finds a principal or a route are ASCII, as those of the principal and of the route are.
use Rattle.std.proofs.Common.{◌≡◌, ℕ, Bool, true, false, List, [], ◌∷◌, Option, Some, refl, subst, cond}
use Rattle.std.specs.Prelude.{◌&&◌, ◌==◌}
use Rattle.std.specs.List.{find, list_all}
use Rattle.std.proofs.lemmas.Bool.{eqb-true}
use Rattle.krb_der.specs.Schema.{is_ascii}
use Rattle.krb_crypto.specs.declared.suite.CipherSuite.{CipherSuite}
use Rattle.krb_kdc.specs.declared.kdc.Principal.{Principal}
use Rattle.krb_kdc.specs.declared.kdc.Route.{Route}
use Rattle.krb_kdc.specs.Fitting.{is_short, are_ascii, principal_fits, route_fits}
use Rattle.krb_kdc.specs.Registers.{same_text, same_components, principal_with, route_to}
use Rattle.krb_kdc.proofs.Found.{and_first, and_second, components_ascii, found_all, principal_found}

-- texts that are compared as the same are the same
pub same_is : (a b : List ℕ) → same_text a b ≡ true → a ≡ b
same_is [] [] e = refl
same_is [] (y ∷ ys) e = absurd cc
same_is (x ∷ xs) [] e = absurd cc
same_is (x ∷ xs) (y ∷ ys) e =
    let head : x ≡ y = eqb-true x y (and_first (x == y) (same_text xs ys) e) in
    let tail : xs ≡ ys = same_is xs ys (and_second (x == y) (same_text xs ys) e) in
    cc

and_from : (x y : Bool) → x ≡ true → y ≡ true → (x && y) ≡ true
and_from true y h e = e
and_from false y h e = absurd cc

same_ascii : (a b : List (List ℕ)) → same_components a b ≡ true → are_ascii a ≡ true → are_ascii b ≡ true
same_ascii [] [] e h = refl
same_ascii [] (y ∷ ys) e h = absurd cc
same_ascii (x ∷ xs) [] e h = absurd cc
same_ascii (x ∷ xs) (y ∷ ys) e h =
    and_from (is_ascii y) (are_ascii ys)
    (subst (λ (text : List ℕ). is_ascii text ≡ true) (same_is x y (and_first (same_text x y) (same_components xs ys) e)) (and_first (is_ascii x) (are_ascii xs) h))
    (same_ascii xs ys (and_second (same_text x y) (same_components xs ys) e) (and_second (is_ascii x) (are_ascii xs) h))

module _ {A : Type 0} (f : A → Bool) where
  found_or : (b : Bool) (y x : A) (rest : Option A) → f y ≡ b → cond b (Some y) rest ≡ Some x → (rest ≡ Some x → f x ≡ true) → f x ≡ true
  found_or true y x rest is e more =
      let same : y ≡ x = cc in
      subst (λ (z : A). f z ≡ true) same is
  found_or false y x rest is e more = more e

  -- what is found passes the test
  found_passes : (xs : List A) (x : A) → find f xs ≡ Some x → f x ≡ true
  found_passes [] x e = absurd cc
  found_passes (y ∷ ys) x e = found_or (f y) y x (find f ys) refl e (found_passes ys x)

pub named_ascii : (suite : CipherSuite) (components : List (List ℕ)) (principals : List Principal) (principal : Principal) → list_all (principal_fits suite) principals ≡ true
    → principal_with components principals ≡ Some principal → are_ascii components ≡ true
named_ascii suite components principals principal fits e =
    same_ascii principal.components components (found_passes (λ (known : Principal). same_components known.components components) principals principal e)
    (components_ascii suite principal (principal_found suite components principals principal fits e))

pub routed_ascii : (suite : CipherSuite) (service : List (List ℕ)) (routes : List Route) (route : Route) → list_all (route_fits suite) routes ≡ true
    → route_to service routes ≡ Some route → are_ascii service ≡ true
routed_ascii suite service routes route fits e =
    let test : Route → Bool = λ known. same_components known.service service in
    let fitting : route_fits suite route ≡ true = found_all test (route_fits suite) routes route e fits in
    same_ascii route.service service (found_passes test routes route e)
    (and_second (is_ascii route.realm) (are_ascii route.service) (and_second (is_short route.realm) (is_ascii route.realm && are_ascii route.service) fitting))
