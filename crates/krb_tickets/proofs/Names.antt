-- The names and tickets that are read from few octets can be sent.
use Rattle.std.proofs.Common.{◌≡◌, ℕ, ◌*◌, ◌<◌, ◌≤◌, ◌^◌, Bool, true, false, List, [], ◌∷◌, length, drop, Result, Ok, Err, Some, None, sym, subst, arith, lit≤, lit<, if◌then◌else◌}
use Rattle.std.specs.Prelude.{nat_le, IfOk}
use Rattle.std.specs.Int.{w32, to_be_bytes}
use Rattle.std.specs.List.{list_all, AllByRecursion}
use Rattle.std.proofs.lemmas.Bool.{and_parts}
use Rattle.std.proofs.lemmas.Bool.Decides.{nat_tests}
use Rattle.krb_der.specs.Der.{tlv}
use Rattle.krb_der.specs.Layout.{Layout}
use Rattle.krb_der.proofs.Lengths.{tlv_le, field_le, append_le}
use Rattle.krb_messages.specs.Table.{principal_name}
use Rattle.krb_messages.specs.Layouts.{principal_name_row, principal_name_layout}
use Rattle.krb_messages.specs.declared.principal_name.PrincipalName.{PrincipalName}
use Rattle.krb_as.proofs.Complete.{complete_spelled}
use Rattle.krb_replies.specs.Unseals.{IsRead}
use Rattle.krb_requests.specs.Bodies.{component_octets}
use Rattle.krb_requests.specs.Pieces.{Fits, name_of}
use Rattle.krb_requests.proofs.Lengths.{name_is}
use Rattle.krb_tickets.specs.Principals.{are_short, names_of, named}
use Rattle.sspi_core.proofs.Chain.{gave}
use Rattle.sspi_core.specs.Checks.{Answers, Finds, Takes, Gives}
use Rattle.sspi_core.specs.declared.cause.Cause.{Cause}
use Rattle.sspi_core.specs.declared.cause.Cause.TheVariants.{Shape, NotAscii}

le_trans : (a b c : ℕ) → a ≤ b → b ≤ c → a ≤ c
le_trans a b c h k = omega arith

-- a record that was read from few octets
pub read_fits : {A : Type 0} (layout : Layout A) (octets : List ℕ) (answer : Result A Cause) → Answers (λ r. Finds Shape (IsRead layout octets) r) answer → length octets ≤ 2 ^ 24
    → IfOk answer (λ x. Fits layout (2 ^ 24) x)
read_fits layout octets (Ok x) h short =
    let found = h.so (λ z. absurd cc) in
    record { complete = complete_spelled found.is; short = subst (λ (o : List ℕ). length o ≤ 2 ^ 24) found.is.is short }
read_fits layout octets (Err cause) h short = tt

-- a realm that was read
pub realm_short : (realm : List ℕ) (answer : Result (List ℕ) Cause) → Answers (Takes NotAscii (name_of realm)) answer → length realm ≤ 2 ^ 24 → IfOk answer (λ name. length name ≤ 2 ^ 24)
realm_short realm (Ok name) h short = subst (λ (n : List ℕ). length n ≤ 2 ^ 24) (sym (name_is realm name h)) short
realm_short realm (Err cause) h short = tt

-- the type of a name has from one to four octets
some_octet : (p q r : Bool) (number : ℕ) → 0 < length (drop (if p then 3 else (if q then 2 else (if r then 1 else 0))) (to_be_bytes w32 number))
some_octet true q r number = lit< tt
some_octet false true r number = lit< tt
some_octet false false true number = lit< tt
some_octet false false false number = lit< tt

four_octets : (p q r : Bool) (number : ℕ) → length (drop (if p then 3 else (if q then 2 else (if r then 1 else 0))) (to_be_bytes w32 number)) ≤ 4
four_octets true q r number = lit≤ tt
four_octets false true r number = lit≤ tt
four_octets false false true number = lit≤ tt
four_octets false false false number = lit≤ tt

-- the components
all_complete : (components : List (List ℕ)) → AllByRecursion (λ component. Unit {0}) components
all_complete [] = tt
all_complete (component ∷ components) = (tt, all_complete components)

is_short : (component : List ℕ) → nat_le (length component) 65000 ≡ true → length component ≤ 65000
is_short component e = grind (arith, nat_tests)

components_le : (components : List (List ℕ)) → list_all (λ component. nat_le (length component) 65000) components ≡ true → length (component_octets components) ≤ 65006 * length components
components_le [] e = lit≤ tt
components_le (component ∷ components) e =
    let both = and_parts (nat_le (length component) 65000) (list_all (λ c. nat_le (length c) 65000) components) e in
    let first : length (tlv 0x1b component) ≤ 65006 = tlv_le 0x1b component 65000 (is_short component both.0) in
    let rest : length (component_octets components) ≤ 65006 * length components = components_le components both.1 in
    omega (arith, append_le (tlv 0x1b component) (component_octets components) 65006 (65006 * length components) first rest)

all_le : (components : List (List ℕ)) → are_short components ≡ true → length (component_octets components) ≤ 16641536
all_le components e =
    let both = and_parts (nat_le (length components) 256) (list_all (λ c. nat_le (length c) 65000) components) e in
    let few : length components ≤ 256 = let h = both.0 in grind (arith, nat_tests) in
    let le : length (component_octets components) ≤ 65006 * length components = components_le components both.1 in
    omega arith

pub named_fits : (name_type : ℕ) (components : List (List ℕ)) → are_short components ≡ true → Fits principal_name_layout (2 ^ 24) (named name_type components)
unfolding principal_name principal_name_row
named_fits name_type components e = record {
  complete = (some_octet _ _ _ name_type, (all_complete components, tt));
  short =
      le_trans _ _ _ (tlv_le 0x30 _ _ (append_le _ _ _ _ (field_le 0xa0 0x02 _ 4 (four_octets _ _ _ name_type))
      (append_le _ [] _ 0 (field_le 0xa1 0x30 _ 16641536 (all_le components e)) (lit≤ tt)))) (lit≤ tt);
}

taken_if : (b : Bool) (all found : List (List ℕ)) → Takes NotAscii (if b then Some all else None) (Ok found) → found ≡ all
taken_if true all found k = let e = k.is in cc
taken_if false all found k = let e = k.is in absurd cc

pub name_fits : (name_type : ℕ) (all components : List (List ℕ)) (answer : Result PrincipalName Cause) → are_short all ≡ true → Answers (Takes NotAscii (names_of all)) (Ok components)
    → Answers (Gives (named name_type components)) answer → IfOk answer (λ name. Fits principal_name_layout (2 ^ 24) name)
name_fits name_type all components (Ok name) short are made =
    let same : components ≡ all = taken_if _ all components (are.so (λ z. absurd cc)) in
    subst (λ (n : PrincipalName). Fits principal_name_layout (2 ^ 24) n) (sym (gave (named name_type components) name (made.so (λ z. absurd cc))))
    (subst (λ (c : List (List ℕ)). Fits principal_name_layout (2 ^ 24) (named name_type c)) (sym same) (named_fits name_type all short))
name_fits name_type all components (Err cause) short are made = tt
