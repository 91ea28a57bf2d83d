-- The names that a KDC has can be written.
use Rattle.std.proofs.Common.{◌≡◌, ℕ, ◌+◌, ◌<◌, ◌≤◌, ◌^◌, Bool, true, false, List, [], ◌∷◌, ◌++◌, length, Option, Some, None, IfSome, refl, arith, lit<, length-append, if◌then◌else◌}
use Rattle.std.specs.Prelude.{◌==◌}
use Rattle.std.specs.List.{AllByRecursion}
use Rattle.std.specs.Str.{str_to_ascii_lowercase}
use Rattle.std.proofs.lemmas.Bool.{eqb-true}
use Rattle.krb_aes.specs.Octets.{IsOctets}
use Rattle.krb_aes.proofs.InjectiveLemmas.{none_octets, IsOctets-append}
use Rattle.krb_der.specs.Der.{tlv}
use Rattle.krb_der.specs.Schema.{IsSound, is_ascii}
use Rattle.krb_der.proofs.Lengths.{contents_shorter}
use Rattle.krb_der.specs.Layout.{spelling}
use Rattle.krb_messages.specs.Table.{principal_name}
use Rattle.krb_messages.specs.Layouts.{principal_name_row, principal_name_layout}
use Rattle.krb_requests.specs.Bodies.{component_octets}
use Rattle.krb_requests.specs.Pieces.{principal as name_with}
use Rattle.krb_admission.specs.Clients.{client_of}
use Rattle.sspi_core.specs.Usernames.{UserName, UserPrincipal, user_name, parsed}
use Rattle.krb_laws_ends.proofs.OctetsLemmas.{IsShort, short-nothing, short-append, short-tlv, short-field}
use Rattle.krb_kdc.specs.declared.kdc.Kdc.{Kdc}
use Rattle.krb_kdc.specs.declared.kdc.Principal.{Principal}
use Rattle.krb_kdc.specs.declared.kdc.Route.{Route}
use Rattle.krb_kdc.specs.declared.tgs_req.Target.{Target}
use Rattle.krb_kdc.specs.Fitting.{are_ascii, is_ascii_salt}
use Rattle.krb_kdc.specs.Registers.{principal_with, route_to}
use Rattle.krb_kdc.specs.TgsChecks.{served as served_by, routed, target_of}
use Rattle.krb_kdc.proofs.AsciiLemmas.{named_ascii, routed_ascii}
use Rattle.krb_kdc.proofs.Found.{principal_found, salt_ascii, salt_of, and_first, and_second}
use Rattle.krb_laws_kdc.specs.Granting.{AreAscii}
use Rattle.krb_laws_kdc.proofs.ErrorLemmas.{ascii_octets, short-octet}

abbrev pub AreNames : List (List ℕ) → Type 0
AreNames components = AllByRecursion (λ component. is_ascii component ≡ true) components

names_told : (components : List (List ℕ)) → are_ascii components ≡ true → AreNames components
names_told [] e = tt
names_told (component ∷ components) e =
    (and_first (is_ascii component) (are_ascii components) e, names_told components (and_second (is_ascii component) (are_ascii components) e))

-- ---- what is found

module _ (kdc : Kdc) (components : List (List ℕ)) where
  pub principal_names : (principal : Principal) → principal_with components kdc.principals ≡ Some principal → AreNames components
  principal_names principal known = names_told components (named_ascii kdc.suite components kdc.principals principal kdc.principals_fit known)

  route_names : (route : Route) → route_to components kdc.routes ≡ Some route → AreNames components
  route_names route known = names_told components (routed_ascii kdc.suite components kdc.routes route kdc.routes_fit known)

  by_route : (target : Target) (found : Option Route) → route_to components kdc.routes ≡ found → routed kdc found ≡ Some target → AreNames components
  by_route target (Some route) known e = route_names route known
  by_route target None none e = absurd cc

  by_principal : (target : Target) (found : Option Principal) → principal_with components kdc.principals ≡ found → served_by kdc (name_with 2 components) found ≡ Some target → AreNames components
  by_principal target (Some principal) known e = principal_names principal known
  by_principal target None none e = by_route target (route_to components kdc.routes) refl e

  -- what a KDC gives a ticket for
  pub target_names : (target : Target) → target_of kdc (Some (name_with 2 components)) ≡ Some target → AreNames components
  target_names target e = by_principal target (principal_with components kdc.principals) refl e

  ascii_salt : (salt : Option (List ℕ)) → is_ascii_salt salt ≡ true → IfSome salt (λ s. is_ascii s ≡ true)
  ascii_salt None e = tt
  ascii_salt (Some salt) e = e

  -- the realm and the salt that a KDC sends to a client that it has
  pub salt_names : (principal : Principal) → principal_with components kdc.principals ≡ Some principal → AreAscii kdc.realm principal.salt
  salt_names principal known =
      let fits = principal_found kdc.suite components kdc.principals principal kdc.principals_fit known in record {
        realm_ascii = kdc.realm_ascii;
        realm_short = kdc.realm_short;
        salt_ascii = ascii_salt principal.salt (salt_ascii kdc.suite principal fits);
        salt_short = salt_of kdc.suite principal fits;
      }

-- ---- their octets

pub name_sound : (name_type : ℕ) (components : List (List ℕ)) → AreNames components → IsSound principal_name_layout.kind (principal_name_layout.view (name_with name_type components))
unfolding principal_name principal_name_row
name_sound name_type components names = (lit< tt, (names, tt))

short-components : (n : ℕ) → n < 2 ^ 32 → (components : List (List ℕ)) → AreNames components → length (component_octets components) ≤ n → IsShort n (component_octets components)
short-components n small [] names h = record { octets = none_octets; short = h }
short-components n small (component ∷ components) names h =
    let rest : List ℕ = component_octets components in
    let whole : length (tlv 0x1b component) + length rest ≤ n = omega (arith, h, length-append (tlv 0x1b component) rest) in
    let first = short-tlv n 0x1b component (lit< tt) small (record { octets = ascii_octets component names.0; short = omega (arith, whole, contents_shorter 0x1b component) }) in
    let others = short-components n small components names.1 (omega (arith, whole)) in
    record { octets = IsOctets-append (tlv 0x1b component) rest first.octets others.octets; short = h }

components_within : (name_type n : ℕ) (components : List (List ℕ)) → length (spelling principal_name_layout (name_with name_type components)) ≤ n → length (component_octets components) ≤ n
unfolding principal_name principal_name_row
components_within name_type n components short =
    let inside : List ℕ = tlv 0x30 (component_octets components) in
    let number : List ℕ = tlv 0xa0 (tlv 0x02 (name_type ∷ [])) in
    omega (
      arith,
      short,
      contents_shorter 0x30 (number ++ (tlv 0xa1 inside ++ [])),
      length-append number (tlv 0xa1 inside ++ []),
      length-append (tlv 0xa1 inside) [],
      contents_shorter 0xa1 inside,
      contents_shorter 0x30 (component_octets components),
    )

pub name_octets : (name_type : ℕ) → name_type < 256 → (components : List (List ℕ)) → AreNames components
    → length (spelling principal_name_layout (name_with name_type components)) ≤ 2 ^ 24 → IsOctets (spelling principal_name_layout (name_with name_type components))
unfolding principal_name principal_name_row
name_octets name_type small components names short =
    let parts = short-components (2 ^ 24) (lit< tt) components names (components_within name_type (2 ^ 24) components short) in
    let whole = short-tlv _ 0x30 _ (lit< tt) (lit< tt) (short-append _ _ _ _ (short-field 1 0xa0 0x02 (name_type ∷ []) (lit< tt) (lit< tt) (lit< tt) (short-octet name_type small))
    (short-append _ _ _ [] (short-field _ 0xa1 0x30 _ (lit< tt) (lit< tt) (lit< tt) parts) short-nothing)) in
    whole.octets

-- ---- the type of a client's name

type_by : (t : ℕ) (first realm : List ℕ) (user : UserName) (account enterprise : Bool) → (t == 1) ≡ account → (t == 10) ≡ enterprise
    → (if account then user_name (UserPrincipal first (str_to_ascii_lowercase realm)) else if enterprise then parsed first else None) ≡ Some user → t < 256
type_by t first realm user true enterprise a b e = let is = eqb-true t 1 a in omega (arith, is)
type_by t first realm user false true a b e = let is = eqb-true t 10 b in omega (arith, is)
type_by t first realm user false false a b e = absurd cc

-- a client that a service knows by a name has a name of one of two types
pub known_type : (t : ℕ) (components : List (List ℕ)) (realm : List ℕ) (user : UserName) → client_of (name_with t components) realm ≡ Some user → t < 256
unfolding client_of
known_type t [] realm user e = absurd cc
known_type t (first ∷ rest) realm user e = type_by t first realm user (t == 1) (t == 10) refl refl e
