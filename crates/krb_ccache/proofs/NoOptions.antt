-- A ticket that is found is no option.
use Rattle.std.proofs.Common.{◌≡◌, ℕ, Bool, true, false, List, Option, Some, None, refl, sym, subst}
use Rattle.std.specs.Prelude.{not, ◌&&◌, ◌==◌}
use Rattle.std.specs.Option.{option_or}
use Rattle.krb_ccache.specs.declared.principal.CcachePrincipal.{CcachePrincipal}
use Rattle.krb_ccache.specs.declared.credential.Credential.{Credential}
use Rattle.krb_ccache.specs.Finding.{same_names, same_principal, is_invalid, is_valid, is_known_key, is_option, is_wanted, wanted_of, longest, FindsLongest, found, found_tgt, found_or_tgt, tgs_components}
use Rattle.krb_ccache.proofs.Longest.{longest_is_found}

left : (a b : Bool) → (a && b) ≡ true → a ≡ true
left true b is = refl
left false b is = is

right : (a b : Bool) → (a && b) ≡ true → b ≡ true
right true b is = is
right false b is = absurd cc

is_not : (a : Bool) → not a ≡ true → a ≡ false
is_not true is = sym is
is_not false is = refl

third_is : (a b o d e f g : Bool) → (a && b && not o && d && e && f && g) ≡ true → o ≡ false
third_is a b o d e f g is = is_not o (right (a && b) (not o) (left (a && b && not o) d (left (a && b && not o && d) e (left (a && b && not o && d && e) f (left (a && b && not o && d && e && f) g is)))))

passes : (test : Credential → Bool) (credentials : List Credential) (credential : Credential) → longest test credentials ≡ Some credential → test credential ≡ true
passes test credentials credential is = (subst (FindsLongest test credentials) is (longest_is_found test credentials)).is

pub no_option : (client : CcachePrincipal) (credentials : List Credential) (components : List (List ℕ)) (seconds : ℕ) (credential : Credential) → found client credentials components seconds ≡ Some credential → is_option credential ≡ false
no_option client credentials components seconds credential is =
    third_is (same_names credential.server.components components) (same_principal credential.client client) (is_option credential) (credential.is_skey == 0) (not (is_invalid credential.flags)) (is_valid credential.times seconds)
    (is_known_key credential.key) (passes (is_wanted (wanted_of client components seconds)) credentials credential is)

either : (a b : Option Credential) (credential : Credential) → (a ≡ Some credential → is_option credential ≡ false) → (b ≡ Some credential → is_option credential ≡ false) → option_or a b ≡ Some credential → is_option credential ≡ false
either None b credential one other is = other is
either (Some a) b credential one other is = one is

pub no_option_of_either : (client : CcachePrincipal) (credentials : List Credential) (components : List (List ℕ)) (seconds : ℕ) (credential : Credential) → found_or_tgt client credentials components seconds ≡ Some credential
    → is_option credential ≡ false
no_option_of_either client credentials components seconds credential is =
    either (found client credentials components seconds) (found_tgt client credentials seconds) credential (no_option client credentials components seconds credential)
    (no_option client credentials (tgs_components client.realm) seconds credential) is
