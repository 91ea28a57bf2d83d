-- The address of a realm's KDC names that realm.
use Rattle.std.proofs.Common.{◌≡◌, ℕ, List, Option, sym, ◌∙◌, Result, Ok, Err}
use Rattle.url.specs.Parts.{Parts}
use Rattle.krb_conf.specs.declared.env.Env.{Env}
use Rattle.krb_crypto.specs.declared.suite.CipherSuite.{CipherSuite}
use Rattle.sspi_core.specs.declared.cause.Cause.{Cause}
use Rattle.sspi_core.specs.declared.protocol.NetworkProtocol.{NetworkProtocol}
use Rattle.sspi_core.specs.Checks.{Gives, Goes, Finds, Then}
use Rattle.sspi_core.specs.declared.cause.Cause.TheVariants.{Scheme}
use Rattle.sspi_core.specs.Protocol.{scheme_of}
use Rattle.krb_as.specs.declared.asker.Asker.{Asker}
use Rattle.krb_as.specs.declared.kdc.Kdc.{Kdc as Address}
use Rattle.krb_as.specs.Kdcs.{FindsKdc}
use Rattle.krb_kdc.specs.declared.kdc.Kdc.{Kdc}
use Rattle.krb_laws_kdc.specs.Fetching.{StandsAt}

abbrev made : Parts → List ℕ → NetworkProtocol → Address
made url realm protocol = record { protocol = protocol; url = url; realm = realm }

same_address : (a b : Address) → ◌≡◌ {A = Result Address Cause} (Ok a) (Ok b) → a.realm ≡ b.realm
same_address a b e = cc

by_protocol : (url : Parts) (realm : List ℕ) (address : Address) (m : Result NetworkProtocol Cause) → Goes (λ protocol. Gives (made url realm protocol)) m (Ok address) → address.realm ≡ realm
by_protocol url realm address (Ok protocol) gives = same_address address (made url realm protocol) gives.is
by_protocol url realm address (Err cause) e = absurd cc

by_url : (realm : List ℕ) (address : Address) (m : Result Parts Cause)
    → Goes (λ url answer. Then (Finds Scheme (λ protocol. url.scheme ≡ scheme_of protocol)) (λ protocol. Gives (made url realm protocol)) answer) m (Ok address) → address.realm ≡ realm
by_url realm address (Ok url) rest = by_protocol url realm address rest.middle rest.rest
by_url realm address (Err cause) e = absurd cc

found_realm : (own : Option Parts) (env : Env) (realm : List ℕ) (address : Address) → FindsKdc own env realm (Ok address) → address.realm ≡ realm
unfolding FindsKdc
found_realm own env realm address found = by_url realm address found.middle found.rest

pub address_realm : {asker : Asker} {own : Option Parts} {suite : CipherSuite} {span : ℕ} {pairs : List (List ℕ × Kdc)} {realm : List ℕ} {kdc : Kdc}
    → (stands : StandsAt asker own suite span pairs realm kdc) → stands.address.realm ≡ kdc.realm
address_realm {asker} {own} {suite} {span} {pairs} {realm} {kdc} stands = found_realm own asker.env realm stands.address stands.found ∙ sym stands.realm_is
