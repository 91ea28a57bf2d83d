-- The results of reading, without their addresses in memory.
use Rattle.std.specs.Prelude.{◌≡◌, ℕ, ◌+◌, Bool, List, [], ◌∷◌, ◌++◌, length, Some, None, Result, Ok, Err}
use Rattle.std.specs.Borrow.{Bor}
use Rattle.std.specs.List.{flat_map, AllByRecursion}
use Rattle.krb_ccache.specs.declared.error.CcacheError.{CcacheError}
use Rattle.krb_ccache.specs.declared.error.CcacheError.TheVariants as errors
use Rattle.krb_ccache.specs.declared.credential.Credential.{Credential}
use Rattle.krb_ccache.specs.declared.read.Head.{Head as ReadHead}
use Rattle.krb_ccache.specs.declared.read.Tail.{Tail as ReadTail}
use Rattle.krb_ccache.specs.declared.find.Service.{Service}
use Rattle.krb_ccache.specs.declared.find.Service.TheVariants.{Named, Granting}
use Rattle.krb_ccache.specs.declared.find.Wanted.{Wanted as ReadWanted}
use Rattle.krb_ccache.specs.Finding.{Wanted, tgs_components}
use Rattle.krb_ccache.specs.Format.{credential_octets, FitsCredential, IsBroken}
use Rattle.krb_ccache.specs.Reading.{Head, Tail, credential_at}

abbrev pub head_view : ReadHead → Head
head_view head = (head.client, (head.server, (head.key, head.times)))

abbrev pub tail_view : ReadTail → Tail
tail_view tail = (tail.is_skey, (tail.flags, (tail.addresses, (tail.auth_data, (tail.ticket, tail.second_ticket)))))

-- The result of taking a credential from the front of the last octets of a file of this size, and the credentials before and after.
abbrev pub TakesCredential : Bool → List ℕ → ℕ → List Credential → Result (Bor (List ℕ)) CcacheError → List Credential → Type 0
TakesCredential twice octets size old (Ok rest) new = (credential : Credential) × (credential_at twice octets ≡ Some (credential, rest.now))
    × (new ≡ old ++ credential ∷ [])
TakesCredential twice octets size old (Err errors.Version) new = ⊥
TakesCredential twice octets size old (Err errors.Head) new = ⊥
TakesCredential twice octets size old (Err (errors.Credential at)) new = (at + length octets ≡ size) × (credential_at twice octets ≡ None)
TakesCredential twice octets size old (Err errors.OutOfMemory) new = Unit {0}

-- the octets are these consecutive credentials
pub record AreCredentials (twice : Bool) (credentials : List Credential) (octets : List ℕ) : Type 0 where
  pub each : AllByRecursion FitsCredential credentials
  pub parts : octets ≡ flat_map (credential_octets twice) credentials

-- after whole credentials, this far from the front of a file of this size, come octets that do not begin with a credential
pub record AreBrokenAt (twice : Bool) (size place : ℕ) (octets : List ℕ) : Type 0 where
  pub credentials : List Credential
  pub rest : List ℕ
  pub each : AllByRecursion FitsCredential credentials
  pub broken : IsBroken twice rest
  pub parts : octets ≡ flat_map (credential_octets twice) credentials ++ rest
  pub stands : place + length rest ≡ size

abbrev pub AreFaulty : Bool → ℕ → CcacheError → List ℕ → Type 0
AreFaulty twice size errors.Version octets = ⊥
AreFaulty twice size errors.Head octets = ⊥
AreFaulty twice size (errors.Credential place) octets = AreBrokenAt twice size place octets
AreFaulty twice size errors.OutOfMemory octets = Unit {0}

abbrev pub service_components : Service → List (List ℕ)
service_components (Named components) = components.now
service_components (Granting realm) = tgs_components realm.now

abbrev pub wanted_view : ReadWanted → Wanted
wanted_view wanted = record { client = wanted.client.now; components = service_components wanted.service; seconds = wanted.seconds }
