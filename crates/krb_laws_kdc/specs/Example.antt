-- A client and its KDC with all that a run over KDCs needs: alice of EXAMPLE.COM has a keytab, and asks the KDC of its realm for the
-- ticket of host/b.
use Rattle.std.proofs.Common.{refl, lit≤, Global}
use Rattle.std.specs.Prelude.{ℕ, List, [], ◌∷◌, codes, replicate, Some, None, false}
use Rattle.url.specs.Parts.{Parts, serialize}
use Rattle.url.specs.declared.host.Host.TheVariants.{Domain}
use Rattle.krb_context.specs.declared.rules.Rules.{Rules}
use Rattle.krb_crypto.specs.declared.suite.CipherSuite.TheVariants.{Aes256CtsHmacSha196}
use Rattle.sspi_core.specs.declared.draw.Draw.{Draw}
use Rattle.sspi_core.specs.declared.identity.CredentialsBuffers.{CredentialsBuffers}
use Rattle.sspi_core.specs.declared.identity.CredentialsBuffers.TheVariants.{Keytab}
use Rattle.sspi_core.specs.Flags.{mutual_auth}
use Rattle.sspi_core.specs.Usernames.{UserName, UserPrincipal}
use Rattle.krb_initiator.specs.declared.seeker.Seeker.{Seeker}
use Rattle.krb_kdc.specs.declared.kdc.Kdc.{Kdc}
use Rattle.krb_kdc.specs.declared.kdc.Principal.{Principal}
use Rattle.krb_laws_kdc.specs.Fetching.{Draws}

abbrev pub example_realm : List ℕ
example_realm = codes "EXAMPLE.COM"

-- the keys of the client, of the service, and of the ticket-granting service
abbrev pub client_octets : List ℕ
client_octets = replicate 32 1

abbrev pub service_octets : List ℕ
service_octets = replicate 32 2

abbrev pub granting_octets : List ℕ
granting_octets = replicate 32 3

-- tcp://kdc.example
abbrev pub example_url : Parts
example_url = record {
  scheme = codes "tcp";
  username = [];
  password = [];
  host = Some (Domain (codes "kdc.example"));
  port = None;
  path = [];
  query = None;
  fragment = None;
}

-- both ends draw these octets, at one moment
abbrev pub example_draw : Draw
example_draw = record { moment = 1_700_000_000_000_000; random = replicate 64 4 }

abbrev pub example_draws : Draws
example_draws = record {
  start = example_draw;
  second = example_draw;
  third = example_draw;
  owns = replicate 10 example_draw;
  error = example_draw;
  first = example_draw;
  rest = example_draw ∷ [];
}

abbrev pub example_credentials : CredentialsBuffers
example_credentials = Keytab (record { principal = UserPrincipal (codes "alice") example_realm; key = client_octets; key_enctype = 18; known = refl })

-- the client, which goes by these rules
abbrev pub example_seeker : Rules → Seeker
example_seeker rules = record {
  asker = record {
    kdc_url = Some example_url;
    env = record { vars = []; files = [] };
    realm = example_realm;
    suite = Aes256CtsHmacSha196;
    credentials = example_credentials;
    rules = rules;
  };
  client = record { name = codes "alice"; name_type = 1; realm = example_realm; host = codes "PC" };
  wanted = record { target = codes "host/b"; flags = record { 0 = mutual_auth }; channel_bindings = None };
  tgt = None;
  errand = record {
    initiator = record {
      params = record {
        encryption_type = None;
        session_key = None;
        sub_session_key = None;
        sspi_encrypt_key_usage = 24;
        sspi_decrypt_key_usage = 22;
        ec = 0;
        acceptor_subkey = false;
      };
      number = 0;
      realm = None;
      user_to_user = false;
      flags = record { 0 = mutual_auth };
      rules = rules;
      asked_at = None;
    };
    bindings = None;
    mechanism = 0x2a ∷ 0x86 ∷ 0x48 ∷ 0x86 ∷ 0xf7 ∷ 0x12 ∷ 0x01 ∷ 0x02 ∷ 0x02 ∷ [];
  };
}

abbrev pub example_client : Principal
example_client = record { components = codes "alice" ∷ []; key = client_octets; salt = None }

abbrev pub example_service : Principal
example_service = record { components = codes "host" ∷ codes "b" ∷ []; key = service_octets; salt = None }

abbrev pub example_kdc : Global → Kdc
example_kdc alloc = record {
  alloc = alloc;
  realm = example_realm;
  suite = Aes256CtsHmacSha196;
  tgt_key = granting_octets;
  skew = 300;
  principals = example_client ∷ example_service ∷ [];
  trusts = [];
  routes = [];
  realm_short = lit≤ tt;
  realm_ascii = refl;
  tgt_key_fits = refl;
  principals_fit = refl;
  trusts_fit = refl;
  routes_fit = refl;
}

abbrev pub example_pairs : Global → List (List ℕ × Kdc)
example_pairs alloc = (serialize example_url, example_kdc alloc) ∷ []

-- the name that the service knows the client by
abbrev pub example_user : UserName
example_user = UserPrincipal (codes "alice") (codes "example.com")
