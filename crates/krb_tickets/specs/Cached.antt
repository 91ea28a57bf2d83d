-- Tickets as a credential cache has them: which one a credential is, and which credential a ticket is that a KDC granted.
use Rattle.std.specs.Prelude.{◌≡◌, ℕ, ◌^◌, ◌-◌, true, ℤ, pos, negsuc, List, [], ◌∷◌, Option, Some, None, Result, nat_lt, ◌==◌, if◌then◌else◌}
use Rattle.std.specs.Int.{w32, from_be_bytes}
use Rattle.krb_der.specs.Schema.{is_ascii, IsSound}
use Rattle.krb_der.specs.Layout.{spelling}
use Rattle.krb_crypto.specs.Suite.{suite_number}
use Rattle.krb_crypto.specs.declared.suite.CipherSuite.{CipherSuite}
use Rattle.krb_crypto.specs.declared.suite.CipherSuite.TheVariants.{Aes128CtsHmacSha196, Aes256CtsHmacSha196}
use Rattle.krb_messages.specs.Layouts.{ticket_layout}
use Rattle.krb_context.specs.ServiceKeys.{all_ascii}
use Rattle.krb_replies.specs.declared.facts.ReplyFacts.{ReplyFacts}
use Rattle.krb_as.specs.Granted.{IsSendable}
use Rattle.krb_as.specs.declared.key.Grant.{Grant}
use Rattle.krb_ccache.specs.declared.credential.Credential.{Credential}
use Rattle.krb_ccache.specs.declared.credential.Times.{Times}
use Rattle.krb_tickets.specs.Principals.{type_number, type_octets, are_short, cache_principal}
use Rattle.krb_tickets.specs.Held.{HoldsTicket}
use Rattle.sspi_core.specs.declared.cause.Cause.{Cause}
use Rattle.sspi_core.specs.declared.cause.Cause.TheVariants.{Etype}
use Rattle.sspi_core.specs.Checks.{Takes, ◌>>=◌}

-- the suite of an encryption type of AES (RFC 3962, section 7)
abbrev pub suite_of_type : ℕ → Option CipherSuite
suite_of_type key_type =
    if key_type == 17 then Some Aes128CtsHmacSha196 else (if key_type == 18 then Some Aes256CtsHmacSha196 else None)

-- the ticket of a credential, whose key is one of AES
unfoldable pub HoldsCredential : Credential → Result Grant Cause → Type 0
HoldsCredential credential = do
  suite ← Takes Etype (suite_of_type credential.key.key_type)
  HoldsTicket credential.client suite credential.key.octets credential.ticket credential.flags credential.times

-- a time in seconds since 1970, as 32 bits: the first or the last of them for a time before or after all of them
abbrev pub seconds_of : ℤ → ℕ
seconds_of (pos n) = if nat_lt n (2 ^ 32) then n else 2 ^ 32 - 1
seconds_of (negsuc n) = 0

abbrev pub seconds_if : Option ℤ → ℕ
seconds_if None = 0
seconds_if (Some time) = seconds_of time

abbrev pub times_of : ReplyFacts → Times
times_of facts = record {
  authenticated = seconds_of facts.authtime;
  start = seconds_if facts.starttime;
  end = seconds_of facts.endtime;
  renew_until = seconds_if facts.renew_till;
}

-- the first 32 flags; those that are not there are not set (RFC 4120, section 5.2.8)
abbrev pub flags_of : List ℕ → ℕ
flags_of [] = 0
flags_of (a ∷ []) = from_be_bytes w32 (a ∷ 0 ∷ 0 ∷ 0 ∷ [])
flags_of (a ∷ (b ∷ [])) = from_be_bytes w32 (a ∷ b ∷ 0 ∷ 0 ∷ [])
flags_of (a ∷ (b ∷ (c ∷ []))) = from_be_bytes w32 (a ∷ b ∷ c ∷ 0 ∷ [])
flags_of (a ∷ (b ∷ (c ∷ (d ∷ rest)))) = from_be_bytes w32 (a ∷ b ∷ c ∷ d ∷ [])

-- the credential of a ticket that was granted, encrypted under the key of its service, for any address
abbrev pub credential_of : Grant → Credential
credential_of grant = record {
  client = cache_principal grant.rep.crealm grant.rep.cname;
  server = cache_principal grant.facts.srealm grant.facts.sname;
  key = record { key_type = suite_number grant.suite; octets = grant.key };
  times = times_of grant.facts;
  is_skey = 0;
  flags = flags_of grant.facts.flags.octets;
  addresses = [];
  auth_data = [];
  ticket = spelling ticket_layout grant.rep.ticket;
  second_ticket = [];
}

-- a grant that was read from a reply, whose client's name can be in a cache as it is
pub record CanBeCached (grant : Grant) : Type 0 where
  pub sendable : IsSendable grant.rep
  pub ticket : IsSound ticket_layout.kind (ticket_layout.view grant.rep.ticket)
  pub realm : is_ascii grant.rep.crealm ≡ true
  pub components : all_ascii grant.rep.cname.name_string ≡ true
  pub short : are_short grant.rep.cname.name_string ≡ true
  pub name_type : type_octets (type_number grant.rep.cname.name_type) ≡ grant.rep.cname.name_type

-- two grants show the same to KDCs and services: the same ticket of the same client, with the same key
pub record ShowsSame (one other : Grant) : Type 0 where
  pub suite : one.suite ≡ other.suite
  pub key : one.key ≡ other.key
  pub realm : one.rep.crealm ≡ other.rep.crealm
  pub name : one.rep.cname ≡ other.rep.cname
  pub ticket : one.rep.ticket ≡ other.rep.ticket
