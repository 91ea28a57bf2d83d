-- Contexts: a new one, its number, its KDC, and what an exchange makes of it.
use Rattle.std.specs.Prelude.{ℕ, zero, suc, ◌+◌, ◌%◌, ◌^◌, List, Bool, false, Option, None, is_some, is_none, option_map, option_and_then}
use Rattle.std.specs.Option.{option_or}
use Rattle.url.specs.Parts.{Parts}
use Rattle.krb_conf.specs.Kdc.{kdc_host, url_of}
use Rattle.krb_conf.specs.declared.config.KerberosConfig.{KerberosConfig}
use Rattle.krb_conf.specs.declared.env.Env.{Env}
use Rattle.krb_context.specs.declared.context.Kerberos.{Kerberos}
use Rattle.krb_context.specs.declared.context.ContextChange.{ContextChange}
use Rattle.krb_context.specs.declared.params.EncryptionParams.{EncryptionParams}
use Rattle.krb_context.specs.declared.server.ServerProperties.{ServerProperties}
use Rattle.krb_context.specs.declared.state.KerberosState.TheVariants.{TgtExchange}
use Rattle.krb_context.specs.Rules.{no_rules}
use Rattle.krb_context.specs.Params.{or_else}
use Rattle.krb_context.specs.Window.{new_window}

-- a context before its exchange
abbrev pub new_context : EncryptionParams → KerberosConfig → Option ServerProperties → ℕ → Kerberos
new_context params config server number = record {
  state = TgtExchange;
  config = config;
  auth_identity = None;
  encryption_params = params;
  seq_number = number;
  realm = None;
  krb5_user_to_user = false;
  server = server;
  rules = no_rules;
  channel = None;
  asked_at = None;
  window = new_window;
  kept_to_seal = tt;
  kept_to_open = tt;
}

-- an acceptor has a service
abbrev pub is_acceptor : Kerberos → Bool
is_acceptor context = is_some context.server

-- the peer of an initiator is an acceptor
abbrev pub is_peer_acceptor : Kerberos → Bool
is_peer_acceptor context = is_none context.server

-- the number after a number, modulo 2^32
abbrev pub next_number : ℕ → ℕ
next_number number = (number + 1) % 2 ^ 32

-- the number after a number and a count of further messages
abbrev pub number_after_messages : ℕ → ℕ → ℕ
number_after_messages number zero = number
number_after_messages number (suc times) = next_number (number_after_messages number times)

-- the URL of the KDC of a realm: the configured one, otherwise the one that is found
abbrev pub kdc_url_of : KerberosConfig → Env → List ℕ → Option Parts
kdc_url_of config env realm = option_or config.kdc_url (option_and_then url_of (kdc_host env.vars env.files realm))

-- the realm of a context and the URL of its KDC
abbrev pub kdc_of : Kerberos → Env → Option (List ℕ × Parts)
kdc_of context env = option_and_then (λ realm. option_map (λ url. (realm, url)) (kdc_url_of context.config env realm)) context.realm

-- the properties with another primary key, where there is one
abbrev pub with_key : Option (List ℕ) → ServerProperties → ServerProperties
with_key key server = record server { ticket_decryption_key = or_else key server.ticket_decryption_key }

-- the context once an exchange has made its change
abbrev pub settled : Kerberos → ContextChange → Kerberos
settled context change = record context {
  state = change.state;
  realm = change.realm;
  encryption_params = change.encryption_params;
  seq_number = change.seq_number;
  krb5_user_to_user = change.krb5_user_to_user;
  asked_at = change.asked_at;
  server = option_map (with_key change.ticket_decryption_key) context.server;
}
