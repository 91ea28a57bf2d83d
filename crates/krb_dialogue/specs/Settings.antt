-- The settings of a dialogue.
use Rattle.std.specs.Prelude.{◌≡◌, ℕ, ◌==◌, ◌||◌, List, [], ◌∷◌, ◌++◌, Option, Some, None, Result, Ok, if◌then◌else◌}
use Rattle.std.specs.List.{flat_map}
use Rattle.krb_as.specs.declared.key.Grant.{Grant}
use Rattle.krb_ccache.specs.Finding.{found, found_tgt}
use Rattle.krb_ccache.specs.declared.ccache.Ccache.{Ccache}
use Rattle.krb_ccache.specs.declared.credential.Credential.{Credential}
use Rattle.krb_conf.specs.Names.{target_parts}
use Rattle.krb_crypto.specs.Suite.{suite_number}
use Rattle.krb_tickets.specs.Cached.{HoldsCredential}
use Rattle.krb_conf.specs.Kdc.{url_of, with_protocol}
use Rattle.krb_context.specs.Contexts.{new_context}
use Rattle.krb_context.specs.Params.{default_params}
use Rattle.krb_context.specs.declared.context.Kerberos.{Kerberos}
use Rattle.krb_context.specs.Rules.{rfc_rules}
use Rattle.krb_context.specs.declared.rules.Rules.{Rules}
use Rattle.krb_initiator.specs.declared.options.InitOptions.{InitOptions}
use Rattle.sspi_core.specs.declared.bindings.ChannelBindings.{ChannelBindings}
use Rattle.sspi_core.specs.declared.flags.ClientRequestFlags.{ClientRequestFlags}
use Rattle.sspi_core.specs.declared.identity.CredentialsBuffers.{CredentialsBuffers}
use Rattle.sspi_core.specs.declared.identity.CredentialsBuffers.TheVariants.{AuthIdentity as Password, Keytab as Key}
use Rattle.sspi_core.specs.declared.identity.KeytabIdentity.{KeytabIdentity}
use Rattle.sspi_core.specs.declared.cause.Cause.{Cause}
use Rattle.sspi_core.specs.declared.cause.Cause.TheVariants.{Etype, BadUser, Bindings, NoTarget, Target, NoIdentity}
use Rattle.sspi_core.specs.Bindings.{is_bindings, bindings}
use Rattle.sspi_core.specs.Checks.{Holds, Takes, Gives, ◌>>=◌, ◌>>◌}
use Rattle.sspi_core.specs.Usernames.{UserName, UserPrincipal, user_name, parsed}
use Rattle.krb_dialogue.specs.declared.dialogue.Dialogue.{Dialogue}
use Rattle.krb_dialogue.specs.declared.dialogue.Turn.TheVariants.{Rests}
use Rattle.krb_dialogue.specs.declared.tickets.CacheTicket.{CacheTicket}
use Rattle.krb_dialogue.specs.declared.tickets.CacheTicket.TheVariants.{Service, Granting}
use Rattle.krb_sessions.specs.declared.order.Order.TheVariants.{Any}

-- an initiator at this machine, with no KDC of its own, before its exchange, that goes by the RFCs
abbrev pub first_context : List ℕ → ℕ → Kerberos
first_context machine number =
    record (new_context (default_params 24 22) (record { kdc_url = None; client_computer_name = machine }) None number) { rules = rfc_rules }

-- the service alone is asked for: by nobody, with no channel below, and with no variable and no file
abbrev pub first_options : List ℕ → ClientRequestFlags → InitOptions
first_options target flags = record {
  flags = flags;
  target = Some target;
  token = [];
  credentials = None;
  channel_bindings = None;
  env = record { vars = []; files = [] };
}

-- a new dialogue, with no token, no ticket and no client
pub record IsNew (target machine : List ℕ) (flags : ClientRequestFlags) (number : ℕ) (dialogue : Dialogue) : Type 0 where
  pub options : dialogue.options ≡ first_options target flags
  pub context : dialogue.session.connection ≡ first_context machine number
  pub token : dialogue.session.answer ≡ []
  pub order : dialogue.session.order ≡ Any
  pub client : dialogue.session.client ≡ None
  pub turn : dialogue.turn ≡ Rests
  pub held : dialogue.held ≡ None

-- with other credentials, and no ticket
abbrev pub with_credentials : CredentialsBuffers → Dialogue → Dialogue
with_credentials credentials dialogue = record dialogue { options = record dialogue.options { credentials = Some credentials }; held = None }

-- with a ticket, and the credentials of its client
abbrev pub with_ticket : CredentialsBuffers → Grant → Dialogue → Dialogue
with_ticket credentials held dialogue = record dialogue { options = record dialogue.options { credentials = Some credentials }; held = Some held }

abbrev pub with_bindings : ChannelBindings → Dialogue → Dialogue
with_bindings bindings dialogue = record dialogue { options = record dialogue.options { channel_bindings = Some bindings } }

-- one more variable, or file, after the existing ones
abbrev pub with_variable : List ℕ → List ℕ → Dialogue → Dialogue
with_variable name value dialogue =
    record dialogue { options = record dialogue.options { env = record dialogue.options.env { vars = dialogue.options.env.vars ++ (name, value) ∷ [] } } }

abbrev pub with_file : List ℕ → List ℕ → Dialogue → Dialogue
with_file path text dialogue =
    record dialogue { options = record dialogue.options { env = record dialogue.options.env { files = dialogue.options.env.files ++ (path, text) ∷ [] } } }

-- the KDC at this address, if it is one
abbrev pub with_kdc : List ℕ → Dialogue → Dialogue
with_kdc address dialogue =
    record dialogue {
      session = record dialogue.session {
        connection = record dialogue.session.connection {
          config = record dialogue.session.connection.config { kdc_url = url_of (with_protocol address) };
        };
      };
    }

-- the context goes by these rules
abbrev pub with_rules : Rules → Dialogue → Dialogue
with_rules rules dialogue =
    record dialogue { session = record dialogue.session { connection = record dialogue.session.connection { rules = rules } } }

-- a user with a password, and one with a key
abbrev pub password_of : List ℕ → List ℕ → List ℕ → CredentialsBuffers
password_of user domain password = Password (record { user = user; domain = domain; password = password })

-- bindings to the application's data alone (as a TLS channel's, RFC 5929)
abbrev pub data_bindings : List ℕ → ChannelBindings
data_bindings octets = record {
  initiator_addr_type = 0;
  initiator = [];
  acceptor_addr_type = 0;
  acceptor = [];
  application_data = octets;
}

-- the user that the text names, with a key of this type
pub record SetsKey (principal : List ℕ) (etype : ℕ) (key : List ℕ) (old new : Dialogue) : Type 0 where
  pub user : UserName
  pub named : parsed principal ≡ Some user
  pub identity : KeytabIdentity
  pub is_user : identity.principal ≡ user
  pub is_type : identity.key_enctype ≡ etype
  pub is_key : identity.key ≡ key
  pub set : new ≡ with_credentials (Key identity) old

-- the type is one of AES (RFC 3962, section 7), and the text names a user
unfoldable pub NamesKey : List ℕ → ℕ → Result UserName Cause → Type 0
NamesKey principal etype = do
  Holds Etype (etype == 17 || etype == 18)
  Takes BadUser (parsed principal)

-- ---- a ticket

-- the components of a name, with a `/` between two
abbrev pub account_of : List (List ℕ) → List ℕ
account_of [] = []
account_of (first ∷ further) = first ++ flat_map (λ part. 0x2f ∷ part) further

-- the user that is the client of a ticket; a name with a `\`, and a realm with a `\` or an `@`, is none of a user
abbrev pub NamesHolder : Grant → Result UserName Cause → Type 0
NamesHolder held = Takes BadUser (user_name (UserPrincipal (account_of held.rep.cname.name_string) held.rep.crealm))

-- the ticket's client asks, with the ticket, whose session key is in the place of a key of a keytab
pub record SetsTicket (held : Grant) (old new : Dialogue) : Type 0 where
  pub user : UserName
  pub named : user ≡ UserPrincipal (account_of held.rep.cname.name_string) held.rep.crealm
  pub identity : KeytabIdentity
  pub is_user : identity.principal ≡ user
  pub is_type : identity.key_enctype ≡ suite_number held.suite
  pub is_key : identity.key ≡ held.key
  pub set : new ≡ with_ticket (Key identity) held old

-- the service's own ticket, or otherwise the one with which the KDC of the client's realm can be asked for it
abbrev pub either : Option Credential → Option Credential → Option (CacheTicket × Credential)
either (Some own) tgt = Some (Service, own)
either None (Some tgt) = Some (Granting, tgt)
either None None = None

abbrev pub ticket_in : Ccache → ℕ → List ℕ × List ℕ → Option (CacheTicket × Credential)
ticket_in cache seconds parts =
    either (found cache.principal cache.credentials (parts.0 ∷ parts.1 ∷ []) seconds) (found_tgt cache.principal cache.credentials seconds)

-- the ticket of a credential, and which one it is
unfoldable pub HoldsAs : CacheTicket × Credential → Result (CacheTicket × Grant) Cause → Type 0
HoldsAs found = do
  held ← HoldsCredential found.1
  Gives (found.0, held)

-- the ticket of a cache for a service on a host, in a second
unfoldable pub FindsAt : Ccache → ℕ → List ℕ × List ℕ → Result (CacheTicket × Grant) Cause → Type 0
FindsAt cache seconds parts = do
  found ← Takes NoIdentity (ticket_in cache seconds parts)
  HoldsAs found

-- for a target
unfoldable pub FindsFor : List ℕ → Ccache → ℕ → Result (CacheTicket × Grant) Cause → Type 0
FindsFor target cache seconds = do
  parts ← Takes Target (target_parts target)
  FindsAt cache seconds parts

unfoldable pub FindsTicket : Option (List ℕ) → Ccache → ℕ → Result (CacheTicket × Grant) Cause → Type 0
FindsTicket target cache seconds = do
  target ← Takes NoTarget target
  FindsFor target cache seconds

-- and its client
unfoldable pub NamesCacheHolder : Option (List ℕ) → Ccache → ℕ → Result UserName Cause → Type 0
NamesCacheHolder target cache seconds = do
  found ← FindsTicket target cache seconds
  NamesHolder found.1

-- the ticket that is found is set
abbrev pub SetsCache : Ccache → ℕ → CacheTicket → Dialogue → Dialogue → Type 0
SetsCache cache seconds which old new =
    (held : Grant) × FindsTicket old.options.target cache seconds (Ok (which, held)) × SetsTicket held old new

-- the octets are bindings
abbrev pub AreBindings : List ℕ → Result ChannelBindings Cause → Type 0
AreBindings octets = Takes Bindings (if is_bindings octets then Some (bindings octets) else None)
