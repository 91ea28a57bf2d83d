-- The beginning of an initiation, by the context's state and the caller's options.
use Rattle.std.specs.Prelude.{◌≡◌, ℕ, ◌≤◌, ◌^◌, Bool, true, false, is_some, List, length, Option, Result, Err}
use Rattle.krb_conf.specs.Names.{target_parts}
use Rattle.krb_conf.specs.declared.env.Env.{Env}
use Rattle.krb_context.specs.declared.context.Kerberos.{Kerberos}
use Rattle.krb_context.specs.declared.state.KerberosState.{KerberosState}
use Rattle.krb_context.specs.declared.state.KerberosState.TheVariants.{TgtExchange, Preauthentication, ApExchange, Final}
use Rattle.sspi_core.specs.Flags.{has_flag, use_session_key}
use Rattle.sspi_core.specs.declared.flags.ClientRequestFlags.{ClientRequestFlags}
use Rattle.sspi_core.specs.declared.identity.CredentialsBuffers.{CredentialsBuffers}
use Rattle.sspi_core.specs.declared.cause.Cause.{Cause}
use Rattle.sspi_core.specs.declared.cause.Cause.TheVariants.{Sequence, NoTarget, Target, NoIdentity}
use Rattle.sspi_core.specs.Checks.{Holds, Takes, Gives, ◌>>=◌, ◌>>◌}
use Rattle.krb_as.specs.Askers.{asker_of}
use Rattle.krb_as.specs.declared.client.Client.{Client}
use Rattle.krb_as.specs.Clients.{NamesClient, IsShort}
use Rattle.krb_tgs.specs.declared.wanted.Wanted.{Wanted}
use Rattle.krb_ap.specs.declared.initiator.Initiator.{Initiator}
use Rattle.krb_ap.specs.declared.errand.Errand.{Errand}
use Rattle.krb_ap.specs.Initiators.{is_bare, exchange_flags}
use Rattle.krb_initiator.specs.declared.options.InitOptions.{InitOptions}
use Rattle.krb_initiator.specs.declared.tgt.ServiceTgt.{ServiceTgt}
use Rattle.krb_initiator.specs.declared.begin.Identity.{Identity}
use Rattle.krb_initiator.specs.declared.seeker.Seeker.{Seeker}
use Rattle.krb_initiator.specs.declared.seeker.Initiation.{Initiation}
use Rattle.krb_initiator.specs.declared.seeker.Initiation.TheVariants.{Requests, Seeks, Hears}
use Rattle.krb_initiator.specs.Tgts.{TakesTgt}
use Rattle.krb_initiator.specs.TgtReqs.{tgt_token}

-- a target is there, and is a service and its host
unfoldable pub ChecksTarget : List ℕ → Result (List ℕ) Cause → Type 0
ChecksTarget target = do
  Holds Target (is_some (target_parts target))
  Gives target

unfoldable pub NamesTarget : Option (List ℕ) → Result (List ℕ) Cause → Type 0
NamesTarget target = do
  target ← Takes NoTarget target
  ChecksTarget target

-- the client of these credentials, and the asker that speaks for it
abbrev pub identity_of : Kerberos → CredentialsBuffers → Env → Client → Identity
identity_of context credentials env client = record { asker = asker_of context credentials client.realm env; client = client }

unfoldable pub NamesIdentity : Kerberos → CredentialsBuffers → Env → Result Identity Cause → Type 0
NamesIdentity context credentials env = do
  client ← NamesClient credentials context.config.client_computer_name env
  Gives (identity_of context credentials env client)

unfoldable pub Identifies : Kerberos → InitOptions → Result Identity Cause → Type 0
Identifies context options = do
  credentials ← Takes NoIdentity options.credentials
  NamesIdentity context credentials options.env

-- the client and the realm can be sent
pub record IsShortIdentity (identity : Identity) : Type 0 where
  pub client : IsShort identity.client
  pub realm : length identity.asker.realm ≤ 2 ^ 24

-- the context of an initiator, and the options of its exchange with the service
abbrev pub initiator_of : Kerberos → Bool → ClientRequestFlags → Initiator
initiator_of context user_to_user flags = record {
  params = context.encryption_params;
  number = context.seq_number;
  realm = context.realm;
  user_to_user = user_to_user;
  flags = flags;
  rules = context.rules;
  asked_at = context.asked_at;
}

abbrev pub errand_of : Kerberos → InitOptions → Bool → List ℕ → Errand
errand_of context options user_to_user mechanism = record {
  initiator = initiator_of context user_to_user options.flags;
  bindings = options.channel_bindings;
  mechanism = mechanism;
}

-- the request to ticket-granting services
abbrev pub wanted_of : InitOptions → List ℕ → Initiator → Wanted
wanted_of options target initiator = record {
  target = target;
  flags = record { 0 = exchange_flags initiator };
  channel_bindings = options.channel_bindings;
}

-- the token decides whether user-to-user is used
abbrev pub seeker_of : Kerberos → InitOptions → List ℕ → ServiceTgt → Identity → Seeker
seeker_of context options target tgt identity = record {
  asker = identity.asker;
  client = identity.client;
  wanted = wanted_of options target (initiator_of context tgt.user_to_user options.flags);
  tgt = tgt.ticket;
  errand = errand_of context options tgt.user_to_user tgt.mechanism;
}

-- a ticket is fetched: there are a target, a token that is empty or a TGT-REP, and credentials of names that can be asked for
unfoldable pub SeeksTicket : Kerberos → InitOptions → Result Initiation Cause → Type 0
SeeksTicket context options = do
  target ← NamesTarget options.target
  tgt ← TakesTgt (is_bare options.flags) options.token
  identity ← Identifies context options
  Gives (Seeks (seeker_of context options target tgt identity))

-- the service is asked for its own ticket, and so user-to-user is used
unfoldable pub RequestsTgt : Kerberos → InitOptions → Result Initiation Cause → Type 0
RequestsTgt context options = do
  target ← NamesTarget options.target
  Gives (Requests (initiator_of context true options.flags) (tgt_token (is_bare options.flags) target))

-- before the exchange, with or without USE_SESSION_KEY
abbrev pub BeginsNew : Bool → Kerberos → InitOptions → Result Initiation Cause → Type 0
BeginsNew true context options answer = RequestsTgt context options answer
BeginsNew false context options answer = SeeksTicket context options answer

-- the beginning in each state
abbrev pub BeginsIn : KerberosState → Kerberos → InitOptions → Result Initiation Cause → Type 0
BeginsIn TgtExchange context options answer = BeginsNew (has_flag options.flags.0 use_session_key) context options answer
BeginsIn Preauthentication context options answer = SeeksTicket context options answer
BeginsIn ApExchange context options answer = Gives (Hears (initiator_of context context.krb5_user_to_user options.flags) options.token) answer
BeginsIn Final context options answer = answer ≡ Err Sequence

abbrev pub BeginsInitiation : Kerberos → InitOptions → Result Initiation Cause → Type 0
BeginsInitiation context options answer = BeginsIn context.state context options answer
