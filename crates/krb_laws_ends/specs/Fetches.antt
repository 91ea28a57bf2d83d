-- How an initiator fetches the ticket of a service, and what it ends with.
use Rattle.std.specs.Prelude.{◌≡◌, ℕ, ◌<◌, ◌≤◌, ◌^◌, false, true, is_some, List, [], ◌∷◌, length, Some, None, Ok}
use Rattle.krb_crypto.specs.declared.suite.CipherSuite.{CipherSuite}
use Rattle.krb_conf.specs.Names.{target_parts}
use Rattle.krb_messages.specs.declared.enc_ticket_part.EncTicketPart.{EncTicketPart}
use Rattle.krb_exchange.specs.declared.kdc_rep.TgsRep.{TgsRep}
use Rattle.krb_context.specs.declared.context.Kerberos.{Kerberos}
use Rattle.krb_context.specs.declared.state.KerberosState.TheVariants.{TgtExchange}
use Rattle.krb_context.specs.declared.server.ServerProperties.{ServerProperties}
use Rattle.krb_context.specs.Contexts.{settled}
use Rattle.krb_context.specs.ServiceKeys.{service_key as key_of_service}
use Rattle.krb_context.specs.States.{is_waiting}
use Rattle.sspi_core.specs.declared.draw.Draw.{Draw}
use Rattle.sspi_core.specs.declared.identity.CredentialsBuffers.{CredentialsBuffers}
use Rattle.sspi_core.specs.declared.results.SecurityStatus.TheVariants.{ContinueNeeded}
use Rattle.sspi_core.specs.Flags.{has_flag, mutual_auth, use_session_key}
use Rattle.sspi_generator.specs.declared.network.NetworkRequest.{NetworkRequest}
use Rattle.krb_as.specs.declared.done.InitDone.{InitDone}
use Rattle.krb_as.specs.declared.turn.Turn.TheVariants.{Asks, Ends}
use Rattle.krb_as.specs.declared.client.Client.{Client}
use Rattle.krb_as.specs.Clients.{NamesClient}
use Rattle.krb_authenticators.specs.Authenticators.{checksum}
use Rattle.krb_ap.specs.Initiators.{exchange_flags, is_bare}
use Rattle.krb_ap.specs.Shown.{gss_checksum}
use Rattle.krb_initiator.specs.declared.options.InitOptions.{InitOptions}
use Rattle.krb_initiator.specs.declared.seeker.Seeker.{Seeker}
use Rattle.krb_initiator.specs.declared.seeker.Initiation.TheVariants.{Seeks}
use Rattle.krb_initiator.specs.declared.seeker.InitPhase.{InitPhase}
use Rattle.krb_initiator.specs.declared.seeker.InitPhase.TheVariants.{New}
use Rattle.krb_initiator.specs.Beginnings.{identity_of, seeker_of}
use Rattle.krb_initiator.specs.InitRuns.{Starts, Next}
use Rattle.krb_initiator.specs.Tgts.{no_tgt}
use Rattle.krb_laws_ends.specs.Answers.{KeepsTime, Offered}
use Rattle.krb_laws_ends.specs.HonestKdc.{Step, Answers, steps_of}
use Rattle.krb_tgs.specs.TgsAsked.{service_of}
use Rattle.krb_laws_ends.specs.Offers.{Offer, offered_token, IsHonest}

-- an initiator before its exchange, whose caller asks for mutual authentication by a service of two parts, not for user-to-user, and
-- speaks for a client whose names are ASCII
pub record CanBegin (context : Kerberos) (options : InitOptions) (target : List ℕ) (credentials : CredentialsBuffers) (client : Client) : Type 0 where
  pub role : context.server ≡ None
  pub state : context.state ≡ TgtExchange
  pub mutual_asked : has_flag options.flags.0 mutual_auth ≡ true
  pub alone : has_flag options.flags.0 use_session_key ≡ false
  pub has_target : options.target ≡ Some target
  pub two_parts : is_some (target_parts target) ≡ true
  pub no_token : options.token ≡ []
  pub has_credentials : options.credentials ≡ Some credentials
  pub named : NamesClient credentials context.config.client_computer_name options.env (Ok client)

-- what it is to fetch, and with what it goes to the service
abbrev pub seeker_for : Kerberos → InitOptions → List ℕ → CredentialsBuffers → Client → Seeker
seeker_for context options target credentials client = seeker_of context options target no_tgt (identity_of context credentials options.env client)

-- the replies lead a run from a phase to its end: each but the last to one more request
abbrev pub Leads : Seeker → InitPhase → List Step → Step → InitDone → Type 0
Leads seeker phase [] last done = Next (Seeks seeker) phase (Ok last.reply) last.draw (Ok (Ends done))
Leads seeker phase (step ∷ steps) last done =
    (request : NetworkRequest) × (next : InitPhase) × Next (Seeks seeker) phase (Ok step.reply) step.draw (Ok (Asks request next))
    × Leads seeker next steps last done

-- a run asks at its start, and the replies lead it to its end
pub record Fetches (seeker : Seeker) (draw : Draw) (answers : Answers) (done : InitDone) : Type 0 where
  pub request : NetworkRequest
  pub phase : InitPhase
  pub starts : Starts (Seeks seeker) New draw (Ok (Asks request phase))
  pub leads : Leads seeker phase (steps_of answers) answers.last done

-- mutual authentication is asked for, and the mechanism's name is short
pub record AsksMutual (seeker : Seeker) : Type 0 where
  pub asked : has_flag (exchange_flags seeker.errand.initiator) mutual_auth ≡ true
  pub named : 0 < length seeker.errand.mechanism
  pub short : length seeker.errand.mechanism ≤ 2 ^ 10

-- the run ends with a token, the AP-REQ of an honest offer with this ticket and the initiator's bindings, and the context awaits the answer
-- and keeps the moment of the authenticator
pub record EndsWithOffer (context : Kerberos) (seeker : Seeker) (service_key : List ℕ) (suite : CipherSuite) (draw : Draw)
    (answers : Answers) (rep : TgsRep) (part : EncTicketPart) : Type 0 where
  pub done : InitDone
  pub fetches : Fetches seeker draw answers done
  pub status : done.status ≡ ContinueNeeded
  pub offer : Offer
  pub token : done.token ≡ offered_token offer
  pub suite_is : offer.suite ≡ suite
  pub ticket : offer.ticket ≡ rep.0.ticket
  pub part_is : offer.part ≡ part
  pub style : offer.dce ≡ is_bare seeker.errand.initiator.flags
  pub honest : IsHonest service_key offer
  pub filler_stays : done.change.encryption_params.ec ≡ seeker.errand.initiator.params.ec
  pub number_stays : done.change.seq_number ≡ seeker.errand.initiator.number
  pub cksum : offer.authenticator.cksum ≡ Some (checksum seeker.errand.bindings (gss_checksum seeker.errand.initiator.flags.0))
  pub time : KeepsTime done.change.asked_at offer.authenticator
  pub offered : Offered (settled context done.change) offer

-- an acceptor that waits for a token and holds this key of a target's service
pub record HoldsKey (acceptor : Kerberos) (target service_key : List ℕ) : Type 0 where
  pub waits : is_waiting acceptor.state ≡ true
  pub properties : ServerProperties
  pub has : acceptor.server ≡ Some properties
  pub holds : key_of_service properties (service_of target) ≡ Some service_key
