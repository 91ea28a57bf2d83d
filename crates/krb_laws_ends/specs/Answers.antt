-- The answer of an acceptor to an honest offer, and the state of both ends once the answer was taken (RFC 4120, section 3.2.5; in DCE
-- style MS-KILE, section 3.4.5.1).
use Rattle.std.specs.Prelude.{◌≡◌, ℕ, ◌^◌, ◌%◌, ◌<◌, ◌≤◌, pos, Bool, true, false, List, [], length, Option, Some, None, Result, Ok}
use Rattle.krb_aes.specs.Octets.{IsOctets}
use Rattle.krb_der.specs.Integer.{integer_value}
use Rattle.krb_crypto.specs.declared.suite.CipherSuite.{CipherSuite}
use Rattle.krb_conf.specs.declared.env.Env.{Env}
use Rattle.krb_messages.specs.declared.authenticator.Authenticator.{Authenticator}
use Rattle.krb_requests.specs.Pieces.{whole_second}
use Rattle.krb_context.specs.Rules.{has_rule, answers_its_authenticator}
use Rattle.krb_context.specs.declared.context.Kerberos.{Kerberos}
use Rattle.krb_context.specs.declared.state.KerberosState.TheVariants.{ApExchange, Final}
use Rattle.krb_context.specs.Contexts.{settled as with_change}
use Rattle.krb_context.specs.Params.{suite_of}
use Rattle.krb_context.specs.Peers.{ArePeers}
use Rattle.krb_replay.specs.declared.ask.Ask.{Ask}
use Rattle.krb_replay.specs.declared.ask.Verdict.{Verdict}
use Rattle.krb_replay.specs.declared.ask.Verdict.TheVariants.{Admitted}
use Rattle.krb_as.specs.declared.done.InitDone.{InitDone}
use Rattle.krb_as.specs.declared.turn.Turn.TheVariants.{Ends}
use Rattle.krb_initiator.specs.declared.options.InitOptions.{InitOptions}
use Rattle.krb_initiator.specs.declared.seeker.Initiation.{Initiation}
use Rattle.krb_initiator.specs.declared.seeker.InitPhase.TheVariants.{New}
use Rattle.krb_initiator.specs.Beginnings.{BeginsInitiation}
use Rattle.krb_initiator.specs.InitRuns.{Starts}
use Rattle.krb_admission.specs.declared.admission.Admission.{Admission}
use Rattle.krb_context.specs.Drawn.{drawn_key}
use Rattle.krb_admission.specs.Admission.{mutual_admission, answer_for, settled}
use Rattle.krb_admission.specs.Requests.{ask_of}
use Rattle.krb_server.specs.declared.accept.Accepted.{Accepted}
use Rattle.krb_server.specs.declared.accept.Accepted.TheVariants.{Done}
use Rattle.krb_server.specs.Whole.{accepted_as, AcceptsWhole}
use Rattle.sspi_core.specs.declared.cause.Cause.{Cause}
use Rattle.sspi_core.specs.declared.draw.Draw.{Draw}
use Rattle.sspi_core.specs.declared.results.SecurityStatus.{SecurityStatus}
use Rattle.sspi_core.specs.declared.results.SecurityStatus.TheVariants.{Ok as Complete, ContinueNeeded}
use Rattle.sspi_core.specs.Usernames.{UserName}
use Rattle.krb_laws_ends.specs.Offers.{Offer, request_of}

-- what an acceptor makes of an honest offer: a client is admitted, with an AP-REP
abbrev pub admission_for : Kerberos → Draw → Option UserName → Offer → Admission
admission_for server draw client offer = mutual_admission offer.dce server.krb5_user_to_user server.seq_number draw (request_of offer) client

-- a gate is asked, and where it admits, the AP-REP is the answer and the context is settled
pub record IsAnswered {G : Type 0} (admits : G → Ask → Verdict → G → Type 0) (server : Kerberos) (draw : Draw) (client : Option UserName)
    (offer : Offer) (old : G) (answer : Result Accepted Cause) (server' : Kerberos) (new : G) : Type 0 where
  pub verdict : Verdict
  pub asked : admits old (ask_of server.rules (request_of offer) draw.moment) verdict new
  pub answered : verdict ≡ Admitted → answer ≡ Ok (accepted_as (answer_for (admission_for server draw client offer)))
  pub made : verdict ≡ Admitted → server' ≡ settled server (admission_for server draw client offer)

-- all that a gate may do from one state to another is to admit
abbrev pub AdmitsOnly : {G : Type 0} → (G → Ask → Verdict → G → Type 0) → G → Ask → G → Type 0
AdmitsOnly admits old ask new = (verdict : Verdict) → admits old ask verdict new → verdict ≡ Admitted

-- what a step may use of the outside: 64 octets, and a moment up to the end of 9999-12-28
pub record IsDraw (draw : Draw) : Type 0 where
  pub size : length draw.random ≡ 64
  pub octets : IsOctets draw.random
  pub moment : draw.moment ≤ 253402041599999999

-- a context keeps the moment of an authenticator, by the values of both fields of its time (RFC 4120, section 5.5.1)
pub record KeepsTime (asked_at : Option ℕ) (authenticator : Authenticator) : Type 0 where
  pub moment : ℕ
  pub asked : asked_at ≡ Some moment
  pub second : authenticator.ctime ≡ whole_second moment
  pub microsecond : integer_value authenticator.cusec ≡ pos (moment % 1000000)

-- an initiator that made this offer: it has the ticket's suite and session key, and awaits the answer. Where an AP-REP has to have the time
-- of its authenticator, the context keeps that of the offer's
pub record Offered (initiator : Kerberos) (offer : Offer) : Type 0 where
  pub role : initiator.server ≡ None
  pub state : initiator.state ≡ ApExchange
  pub suite : suite_of initiator.encryption_params ≡ offer.suite
  pub key : initiator.encryption_params.session_key ≡ Some offer.part.key.key_value
  pub time : has_rule initiator.rules answers_its_authenticator ≡ true → KeepsTime initiator.asked_at offer.authenticator

-- an initiator that is called with a token comes to its end at the start
pub record Hears (context : Kerberos) (options : InitOptions) (token : List ℕ) (draw : Draw) (done : InitDone) : Type 0 where
  pub initiation : Initiation
  pub begins : BeginsInitiation context (record options { token = token }) (Ok initiation)
  pub ends : Starts initiation New draw (Ok (Ends done))

-- an acceptor's answer is a token with this status, and the initiator that is called with it is done
pub record IsTaken (initiator : Kerberos) (options : InitOptions) (draw : Draw) (status : SecurityStatus) (answer : Result Accepted Cause)
    (done : InitDone) : Type 0 where
  pub token : List ℕ
  pub answered : answer ≡ Ok (Done status token true)
  pub hears : Hears initiator options token draw done
  pub complete : done.status ≡ Complete

-- an end is established, with these keys in this suite and an EC of `ec` octets
pub record HaveKeys (suite : CipherSuite) (session_key sub_session_key : List ℕ) (ec : ℕ) (context : Kerberos) : Type 0 where
  pub state : context.state ≡ Final
  pub suite_is : suite_of context.encryption_params ≡ suite
  pub session : context.encryption_params.session_key ≡ Some session_key
  pub sub_session : context.encryption_params.sub_session_key ≡ Some sub_session_key
  pub filler : context.encryption_params.ec ≡ ec

-- two ends that have opened no message, with one EC
pub record AreNew (initiator acceptor : Kerberos) : Type 0 where
  pub filler : initiator.encryption_params.ec ≡ acceptor.encryption_params.ec
  pub small : acceptor.encryption_params.ec < 2 ^ 16
  pub initiator_number : initiator.seq_number < 2 ^ 32
  pub acceptor_number : acceptor.seq_number < 2 ^ 32
  pub initiator_window : initiator.window.mask ≡ 0
  pub acceptor_window : acceptor.window.mask ≡ 0

-- both ends are, each is the other's peer, and all messages are before them
pub record AreEstablished (initiator acceptor : Kerberos) (suite : CipherSuite) (session_key sub_session_key : List ℕ) (ec : ℕ) : Type 0 where
  pub initiator_keys : HaveKeys suite session_key sub_session_key ec initiator
  pub acceptor_keys : HaveKeys suite session_key sub_session_key ec acceptor
  pub there : ArePeers initiator acceptor
  pub back : ArePeers acceptor initiator
  pub unopened : AreNew initiator acceptor

-- the sub-session key is the one that the acceptor drew
abbrev pub AreEstablishedBy : Offer → Draw → ℕ → Kerberos → Kerberos → Type 0
AreEstablishedBy offer draw ec initiator acceptor = AreEstablished initiator acceptor offer.suite offer.part.key.key_value (drawn_key offer.suite draw) ec

-- an exchange that ended well: the initiator takes the acceptor's answer, says nothing more, and both ends are established
pub record EndsWell (initiator acceptor : Kerberos) (options : InitOptions) (own draw : Draw) (offer : Offer) (answer : Result Accepted Cause) : Type 0 where
  pub done : InitDone
  pub taken : IsTaken initiator options own Complete answer done
  pub nothing : done.token ≡ []
  pub established : AreEstablishedBy offer draw acceptor.encryption_params.ec (with_change initiator done.change) acceptor

-- the third leg of an initiator is taken, whatever its acceptor draws and whatever its gate has seen: the gate is not asked
pub record IsTakenToo {G : Type 0} (initiator : Kerberos) (draw : Draw) (offer : Offer) (old new : G) (answer : Result Accepted Cause)
    (acceptor : Kerberos) : Type 0 where
  pub answered : answer ≡ Ok (Done Complete [] false)
  pub stays : new ≡ old
  pub established : AreEstablishedBy offer draw 16 initiator acceptor

-- an exchange in DCE style that ended well: the initiator takes the acceptor's answer, the acceptor takes the third leg in turn, and
-- both ends are established
pub record EndsWellInTurn {G : Type 0} (admits : G → Ask → Verdict → G → Type 0) (initiator acceptor : Kerberos) (options : InitOptions)
    (own draw : Draw) (offer : Offer) (answer : Result Accepted Cause) : Type 0 where
  pub done : InitDone
  pub taken : IsTaken initiator options own ContinueNeeded answer done
  pub last : (env : Env) (other : Draw) (old new : G) (last_answer : Result Accepted Cause) (after : Kerberos)
      → AcceptsWhole admits acceptor true done.token env other old last_answer after new
      → IsTakenToo (with_change initiator done.change) draw offer old new last_answer after

-- in the one style or the other
abbrev pub EndsWellIn : {G : Type 0} → Bool → (G → Ask → Verdict → G → Type 0) → Kerberos → Kerberos → InitOptions → Draw → Draw → Offer
    → Result Accepted Cause → Type 0
EndsWellIn true admits initiator acceptor options own draw offer answer = EndsWellInTurn admits initiator acceptor options own draw offer answer
EndsWellIn false admits initiator acceptor options own draw offer answer = EndsWell initiator acceptor options own draw offer answer
