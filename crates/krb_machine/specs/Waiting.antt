-- The fact that a run waits for an answer has at most one proof.
use Rattle.std.specs.Prelude.{ℕ, List, [], ◌∷◌, Option, Some, None, IfSome}
use Rattle.std.specs.List.{AllByRecursion}
use Rattle.std.specs.Coded.{×_prop, Unit-prop, le_prop, Coded-set, coded_list, coded_ℕ}
use Rattle.std.proofs.Common.{ap, ◌∙◌}
use Rattle.krb_der.specs.Layout.{Layout}
use Rattle.krb_der.specs.Schema.{Kind, Fields, Of, Row, integer, error_code, text, octet_string, bits, time, boolean, sequence_of}
use Rattle.krb_der.specs.Schema.{sequence, application, nothing, required, optional, IsComplete, IsCompleteRow}
use Rattle.krb_authenticators.specs.Bindings.{AreShortBindings}
use Rattle.krb_as.specs.AsPhases as as_phases
use Rattle.krb_as.specs.AsPhases.{IsSealed}
use Rattle.krb_as.specs.Clients.{IsShort}
use Rattle.krb_as.specs.declared.as_phase.AsPhase.{AsPhase}
use Rattle.krb_as.specs.declared.as_phase.AsPhase.TheVariants.{AwaitsError, AwaitsAsRep}
use Rattle.krb_as.specs.declared.asker.Asker.{Asker}
use Rattle.krb_as.specs.declared.client.Client.{Client}
use Rattle.krb_as.specs.declared.key.SealedTime.{SealedTime}
use Rattle.krb_ap.specs.Shown.{CanGo}
use Rattle.krb_ap.specs.declared.errand.Errand.{Errand}
use Rattle.krb_initiator.specs.InitRuns as initiations
use Rattle.krb_initiator.specs.Seekers.{CanSeek}
use Rattle.krb_initiator.specs.declared.seeker.InitPhase.{InitPhase}
use Rattle.krb_initiator.specs.declared.seeker.InitPhase.TheVariants as init_phases
use Rattle.krb_initiator.specs.declared.seeker.Initiation.{Initiation}
use Rattle.krb_initiator.specs.declared.seeker.Initiation.TheVariants.{Requests, Seeks, Hears}
use Rattle.krb_initiator.specs.declared.seeker.Seeker.{Seeker}
use Rattle.krb_requests.specs.Pieces.{Fits}
use Rattle.krb_user_to_user.specs.declared.steps.AcceptPhase.{AcceptPhase}
use Rattle.krb_user_to_user.specs.declared.steps.AcceptPhase.TheVariants.{New, InAsExchange, Over}
use Rattle.krb_user_to_user.specs.AcceptRuns as acceptances
use Rattle.sspi_core.specs.declared.bindings.ChannelBindings.{ChannelBindings}
use Rattle.krb_machine.specs.Runs.{IsWaiting}
use Rattle.krb_machine.specs.declared.run.Run.{Run}
use Rattle.krb_machine.specs.declared.run.Run.TheVariants.{Accepts, Initiates}

-- a fact about all values, or about an optional one, has at most one proof if it has at most one for each value
all-prop : {A : Type 0} (P : A → Type 0) → ((value : A) → IsProp (P value)) → (values : List A) → IsProp (AllByRecursion P values)
all-prop P one [] = Unit-prop
all-prop P one (value ∷ values) = ×_prop (one value) (all-prop P one values)

some-prop : {A : Type 0} (P : A → Type 0) → ((value : A) → IsProp (P value)) → (value : Option A) → IsProp (IfSome value P)
some-prop P one None = Unit-prop
some-prop P one (Some value) = one value

mutual
  complete-prop : (kind : Kind) (value : Of kind) → IsProp (IsComplete kind value)
  complete-prop integer octets = le_prop
  complete-prop error_code octets = Unit-prop
  complete-prop text octets = Unit-prop
  complete-prop octet_string octets = Unit-prop
  complete-prop bits value = le_prop
  complete-prop time seconds = Unit-prop
  complete-prop boolean b = Unit-prop
  complete-prop (sequence_of item) values = all-prop (IsComplete item) (λ value. complete-prop item value) values
  complete-prop (sequence fields) row = row-prop fields row
  complete-prop (application n kind) value = complete-prop kind value

  row-prop : (fields : Fields) (row : Row fields) → IsProp (IsCompleteRow fields row)
  row-prop nothing row = Unit-prop
  row-prop (required n kind fields) row = ×_prop (complete-prop kind row.0) (row-prop fields row.1)
  row-prop (optional n kind fields) row = ×_prop (some-prop (IsComplete kind) (λ value. complete-prop kind value) row.0) (row-prop fields row.1)

fits-prop : {A : Type 0} (layout : Layout A) (limit : ℕ) (value : A) → IsProp (Fits layout limit value)
fits-prop layout limit value x y =
    ap (λ complete. record { complete = complete; short = x.short }) (complete-prop layout.kind (layout.view value) x.complete y.complete)
    ∙ ap (λ short. record { complete = y.complete; short = short }) (le_prop x.short y.short)

-- an AS exchange
sealed-prop : (asker : Asker) (sealed : SealedTime) → IsProp (IsSealed asker sealed)
sealed-prop asker sealed x y =
    ap (λ realm. record { realm = realm; key = x.key }) (le_prop x.realm y.realm)
    ∙ ap (λ key. record { realm = y.realm; key = key }) (Coded-set (coded_list coded_ℕ) _ _ x.key y.key)

as-prop : (asker : Asker) (phase : AsPhase) → IsProp (as_phases.IsAwaiting asker phase)
as-prop asker (AwaitsError kdc body) = ×_prop (fits-prop _ _ body) le_prop
as-prop asker (AwaitsAsRep sealed) = sealed-prop asker sealed

-- a service that fetches its ticket
awaiting-prop : (asker : Asker) (phase : AcceptPhase) → IsProp (acceptances.IsAwaiting asker phase)
awaiting-prop asker (New client) = λ x y. absurd x
awaiting-prop asker (InAsExchange phase) = as-prop asker phase
awaiting-prop asker Over = λ x y. absurd x

-- an initiator
phase-prop : (asker : Asker) (phase : InitPhase) → IsProp (initiations.IsAwaiting asker phase)
phase-prop asker init_phases.New = λ x y. absurd x
phase-prop asker (init_phases.InAsExchange phase) = as-prop asker phase
phase-prop asker (init_phases.AwaitsTgsRep leg) = Unit-prop
phase-prop asker init_phases.Over = λ x y. absurd x

client-prop : (client : Client) → IsProp (IsShort client)
client-prop client x y =
    ap (λ name. record { name = name; realm = x.realm; host = x.host }) (le_prop x.name y.name)
    ∙ ap (λ realm. record { name = y.name; realm = realm; host = x.host }) (le_prop x.realm y.realm)
    ∙ ap (λ host. record { name = y.name; realm = y.realm; host = host }) (le_prop x.host y.host)

bindings-prop : (bindings : ChannelBindings) → IsProp (AreShortBindings bindings)
bindings-prop bindings x y =
    ap (λ initiator. record { initiator = initiator; acceptor = x.acceptor; application_data = x.application_data }) (le_prop x.initiator y.initiator)
    ∙ ap (λ acceptor. record { initiator = y.initiator; acceptor = acceptor; application_data = x.application_data }) (le_prop x.acceptor y.acceptor)
    ∙ ap (λ data_. record { initiator = y.initiator; acceptor = y.acceptor; application_data = data_ }) (le_prop x.application_data y.application_data)

go-prop : (errand : Errand) → IsProp (CanGo errand)
go-prop errand x y =
    ap (λ bindings. record { bindings = bindings; named = x.named; mechanism = x.mechanism })
    (some-prop AreShortBindings bindings-prop errand.bindings x.bindings y.bindings)
    ∙ ap (λ named. record { bindings = y.bindings; named = named; mechanism = x.mechanism }) (le_prop x.named y.named)
    ∙ ap (λ mechanism. record { bindings = y.bindings; named = y.named; mechanism = mechanism }) (le_prop x.mechanism y.mechanism)

seek-prop : (seeker : Seeker) → IsProp (CanSeek seeker)
seek-prop seeker x y =
    ap (λ client. record x { client = client }) (client-prop seeker.client x.client y.client)
    ∙ ap (λ realm. record x { client = y.client; realm = realm }) (le_prop x.realm y.realm)
    ∙ ap (λ target. record y { target = target; bindings = x.bindings; tickets = x.tickets; errand = x.errand }) (le_prop x.target y.target)
    ∙ ap (λ bindings. record y { bindings = bindings; tickets = x.tickets; errand = x.errand })
    (some-prop AreShortBindings bindings-prop seeker.wanted.channel_bindings x.bindings y.bindings)
    ∙ ap (λ tickets. record y { tickets = tickets; errand = x.errand }) (some-prop _ (λ tickets. fits-prop _ _ tickets) _ x.tickets y.tickets)
    ∙ ap (λ errand. record y { errand = errand }) (go-prop seeker.errand x.errand y.errand)

initiation-prop : (initiation : Initiation) (phase : InitPhase) → IsProp (initiations.Waits initiation phase)
initiation-prop (Requests initiator token) phase = λ x y. absurd x
initiation-prop (Seeks seeker) phase = ×_prop (phase-prop seeker.asker phase) (seek-prop seeker)
initiation-prop (Hears initiator token) phase = λ x y. absurd x

pub waiting-prop : (run : Run) → IsProp (IsWaiting run)
waiting-prop (Accepts run) = awaiting-prop run.acceptor.asker run.phase
waiting-prop (Initiates run) = initiation-prop run.initiation run.phase
