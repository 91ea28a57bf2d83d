-- That an initiator's run waits for an answer is known in one way: the fact has one proof at most.
use Rattle.std.specs.Coded.{×_prop, Unit-prop, le_prop, Coded-set, coded_list, coded_ℕ}
use Rattle.std.proofs.Common.{ap, ◌∙◌}
use Rattle.krb_authenticators.specs.Bindings.{AreShortBindings}
use Rattle.krb_as.specs.AsPhases as as_phases
use Rattle.krb_as.specs.AsPhases.{IsSealed}
use Rattle.krb_as.specs.Clients.{IsShort}
use Rattle.krb_as.specs.declared.as_phase.AsPhase.{AsPhase}
use Rattle.krb_as.specs.declared.as_phase.AsPhase.TheVariants.{AwaitsError, AwaitsAsRep}
use Rattle.krb_as.specs.declared.asker.Asker.{Asker}
use Rattle.krb_as.specs.declared.client.Client.{Client}
use Rattle.krb_as.specs.declared.key.SealedTime.{SealedTime}
use Rattle.krb_ap.specs.Shown.{CanGo}
use Rattle.krb_ap.specs.declared.errand.Errand.{Errand}
use Rattle.krb_initiator.specs.InitRuns as initiations
use Rattle.krb_initiator.specs.Seekers.{CanSeek}
use Rattle.krb_initiator.specs.declared.init_run.InitRun.{InitRun}
use Rattle.krb_initiator.specs.declared.seeker.InitPhase.{InitPhase}
use Rattle.krb_initiator.specs.declared.seeker.InitPhase.TheVariants as init_phases
use Rattle.krb_initiator.specs.declared.seeker.Initiation.{Initiation}
use Rattle.krb_initiator.specs.declared.seeker.Initiation.TheVariants.{Requests, Seeks, Hears}
use Rattle.krb_initiator.specs.declared.seeker.Seeker.{Seeker}
use Rattle.krb_tickets.specs.Props.{some-prop, fits-prop}
use Rattle.sspi_core.specs.declared.bindings.ChannelBindings.{ChannelBindings}

-- an AS exchange
sealed-prop : (asker : Asker) (sealed : SealedTime) → IsProp (IsSealed asker sealed)
sealed-prop asker sealed x y =
    ap (λ realm. record { realm = realm; key = x.key }) (le_prop x.realm y.realm)
    ∙ ap (λ key. record { realm = y.realm; key = key }) (Coded-set (coded_list coded_ℕ) _ _ x.key y.key)

as-prop : (asker : Asker) (phase : AsPhase) → IsProp (as_phases.IsAwaiting asker phase)
as-prop asker (AwaitsError kdc body) = ×_prop (fits-prop _ _ body) le_prop
as-prop asker (AwaitsAsRep sealed) = sealed-prop asker sealed

-- an initiator
phase-prop : (asker : Asker) (phase : InitPhase) → IsProp (initiations.IsAwaiting asker phase)
phase-prop asker init_phases.New = λ x y. absurd x
phase-prop asker (init_phases.InAsExchange phase) = as-prop asker phase
phase-prop asker (init_phases.AwaitsTgsRep leg) = Unit-prop
phase-prop asker init_phases.Over = λ x y. absurd x

client-prop : (client : Client) → IsProp (IsShort client)
client-prop client x y =
    ap (λ name. record { name = name; realm = x.realm; host = x.host }) (le_prop x.name y.name)
    ∙ ap (λ realm. record { name = y.name; realm = realm; host = x.host }) (le_prop x.realm y.realm)
    ∙ ap (λ host. record { name = y.name; realm = y.realm; host = host }) (le_prop x.host y.host)

bindings-prop : (bindings : ChannelBindings) → IsProp (AreShortBindings bindings)
bindings-prop bindings x y =
    ap (λ initiator. record { initiator = initiator; acceptor = x.acceptor; application_data = x.application_data }) (le_prop x.initiator y.initiator)
    ∙ ap (λ acceptor. record { initiator = y.initiator; acceptor = acceptor; application_data = x.application_data }) (le_prop x.acceptor y.acceptor)
    ∙ ap (λ data_. record { initiator = y.initiator; acceptor = y.acceptor; application_data = data_ }) (le_prop x.application_data y.application_data)

go-prop : (errand : Errand) → IsProp (CanGo errand)
go-prop errand x y =
    ap (λ bindings. record { bindings = bindings; named = x.named; mechanism = x.mechanism })
    (some-prop AreShortBindings bindings-prop errand.bindings x.bindings y.bindings)
    ∙ ap (λ named. record { bindings = y.bindings; named = named; mechanism = x.mechanism }) (le_prop x.named y.named)
    ∙ ap (λ mechanism. record { bindings = y.bindings; named = y.named; mechanism = mechanism }) (le_prop x.mechanism y.mechanism)

seek-prop : (seeker : Seeker) → IsProp (CanSeek seeker)
seek-prop seeker x y =
    ap (λ client. record x { client = client }) (client-prop seeker.client x.client y.client)
    ∙ ap (λ realm. record x { client = y.client; realm = realm }) (le_prop x.realm y.realm)
    ∙ ap (λ target. record y { target = target; bindings = x.bindings; tickets = x.tickets; errand = x.errand }) (le_prop x.target y.target)
    ∙ ap (λ bindings. record y { bindings = bindings; tickets = x.tickets; errand = x.errand })
    (some-prop AreShortBindings bindings-prop seeker.wanted.channel_bindings x.bindings y.bindings)
    ∙ ap (λ tickets. record y { tickets = tickets; errand = x.errand }) (some-prop _ (λ tickets. fits-prop _ _ tickets) _ x.tickets y.tickets)
    ∙ ap (λ errand. record y { errand = errand }) (go-prop seeker.errand x.errand y.errand)

initiation-prop : (initiation : Initiation) (phase : InitPhase) → IsProp (initiations.Waits initiation phase)
initiation-prop (Requests initiator token) phase = λ x y. absurd x
initiation-prop (Seeks seeker) phase = ×_prop (phase-prop seeker.asker phase) (seek-prop seeker)
initiation-prop (Hears initiator token) phase = λ x y. absurd x

pub waiting-prop : (run : InitRun) → IsProp (initiations.IsWaiting run)
waiting-prop run = initiation-prop run.initiation run.phase
