-- The facts about an initiator are kept by an event that brings it the answer of a KDC.
use Rattle.std.proofs.Common.{◌≡◌, ℕ, true, List, [], ◌∷◌, ◌++◌, Option, Some, Result, Ok, Err, refl, sym, ◌∙◌, subst}
use Rattle.std.specs.Prelude.{IfSome, nat_le}
use Rattle.std.proofs.lemmas.Bool.{eq-eqb}
use Rattle.krb_as.specs.declared.turn.Turn.TheVariants.{Asks, Ends}
use Rattle.krb_machine.specs.declared.run.Run.{Run}
use Rattle.krb_machine.specs.declared.run.Run.TheVariants.{Accepts, Initiates}
use Rattle.krb_initiator.specs.InitRuns.{Next}
use Rattle.krb_initiator.specs.declared.init_run.InitRun.{InitRun}
use Rattle.krb_initiator.specs.declared.seeker.InitPhase.{InitPhase}
use Rattle.krb_initiator.specs.declared.seeker.Initiation.{Initiation}
use Rattle.krb_initiator.specs.declared.seeker.Initiation.TheVariants.{Seeks}
use Rattle.krb_script.specs.declared.item.Event.{Event}
use Rattle.sspi_core.specs.declared.draw.Draw.{Draw}
use Rattle.sspi_core.specs.declared.identity.CredentialsBuffers.{CredentialsBuffers}
use Rattle.sspi_generator.specs.declared.network.NetFault.{NetFault}
use Rattle.krb_machine.specs.Exchanges.{GoesOn, answer_of}
use Rattle.sspi_core.specs.Moments.{last_moment}
use Rattle.krb_machine.specs.declared.connection.Connection.{Connection}
use Rattle.krb_machine.specs.declared.reply.Reply.{Reply}
use Rattle.krb_laws_origin.specs.Origins.{answer_to, HasOrigin}
use Rattle.krb_laws_origin.proofs.BroughtLemmas.{AreComing, coming_next, coming_brought}
use Rattle.krb_laws_origin.proofs.Known.{IsFetching, IsUnderWay, Speaks, Stands, speaks_before, stands_free, stands_waiting, stands_settled}
use Rattle.krb_laws_origin.proofs.LeadLemmas.{EndsWith, ends_with}
use Rattle.krb_laws_origin.proofs.PhaseLemmas.{Led, led_next, led_to_end, faults_lead_nowhere}
use Rattle.krb_laws_origin.proofs.TurnLemmas.{Answer, gone_on, Lands, lands}

-- an answer at a moment in range
pub come : (id : ℕ) (event : Event) (answer : Result (List ℕ) NetFault) → event.connection ≡ id → nat_le event.moment last_moment ≡ true → answer_of event.input ≡ Some answer → answer_to id event ≡ answer ∷ []
come id event answer here in_range is = rw (eq-eqb event.connection id here, in_range, is) refl

module _ (identity : Option CredentialsBuffers) (id : ℕ) (events : List Event) (event : Event) (here : event.connection ≡ id) (in_range : nat_le event.moment last_moment ≡ true) (connection : Connection) (stands : Stands identity id events connection) where
  abbrev now : List Event
  now = events ++ event ∷ []

  abbrev Holds : Connection → Type 0
  Holds c = Stands identity id now c

  after : Speaks identity id now connection
  after = speaks_before identity id events event connection stands.speaks

  module _ (old : InitRun) (fetching : IsFetching identity id events old) where
    abbrev replies_with : List ℕ → List (List ℕ)
    replies_with octets = fetching.replies ++ octets ∷ []

    coming_with : (octets : List ℕ) → answer_of event.input ≡ Some (Ok octets) → AreComing id (replies_with octets) now
    coming_with octets is = coming_next id fetching.replies events event fetching.coming octets (come id event (Ok octets) here in_range is)

    waits_again : (later : InitRun) (next : Connection) (octets : List ℕ) (phase : InitPhase) → later.initiation ≡ old.initiation → AreComing id (replies_with octets) now → Led fetching.seeker (replies_with octets) phase
        → later.phase ≡ phase → next ≡ record connection { exchange = Some (Initiates later) } → Holds next
    waits_again later next octets phase stays coming led at is =
        let so_far : Led fetching.seeker (replies_with octets) later.phase = subst (λ (p : InitPhase). Led fetching.seeker (replies_with octets) p) (sym at) led in
        let goes_on : IsFetching identity id now later =
        record { seeker = fetching.seeker; seeks = stays ∙ fetching.seeks; speaks = fetching.speaks; none_set = fetching.none_set; replies = replies_with octets; coming = coming; led = so_far } in
        subst Holds (sym is) (stands_waiting identity id now connection after later goes_on)

    has_key : (octets : List ℕ) (change_key : Option (List ℕ)) (key : List ℕ) → change_key ≡ Some key → HasOrigin identity id now key → IfSome change_key (λ key. HasOrigin identity id now key)
    has_key octets change_key key is origin = subst (λ (k : Option (List ℕ)). IfSome k (λ key. HasOrigin identity id now key)) (sym is) origin

    answers : (brought : Result (List ℕ) NetFault) (draw : Draw) (later : InitRun) (answer : Answer) (next : Connection) → answer_of event.input ≡ Some brought → later.initiation ≡ old.initiation
        → Next (Seeks fetching.seeker) old.phase brought draw answer → Lands connection later answer next → Holds next
    answers (Ok octets) draw later (Ok (Asks request phase)) next is stays h l =
        waits_again later next octets phase stays (coming_with octets is) (led_next fetching.seeker fetching.replies old.phase octets draw request phase fetching.led h) l.0 l.1
    answers (Ok octets) draw later (Ok (Ends done)) next is stays h l =
        let end : EndsWith fetching.seeker (replies_with octets) done = ends_with fetching.seeker (replies_with octets) done fetching.none_set (led_to_end fetching.seeker fetching.replies old.phase octets draw done fetching.led h) in
        let origin : HasOrigin identity id now end.key =
        record { credentials = fetching.seeker.asker.credentials; has = fetching.speaks; replies = replies_with octets; brought = coming_brought id (replies_with octets) now (coming_with octets is); lead = end.lead } in
        subst Holds (sym l) (stands_settled identity id now connection after done.change (has_key octets done.change.encryption_params.session_key end.key end.key_is origin))
    answers (Err fault) draw later (Ok turn) next is stays h l = absurd (faults_lead_nowhere fault fetching.seeker draw turn old.phase h)
    answers (Ok octets) draw later (Err cause) next is stays h l = subst Holds (sym l) (stands_free identity id now connection after)
    answers (Err fault) draw later (Err cause) next is stays h l = subst Holds (sym l) (stands_free identity id now connection after)

    goes : (brought : Result (List ℕ) NetFault) (draw : Draw) (reply : Reply) (next : Connection) → answer_of event.input ≡ Some brought → GoesOn connection (Initiates old) brought draw reply next → Holds next
    goes brought draw reply next is h =
        let t = gone_on old brought draw h.step h.resumes in
        let held : Next (Seeks fetching.seeker) old.phase brought draw t.answer = subst (λ (i : Initiation). Next i old.phase brought draw t.answer) fetching.seeks t.held in
        answers brought draw t.later t.answer next is t.stays held (lands connection t.later t.answer h.step reply next t.phase t.leads h.leads)

  goes_by : (run : Run) (brought : Result (List ℕ) NetFault) (draw : Draw) (reply : Reply) (next : Connection) → IsUnderWay identity id events run → answer_of event.input ≡ Some brought
      → GoesOn connection run brought draw reply next → Holds next
  goes_by (Accepts run) brought draw reply next way is h = absurd way
  goes_by (Initiates run) brought draw reply next way is h = goes run way brought draw reply next is h

  pub goes_on_stands : (run : Run) (brought : Result (List ℕ) NetFault) (draw : Draw) (reply : Reply) (next : Connection) → connection.exchange ≡ Some run → answer_of event.input ≡ Some brought
      → GoesOn connection run brought draw reply next → Holds next
  goes_on_stands run brought draw reply next waits is h =
      let way : IsUnderWay identity id events run = subst (λ (r : Option Run). IfSome r (λ run. IsUnderWay identity id events run)) waits stands.exchange in
      goes_by run brought draw reply next way is h
