-- The facts about an initiator are kept by an event at which it begins, or takes a token of its peer.
use Rattle.std.proofs.Common.{◌≡◌, ℕ, List, [], Option, Some, None, Result, Ok, Err, refl, sym, ap, ◌∙◌, subst}
use Rattle.krb_context.specs.Rules.{no_rules}
use Rattle.krb_as.specs.declared.turn.Turn.TheVariants.{Asks, Ends}
use Rattle.krb_machine.specs.declared.run.Run.TheVariants.{Initiates}
use Rattle.krb_initiator.specs.Beginnings.{BeginsInitiation}
use Rattle.krb_initiator.specs.InitRuns.{Starts, StartsNew}
use Rattle.krb_initiator.specs.InitSteps.{requested, HearsAnswer}
use Rattle.krb_initiator.specs.declared.init_run.InitRun.{InitRun}
use Rattle.krb_initiator.specs.declared.options.InitOptions.{InitOptions}
use Rattle.krb_initiator.specs.declared.seeker.InitPhase.{InitPhase}
use Rattle.krb_initiator.specs.declared.seeker.InitPhase.TheVariants.{New}
use Rattle.krb_initiator.specs.declared.seeker.Initiation.{Initiation}
use Rattle.krb_initiator.specs.declared.seeker.Initiation.TheVariants.{Requests, Seeks, Hears}
use Rattle.krb_initiator.specs.declared.seeker.Seeker.{Seeker}
use Rattle.krb_ap.specs.declared.initiator.Initiator.{Initiator}
use Rattle.krb_script.specs.declared.item.Event.{Event}
use Rattle.sspi_core.specs.declared.cause.Cause.{Cause}
use Rattle.sspi_core.specs.declared.draw.Draw.{Draw}
use Rattle.sspi_core.specs.declared.identity.CredentialsBuffers.{CredentialsBuffers}
use Rattle.krb_machine.specs.Exchanges.{OpensExchange}
use Rattle.krb_machine.specs.Initiations.{SetsOut, Undertakes}
use Rattle.krb_machine.specs.declared.connection.Connection.{Connection}
use Rattle.krb_machine.specs.declared.reply.Reply.{Reply}
use Rattle.krb_laws_origin.proofs.AnsweredLemmas.{hears_end, hears_ends}
use Rattle.krb_laws_origin.proofs.BegunLemmas.{IsFor, begins_for}
use Rattle.krb_laws_origin.proofs.BroughtLemmas.{none_coming}
use Rattle.krb_laws_origin.proofs.Known.{IsFetching, Speaks, Stands, stands_still, stands_free, stands_waiting, stands_kept}
use Rattle.krb_laws_origin.proofs.PhaseLemmas.{Led, led_first, starts_not_ended}
use Rattle.krb_laws_origin.proofs.TurnLemmas.{Answer, begun, Lands, lands}

-- ---- the start

module _ (identity : Option CredentialsBuffers) (id : ℕ) (events : List Event) (connection : Connection) (speaks : Speaks identity id events connection) (free : connection.exchange ≡ None) where
  abbrev Holds : Connection → Type 0
  Holds c = Stands identity id events c

  abbrev Gone : InitRun → Connection → Answer → Type 0
  Gone later next a = Lands connection later a next

  -- the initiator takes the service's answer
  hears_lands : (initiator : Initiator) (token : List ℕ) (draw : Draw) (later : InitRun) (answer : Answer) (next : Connection) → initiator.params ≡ connection.context.encryption_params
      → HearsAnswer initiator token draw answer → Lands connection later answer next → Holds next
  hears_lands initiator token draw later (Ok (Asks request phase)) next same h l = let e = (hears_ends initiator token draw (Asks request phase) h).1 in absurd cc
  hears_lands initiator token draw later (Ok (Ends done)) next same h l =
      subst Holds (sym l) (stands_kept identity id events connection speaks done.change ((hears_end initiator token draw done h).key ∙ ap (λ p. p.session_key) same))
  hears_lands initiator token draw later (Err cause) next same h l = subst Holds (sym l) (stands_free identity id events connection speaks)

  -- the initiator asks the service for the service's own ticket
  requests_lands : (initiator : Initiator) (token : List ℕ) (later : InitRun) (answer : Answer) (next : Connection) → initiator.params ≡ connection.context.encryption_params
      → answer ≡ Ok (Ends (requested initiator token)) → Lands connection later answer next → Holds next
  requests_lands initiator token later answer next same is l =
      subst Holds (sym (subst (Gone later next) is l)) (stands_kept identity id events connection speaks (requested initiator token).change (ap (λ p. p.session_key) same))

  -- the initiator fetches a ticket
  seeks_lands : (seeker : Seeker) (draw : Draw) (later : InitRun) (answer : Answer) (next : Connection) → identity ≡ Some seeker.asker.credentials → seeker.asker.rules ≡ no_rules → later.initiation ≡ Seeks seeker
      → StartsNew (Seeks seeker) draw answer → Lands connection later answer next → Holds next
  seeks_lands seeker draw later (Ok (Asks request phase)) next for_it set seeks h l =
      let led : Led seeker [] later.phase = subst (λ (p : InitPhase). Led seeker [] p) (sym l.0) (led_first seeker draw request phase h) in
      let fetching : IsFetching identity id events later = record { seeker = seeker; seeks = seeks; speaks = for_it; none_set = set; replies = []; coming = none_coming id events; led = led } in
      subst Holds (sym l.1) (stands_waiting identity id events connection speaks later fetching)
  seeks_lands seeker draw later (Ok (Ends done)) next for_it set seeks h l = absurd (starts_not_ended seeker draw done h)
  seeks_lands seeker draw later (Err cause) next for_it set seeks h l = subst Holds (sym l) (stands_free identity id events connection speaks)

  starts_lands : (options : InitOptions) (initiation : Initiation) (draw : Draw) (later : InitRun) (answer : Answer) (next : Connection) → options.credentials ≡ connection.context.auth_identity
      → IsFor connection.context options initiation → later.initiation ≡ initiation → StartsNew initiation draw answer → Lands connection later answer next → Holds next
  starts_lands options (Requests initiator token) draw later answer next own is seeks h l = requests_lands initiator token later answer next is h.is l
  starts_lands options (Seeks seeker) draw later answer next own is seeks h l =
      seeks_lands seeker draw later answer next (sym speaks.identity_is ∙ sym own ∙ is.0) (is.1 ∙ speaks.none_set) seeks h l
  starts_lands options (Hears initiator token) draw later answer next own is seeks h l = hears_lands initiator token draw later answer next is h l

  opens_stands : (options : InitOptions) (initiation : Initiation) (run : InitRun) (draw : Draw) (reply : Reply) (next : Connection) → options.credentials ≡ connection.context.auth_identity
      → IsFor connection.context options initiation → run.initiation ≡ initiation → run.phase ≡ New → OpensExchange connection (Initiates run) draw reply next → Holds next
  opens_stands options initiation run draw reply next own is initiation_is new h =
      let t = begun run draw h.step h.begins in
      let held : StartsNew initiation draw t.answer =
      subst (λ (i : Initiation). Starts i New draw t.answer) initiation_is (subst (λ (p : InitPhase). Starts run.initiation p draw t.answer) new t.held) in
      starts_lands options initiation draw t.later t.answer next own is (t.stays ∙ initiation_is) held (lands connection t.later t.answer h.step reply next t.phase t.leads h.leads)

  sets_out : (options : InitOptions) (draw : Draw) (answer : Result Initiation Cause) (reply : Reply) (next : Connection) → options.credentials ≡ connection.context.auth_identity
      → ((initiation : Initiation) → answer ≡ Ok initiation → IsFor connection.context options initiation) → SetsOut connection draw answer reply next → Holds next
  sets_out options draw (Ok initiation) reply next own is h = opens_stands options initiation h.0 draw reply next own (is initiation refl) h.1 h.2 h.3
  sets_out options draw (Err cause) reply next own is h = subst Holds (sym h.1) (stands_still identity id events connection speaks free)

  pub undertakes_stands : (options : InitOptions) (draw : Draw) (reply : Reply) (next : Connection) → options.credentials ≡ connection.context.auth_identity → Undertakes connection options draw reply next → Holds next
  undertakes_stands options draw reply next own h =
      sets_out options draw h.answer reply next own
      (λ initiation is. begins_for connection.context options initiation (subst (λ (a : Result Initiation Cause). BeginsInitiation connection.context options a) is h.begins)) h.sets_out
