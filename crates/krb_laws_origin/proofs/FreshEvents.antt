-- Log-ins are fresh after each list of events.
use Rattle.std.proofs.Common.{◌≡◌, ℕ, true, List, Some, subst}
use Rattle.krb_context.specs.Rules.{has_rule, fresh_replies}
use Rattle.krb_context.specs.declared.state.KerberosState.{KerberosState}
use Rattle.krb_context.specs.declared.state.KerberosState.TheVariants.{Final}
use Rattle.krb_replay.specs.declared.ask.Ask.{Ask}
use Rattle.krb_replay.specs.declared.ask.Verdict.{Verdict}
use Rattle.krb_script.specs.Script.{at_id}
use Rattle.krb_script.specs.declared.item.Event.{Event}
use Rattle.krb_machine.specs.Policy.{State, Runs}
use Rattle.krb_machine.specs.declared.connection.Connection.{Connection}
use Rattle.krb_machine.specs.declared.reply.Reply.{Reply}
use Rattle.krb_laws_origin.specs.Origins.{IsSameInitiator}
use Rattle.krb_laws_origin.specs.Freshness.{HasFreshKey, IsEstablished, IsToBegin}
use Rattle.krb_laws_origin.proofs.EachEvent.{AreKept, Known, held_behind, stands_last}
use Rattle.krb_laws_origin.proofs.FreshKnown.{IsAtStage, StandsFresh, fresh_before, fresh_first}
use Rattle.krb_laws_origin.proofs.FreshStages.{key_there}
use Rattle.krb_laws_origin.proofs.FreshSteps.{called_fresh, goes_on_fresh_at, undertakes_fresh}

are_kept : (first : Connection) (id : ℕ) → has_rule first.context.rules fresh_replies ≡ true → AreKept id (StandsFresh first id)
are_kept first id rule = record {
  role = λ events connection stands. stands.still.role;
  before = λ events event connection quiet stands. fresh_before first id events event connection quiet stands;
  called = λ events event connection reply context free none calls stands. called_fresh first id events event connection stands reply context free calls;
  resumed = λ events event here in_range connection run answer reply next waits brings goes_on stands.
      goes_on_fresh_at first id events event connection stands here in_range rule run answer reply next waits brings goes_on;
  undertaken = λ events event here in_range env connection token reply next free heard none undertakes stands.
      undertakes_fresh first id events event connection stands here in_range env token free heard reply next undertakes;
}

module _ {G : Type 0} (admits : G → Ask → Verdict → G → Type 0) (before after : State G) (events : List Event) (replies : List Reply) (id : ℕ) (first : Connection)
    (runs : Runs admits before events replies after) (there : at_id id before.connections ≡ Some first) (begins : IsToBegin first) where
  known : Known id (StandsFresh first id) (are_kept first id begins.fresh) events after.connections
  known = held_behind id (StandsFresh first id) (are_kept first id begins.fresh) admits before after events replies first runs there (fresh_first first id begins)

  pub stays_fresh : (last : Connection) × (at_id id after.connections ≡ Some last) × IsSameInitiator first last
  stays_fresh = (known.connection, known.there, record { role = known.stands.still.role; identity = known.stands.still.identity })

  module _ (last : Connection) (now : at_id id after.connections ≡ Some last) where
    stands : StandsFresh first id events last
    stands = stands_last id (StandsFresh first id) (are_kept first id begins.fresh) events after.connections last known now

    pub log_in_fresh : (key : List ℕ) → last.context.encryption_params.session_key ≡ Some key → HasFreshKey first id events last.context.encryption_params.session_key last.context.asked_at
    log_in_fresh key has = key_there first id events last.context.state last.context.encryption_params.session_key last.context.asked_at key has stands.stage

    pub end_answered : last.context.state ≡ Final → IsEstablished first id events last.context.encryption_params.session_key last.context.asked_at
    end_answered over =
        subst (λ (s : KerberosState). IsAtStage first id events s last.context.encryption_params.session_key last.context.asked_at) over stands.stage
