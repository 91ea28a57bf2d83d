-- The origin of the session key of an initiator is known after each event, and so after each list of events.
use Rattle.std.proofs.Common.{◌≡◌, ℕ, List, [], ◌∷◌, ◌++◌, Option, Some, refl, subst}
use Rattle.std.specs.Prelude.{IfSome}
use Rattle.krb_replay.specs.declared.ask.Ask.{Ask}
use Rattle.krb_replay.specs.declared.ask.Verdict.{Verdict}
use Rattle.krb_script.specs.Script.{at_id}
use Rattle.krb_script.specs.declared.item.Event.{Event}
use Rattle.sspi_core.specs.declared.identity.CredentialsBuffers.{CredentialsBuffers}
use Rattle.krb_machine.specs.Initiations.{options_of}
use Rattle.krb_machine.specs.Policy.{State, Runs, draw_of}
use Rattle.krb_machine.specs.declared.connection.Connection.{Connection}
use Rattle.krb_machine.specs.declared.reply.Reply.{Reply}
use Rattle.krb_laws_origin.specs.Origins.{HasOrigin, IsKeyless, IsSameInitiator}
use Rattle.krb_laws_origin.proofs.CallLemmas.{called_stands}
use Rattle.krb_laws_origin.proofs.EachEvent.{AreKept, Known, held_behind, stands_last}
use Rattle.krb_laws_origin.proofs.Known.{Stands, stands_first, speaks_before, stands_before}
use Rattle.krb_laws_origin.proofs.ReplyLemmas.{goes_on_stands}
use Rattle.krb_laws_origin.proofs.StartLemmas.{undertakes_stands}

are_kept : (identity : Option CredentialsBuffers) (id : ℕ) → AreKept id (Stands identity id)
are_kept identity id = record {
  role = λ events connection stands. stands.speaks.role;
  before = λ events event connection quiet stands. stands_before identity id events event connection quiet stands;
  called = λ events event connection reply context free none calls stands.
      called_stands identity id (events ++ event ∷ []) connection event.input event.random reply context (speaks_before identity id events event connection stands.speaks) free calls;
  resumed = λ events event here in_range connection run answer reply next waits brings goes_on stands.
      goes_on_stands identity id events event here in_range connection stands run answer (draw_of event) reply next waits brings goes_on;
  undertaken = λ events event here in_range env connection token reply next free heard none undertakes stands.
      undertakes_stands identity id (events ++ event ∷ []) connection (speaks_before identity id events event connection stands.speaks) free (options_of connection env event.flags token) (draw_of event) reply next refl
      undertakes;
}

module _ {G : Type 0} (admits : G → Ask → Verdict → G → Type 0) (before after : State G) (events : List Event) (replies : List Reply) (id : ℕ) (first : Connection) where
  known : Runs admits before events replies after → at_id id before.connections ≡ Some first → IsKeyless first
      → Known id (Stands first.context.auth_identity id) (are_kept first.context.auth_identity id) events after.connections
  known runs there keyless =
      held_behind id (Stands first.context.auth_identity id) (are_kept first.context.auth_identity id) admits before after events replies first runs there (stands_first id first keyless)

  pub origin : (last : Connection) (key : List ℕ) → Runs admits before events replies after → at_id id before.connections ≡ Some first → IsKeyless first → at_id id after.connections ≡ Some last
      → last.context.encryption_params.session_key ≡ Some key → HasOrigin first.context.auth_identity id events key
  origin last key runs there keyless now has =
      let stands : Stands first.context.auth_identity id events last =
      stands_last id (Stands first.context.auth_identity id) (are_kept first.context.auth_identity id) events after.connections last (known runs there keyless) now in
      subst (λ (o : Option (List ℕ)). IfSome o (λ key. HasOrigin first.context.auth_identity id events key)) has stands.speaks.key

  pub stays : Runs admits before events replies after → at_id id before.connections ≡ Some first → IsKeyless first → (last : Connection) × (at_id id after.connections ≡ Some last) × IsSameInitiator first last
  stays runs there keyless =
      let k = known runs there keyless in (k.connection, k.there, record { role = k.stands.speaks.role; identity = k.stands.speaks.identity_is })
