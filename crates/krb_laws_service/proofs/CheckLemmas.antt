-- The events that pass the first checks, and the connection afterwards.
use Rattle.std.proofs.Common.{◌≡◌, ℕ, ◌≤◌, Bool, true, List, Option, Some, None, Result, Ok, sym, ap, ◌∙◌}
use Rattle.std.specs.Prelude.{nat_le, not, is_some, is_none}
use Rattle.std.specs.Ordering.{nat_cmp}
use Rattle.std.specs.BTreeMap.{is_at}
use Rattle.std.specs.Map.{set_value}
use Rattle.std.proofs.lemmas.Bool.{le-leb}
use Rattle.krb_context.specs.Contexts.{is_acceptor}
use Rattle.krb_context.specs.declared.server.ServerProperties.{ServerProperties}
use Rattle.krb_machine.specs.declared.run.Run.{Run}
use Rattle.krb_script.specs.Script.{at_id}
use Rattle.krb_script.specs.declared.item.Event.{Event}
use Rattle.krb_machine.specs.Initiations.{token_heard}
use Rattle.krb_machine.specs.Policy.{◌>>=◌, check, input_token, called, ready, reached, heard, awaited, is_initiator, is_initiating, draw_of}
use Rattle.krb_machine.specs.declared.connection.Connection.{Connection}
use Rattle.krb_laws_origin.proofs.PlaceLemmas.{some_same, freed, hears, judges, waits, placed}
use Rattle.sspi_core.specs.Checks.{ok_or}
use Rattle.sspi_core.specs.Moments.{last_moment}
use Rattle.sspi_core.specs.declared.cause.Cause.{Cause}
use Rattle.sspi_core.specs.declared.cause.Cause.TheVariants as causes
use Rattle.sspi_core.specs.declared.draw.Draw.{Draw}

-- the connection that was set at a number is the one at the number
pub set_is : (before after : List (ℕ × Connection)) (id : ℕ) (old new next : Connection) → after ≡ set_value (is_at (nat_cmp id)) before new → at_id id before ≡ Some old → at_id id after ≡ Some next → next ≡ new
set_is before after id old new next put there behind =
    let A : List (ℕ × Connection) → Option Connection = λ l. at_id id l in
    some_same next new (sym behind ∙ ap A put ∙ placed before id old new there)

pub in_range_is : (event : Event) (draw : Draw) → draw_of event ≡ draw → draw.moment ≤ last_moment → nat_le event.moment last_moment ≡ true
in_range_is event draw is small = ap (λ (d : Draw). nat_le d.moment last_moment) is ∙ le-leb draw.moment last_moment small

module _ (connections : List (ℕ × Connection)) (event : Event) (connection : Connection) (in_range : nat_le event.moment last_moment ≡ true) (there : at_id event.connection connections ≡ Some connection) where
  called_is : called connections event ≡ Ok connection
  called_is =
      let M : Bool → Result Connection Cause = λ b. check causes.Moment b >>= (λ u. ok_or causes.Connection (at_id event.connection connections)) in
      ap M in_range ∙ ap (ok_or causes.Connection) there

  pub ready_is : connection.exchange ≡ None → ready connections event ≡ Ok connection
  ready_is free =
      let N : Option Run → Result Connection Cause = λ x. check causes.Sequence (not (is_some x)) >>= (λ u. Ok connection) in
      ap (λ (r : Result Connection Cause). r >>= freed) called_is ∙ ap N free

  pub heard_is : (token : List ℕ) → connection.exchange ≡ None → token_heard connection.context.state event.input ≡ Ok token → heard connections event ≡ Ok (connection, token)
  heard_is token free hearing =
      ap (λ (r : Result Connection Cause). r >>= hears event.input) (ready_is free)
      ∙ ap (λ (t : Result (List ℕ) Cause). t >>= (λ token. Ok (connection, token))) hearing

  pub reached_is : (token : List ℕ) → connection.exchange ≡ None → is_acceptor connection.context ≡ true → input_token event.input ≡ Some token → reached connections event ≡ Ok (connection, token)
  reached_is token free role brings =
      let J : Bool → Result (Connection × List ℕ) Cause = λ b. check causes.Sequence b >>= (λ u. ok_or causes.Sequence (input_token event.input) >>= (λ token. Ok (connection, token))) in
      let T : Option (List ℕ) → Result (Connection × List ℕ) Cause = λ t. ok_or causes.Sequence t >>= (λ token. Ok (connection, token)) in
      ap (λ (r : Result Connection Cause). r >>= judges (input_token event.input)) (ready_is free) ∙ ap J role ∙ ap T brings

  pub awaited_is : (run : Run) → connection.exchange ≡ Some run → awaited connections event ≡ Ok (connection, run)
  awaited_is run waiting =
      let W : Option Run → Result (Connection × Run) Cause = λ x. ok_or causes.Sequence x >>= (λ run. Ok (connection, run)) in
      ap (λ (r : Result Connection Cause). r >>= waits) called_is ∙ ap W waiting

  pub initiator_is : connection.context.server ≡ None → is_initiator event.connection connections ≡ true
  initiator_is role = ap is_initiating there ∙ ap (λ (s : Option ServerProperties). is_none s) role
