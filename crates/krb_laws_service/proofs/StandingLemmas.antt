-- The connection after its own event, and the events that leave the gate.
use Rattle.std.proofs.Common.{◌≡◌, ℕ, ◌==◌, Bool, true, false, List, Option, Some, None, Result, Ok, Err, refl, sym, ap, ◌∙◌}
use Rattle.std.specs.Ordering.{nat_cmp}
use Rattle.std.specs.BTreeMap.{is_at}
use Rattle.std.specs.Map.{set_value}
use Rattle.std.proofs.lemmas.Bool.{eqb-true, eq-eqb, true≢false}
use Rattle.krb_machine.specs.Exchanges.{answer_of}
use Rattle.krb_machine.specs.MessageCalls.{is_call}
use Rattle.krb_machine.specs.Policy.{State, Steps, StepsBy, StepsOnward, TakesPart, TakesTurn, TakesAnswer, Behind, AnswersCall, ready, heard, awaited, reached, is_initiator}
use Rattle.krb_machine.specs.declared.connection.Connection.{Connection}
use Rattle.krb_machine.specs.declared.reply.Reply.{Reply}
use Rattle.krb_machine.specs.declared.run.Run.{Run}
use Rattle.krb_laws_origin.proofs.PlaceLemmas.{placed}
use Rattle.krb_replay.specs.declared.ask.Ask.{Ask}
use Rattle.krb_replay.specs.declared.ask.Verdict.{Verdict}
use Rattle.krb_script.specs.Script.{at_id}
use Rattle.krb_script.specs.declared.item.Event.{Event}
use Rattle.sspi_core.specs.declared.cause.Cause.{Cause}
use Rattle.sspi_generator.specs.declared.network.NetFault.{NetFault}

differs_by : (a b : ℕ) (c : Bool) → (a == b) ≡ false → (b == a) ≡ c → c ≡ false
differs_by a b true differs e = absurd (true≢false (sym (eq-eqb a b (sym (eqb-true b a e))) ∙ differs))
differs_by a b false differs e = refl

pub differs_back : (a b : ℕ) → (a == b) ≡ false → (b == a) ≡ false
differs_back a b differs = differs_by a b (b == a) differs refl

module _ {G : Type 0} (admits : G → Ask → Verdict → G → Type 0) where
  -- ---- a connection is still there

  module _ (state after : State G) (event : Event) (reply : Reply) (connection : Connection) (there : at_id event.connection state.connections ≡ Some connection) where
    abbrev Stands : Type 0
    Stands = (next : Connection) × (at_id event.connection after.connections ≡ Some next)

    put_there : (next : Connection) → after.connections ≡ set_value (is_at (nat_cmp event.connection)) state.connections next → Stands
    put_there next is = (next, ap (λ (l : List (ℕ × Connection)). at_id event.connection l) is ∙ placed state.connections event.connection connection next there)

    as_before : after ≡ state → Stands
    as_before is = (connection, ap (λ (s : State G). at_id event.connection s.connections) is ∙ there)

    call_there : (found : Result Connection Cause) → AnswersCall state event found reply after → Stands
    call_there (Ok found) h = put_there _ h.connections
    call_there (Err cause) h = as_before h.1

    answer_there : (found : Result (Connection × Run) Cause) (answer : Result (List ℕ) NetFault) → TakesAnswer state event found answer reply after → Stands
    answer_there (Ok found) answer h = put_there h.next h.connections
    answer_there (Err cause) answer h = as_before h.1

    turn_there : (found : Result (Connection × List ℕ) Cause) → TakesTurn state event found reply after → Stands
    turn_there (Ok found) h = put_there h.next h.connections
    turn_there (Err cause) h = as_before h.1

    behind_there : (found : Result (Connection × List ℕ) Cause) → Behind admits state event found reply after → Stands
    behind_there (Ok found) h = put_there h.next h.connections
    behind_there (Err cause) h = as_before h.1

    part_there : (initiates : Bool) → TakesPart admits initiates state event reply after → Stands
    part_there true h = turn_there (heard state.connections event) h
    part_there false h = behind_there (reached state.connections event) h

    onward_there : (answer : Option (Result (List ℕ) NetFault)) → StepsOnward admits answer state event reply after → Stands
    onward_there (Some answer) h = answer_there (awaited state.connections event) answer h
    onward_there None h = part_there (is_initiator event.connection state.connections) h

    by_there : (call : Bool) → StepsBy admits call state event reply after → Stands
    by_there true h = call_there (ready state.connections event) h
    by_there false h = onward_there (answer_of event.input) h

  pub still_there : (state after : State G) (event : Event) (reply : Reply) (connection : Connection) → at_id event.connection state.connections ≡ Some connection → Steps admits state event reply after
      → (next : Connection) × (at_id event.connection after.connections ≡ Some next)
  still_there state after event reply connection there step = by_there state after event reply connection there (is_call event.input) step

-- ---- the gate is unchanged if an initiator takes a token of its peer or a reply of a KDC

pub turn_keeps_gate : {G : Type 0} (state after : State G) (event : Event) (reply : Reply) (found : Result (Connection × List ℕ) Cause) → TakesTurn state event found reply after → after.gate ≡ state.gate
turn_keeps_gate {G} state after event reply (Ok found) h = h.gate
turn_keeps_gate {G} state after event reply (Err cause) h = ap (λ (s : State G). s.gate) h.1

pub answer_keeps_gate : {G : Type 0} (state after : State G) (event : Event) (reply : Reply) (found : Result (Connection × Run) Cause) (answer : Result (List ℕ) NetFault)
    → TakesAnswer state event found answer reply after → after.gate ≡ state.gate
answer_keeps_gate {G} state after event reply (Ok found) answer h = h.gate
answer_keeps_gate {G} state after event reply (Err cause) answer h = ap (λ (s : State G). s.gate) h.1
