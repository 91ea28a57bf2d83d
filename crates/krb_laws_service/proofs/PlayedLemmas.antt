-- Events leave other connections, and the replies to the turns of a talk as events.
use Rattle.std.proofs.Common.{◌≡◌, ℕ, ◌==◌, Bool, true, false, List, [], ◌∷◌, Option, Some, None, Result, Ok, Err, refl, sym, ap, ◌∙◌, subst}
use Rattle.std.specs.Prelude.{map}
use Rattle.std.specs.Ordering.{nat_cmp}
use Rattle.std.specs.BTreeMap.{is_at}
use Rattle.std.specs.Map.{set_value}
use Rattle.std.proofs.lemmas.Bool.{le-leb}
use Rattle.krb_context.specs.Unwraps.{Unwraps, unwrapped, message_number}
use Rattle.krb_context.specs.Wraps.{Wraps}
use Rattle.krb_context.specs.declared.context.Kerberos.{Kerberos}
use Rattle.krb_crypto.specs.declared.suite.CipherSuite.{CipherSuite}
use Rattle.krb_laws_ends.proofs.ReachLemmas.{understand}
use Rattle.krb_laws_ends.specs.Answers.{AreEstablished}
use Rattle.krb_laws_ends.specs.Messages.{Message, text_of, IsSent, wrapped_one, opened_one}
use Rattle.krb_laws_ends.specs.Talk.{Turn, left_wraps, right_wraps, left_gets, right_gets, IsFair, IsUnderstood}
use Rattle.krb_machine.specs.declared.run.Run.{Run}
use Rattle.krb_laws_origin.proofs.PlaceLemmas.{placed_apart}
use Rattle.krb_replay.specs.declared.ask.Ask.{Ask}
use Rattle.krb_replay.specs.declared.ask.Verdict.{Verdict}
use Rattle.krb_script.specs.Script.{at_id}
use Rattle.krb_script.specs.declared.input.Input.{Input}
use Rattle.krb_script.specs.declared.input.Input.TheVariants.{Wrap, Unwrap}
use Rattle.krb_script.specs.declared.item.Event.{Event}
use Rattle.krb_machine.proofs.CallLemmas.{call-once}
use Rattle.krb_machine.specs.Exchanges.{answer_of}
use Rattle.krb_machine.specs.MessageCalls.{is_call, Calls}
use Rattle.krb_machine.specs.Policy.{State, Steps, StepsBy, StepsOnward, TakesPart, TakesTurn, TakesAnswer, Behind, AnswersCall, CallsAt, ready, heard, awaited, reached, is_initiator}
use Rattle.krb_machine.specs.declared.connection.Connection.{Connection}
use Rattle.krb_machine.specs.declared.reply.Reply.{Reply}
use Rattle.krb_machine.specs.declared.reply.Reply.TheVariants.{Buffers}
use Rattle.sspi_core.specs.Moments.{last_moment}
use Rattle.sspi_core.specs.declared.cause.Cause.{Cause}
use Rattle.sspi_generator.specs.declared.network.NetFault.{NetFault}
use Rattle.krb_laws_service.specs.Served.{IsCalled, Wrapping, Opening, ArePlayed, answer_to}
use Rattle.krb_laws_service.proofs.CheckLemmas.{set_is, ready_is}

module _ {G : Type 0} (admits : G → Ask → Verdict → G → Type 0) where
  -- ---- other connections

  module _ (state after : State G) (event : Event) (reply : Reply) (id : ℕ) (differs : (event.connection == id) ≡ false) where
    abbrev Stays : Type 0
    Stays = at_id id after.connections ≡ at_id id state.connections

    put_apart : (next : Connection) → after.connections ≡ set_value (is_at (nat_cmp event.connection)) state.connections next → Stays
    put_apart next is = ap (λ (l : List (ℕ × Connection)). at_id id l) is ∙ placed_apart state.connections event.connection id next differs

    same_apart : after ≡ state → Stays
    same_apart is = ap (λ (s : State G). at_id id s.connections) is

    call_apart : (found : Result Connection Cause) → AnswersCall state event found reply after → Stays
    call_apart (Ok connection) h = put_apart _ h.connections
    call_apart (Err cause) h = same_apart h.1

    answer_apart : (found : Result (Connection × Run) Cause) (answer : Result (List ℕ) NetFault) → TakesAnswer state event found answer reply after → Stays
    answer_apart (Ok found) answer h = put_apart h.next h.connections
    answer_apart (Err cause) answer h = same_apart h.1

    turn_apart : (found : Result (Connection × List ℕ) Cause) → TakesTurn state event found reply after → Stays
    turn_apart (Ok found) h = put_apart h.next h.connections
    turn_apart (Err cause) h = same_apart h.1

    behind_apart : (found : Result (Connection × List ℕ) Cause) → Behind admits state event found reply after → Stays
    behind_apart (Ok found) h = put_apart h.next h.connections
    behind_apart (Err cause) h = same_apart h.1

    part_apart : (initiates : Bool) → TakesPart admits initiates state event reply after → Stays
    part_apart true h = turn_apart (heard state.connections event) h
    part_apart false h = behind_apart (reached state.connections event) h

    onward_apart : (answer : Option (Result (List ℕ) NetFault)) → StepsOnward admits answer state event reply after → Stays
    onward_apart (Some answer) h = answer_apart (awaited state.connections event) answer h
    onward_apart None h = part_apart (is_initiator event.connection state.connections) h

    by_apart : (call : Bool) → StepsBy admits call state event reply after → Stays
    by_apart true h = call_apart (ready state.connections event) h
    by_apart false h = onward_apart (answer_of event.input) h

  pub other-connections : (state after : State G) (event : Event) (reply : Reply) (id : ℕ) → Steps admits state event reply after → (event.connection == id) ≡ false → at_id id after.connections ≡ at_id id state.connections
  other-connections state after event reply id step differs = by_apart state after event reply id differs (is_call event.input) step

  -- ---- calls

  record Made (connection : Connection) (expected reply : Reply) (context : Kerberos) (next : Connection) : Type 0 where
    reply_is : reply ≡ expected
    next_is : next ≡ record connection { context = context }

  call_is : (input : Input) (random : List ℕ) (connection next : Connection) (reply expected : Reply) (context : Kerberos) → connection.exchange ≡ None → is_call input ≡ true
      → Calls input connection.context random expected context → IsCalled admits input random connection reply next → Made connection expected reply context next
  call_is input random connection next reply expected context free call calls c =
      let event = c.event in
      let state = c.state in
      let at = c.answered in
      let P : Bool → Type 0 = λ b. StepsBy admits b state event reply c.after in
      let R : Result Connection Cause → Type 0 = λ f. AnswersCall state event f reply c.after in
      let is = subst R (ready_is state.connections event connection (le-leb event.moment last_moment c.in_range) at.there free) (subst P (ap is_call c.input_is ∙ call) at.steps) in
      let calls_here : Calls event.input connection.context event.random expected context =
      subst (λ (i : Input). Calls i connection.context event.random expected context) (sym c.input_is) (subst (λ (r : List ℕ). Calls input connection.context r expected context) (sym c.random_is) calls) in
      let put = set_value (is_at (nat_cmp event.connection)) state.connections (record connection { context = context }) in
      let there : State G = record { connections = put; env = state.env; gate = state.gate } in
      let would : CallsAt state event connection expected there = record { context = context; calls = calls_here; connections = refl; env = refl; gate = refl } in
      let same = call-once state event (Ok connection) reply expected c.after there is would in
      record {
        reply_is = same.0;
        next_is = set_is state.connections c.after.connections event.connection connection (record connection { context = context }) next (ap (λ (s : State G). s.connections) same.1) at.there at.behind;
      }

  wrapping_is : (message : Message) (connection next : Connection) (reply : Reply) → connection.exchange ≡ None → IsSent connection.context message → Wrapping admits message connection reply next
      → Made connection (Buffers message.made) reply (wrapped_one connection.context) next
  wrapping_is message connection next reply free sent w =
      let calls : Calls (Wrap message.sent) connection.context w.0 (Buffers message.made) (wrapped_one connection.context) = record {
        answer = Ok message.made;
        wraps = subst (λ (c : List ℕ). Wraps connection.context c message.sent (Ok message.made)) (sym w.1) sent.wraps;
        made = (refl, refl);
      } in
      call_is (Wrap message.sent) w.0 connection next reply (Buffers message.made) (wrapped_one connection.context) free refl calls w.2

  opening_is : (message : Message) (connection next : Connection) (reply : Reply) → connection.exchange ≡ None → Unwraps connection.context message.received (Ok (text_of message)) → Opening admits message connection reply next
      → Made connection (Buffers (unwrapped (text_of message) message.received)) reply (opened_one (message_number message.received) connection.context) next
  opening_is message connection next reply free opens o =
      let calls : Calls (Unwrap message.received) connection.context o.0 (Buffers (unwrapped (text_of message) message.received)) (opened_one (message_number message.received) connection.context) = record {
        answer = Ok (text_of message);
        unwraps = opens;
        made = (refl, refl);
      } in
      call_is (Unwrap message.received) o.0 connection next reply (Buffers (unwrapped (text_of message) message.received)) (opened_one (message_number message.received) connection.context) free refl calls o.1

  first_is : (x y : Reply) (xs ys : List Reply) → x ≡ y → xs ≡ ys → ◌≡◌ {A = List Reply} (x ∷ xs) (y ∷ ys)
  first_is x y xs ys p q = ap (λ (z : Reply). z ∷ xs) p ∙ ap (λ (l : List Reply). y ∷ l) q

  played : (m n : ℕ) (left right : Connection) (before also : List ℕ) (turns : List Turn) (replies : List Reply) → left.exchange ≡ None → right.exchange ≡ None
      → IsFair m n left.context right.context before also turns → IsUnderstood left.context right.context turns → ArePlayed admits left right turns replies → replies ≡ map answer_to turns
  played m n left right before also [] [] free other fair understood are = refl
  played m n left right before also [] (reply ∷ replies) free other fair understood are = absurd are
  played m n left right before also (turn ∷ turns) [] free other fair understood are = absurd are
  played m n left right before also (left_wraps message ∷ turns) (reply ∷ replies) free other fair understood are =
      let one = wrapping_is message left are.0 reply free fair.0 are.1 in
      let rest = subst (λ (c : Connection). ArePlayed admits c right turns replies) one.next_is are.2 in
      first_is _ _ _ _ one.reply_is (played m n (record left { context = wrapped_one left.context }) right before also turns replies free other fair.1 understood rest)
  played m n left right before also (right_wraps message ∷ turns) (reply ∷ replies) free other fair understood are =
      let one = wrapping_is message right are.0 reply other fair.0 are.1 in
      let rest = subst (λ (c : Connection). ArePlayed admits left c turns replies) one.next_is are.2 in
      first_is _ _ _ _ one.reply_is (played m n left (record right { context = wrapped_one right.context }) before also turns replies free other fair.1 understood rest)
  played m n left right before also (left_gets place message ∷ turns) (reply ∷ replies) free other fair understood are =
      let one = opening_is message left are.0 reply free understood.0 are.1 in
      let rest = subst (λ (c : Connection). ArePlayed admits c right turns replies) one.next_is are.2 in
      first_is _ _ _ _ one.reply_is (played m n (record left { context = opened_one (message_number message.received) left.context }) right _ also turns replies free other fair.2 understood.1 rest)
  played m n left right before also (right_gets place message ∷ turns) (reply ∷ replies) free other fair understood are =
      let one = opening_is message right are.0 reply other understood.0 are.1 in
      let rest = subst (λ (c : Connection). ArePlayed admits left c turns replies) one.next_is are.2 in
      first_is _ _ _ _ one.reply_is (played m n left (record right { context = opened_one (message_number message.received) right.context }) before _ turns replies free other fair.2 understood.1 rest)

  pub played-understood : (left right : Connection) (suite : CipherSuite) (session_key sub_session_key : List ℕ) (ec : ℕ) (turns : List Turn) (replies : List Reply) → AreEstablished left.context right.context suite session_key sub_session_key ec
      → left.exchange ≡ None → right.exchange ≡ None → IsFair left.context.seq_number right.context.seq_number left.context right.context [] [] turns → ArePlayed admits left right turns replies → replies ≡ map answer_to turns
  played-understood left right suite session_key sub_session_key ec turns replies are free other fair plays =
      played left.context.seq_number right.context.seq_number left right [] [] turns replies free other fair
      (understand left.context right.context suite session_key sub_session_key ec turns are fair) plays
