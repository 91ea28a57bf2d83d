-- Each event keeps the lists of places that the windows of the connections represent.
use Rattle.std.proofs.Common.{◌≡◌, ℕ, ◌^◌, ◌<◌, not, Bool, true, false, List, [], ◌∷◌, Option, Some, None, Result, Ok, Err, inl, inr, refl, sym, ap, ◌∙◌, subst}
use Rattle.std.specs.Prelude.{◌==◌, ℤ, pos, ◌-ℤ◌, int_lt, nat_le, is_some, ◌||◌, if◌then◌else◌}
use Rattle.std.specs.Cmp.{int_eq_equiv}
use Rattle.std.specs.List.{IsDistinct, list_any}
use Rattle.std.specs.Ordering.{nat_cmp, int_eq}
use Rattle.std.specs.BTreeMap.{is_at}
use Rattle.std.specs.Map.{set_value}
use Rattle.std.proofs.lemmas.Bool.{eqb-true}
use Rattle.std.proofs.lemmas.Map.Keys.{IsDistinct-push}
use Rattle.krb_conf.specs.declared.env.Env.{Env}
use Rattle.krb_context.proofs.WindowLemmas.{judged_is, noted_is}
use Rattle.krb_context.specs.Places.{greatest, place_of, was_opened, verdict_after, verdict_of, opened}
use Rattle.krb_context.specs.Unwraps.{aged, Unwraps, unwrapped, message_number}
use Rattle.krb_context.specs.Window.{Window, StandsFor, number_verdict, noted}
use Rattle.krb_context.specs.declared.context.Kerberos.{Kerberos}
use Rattle.krb_context.specs.declared.window.NumberVerdict.TheVariants.{Fresh, Old, Repeated}
use Rattle.krb_exchange.specs.declared.user_to_user.TgtReq.{TgtReq}
use Rattle.krb_replay.specs.declared.ask.Ask.{Ask}
use Rattle.krb_replay.specs.declared.ask.Verdict.{Verdict}
use Rattle.krb_admission.specs.Accepts.{MakesAnswer, Ends, awaits_last_word}
use Rattle.krb_admission.specs.Admission.{settled as admitted}
use Rattle.krb_admission.specs.ThirdLeg.{Closes}
use Rattle.krb_admission.specs.declared.admission.Answer.{Answer}
use Rattle.krb_admission.specs.declared.admission.Admission.{Admission}
use Rattle.krb_server.specs.Whole.{AcceptsToken}
use Rattle.krb_server.specs.declared.accept.Accepted.{Accepted}
use Rattle.krb_server.specs.declared.accept.Accepted.TheVariants as taken
use Rattle.krb_initiator.specs.declared.seeker.Initiation.{Initiation}
use Rattle.krb_script.specs.Script.{at_id}
use Rattle.krb_script.specs.declared.item.Event.{Event}
use Rattle.krb_script.specs.declared.input.Input.{Input}
use Rattle.krb_script.specs.declared.input.Input.TheVariants.{Token, Start, KdcReply, KdcFault, Wrap, Unwrap, MakeMic, VerifyMic}
use Rattle.sspi_core.specs.Buffer.{Buffer}
use Rattle.sspi_core.specs.Checks.{ok_or}
use Rattle.sspi_core.specs.Kinds.{error_of}
use Rattle.sspi_core.specs.Moments.{last_moment}
use Rattle.sspi_core.specs.declared.cause.Cause.{Cause}
use Rattle.sspi_core.specs.declared.cause.Cause.TheVariants as causes
use Rattle.sspi_core.specs.declared.draw.Draw.{Draw}
use Rattle.sspi_core.specs.declared.error.Error.{Error}
use Rattle.sspi_generator.specs.declared.network.NetFault.{NetFault}
use Rattle.krb_machine.specs.Exchanges.{awaits, answer_of, LeadsTo}
use Rattle.krb_machine.specs.Initiations.{SetsOut}
use Rattle.krb_machine.specs.MessageCalls.{is_call, IsSealedBy, IsOpenedBy, IsSignedBy, Calls}
use Rattle.krb_machine.specs.Opened.{Lists, StandFor, IsAnsweredBy, IsJudgedBy, list_after, lists_after, lists_behind, AreJudgedBy, BringsOctets, BringOctets}
use Rattle.krb_machine.specs.Policy.{State, ◌>>=◌, check, ready, reached, heard, awaited, is_initiator, Settles, AnswersCall, TakesAnswer, TakesTurn, Behind, TakesPart, StepsOnward, StepsBy, Steps, Runs}
use Rattle.krb_machine.specs.declared.connection.Connection.{Connection}
use Rattle.krb_machine.specs.declared.exchange.Step.{Step}
use Rattle.krb_machine.specs.declared.exchange.Step.TheVariants.{Asks, Ends as EndsStep, Refused as RefusesStep}
use Rattle.krb_machine.specs.declared.reply.Reply.{Reply}
use Rattle.krb_machine.specs.declared.reply.Reply.TheVariants.{Done, Ask as Asked, Buffers, Mic, Verified, Refused}
use Rattle.krb_machine.specs.declared.run.Run.{Run}
use Rattle.krb_machine.proofs.SetLemmas.{set-there, set-apart, ready-found, awaited-found, heard-found, reached-found}
use Rattle.krb_machine.proofs.WindowLemmas.{TellsAge, no_age, opened_is_fresh, refused_by_age, aged_old, aged_repeated, message_number-lt}

-- ---- the window of a connection

abbrev window_of : Connection → Window
window_of connection = connection.context.window

leads_window : (connection : Connection) (step : Step) (reply : Reply) (next : Connection) → LeadsTo connection step reply next → window_of next ≡ window_of connection
leads_window connection (Asks request run) reply next h = ap window_of h.1
leads_window connection (EndsStep done) reply next h = ap window_of h.1
leads_window connection (RefusesStep error) reply next h = ap window_of h.1

sets_out_window : (connection : Connection) (draw : Draw) (answer : Result Initiation Cause) (reply : Reply) (next : Connection) → SetsOut connection draw answer reply next → window_of next ≡ window_of connection
sets_out_window connection draw (Ok initiation) reply next h = leads_window connection h.3.step reply next h.3.leads
sets_out_window connection draw (Err cause) reply next h = ap window_of h.1

settles_window : (draw : Draw) (connection : Connection) (answer : Result Accepted Error) (reply : Reply) (next : Connection) → Settles draw connection answer reply next → window_of next ≡ window_of connection
settles_window draw connection (Ok (taken.Done status token admits)) reply next h = ap window_of h.1
settles_window draw connection (Ok (taken.Run run)) reply next h = leads_window connection h.step reply next h.leads
settles_window draw connection (Err error) reply next h = ap window_of h.1

-- an acceptor that admits a client, or takes the third leg, keeps its window
admitted_window : (server : Kerberos) (admission : Admission) → (admitted server admission).window ≡ server.window
unfolding admitted
admitted_window server admission = refl

makes_window : (server : Kerberos) (outcome : Result Admission Cause) (answer : Result Answer Cause) (after : Kerberos) → MakesAnswer server outcome answer after → after.window ≡ server.window
makes_window server (Ok admission) answer after h = ap (λ (k : Kerberos). k.window) h.1 ∙ admitted_window server admission
makes_window server (Err cause) answer after h = ap (λ (k : Kerberos). k.window) h.1

closes_window : (server : Kerberos) (outcome : Result (Unit {0}) Cause) (answer : Result Answer Cause) (after : Kerberos) → Closes server outcome answer after → after.window ≡ server.window
closes_window server (Ok u) answer after h = ap (λ (k : Kerberos). k.window) h.1
closes_window server (Err cause) answer after h = ap (λ (k : Kerberos). k.window) h.1

ends_window : (last : Bool) (server : Kerberos) (token : List ℕ) (outcome : Result Admission Cause) (answer : Result Answer Cause) (after : Kerberos)
    → Ends last server token outcome answer after → after.window ≡ server.window
ends_window true server token outcome answer after h = closes_window server h.outcome answer after h.closes
ends_window false server token outcome answer after h = makes_window server outcome answer after h

made_window : {G : Type 0} (admits : G → Ask → Verdict → G → Type 0) (server : Kerberos) (dce : Bool) (token : List ℕ) (env : Env) (draw : Draw) (old : G) (found : Option TgtReq)
    (answer : Result Accepted Cause) (after : Kerberos) (new : G) → AcceptsToken admits server dce token env draw old found answer after new → after.window ≡ server.window
made_window admits server dce token env draw old (Some tgt_req) answer after new h = ap (λ (k : Kerberos). k.window) h.1
made_window admits server dce token env draw old None answer after new h =
    ends_window (awaits_last_word dce server.state) server token h.accepts.outcome h.judged after h.accepts.made

-- ---- calls

-- the reply to a call by its connection's list, and the list that the window represents then
record Keeps (places : List ℤ) (input : Input) (reply : Reply) (window : Window) : Type 0 where
  judged : IsJudgedBy places input reply
  stands : StandsFor window (list_after places input reply)

along : (places : List ℤ) (old new : Window) → new ≡ old → StandsFor old places → StandsFor new places
along places old new e stands = subst (λ (w : Window). StandsFor w places) (sym e) stands

cause_is : (x y : Cause) → error_of x ≡ error_of y → x ≡ y
cause_is x y e = ap (λ (error : Error). error.cause) e

-- a refusal by the window is one by the list
refused_kept : (places : List ℤ) (window : Window) (number : ℕ) (cause : Cause) → StandsFor window places → (TellsAge cause → aged (number_verdict window number) ≡ Some cause)
    → (error_of cause ≡ error_of causes.Old → verdict_of places number ≡ Old) × (error_of cause ≡ error_of causes.Repeated → verdict_of places number ≡ Repeated)
refused_kept places window number cause stands tells =
    let same : number_verdict window number ≡ verdict_of places number = judged_is window places number stands in (
      λ e. let is = cause_is cause causes.Old e in
          sym same ∙ aged_old (number_verdict window number) (tells (inl is) ∙ ap Some is),
      λ e. let is = cause_is cause causes.Repeated e in
          sym same ∙ aged_repeated (number_verdict window number) (tells (inr is) ∙ ap Some is),
    )

answered_as : (places : List ℤ) (message : List Buffer) (window : Window) (made reply : Reply) → reply ≡ made → Keeps places (Unwrap message) made window → Keeps places (Unwrap message) reply window
answered_as places message window made reply is keeps = subst (λ (r : Reply). Keeps places (Unwrap message) r window) (sym is) keeps

opened_keeps : (places : List ℤ) (context after : Kerberos) (message : List Buffer) (answer : Result (List ℕ) Cause) (reply : Reply) → message_number message < 2 ^ 32 → StandsFor context.window places
    → Unwraps context message answer → IsOpenedBy context message answer reply after → Keeps places (Unwrap message) reply after.window
opened_keeps places context after message (Ok text) reply small stands unwraps made =
    let number = message_number message in
    let fresh : number_verdict context.window number ≡ Fresh = opened_is_fresh context message text unwraps in
    answered_as places message after.window (Buffers (unwrapped text message)) reply made.0
    (record {
      judged = sym (judged_is context.window places number stands) ∙ fresh;
      stands = along (opened places number) (noted context.window number) after.window (ap (λ (k : Kerberos). k.window) made.1) (noted_is context.window places number small stands fresh);
    })
opened_keeps places context after message (Err cause) reply small stands unwraps made =
    answered_as places message after.window (Refused (error_of cause)) reply made.0
    (record {
      judged = refused_kept places context.window (message_number message) cause stands (λ age. refused_by_age context message cause age unwraps);
      stands = along places context.window after.window (ap (λ (k : Kerberos). k.window) made.1) stands;
    })

sealed_window : (context : Kerberos) (answer : Result (List Buffer) Cause) (reply : Reply) (after : Kerberos) → IsSealedBy context answer reply after → after.window ≡ context.window
sealed_window context (Ok message) reply after h = ap (λ (k : Kerberos). k.window) h.1
sealed_window context (Err cause) reply after h = ap (λ (k : Kerberos). k.window) h.1

signed_window : (context : Kerberos) (answer : Result (List ℕ) Cause) (reply : Reply) (after : Kerberos) → IsSignedBy context answer reply after → after.window ≡ context.window
signed_window context (Ok token) reply after h = ap (λ (k : Kerberos). k.window) h.1
signed_window context (Err cause) reply after h = ap (λ (k : Kerberos). k.window) h.1

call_keeps : (places : List ℤ) (input : Input) (context : Kerberos) (random : List ℕ) (reply : Reply) (after : Kerberos) → BringsOctets input → StandsFor context.window places
    → Calls input context random reply after → Keeps places input reply after.window
call_keeps places (Token octets) context random reply after octets_are stands h = absurd h
call_keeps places Start context random reply after octets_are stands h = absurd h
call_keeps places (KdcReply octets) context random reply after octets_are stands h = absurd h
call_keeps places (KdcFault code) context random reply after octets_are stands h = absurd h
call_keeps places (Wrap message) context random reply after octets_are stands h =
    record { judged = tt; stands = along places context.window after.window (sealed_window context h.answer reply after h.made) stands }
call_keeps places (Unwrap message) context random reply after octets_are stands h =
    opened_keeps places context after message h.answer reply (message_number-lt message octets_are) stands h.unwraps h.made
call_keeps places (MakeMic payload) context random reply after octets_are stands h =
    record { judged = tt; stands = along places context.window after.window (signed_window context h.answer reply after h.made) stands }
call_keeps places (VerifyMic token payload) context random reply after octets_are stands h =
    record { judged = tt; stands = along places context.window after.window (ap (λ (k : Kerberos). k.window) h.stays) stands }

-- an event that is no call keeps the list, and its reply judges no message
quiet_keeps : (places : List ℤ) (input : Input) (reply : Reply) (window : Window) → is_call input ≡ false → StandsFor window places → Keeps places input reply window
quiet_keeps places (Token octets) reply window e stands = record { judged = tt; stands = stands }
quiet_keeps places Start reply window e stands = record { judged = tt; stands = stands }
quiet_keeps places (KdcReply octets) reply window e stands = record { judged = tt; stands = stands }
quiet_keeps places (KdcFault code) reply window e stands = record { judged = tt; stands = stands }
quiet_keeps places (Wrap message) reply window e stands = absurd (cc)
quiet_keeps places (Unwrap message) reply window e stands = absurd (cc)
quiet_keeps places (MakeMic payload) reply window e stands = absurd (cc)
quiet_keeps places (VerifyMic token payload) reply window e stands = absurd (cc)

-- the first checks never fail for a message's age
same_refusal : (x y : Cause) → ◌≡◌ {A = Result Connection Cause} (Err x) (Err y) → x ≡ y
same_refusal x y e = cc

other_cause : (x y : Cause) → ◌≡◌ {A = Result Connection Cause} (Err x) (Err y) → (TellsAge x → ⊥) → TellsAge y → ⊥
other_cause x y e other age = other (subst TellsAge (sym (same_refusal x y e)) age)

waits_quiet : (connection : Connection) (waits : Option Run) (cause : Cause) → (check causes.Sequence (not (is_some waits)) >>= (λ u. Ok connection)) ≡ Err cause → TellsAge cause → ⊥
waits_quiet connection None cause e age = absurd (cc)
waits_quiet connection (Some run) cause e age = other_cause causes.Sequence cause e (no_age causes.Sequence (λ z. cc) (λ z. cc)) age

checks_quiet : (in_range : Bool) (found : Option Connection) (cause : Cause)
    → (check causes.Moment in_range >>= (λ u. ok_or causes.Connection found) >>= (λ c. check causes.Sequence (not (awaits c)) >>= (λ u. Ok c))) ≡ Err cause → TellsAge cause → ⊥
checks_quiet false found cause e age = other_cause causes.Moment cause e (no_age causes.Moment (λ z. cc) (λ z. cc)) age
checks_quiet true None cause e age = other_cause causes.Connection cause e (no_age causes.Connection (λ z. cc) (λ z. cc)) age
checks_quiet true (Some connection) cause e age = waits_quiet connection connection.exchange cause e age

ready_quiet : (connections : List (ℕ × Connection)) (event : Event) (cause : Cause) → ready connections event ≡ Err cause → TellsAge cause → ⊥
ready_quiet connections event cause e age = checks_quiet (nat_le event.moment last_moment) (at_id event.connection connections) cause e age

-- a refusal of the first checks judges no message, and leaves the list
refusal_keeps : (places : List ℤ) (input : Input) (cause : Cause) → (TellsAge cause → ⊥) → IsJudgedBy places input (Refused (error_of cause)) × (list_after places input (Refused (error_of cause)) ≡ places)
refusal_keeps places (Token octets) cause quiet = (tt, refl)
refusal_keeps places Start cause quiet = (tt, refl)
refusal_keeps places (KdcReply octets) cause quiet = (tt, refl)
refusal_keeps places (KdcFault code) cause quiet = (tt, refl)
refusal_keeps places (Wrap message) cause quiet = (tt, refl)
refusal_keeps places (Unwrap message) cause quiet = (
  (
    λ e. absurd (quiet (inl (cause_is cause causes.Old e))),
    λ e. absurd (quiet (inr (cause_is cause causes.Repeated e))),
  ),
  refl,
)
refusal_keeps places (MakeMic payload) cause quiet = (tt, refl)
refusal_keeps places (VerifyMic token payload) cause quiet = (tt, refl)

-- an event that is no call leaves the list
quiet_list : (reply : Reply) (input : Input) → is_call input ≡ false → (places : List ℤ) → IsJudgedBy places input reply × (list_after places input reply ≡ places)
quiet_list reply (Token octets) e places = (tt, refl)
quiet_list reply Start e places = (tt, refl)
quiet_list reply (KdcReply octets) e places = (tt, refl)
quiet_list reply (KdcFault code) e places = (tt, refl)
quiet_list reply (Wrap message) e places = absurd (cc)
quiet_list reply (Unwrap message) e places = absurd (cc)
quiet_list reply (MakeMic payload) e places = absurd (cc)
quiet_list reply (VerifyMic token payload) e places = absurd (cc)

-- ---- one event

some_same : (x y : Connection) (o : Option Connection) → o ≡ Some x → o ≡ Some y → x ≡ y
some_same x y o p q = let e : Some x ≡ Some y = sym p ∙ q in cc

module _ (lists : Lists) (event : Event) where
  after_apart : (reply : Reply) (id : ℕ) → (event.connection == id) ≡ false → lists id ≡ lists_after lists event reply id
  after_apart reply id e = rw e refl

  after_there : (reply : Reply) (id : ℕ) → (event.connection == id) ≡ true → list_after (lists id) event.input reply ≡ lists_after lists event reply id
  after_there reply id e = rw e refl

module _ {G : Type 0} (lists : Lists) (event : Event) where
  -- the reply to an event by the lists, and the lists that the windows represent then
  record Follows (reply : Reply) (after : State G) : Type 0 where
    judged : IsJudgedBy (lists event.connection) event.input reply
    stand : StandFor after (lists_after lists event reply)

  module _ (state after : State G) (reply : Reply) (stand : StandFor state lists) where
    -- the event's connection is set, and keeps its list
    put_at : (connection next : Connection) → at_id event.connection state.connections ≡ Some connection → after.connections ≡ set_value (is_at (nat_cmp event.connection)) state.connections next
        → StandsFor next.context.window (list_after (lists event.connection) event.input reply)
        → (id : ℕ) (other : Connection) (same : Bool) → (event.connection == id) ≡ same → at_id id after.connections ≡ Some other → StandsFor other.context.window (lists_after lists event reply id)
    put_at connection next there put stands id other true e at =
        let here : event.connection ≡ id = eqb-true event.connection id e in
        let at_next : at_id id after.connections ≡ Some next =
        ap (λ (c : List (ℕ × Connection)). at_id id c) put ∙ subst (λ (n : ℕ). at_id n (set_value (is_at (nat_cmp event.connection)) state.connections next) ≡ Some next) here (set-there state.connections event.connection connection next there) in
        let is : next ≡ other = some_same next other (at_id id after.connections) at_next at in
        let stands_here : StandsFor next.context.window (list_after (lists id) event.input reply) = subst (λ (n : ℕ). StandsFor next.context.window (list_after (lists n) event.input reply)) here stands in
        subst (λ (c : Connection). StandsFor c.context.window (lists_after lists event reply id)) is
        (subst (λ (places : List ℤ). StandsFor next.context.window places) (after_there lists event reply id e) stands_here)
    put_at connection next there put stands id other false e at =
        let before : at_id id state.connections ≡ Some other = sym (ap (λ (c : List (ℕ × Connection)). at_id id c) put ∙ set-apart state.connections event.connection id next e) ∙ at in
        subst (λ (places : List ℤ). StandsFor other.context.window places) (after_apart lists event reply id e) (stand id other before)

    put_follows : (connection next : Connection) → at_id event.connection state.connections ≡ Some connection → after.connections ≡ set_value (is_at (nat_cmp event.connection)) state.connections next
        → Keeps (lists event.connection) event.input reply next.context.window → Follows reply after
    put_follows connection next there put keeps = record {
      judged = keeps.judged;
      stand = λ id other at. put_at connection next there put keeps.stands id other (event.connection == id) refl at;
    }

    -- no connection is set: a refusal, or an event that is no call
    same_at : after ≡ state → list_after (lists event.connection) event.input reply ≡ lists event.connection
        → (id : ℕ) (other : Connection) (same : Bool) → (event.connection == id) ≡ same → at_id id after.connections ≡ Some other → StandsFor other.context.window (lists_after lists event reply id)
    same_at is list id other true e at =
        let here : event.connection ≡ id = eqb-true event.connection id e in
        let list_here : list_after (lists id) event.input reply ≡ lists id = subst (λ (n : ℕ). list_after (lists n) event.input reply ≡ lists n) here list in
        subst (λ (places : List ℤ). StandsFor other.context.window places) (sym list_here ∙ after_there lists event reply id e) (stand id other (ap (λ (s : State G). at_id id s.connections) (sym is) ∙ at))
    same_at is list id other false e at =
        subst (λ (places : List ℤ). StandsFor other.context.window places) (after_apart lists event reply id e) (stand id other (ap (λ (s : State G). at_id id s.connections) (sym is) ∙ at))

    same_follows : after ≡ state → IsJudgedBy (lists event.connection) event.input reply → list_after (lists event.connection) event.input reply ≡ lists event.connection → Follows reply after
    same_follows is number_verdict list = record { judged = number_verdict; stand = λ id other at. same_at is list id other (event.connection == id) refl at }

    refused_follows : (cause : Cause) → (reply ≡ Refused (error_of cause)) × (after ≡ state) → (TellsAge cause → ⊥) → Follows reply after
    refused_follows cause h quiet =
        let keeps = refusal_keeps (lists event.connection) event.input cause quiet in
        same_follows h.1 (subst (λ (r : Reply). IsJudgedBy (lists event.connection) event.input r) (sym h.0) keeps.0)
        (ap (λ (r : Reply). list_after (lists event.connection) event.input r) h.0 ∙ keeps.1)

    stays_follows : is_call event.input ≡ false → after ≡ state → Follows reply after
    stays_follows e is = let quiet = quiet_list reply event.input e (lists event.connection) in same_follows is quiet.0 quiet.1

    quiet_follows : is_call event.input ≡ false → (connection next : Connection) → at_id event.connection state.connections ≡ Some connection
        → after.connections ≡ set_value (is_at (nat_cmp event.connection)) state.connections next → window_of next ≡ window_of connection → Follows reply after
    quiet_follows e connection next there put window =
        put_follows connection next there put
        (quiet_keeps (lists event.connection) event.input reply next.context.window e
        (along (lists event.connection) connection.context.window next.context.window window (stand event.connection connection there)))

    call_follows : BringsOctets event.input → (found : Result Connection Cause) → ready state.connections event ≡ found → AnswersCall state event found reply after → Follows reply after
    call_follows octets (Ok connection) is h =
        let there = ready-found state.connections event connection is in
        put_follows connection (record connection { context = h.context }) there h.connections
        (call_keeps (lists event.connection) event.input connection.context event.random reply h.context octets (stand event.connection connection there) h.calls)
    call_follows octets (Err cause) is h = refused_follows cause h (ready_quiet state.connections event cause is)

    answer_follows : is_call event.input ≡ false → (found : Result (Connection × Run) Cause) (answer : Result (List ℕ) NetFault) → awaited state.connections event ≡ found
        → TakesAnswer state event found answer reply after → Follows reply after
    answer_follows e (Ok found) answer is h =
        quiet_follows e found.0 h.next (awaited-found state.connections event found is) h.connections (leads_window found.0 h.goes_on.step reply h.next h.goes_on.leads)
    answer_follows e (Err cause) answer is h = stays_follows e h.1

    turn_follows : is_call event.input ≡ false → (found : Result (Connection × List ℕ) Cause) → heard state.connections event ≡ found → TakesTurn state event found reply after → Follows reply after
    turn_follows e (Ok found) is h =
        quiet_follows e found.0 h.next (heard-found state.connections event found is) h.connections (sets_out_window found.0 _ h.undertakes.answer reply h.next h.undertakes.sets_out)
    turn_follows e (Err cause) is h = stays_follows e h.1

    module _ (admits : G → Ask → Verdict → G → Type 0) where
      token_follows : is_call event.input ≡ false → (found : Result (Connection × List ℕ) Cause) → reached state.connections event ≡ found → Behind admits state event found reply after → Follows reply after
      token_follows e (Ok found) is h =
          quiet_follows e found.0 h.next (reached-found state.connections event found is) h.connections
          (settles_window _ (record found.0 { context = h.server }) _ reply h.next h.settles
          ∙ made_window admits found.0.context _ found.1 state.env _ state.gate h.accepts.tgt_req h.answer h.server after.gate h.accepts.made)
      token_follows e (Err cause) is h = stays_follows e h.1

      part_follows : is_call event.input ≡ false → (initiates : Bool) → TakesPart admits initiates state event reply after → Follows reply after
      part_follows e true h = turn_follows e (heard state.connections event) refl h
      part_follows e false h = token_follows e (reached state.connections event) refl h

      onward_follows : is_call event.input ≡ false → (answer : Option (Result (List ℕ) NetFault)) → StepsOnward admits answer state event reply after → Follows reply after
      onward_follows e (Some answer) h = answer_follows e (awaited state.connections event) answer refl h
      onward_follows e None h = part_follows e (is_initiator event.connection state.connections) h

      kind_follows : BringsOctets event.input → (call : Bool) → is_call event.input ≡ call → StepsBy admits call state event reply after → Follows reply after
      kind_follows octets true e h = call_follows octets (ready state.connections event) refl h
      kind_follows octets false e h = onward_follows e (answer_of event.input) h

      step_follows : BringsOctets event.input → Steps admits state event reply after → Follows reply after
      step_follows octets h = kind_follows octets (is_call event.input) refl h

-- ---- runs

module _ {G : Type 0} (admits : G → Ask → Verdict → G → Type 0) where
  pub run_judged : (lists : Lists) (state after : State G) (events : List Event) (replies : List Reply) → BringOctets events → Runs admits state events replies after → StandFor state lists
      → AreJudgedBy lists events replies
  run_judged lists state after [] replies octets runs stand = tt
  run_judged lists state after (event ∷ events) [] octets runs stand = tt
  run_judged lists state after (event ∷ events) (reply ∷ replies) octets runs stand =
      let follows = step_follows lists event state runs.0 reply stand admits octets.0 runs.1 in
      (follows.judged, run_judged (lists_after lists event reply) runs.0 after events replies octets.1 runs.2 follows.stand)

  pub run_stands : (lists : Lists) (state after : State G) (events : List Event) (replies : List Reply) → BringOctets events → Runs admits state events replies after → StandFor state lists
      → StandFor after (lists_behind lists events replies)
  run_stands lists state after [] [] octets runs stand = subst (λ (s : State G). StandFor s lists) (sym runs) stand
  run_stands lists state after [] (reply ∷ replies) octets runs stand = absurd runs
  run_stands lists state after (event ∷ events) [] octets runs stand = absurd runs
  run_stands lists state after (event ∷ events) (reply ∷ replies) octets runs stand =
      let follows = step_follows lists event state runs.0 reply stand admits octets.0 runs.1 in
      run_stands (lists_after lists event reply) runs.0 after events replies octets.1 runs.2 follows.stand

-- ---- no place twice

-- a fresh place is not in the list
young_new : (young seen : Bool) → (if young then (if seen then Repeated else Fresh) else Old) ≡ Fresh → seen ≡ false
young_new true true e = absurd (cc)
young_new true false e = refl
young_new false seen e = absurd (cc)

new_after : (places : List ℤ) (newest : Option ℤ) (place : ℤ) → greatest places ≡ newest → verdict_after newest places place ≡ Fresh → was_opened places place ≡ false
new_after [] newest place is e = refl
new_after (first ∷ places) None place is e = absurd (cc)
new_after (first ∷ places) (Some newest) place is e = young_new (int_lt (newest -ℤ pos 64) place) (was_opened (first ∷ places) place) e

flipped : (places : List ℤ) (place : ℤ) → list_any (int_eq place) places ≡ was_opened places place
flipped [] place = refl
flipped (first ∷ places) place =
    ap (λ (b : Bool). b || list_any (int_eq place) places) (int_eq_equiv.symm place first) ∙ ap (λ (b : Bool). int_eq first place || b) (flipped places place)

opened_distinct : (places : List ℤ) (number : ℕ) → verdict_of places number ≡ Fresh → IsDistinct int_eq places → IsDistinct int_eq (opened places number)
opened_distinct places number fresh distinct =
    let place = place_of places number in
    IsDistinct-push int_eq_equiv places place distinct (flipped places place ∙ new_after places (greatest places) place refl fresh)

answered_distinct : (places : List ℤ) (message : List Buffer) (reply : Reply) → IsAnsweredBy places message reply → IsDistinct int_eq places → IsDistinct int_eq (list_after places (Unwrap message) reply)
answered_distinct places message (Buffers text) h distinct = opened_distinct places (message_number message) h distinct
answered_distinct places message (Refused error) h distinct = distinct
answered_distinct places message (Done status token admits) h distinct = absurd h
answered_distinct places message (Asked request) h distinct = absurd h
answered_distinct places message (Mic token) h distinct = absurd h
answered_distinct places message Verified h distinct = absurd h

judged_distinct : (places : List ℤ) (input : Input) (reply : Reply) → IsJudgedBy places input reply → IsDistinct int_eq places → IsDistinct int_eq (list_after places input reply)
judged_distinct places (Unwrap message) reply h distinct = answered_distinct places message reply h distinct
judged_distinct places (Token octets) reply h distinct = distinct
judged_distinct places Start reply h distinct = distinct
judged_distinct places (KdcReply octets) reply h distinct = distinct
judged_distinct places (KdcFault code) reply h distinct = distinct
judged_distinct places (Wrap message) reply h distinct = distinct
judged_distinct places (MakeMic payload) reply h distinct = distinct
judged_distinct places (VerifyMic token payload) reply h distinct = distinct

after_distinct : (lists : Lists) (event : Event) (reply : Reply) (id : ℕ) (same : Bool) → (event.connection == id) ≡ same → IsJudgedBy (lists event.connection) event.input reply → IsDistinct int_eq (lists id)
    → IsDistinct int_eq (lists_after lists event reply id)
after_distinct lists event reply id true e h distinct =
    let here : event.connection ≡ id = eqb-true event.connection id e in
    rw e (judged_distinct (lists id) event.input reply (subst (λ (n : ℕ). IsJudgedBy (lists n) event.input reply) here h) distinct)
after_distinct lists event reply id false e h distinct = rw e distinct

pub behind_distinct : (lists : Lists) (events : List Event) (replies : List Reply) (id : ℕ) → AreJudgedBy lists events replies → IsDistinct int_eq (lists id)
    → IsDistinct int_eq (lists_behind lists events replies id)
behind_distinct lists [] replies id number_verdict distinct = distinct
behind_distinct lists (event ∷ events) [] id number_verdict distinct = distinct
behind_distinct lists (event ∷ events) (reply ∷ replies) id number_verdict distinct =
    behind_distinct (lists_after lists event reply) events replies id number_verdict.1
    (after_distinct lists event reply id (event.connection == id) refl number_verdict.0 distinct)
