-- A service over a book answers as the one over the gate that never forgets.
use Rattle.std.proofs.Common.{◌≡◌, ℕ, Bool, true, false, List, [], ◌∷◌, ◌++◌, Option, Some, None, Result, Ok, Err, refl, ap, sym, ◌∙◌, subst}
use Rattle.krb_replay.specs.Book.{Book, Follows, StandsFor}
use Rattle.krb_replay.specs.History.{History, verdict_of, history_after}
use Rattle.krb_replay.specs.declared.ask.Verdict.{Verdict}
use Rattle.krb_admission.specs.Accepts.{Asks}
use Rattle.krb_admission.specs.Requests.{ask_of}
use Rattle.krb_server.specs.Whole.{AcceptsToken}
use Rattle.krb_server.specs.declared.accept.Accepted.{Accepted}
use Rattle.krb_conf.specs.declared.env.Env.{Env}
use Rattle.krb_context.specs.declared.context.Kerberos.{Kerberos}
use Rattle.krb_context.specs.declared.rules.Rules.{Rules}
use Rattle.krb_exchange.specs.declared.user_to_user.TgtReq.{TgtReq}
use Rattle.krb_machine.specs.declared.run.Run.{Run}
use Rattle.sspi_core.specs.declared.draw.Draw.{Draw}
use Rattle.sspi_generator.specs.declared.network.NetFault.{NetFault}
use Rattle.krb_admission.specs.declared.request.Request.{Request}
use Rattle.krb_script.specs.declared.item.Event.{Event}
use Rattle.sspi_core.specs.declared.cause.Cause.{Cause}
use Rattle.krb_machine.specs.declared.connection.Connection.{Connection}
use Rattle.krb_machine.specs.declared.reply.Reply.{Reply}
use Rattle.krb_machine.specs.Exchanges.{answer_of}
use Rattle.krb_machine.specs.Policy.{State, Behind, AnswersCall, TakesAnswer, TakesTurn, TakesPart, StepsOnward, StepsBy, Steps, Runs, reached, heard, ready, awaited, is_initiator}
use Rattle.krb_machine.specs.Described.{Remembers, with_gate}
use Rattle.krb_machine.specs.Left.{left_made, left_behind, left_by_part, left_onward, left_by_kind, record_left, records_left}
use Rattle.krb_machine.specs.MessageCalls.{is_call}
use Rattle.krb_machine.proofs.CallLemmas.{call-gate}
use Rattle.krb_machine.proofs.ExchangeLemmas.{answer-gate, turn-gate}

-- a book of this skew that represents the history
record Keeps (skew : ℕ) (book : Book) (h : History) : Type 0 where
  stands : StandsFor book h
  own_skew : book.skew ≡ skew

-- the book's step is one of the gate that never forgets
asks_remembered : (skew : ℕ) (rules : Rules) (moment : ℕ) (old : Book) (h : History) (request : Result Request Cause) (verdict : Verdict) (new : Book) → Keeps skew old h → Asks (Follows StandsFor) rules moment old request verdict new
    → (next : History) × Asks (Remembers skew) rules moment h request verdict next × Keeps skew new next
asks_remembered skew rules moment old h (Ok request) verdict new k step =
    let ask = ask_of rules request moment in
    let V : ℕ → Type 0 = λ s. verdict ≡ verdict_of s h ask in
    let S : ℕ → Type 0 = λ s. StandsFor new (history_after s h ask) in (
      history_after skew h ask,
      (subst V k.own_skew (step.answer h k.stands), refl),
      record { stands = subst S k.own_skew (step.history h k.stands); own_skew = step.skew ∙ k.own_skew },
    )
asks_remembered skew rules moment old h (Err cause) verdict new k same =
    let S : Book → Type 0 = λ b. StandsFor b h in (
      h,
      refl,
      record { stands = subst S (sym same) k.stands; own_skew = ap (λ (b : Book). b.skew) same ∙ k.own_skew },
    )

-- a token over the book is answered as one over the gate that never forgets, and leaves the same record
record MadeRemembered (skew : ℕ) (server : Kerberos) (dce : Bool) (token : List ℕ) (env : Env) (draw : Draw) (old new : Book) (h : History) (found : Option TgtReq) (answer : Result Accepted Cause) (server' : Kerberos) (m : AcceptsToken (Follows StandsFor) server dce token env draw old found answer server' new) : Type 0 where
  after : History
  made : AcceptsToken (Remembers skew) server dce token env draw h found answer server' after
  keeps : Keeps skew new after
  left : left_made (Remembers skew) server dce token env draw h found answer server' after made ≡ left_made (Follows StandsFor) server dce token env draw old found answer server' new m

made_remembered : (skew : ℕ) (server : Kerberos) (dce : Bool) (token : List ℕ) (env : Env) (draw : Draw) (old new : Book) (h : History) (found : Option TgtReq) (answer : Result Accepted Cause) (server' : Kerberos) → Keeps skew old h
    → (m : AcceptsToken (Follows StandsFor) server dce token env draw old found answer server' new) → MadeRemembered skew server dce token env draw old new h found answer server' m
made_remembered skew server dce token env draw old new h (Some tgt_req) answer server' k m =
    let K : Book → Type 0 = λ b. Keeps skew b h in
    record { after = h; made = (m.0, m.1, refl); keeps = subst K (sym m.2) k; left = refl }
made_remembered skew server dce token env draw old new h None answer server' k m =
    let a = asks_remembered skew server.rules draw.moment old h m.accepts.request m.accepts.verdict new k m.accepts.gate in
    record {
      after = a.0;
      made = record {
        judged = m.judged;
        accepts = record {
          verdict = m.accepts.verdict;
          request = m.accepts.request;
          begun = m.accepts.begun;
          gate = a.1;
          outcome = m.accepts.outcome;
          judged = m.accepts.judged;
          made = m.accepts.made;
        };
        answer_is = m.answer_is;
      };
      keeps = a.2;
      left = refl;
    }

-- an event over the book is answered as one over the gate that never forgets, and leaves the same record
record BehindRemembered (skew : ℕ) (before next : State Book) (h : History) (event : Event) (found : Result (Connection × List ℕ) Cause) (reply : Reply) (b : Behind (Follows StandsFor) before event found reply next) : Type 0 where
  after : History
  behind : Behind (Remembers skew) (with_gate before h) event found reply (with_gate next after)
  keeps : Keeps skew next.gate after
  left : left_behind (Remembers skew) (with_gate before h) event found reply (with_gate next after) behind ≡ left_behind (Follows StandsFor) before event found reply next b

behind_remembered : (skew : ℕ) (before next : State Book) (h : History) (event : Event) (found : Result (Connection × List ℕ) Cause) (reply : Reply) → Keeps skew before.gate h
    → (b : Behind (Follows StandsFor) before event found reply next) → BehindRemembered skew before next h event found reply b
behind_remembered skew before next h event (Ok found) reply k j =
    let m = made_remembered skew _ _ _ _ _ before.gate next.gate h j.accepts.tgt_req j.answer j.server k j.accepts.made in
    record {
      after = m.after;
      behind = record {
        answer = j.answer;
        server = j.server;
        accepts = record { tgt_req = j.accepts.tgt_req; found = j.accepts.found; made = m.made };
        next = j.next;
        settles = j.settles;
        connections = j.connections;
        env = j.env;
      };
      keeps = m.keeps;
      left = m.left;
    }
behind_remembered skew before next h event (Err cause) reply k b =
    let K : State Book → Type 0 = λ s. Keeps skew s.gate h in
    record { after = h; behind = (b.0, ap (λ (s : State Book). with_gate s h) b.1); keeps = subst K (sym b.1) k; left = refl }

-- one event, answered over a book
pub record Remembered (skew : ℕ) (before : State Book) (h : History) (event : Event) (reply : Reply) (next : State Book) (s : Steps (Follows StandsFor) before event reply next) : Type 0 where
  pub after : History
  pub steps : Steps (Remembers skew) (with_gate before h) event reply (with_gate next after)
  pub stands : StandsFor next.gate after
  pub own_skew : next.gate.skew ≡ skew
  pub left : record_left (Remembers skew) (with_gate before h) event reply (with_gate next after) steps ≡ record_left (Follows StandsFor) before event reply next s

-- one event, answered over a book, if `b` says whether the event is a call
record RememberedBy (skew : ℕ) (before : State Book) (h : History) (event : Event) (reply : Reply) (next : State Book) (b : Bool) (s : StepsBy (Follows StandsFor) b before event reply next) : Type 0 where
  after : History
  steps : StepsBy (Remembers skew) b (with_gate before h) event reply (with_gate next after)
  keeps : Keeps skew next.gate after
  left : left_by_kind (Remembers skew) b (with_gate before h) event reply (with_gate next after) steps ≡ left_by_kind (Follows StandsFor) b before event reply next s

call_remembered : (before : State Book) (h : History) (event : Event) (found : Result Connection Cause) (reply : Reply) (next : State Book) → AnswersCall before event found reply next
    → AnswersCall (with_gate before h) event found reply (with_gate next h)
call_remembered before h event (Ok connection) reply next c = record { context = c.context; calls = c.calls; connections = c.connections; env = c.env; gate = refl }
call_remembered before h event (Err cause) reply next c = (c.0, ap (λ (s : State Book). with_gate s h) c.1)

answer_remembered : (before : State Book) (h : History) (event : Event) (found : Result (Connection × Run) Cause) (answer : Result (List ℕ) NetFault) (reply : Reply) (next : State Book) → TakesAnswer before event found answer reply next
    → TakesAnswer (with_gate before h) event found answer reply (with_gate next h)
answer_remembered before h event (Ok found) answer reply next s = record { next = s.next; goes_on = s.goes_on; connections = s.connections; env = s.env; gate = refl }
answer_remembered before h event (Err cause) answer reply next s = (s.0, ap (λ (s : State Book). with_gate s h) s.1)

turn_remembered : (before : State Book) (h : History) (event : Event) (found : Result (Connection × List ℕ) Cause) (reply : Reply) (next : State Book) → TakesTurn before event found reply next
    → TakesTurn (with_gate before h) event found reply (with_gate next h)
turn_remembered before h event (Ok found) reply next s = record { next = s.next; undertakes = s.undertakes; connections = s.connections; env = s.env; gate = refl }
turn_remembered before h event (Err cause) reply next s = (s.0, ap (λ (s : State Book). with_gate s h) s.1)

record PartRemembered (skew : ℕ) (before : State Book) (h : History) (event : Event) (reply : Reply) (next : State Book) (initiates : Bool) (s : TakesPart (Follows StandsFor) initiates before event reply next) : Type 0 where
  after : History
  steps : TakesPart (Remembers skew) initiates (with_gate before h) event reply (with_gate next after)
  keeps : Keeps skew next.gate after
  left : left_by_part (Remembers skew) initiates (with_gate before h) event reply (with_gate next after) steps ≡ left_by_part (Follows StandsFor) initiates before event reply next s

part_remembered : (skew : ℕ) (before : State Book) (h : History) (event : Event) (reply : Reply) (next : State Book) (initiates : Bool) → Keeps skew before.gate h
    → (s : TakesPart (Follows StandsFor) initiates before event reply next) → PartRemembered skew before h event reply next initiates s
part_remembered skew before h event reply next true k s =
    let K : Book → Type 0 = λ g. Keeps skew g h in
    record {
      after = h;
      steps = turn_remembered before h event (heard before.connections event) reply next s;
      keeps = subst K (sym (turn-gate before event (heard before.connections event) reply next s)) k;
      left = refl;
    }
part_remembered skew before h event reply next false k s =
    let b = behind_remembered skew before next h event (reached before.connections event) reply k s in
    record { after = b.after; steps = b.behind; keeps = b.keeps; left = b.left }

record OnwardRemembered (skew : ℕ) (before : State Book) (h : History) (event : Event) (reply : Reply) (next : State Book) (answer : Option (Result (List ℕ) NetFault)) (s : StepsOnward (Follows StandsFor) answer before event reply next) : Type 0 where
  after : History
  steps : StepsOnward (Remembers skew) answer (with_gate before h) event reply (with_gate next after)
  keeps : Keeps skew next.gate after
  left : left_onward (Remembers skew) answer (with_gate before h) event reply (with_gate next after) steps ≡ left_onward (Follows StandsFor) answer before event reply next s

onward_remembered : (skew : ℕ) (before : State Book) (h : History) (event : Event) (reply : Reply) (next : State Book) (answer : Option (Result (List ℕ) NetFault)) → Keeps skew before.gate h
    → (s : StepsOnward (Follows StandsFor) answer before event reply next) → OnwardRemembered skew before h event reply next answer s
onward_remembered skew before h event reply next (Some answer) k s =
    let K : Book → Type 0 = λ g. Keeps skew g h in
    record {
      after = h;
      steps = answer_remembered before h event (awaited before.connections event) answer reply next s;
      keeps = subst K (sym (answer-gate before event (awaited before.connections event) answer reply next s)) k;
      left = refl;
    }
onward_remembered skew before h event reply next None k s =
    let p = part_remembered skew before h event reply next (is_initiator event.connection before.connections) k s in
    record { after = p.after; steps = p.steps; keeps = p.keeps; left = p.left }

remembered_by : (skew : ℕ) (before : State Book) (h : History) (event : Event) (reply : Reply) (next : State Book) (b : Bool) → Keeps skew before.gate h
    → (s : StepsBy (Follows StandsFor) b before event reply next) → RememberedBy skew before h event reply next b s
remembered_by skew before h event reply next true k s =
    let K : Book → Type 0 = λ g. Keeps skew g h in
    record {
      after = h;
      steps = call_remembered before h event (ready before.connections event) reply next s;
      keeps = subst K (sym (call-gate before event (ready before.connections event) reply next s)) k;
      left = refl;
    }
remembered_by skew before h event reply next false k s =
    let o = onward_remembered skew before h event reply next (answer_of event.input) k s in
    record { after = o.after; steps = o.steps; keeps = o.keeps; left = o.left }

pub step-remembered : (skew : ℕ) (before : State Book) (h : History) (event : Event) (reply : Reply) (next : State Book) → StandsFor before.gate h → before.gate.skew ≡ skew
    → (s : Steps (Follows StandsFor) before event reply next) → Remembered skew before h event reply next s
step-remembered skew before h event reply next stands own_skew s =
    let b = remembered_by skew before h event reply next (is_call event.input) (record { stands = stands; own_skew = own_skew }) s in
    record {
      after = b.after;
      steps = b.steps;
      stands = b.keeps.stands;
      own_skew = b.keeps.own_skew;
      left = b.left;
    }

-- a run over a book is one over the gate that never forgets, and leaves the same records
pub record RunRemembered (skew : ℕ) (before : State Book) (h : History) (events : List Event) (replies : List Reply) (after : State Book) (runs : Runs (Follows StandsFor) before events replies after) : Type 0 where
  pub later : History
  pub remembers : Runs (Remembers skew) (with_gate before h) events replies (with_gate after later)
  pub stands : StandsFor after.gate later
  pub own_skew : after.gate.skew ≡ skew
  pub left : records_left (Remembers skew) (with_gate before h) events replies (with_gate after later) remembers ≡ records_left (Follows StandsFor) before events replies after runs

pub run-remembered : (skew : ℕ) (before : State Book) (h : History) (events : List Event) (replies : List Reply) (after : State Book) → StandsFor before.gate h → before.gate.skew ≡ skew
    → (runs : Runs (Follows StandsFor) before events replies after) → RunRemembered skew before h events replies after runs
run-remembered skew before h [] [] after stands own_skew runs =
    let S : State Book → Type 0 = λ s. StandsFor s.gate h in
    record {
      later = h;
      remembers = ap (λ (s : State Book). with_gate s h) runs;
      stands = subst S (sym runs) stands;
      own_skew = ap (λ (s : State Book). s.gate.skew) runs ∙ own_skew;
      left = refl;
    }
run-remembered skew before h [] (reply ∷ replies) after stands own_skew runs = absurd runs
run-remembered skew before h (event ∷ events) [] after stands own_skew runs = absurd runs
run-remembered skew before h (event ∷ events) (reply ∷ replies) after stands own_skew runs =
    let first = step-remembered skew before h event reply runs.0 stands own_skew runs.1 in
    let rest = run-remembered skew runs.0 first.after events replies after first.stands first.own_skew runs.2 in
    record {
      later = rest.later;
      remembers = (with_gate runs.0 first.after, first.steps, rest.remembers);
      stands = rest.stands;
      own_skew = rest.own_skew;
      left = ap (λ l. l ++ records_left (Remembers skew) (with_gate runs.0 first.after) events replies (with_gate after rest.later) rest.remembers) first.left
          ∙ ap (λ l. record_left (Follows StandsFor) before event reply runs.0 runs.1 ++ l) rest.left;
    }
