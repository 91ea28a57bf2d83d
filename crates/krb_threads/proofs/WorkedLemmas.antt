-- A run over a gate that keeps a log is a run by the entries that the log gains.
use Rattle.std.proofs.Common.{◌≡◌, ℕ, Bool, true, false, ◌+◌, ◌≤◌, List, [], ◌∷◌, ◌++◌, length, length-append, map, take, Option, Some, None, Result, Ok, Err, IsSomeAnd, OnOk, IfErr, ◌<◌, refl, ap, sym, ◌∙◌, subst, append_assoc, arith}
use Rattle.std.proofs.lemmas.List.{append-nil, map-append}
use Rattle.krb_replay.specs.declared.ask.Ask.{Ask}
use Rattle.krb_replay.specs.declared.ask.Verdict.{Verdict}
use Rattle.krb_admission.specs.Accepts.{Asks}
use Rattle.krb_admission.specs.Requests.{ask_of}
use Rattle.krb_server.specs.Whole.{AcceptsToken}
use Rattle.krb_server.specs.declared.accept.Accepted.{Accepted}
use Rattle.krb_conf.specs.declared.env.Env.{Env}
use Rattle.krb_context.specs.declared.context.Kerberos.{Kerberos}
use Rattle.krb_context.specs.declared.rules.Rules.{Rules}
use Rattle.krb_exchange.specs.declared.user_to_user.TgtReq.{TgtReq}
use Rattle.krb_machine.specs.declared.run.Run.{Run}
use Rattle.sspi_core.specs.declared.draw.Draw.{Draw}
use Rattle.sspi_generator.specs.declared.network.NetFault.{NetFault}
use Rattle.krb_admission.specs.declared.request.Request.{Request}
use Rattle.krb_shared.specs.declared.entry.Entry.{Entry}
use Rattle.krb_shared.specs.declared.entry.Receipt.{Receipt}
use Rattle.krb_shared.specs.Desk.{Gate, AdmitsNext, next_call}
use Rattle.krb_shared.specs.Seats.{Seat, AddsReceipt}
use Rattle.krb_script.specs.declared.item.Event.{Event}
use Rattle.sspi_core.specs.declared.cause.Cause.{Cause}
use Rattle.krb_machine.specs.Described.{with_gate}
use Rattle.krb_machine.specs.Exchanges.{answer_of}
use Rattle.krb_machine.specs.Policy.{State, Behind, AnswersCall, TakesAnswer, TakesTurn, TakesPart, StepsOnward, StepsBy, Steps, Runs, RunsOn, StopsBehind, reached, heard, ready, awaited, is_initiator}
use Rattle.krb_machine.specs.MessageCalls.{is_call}
use Rattle.krb_machine.proofs.CallLemmas.{call-gate}
use Rattle.krb_machine.proofs.ExchangeLemmas.{answer-gate, answer-env, turn-gate, turn-env}
use Rattle.krb_machine.specs.declared.connection.Connection.{Connection}
use Rattle.krb_machine.specs.declared.reply.Reply.{Reply}
use Rattle.krb_machine.specs.declared.service.Stopped.{Stopped}
use Rattle.krb_threads.specs.Journaled.{Rest, Reads, RunsBy}
use Rattle.krb_threads.specs.Runs.{EndsAs}
use Rattle.krb_threads.specs.Worked.{log_of, WorksAt, AreOf, WorksThere}

-- one call is entered into a log, as the next of its seat, and the kept part is unchanged
pub record Logs {G N : Type 0} (log : G → List Entry) (next seat : G → ℕ) (kept : G → N) (a : G) (ask : Ask) (verdict : Verdict) (b : G) : Type 0 where
  pub log_is : log b ≡ log a ++ record { seat = seat a; call = next a; ask = ask; verdict = verdict } ∷ []
  pub next_is : next b ≡ next a + 1
  pub seat_is : seat b ≡ seat a
  pub kept_is : kept b ≡ kept a

AreOf-append : (seat : ℕ) (xs ys : List Entry) → AreOf seat xs → AreOf seat ys → AreOf seat (xs ++ ys)
AreOf-append seat [] ys p q = q
AreOf-append seat (x ∷ xs) ys p q = (p.0, AreOf-append seat xs ys p.1 q)

module _ {G N : Type 0} (admits : G → Ask → Verdict → G → Type 0) (log : G → List Entry) (next seat : G → ℕ) (kept : G → N)
    (step : (a : G) (ask : Ask) (verdict : Verdict) (b : G) → admits a ask verdict b → Logs log next seat kept a ask verdict b) where
  -- a gate that reads these entries, from the next call on
  abbrev rest_at : G → List Entry → Rest
  rest_at g entries = record { call = next g; entries = entries }

  -- the part of a gate that is kept, and the entries that its log gains
  record Gains (old new : G) (gained : List Entry) : Type 0 where
    log_is : log new ≡ log old ++ gained
    own : AreOf (seat old) gained
    seat_is : seat new ≡ seat old
    kept_is : kept new ≡ kept old

  gains_none : (old new : G) → new ≡ old → Gains old new []
  gains_none old new same = record { log_is = ap log same ∙ sym (append-nil (log old)); own = tt; seat_is = ap seat same; kept_is = ap kept same }

  gains_both : (a b c : G) (xs ys : List Entry) → Gains a b xs → Gains b c ys → Gains a c (xs ++ ys)
  gains_both a b c xs ys p q =
      let O : ℕ → Type 0 = λ s. AreOf s ys in
      record {
        log_is = q.log_is ∙ ap (λ l. l ++ ys) p.log_is ∙ append_assoc (log a) xs ys;
        own = AreOf-append (seat a) xs ys p.own (subst O p.seat_is q.own);
        seat_is = q.seat_is ∙ p.seat_is;
        kept_is = q.kept_is ∙ p.kept_is;
      }

  record AsksBy (rules : Rules) (moment : ℕ) (old : G) (request : Result Request Cause) (verdict : Verdict) (new : G) : Type 0 where
    gained : List Entry
    gains : Gains old new gained
    asks : (more : List Entry) → Asks (Reads (seat old)) rules moment (rest_at old (gained ++ more)) request verdict (rest_at new more)

  asks_by : (rules : Rules) (moment : ℕ) (old : G) (request : Result Request Cause) (verdict : Verdict) (new : G) → Asks admits rules moment old request verdict new → AsksBy rules moment old request verdict new
  asks_by rules moment old (Ok request) verdict new asks =
      let s = step old (ask_of rules request moment) verdict new asks in
      record {
        gained = record { seat = seat old; call = next old; ask = ask_of rules request moment; verdict = verdict } ∷ [];
        gains = record { log_is = s.log_is; own = (refl, tt); seat_is = s.seat_is; kept_is = s.kept_is };
        asks = λ more. record { entries = refl; call = s.next_is };
      }
  asks_by rules moment old (Err cause) verdict new same = record { gained = []; gains = gains_none old new same; asks = λ more. ap (λ g. rest_at g more) same }

  record MadeBy (server : Kerberos) (dce : Bool) (token : List ℕ) (env : Env) (draw : Draw) (old : G) (found : Option TgtReq) (answer : Result Accepted Cause) (server' : Kerberos) (new : G) : Type 0 where
    gained : List Entry
    gains : Gains old new gained
    made : (more : List Entry) → AcceptsToken (Reads (seat old)) server dce token env draw (rest_at old (gained ++ more)) found answer server' (rest_at new more)

  made_by : (server : Kerberos) (dce : Bool) (token : List ℕ) (env : Env) (draw : Draw) (old : G) (found : Option TgtReq) (answer : Result Accepted Cause) (server' : Kerberos) (new : G)
      → AcceptsToken admits server dce token env draw old found answer server' new → MadeBy server dce token env draw old found answer server' new
  made_by server dce token env draw old (Some tgt_req) answer server' new m =
      record { gained = []; gains = gains_none old new m.2; made = λ more. (m.0, m.1, ap (λ g. rest_at g more) m.2) }
  made_by server dce token env draw old None answer server' new m =
      let a = asks_by server.rules draw.moment old m.accepts.request m.accepts.verdict new m.accepts.gate in
      record {
        gained = a.gained;
        gains = a.gains;
        made = λ more. record {
          judged = m.judged;
          accepts = record {
            verdict = m.accepts.verdict;
            request = m.accepts.request;
            begun = m.accepts.begun;
            gate = a.asks more;
            outcome = m.accepts.outcome;
            judged = m.accepts.judged;
            made = m.accepts.made;
          };
          answer_is = m.answer_is;
        };
      }

  record BehindBy (state : State G) (event : Event) (found : Result (Connection × List ℕ) Cause) (reply : Reply) (after : State G) : Type 0 where
    gained : List Entry
    gains : Gains state.gate after.gate gained
    env : after.env ≡ state.env
    behind : (more : List Entry) → Behind (Reads (seat state.gate)) (with_gate state (rest_at state.gate (gained ++ more))) event found reply (with_gate after (rest_at after.gate more))

  behind_by : (state : State G) (event : Event) (found : Result (Connection × List ℕ) Cause) (reply : Reply) (after : State G) → Behind admits state event found reply after
      → BehindBy state event found reply after
  behind_by state event (Ok found) reply after j =
      let m = made_by _ _ _ _ _ state.gate j.accepts.tgt_req j.answer j.server after.gate j.accepts.made in
      record {
        gained = m.gained;
        gains = m.gains;
        env = j.env;
        behind = λ more. record {
          answer = j.answer;
          server = j.server;
          accepts = record { tgt_req = j.accepts.tgt_req; found = j.accepts.found; made = m.made more };
          next = j.next;
          settles = j.settles;
          connections = j.connections;
          env = j.env;
        };
      }
  behind_by state event (Err cause) reply after b = record {
    gained = [];
    gains = gains_none state.gate after.gate (ap (λ (s : State G). s.gate) b.1);
    env = ap (λ (s : State G). s.env) b.1;
    behind = λ more. (b.0, ap (λ (s : State G). with_gate s (rest_at s.gate more)) b.1);
  }

  call_env : (state : State G) (event : Event) (found : Result Connection Cause) (reply : Reply) (after : State G) → AnswersCall state event found reply after → after.env ≡ state.env
  call_env state event (Ok connection) reply after c = c.env
  call_env state event (Err cause) reply after c = ap (λ (s : State G). s.env) c.1

  -- a call asks no gate: it is a call over the rest of the journal too
  call_by : (state : State G) (event : Event) (found : Result Connection Cause) (reply : Reply) (after : State G) → AnswersCall state event found reply after → (more : List Entry)
      → AnswersCall (with_gate state (rest_at state.gate more)) event found reply (with_gate after (rest_at after.gate more))
  call_by state event (Ok connection) reply after c more = record { context = c.context; calls = c.calls; connections = c.connections; env = c.env; gate = ap (λ g. rest_at g more) c.gate }
  call_by state event (Err cause) reply after c more = (c.0, ap (λ (s : State G). with_gate s (rest_at s.gate more)) c.1)

  record StepBy (b : Bool) (state : State G) (event : Event) (reply : Reply) (after : State G) : Type 0 where
    gained : List Entry
    gains : Gains state.gate after.gate gained
    env : after.env ≡ state.env
    steps : (more : List Entry) → StepsBy (Reads (seat state.gate)) b (with_gate state (rest_at state.gate (gained ++ more))) event reply (with_gate after (rest_at after.gate more))

  -- an answer of the network asks no gate
  answer_by : (state : State G) (event : Event) (found : Result (Connection × Run) Cause) (answer : Result (List ℕ) NetFault) (reply : Reply) (after : State G) → TakesAnswer state event found answer reply after
      → (more : List Entry) → TakesAnswer (with_gate state (rest_at state.gate more)) event found answer reply (with_gate after (rest_at after.gate more))
  answer_by state event (Ok found) answer reply after s more = record { next = s.next; goes_on = s.goes_on; connections = s.connections; env = s.env; gate = ap (λ g. rest_at g more) s.gate }
  answer_by state event (Err cause) answer reply after s more = (s.0, ap (λ (s : State G). with_gate s (rest_at s.gate more)) s.1)

  -- an initiator asks no gate
  turn_by : (state : State G) (event : Event) (found : Result (Connection × List ℕ) Cause) (reply : Reply) (after : State G) → TakesTurn state event found reply after
      → (more : List Entry) → TakesTurn (with_gate state (rest_at state.gate more)) event found reply (with_gate after (rest_at after.gate more))
  turn_by state event (Ok found) reply after s more = record { next = s.next; undertakes = s.undertakes; connections = s.connections; env = s.env; gate = ap (λ g. rest_at g more) s.gate }
  turn_by state event (Err cause) reply after s more = (s.0, ap (λ (s : State G). with_gate s (rest_at s.gate more)) s.1)

  record PartBy (initiates : Bool) (state : State G) (event : Event) (reply : Reply) (after : State G) : Type 0 where
    gained : List Entry
    gains : Gains state.gate after.gate gained
    env : after.env ≡ state.env
    steps : (more : List Entry) → TakesPart (Reads (seat state.gate)) initiates (with_gate state (rest_at state.gate (gained ++ more))) event reply (with_gate after (rest_at after.gate more))

  part_by : (initiates : Bool) (state : State G) (event : Event) (reply : Reply) (after : State G) → TakesPart admits initiates state event reply after → PartBy initiates state event reply after
  part_by true state event reply after step = record {
    gained = [];
    gains = gains_none state.gate after.gate (turn-gate state event (heard state.connections event) reply after step);
    env = turn-env state event (heard state.connections event) reply after step;
    steps = λ more. turn_by state event (heard state.connections event) reply after step more;
  }
  part_by false state event reply after step =
      let b = behind_by state event (reached state.connections event) reply after step in
      record { gained = b.gained; gains = b.gains; env = b.env; steps = b.behind }

  record OnwardBy (answer : Option (Result (List ℕ) NetFault)) (state : State G) (event : Event) (reply : Reply) (after : State G) : Type 0 where
    gained : List Entry
    gains : Gains state.gate after.gate gained
    env : after.env ≡ state.env
    steps : (more : List Entry) → StepsOnward (Reads (seat state.gate)) answer (with_gate state (rest_at state.gate (gained ++ more))) event reply (with_gate after (rest_at after.gate more))

  onward_by : (answer : Option (Result (List ℕ) NetFault)) (state : State G) (event : Event) (reply : Reply) (after : State G) → StepsOnward admits answer state event reply after → OnwardBy answer state event reply after
  onward_by (Some answer) state event reply after step = record {
    gained = [];
    gains = gains_none state.gate after.gate (answer-gate state event (awaited state.connections event) answer reply after step);
    env = answer-env state event (awaited state.connections event) answer reply after step;
    steps = λ more. answer_by state event (awaited state.connections event) answer reply after step more;
  }
  onward_by None state event reply after step =
      let p = part_by (is_initiator event.connection state.connections) state event reply after step in
      record { gained = p.gained; gains = p.gains; env = p.env; steps = p.steps }

  step_by : (b : Bool) (state : State G) (event : Event) (reply : Reply) (after : State G) → StepsBy admits b state event reply after → StepBy b state event reply after
  step_by true state event reply after call = record {
    gained = [];
    gains = gains_none state.gate after.gate (call-gate state event (ready state.connections event) reply after call);
    env = call_env state event (ready state.connections event) reply after call;
    steps = λ more. call_by state event (ready state.connections event) reply after call more;
  }
  step_by false state event reply after step =
      let o = onward_by (answer_of event.input) state event reply after step in
      record { gained = o.gained; gains = o.gains; env = o.env; steps = o.steps }

  record IsBy (state : State G) (events : List Event) (replies : List Reply) (after : State G) : Type 0 where
    gained : List Entry
    gains : Gains state.gate after.gate gained
    env : after.env ≡ state.env
    runs : (more : List Entry) → Runs (Reads (seat state.gate)) (with_gate state (rest_at state.gate (gained ++ more))) events replies (with_gate after (rest_at after.gate more))

  is_by : (state : State G) (events : List Event) (replies : List Reply) (after : State G) → Runs admits state events replies after → IsBy state events replies after
  is_by state [] [] after runs = record {
    gained = [];
    gains = gains_none state.gate after.gate (ap (λ (s : State G). s.gate) runs);
    env = ap (λ (s : State G). s.env) runs;
    runs = λ more. ap (λ (s : State G). with_gate s (rest_at s.gate more)) runs;
  }
  is_by state [] (reply ∷ replies) after runs = absurd runs
  is_by state (event ∷ events) [] after runs = absurd runs
  is_by state (event ∷ events) (reply ∷ replies) after runs =
      let between = runs.0 in
      let first = step_by (is_call event.input) state event reply between runs.1 in
      let later = is_by between events replies after runs.2 in
      record {
        gained = first.gained ++ later.gained;
        gains = gains_both state.gate between.gate after.gate first.gained later.gained first.gains later.gains;
        env = later.env ∙ first.env;
        runs = λ more.
            let middle = with_gate between (rest_at between.gate (later.gained ++ more)) in
            let S : List Entry → Type 0 = λ l. Steps (Reads (seat state.gate)) (with_gate state (rest_at state.gate l)) event reply middle in
            let R : ℕ → Type 0 = λ s. Runs (Reads s) middle events replies (with_gate after (rest_at after.gate more)) in (
              middle,
              subst S (sym (append_assoc first.gained later.gained more)) (first.steps (later.gained ++ more)),
              subst R first.gains.seat_is (later.runs more),
            );
      }

  -- the result of a run: the entries that the log gains, and the kept part
  pub record Worked (state : State G) (events : List Event) (replies : List Reply) (after : State G) : Type 0 where
    pub gained : List Entry
    pub log_is : log after.gate ≡ log state.gate ++ gained
    pub own : AreOf (seat state.gate) gained
    pub seat_is : seat after.gate ≡ seat state.gate
    pub kept_is : kept after.gate ≡ kept state.gate
    pub runs : RunsBy (next state.gate) (seat state.gate) state.env state.connections events gained replies

  worked_runs : (state : State G) (events : List Event) (replies : List Reply) (after : State G) (by : IsBy state events replies after)
      → RunsBy (next state.gate) (seat state.gate) state.env state.connections events by.gained replies
  worked_runs state events replies after by =
      let T : State Rest → Type 0 = λ s. Runs (Reads (seat state.gate)) s events replies (with_gate after (rest_at after.gate [])) in
      record {
        after = with_gate after (rest_at after.gate []);
        runs = subst T (ap (λ l. with_gate state (rest_at state.gate l)) (append-nil by.gained)) (by.runs []);
        used = refl;
      }

  worked_of : (state : State G) (events : List Event) (replies : List Reply) (after : State G) → Runs admits state events replies after → Worked state events replies after
  worked_of state events replies after runs =
      let by = is_by state events replies after runs in
      record {
        gained = by.gained;
        log_is = by.gains.log_is;
        own = by.gains.own;
        seat_is = by.gains.seat_is;
        kept_is = by.gains.kept_is;
        runs = worked_runs state events replies after by;
      }

  pub worked : (state : State G) (events : List Event) (old replies : List Reply) (after : State G) → RunsOn admits state events old replies after → old ≡ [] → Worked state events replies after
  worked state events old replies after on fresh =
      let P : List Reply → Type 0 = λ rs. Worked state events rs after in
      subst P (sym (on.replies ∙ ap (λ l. l ++ on.made) fresh)) (worked_of state events on.made after on.runs)

  -- however a part ends, the kept part of its gate is unchanged
  pub keeps : (is_same : G → G → Type 0) (state : State G) (events : List Event) (old replies : List Reply) (after : State G) (ended : Option (Result (Unit {0}) Stopped))
      → IsSomeAnd ended (λ (e : Result (Unit {0}) Stopped). EndsAs admits is_same state events old e replies after) → old ≡ [] → ((a b : G) → is_same a b → kept b ≡ kept a) → kept after.gate ≡ kept state.gate
  keeps is_same state events old replies after None h fresh same = absurd h
  keeps is_same state events old replies after (Some (Ok done)) h fresh same = (worked state events old replies after h fresh).kept_is
  keeps is_same state events old replies after (Some (Err stopped)) h fresh same =
      same h.1.0.gate after.gate h.1.2.gate ∙ (worked state (take stopped.taken events) old replies h.1.0 h.1.1 fresh).kept_is

-- one more receipt is one more entry in the seat's log
pub adds-logs : (skew : ℕ) (a : Seat) (ask : Ask) (verdict : Verdict) (b : Seat) → AddsReceipt skew a ask verdict b → Logs log_of (λ s. length s.receipts + 1) (λ s. s.number) (λ s. s.parts) a ask verdict b
adds-logs skew a ask verdict b step =
    let receipt : Receipt = record { entry = record { seat = a.number; call = length a.receipts + 1; ask = ask; verdict = verdict }; place = step.place } in
    record {
      log_is = ap (map (λ (r : Receipt). r.entry)) step.receipts ∙ map-append (λ (r : Receipt). r.entry) a.receipts (receipt ∷ []);
      next_is = ap (λ n. n + 1) (ap length step.receipts ∙ length-append a.receipts (receipt ∷ []));
      seat_is = step.number;
      kept_is = step.parts;
    }

-- a step of a gate over a seat, by its view
pub seat-logs : {G N : Type 0} (skew : ℕ) (view : G → Seat) (name : G → N) (a : G) (ask : Ask) (verdict : Verdict) (b : G) → AddsReceipt skew (view a) ask verdict (view b) × (name b ≡ name a)
    → Logs {N = N × ℕ} (λ g. log_of (view g)) (λ g. length (view g).receipts + 1) (λ g. (view g).number) (λ g. (name g, (view g).parts)) a ask verdict b
seat-logs skew view name a ask verdict b step =
    let l = adds-logs skew (view a) ask verdict (view b) step.0 in
    record { log_is = l.log_is; next_is = l.next_is; seat_is = l.seat_is; kept_is = rw (step.1, l.kept_is) refl }

-- a step of a gate over a desk, whose journal has at least the entries from before
pub desk-logs : {G N : Type 0} (view : G → Gate) (name : G → N) (a : G) (ask : Ask) (verdict : Verdict) (b : G) → (view a).before ≤ length (view a).desk.journal
    → AdmitsNext (view a) ask verdict (view b) × (name b ≡ name a)
    → Logs {N = N × ℕ} (λ g. (view g).desk.journal) (λ g. next_call (view g)) (λ g. (view g).seat) (λ g. (name g, (view g).desk.skew)) a ask verdict b
desk-logs view name a ask verdict b enough step =
    let s = step.0 in
    let entry : Entry = record { seat = (view a).seat; call = next_call (view a); ask = ask; verdict = verdict } in
    let grown : length (view b).desk.journal ≡ length (view a).desk.journal + 1 = ap length s.step.entry ∙ length-append (view a).desk.journal (entry ∷ []) in
    record { log_is = s.step.entry; next_is = omega (arith, s.before); seat_is = s.seat; kept_is = rw (step.1, s.step.skew) refl }

-- a part whose gate is over a seat
module _ {G N : Type 0} (admits : G → Ask → Verdict → G → Type 0) (is_same : G → G → Type 0) (skew : ℕ) (view : G → Seat) (name : G → N)
    (step : (a : G) (ask : Ask) (verdict : Verdict) (b : G) → admits a ask verdict b → AddsReceipt skew (view a) ask verdict (view b) × (name b ≡ name a)) where
  seat_step : (a : G) (ask : Ask) (verdict : Verdict) (b : G) → admits a ask verdict b
      → Logs {N = N × ℕ} (λ g. log_of (view g)) (λ g. length (view g).receipts + 1) (λ g. (view g).number) (λ g. (name g, (view g).parts)) a ask verdict b
  seat_step a ask verdict b s = seat-logs skew view name a ask verdict b (step a ask verdict b s)

  both_same : (a b : G) → (view b ≡ view a) × (name b ≡ name a) → ◌≡◌ {A = N × ℕ} (name b, (view b).parts) (name a, (view a).parts)
  both_same a b s = rw (s.1, ap (λ (seat : Seat). seat.parts) s.0) refl

  -- however the part ends, its gate is over the same seat
  pub seat-keeps : (state : State G) (events : List Event) (old replies : List Reply) (after : State G) (ended : Option (Result (Unit {0}) Stopped))
      → IsSomeAnd ended (λ (e : Result (Unit {0}) Stopped). EndsAs admits is_same state events old e replies after) → old ≡ [] → ((a b : G) → is_same a b → (view b ≡ view a) × (name b ≡ name a))
      → name after.gate ≡ name state.gate
  seat-keeps state events old replies after ended h fresh same =
      ap (λ (p : N × ℕ). p.0)
      (keeps {N = N × ℕ} admits (λ g. log_of (view g)) (λ g. length (view g).receipts + 1) (λ g. (view g).number) (λ g. (name g, (view g).parts)) seat_step is_same state events old replies after ended h fresh
      (λ a b s. both_same a b (same a b s)))

  seat_worked : (state : State G) (events : List Event) (old replies : List Reply) (after : State G) → RunsOn admits state events old replies after → old ≡ []
      → WorksAt (view state.gate) state.env state.connections events replies (view after.gate)
  seat_worked state events old replies after runs fresh =
      let w = worked {N = N × ℕ} admits (λ g. log_of (view g)) (λ g. length (view g).receipts + 1) (λ g. (view g).number) (λ g. (name g, (view g).parts)) seat_step state events old replies after runs fresh in
      record { number = w.seat_is; parts = ap (λ (p : N × ℕ). p.1) w.kept_is; gained = w.gained; log = w.log_is; runs = w.runs }

  -- if all events were taken, the seat has gained the receipts of the run
  pub seat-works : (state : State G) (events : List Event) (old replies : List Reply) (after : State G) (ended : Option (Result (Unit {0}) Stopped))
      → IsSomeAnd ended (λ (e : Result (Unit {0}) Stopped). EndsAs admits is_same state events old e replies after) → old ≡ []
      → IsSomeAnd ended (λ (e : Result (Unit {0}) Stopped). OnOk e (WorksAt (view state.gate) state.env state.connections events replies (view after.gate)))
  seat-works state events old replies after None h fresh = absurd h
  seat-works state events old replies after (Some (Ok done)) h fresh = seat_worked state events old replies after h fresh
  seat-works state events old replies after (Some (Err stopped)) h fresh = tt

-- a part whose gate is over a desk
module _ {G N : Type 0} (admits : G → Ask → Verdict → G → Type 0) (view : G → Gate) (name : G → N) (enough : (a : G) → (view a).before ≤ length (view a).desk.journal)
    (step : (a : G) (ask : Ask) (verdict : Verdict) (b : G) → admits a ask verdict b → AdmitsNext (view a) ask verdict (view b) × (name b ≡ name a)) where
  desk_step : (a : G) (ask : Ask) (verdict : Verdict) (b : G) → admits a ask verdict b
      → Logs {N = N × ℕ} (λ g. (view g).desk.journal) (λ g. next_call (view g)) (λ g. (view g).seat) (λ g. (name g, (view g).desk.skew)) a ask verdict b
  desk_step a ask verdict b s = desk-logs view name a ask verdict b (enough a) (step a ask verdict b s)

  desk_worked : (state : State G) (events : List Event) (old replies : List Reply) (after : State G) → RunsOn admits state events old replies after → old ≡ []
      → Worked {N = N × ℕ} admits (λ g. (view g).desk.journal) (λ g. next_call (view g)) (λ g. (view g).seat) (λ g. (name g, (view g).desk.skew)) desk_step state events replies after
  desk_worked state events old replies after runs fresh =
      worked {N = N × ℕ} admits (λ g. (view g).desk.journal) (λ g. next_call (view g)) (λ g. (view g).seat) (λ g. (name g, (view g).desk.skew)) desk_step state events old replies after runs fresh

  pub desk-keeps : (state : State G) (events : List Event) (old replies : List Reply) (after : State G) → RunsOn admits state events old replies after → old ≡ [] → name after.gate ≡ name state.gate
  desk-keeps state events old replies after runs fresh = ap (λ (p : N × ℕ). p.0) (desk_worked state events old replies after runs fresh).kept_is

  pub desk-works : (state : State G) (events : List Event) (old replies : List Reply) (after : State G) → RunsOn admits state events old replies after → old ≡ []
      → WorksThere (view state.gate).desk (next_call (view state.gate)) (view state.gate).seat state.env state.connections events replies (view after.gate).desk
  desk-works state events old replies after runs fresh =
      let w = desk_worked state events old replies after runs fresh in
      record { skew = ap (λ (p : N × ℕ). p.1) w.kept_is; gained = w.gained; journal = w.log_is; own = w.own; runs = w.runs }

-- the end of a run of a service, by its result
pub ends-as : {G : Type 0} (admits : G → Ask → Verdict → G → Type 0) (is_same : G → G → Type 0) (service : State G) (events : List Event) (old : List Reply) (result : Result (Unit {0}) Stopped) (new : List Reply) (after : State G)
    → OnOk result (RunsOn admits service events old new after) → IfErr result (λ (stopped : Stopped). stopped.taken < length events)
    → IfErr result (λ (stopped : Stopped). StopsBehind admits is_same service (take stopped.taken events) old new after) → EndsAs admits is_same service events old result new after
ends-as admits is_same service events old (Ok done) new after ok few front = ok
ends-as admits is_same service events old (Err stopped) new after ok few front = (few, front)
