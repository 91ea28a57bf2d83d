-- The text of an answer determines its journal.
use Rattle.std.proofs.Common.{◌≡◌, ℕ, ◌+◌, ◌<◌, ◌≤◌, ◌⊎◌, inl, inr, Bool, true, false, cond, List, [], ◌∷◌, ◌++◌, length, map, refl, ap, sym, ◌∙◌, subst, arith, append_assoc, length-append}
use Rattle.std.specs.Prelude.{◌^◌}
use Rattle.std.proofs.lemmas.List.{append-nil, nil_from_length}
use Rattle.krb_replay.specs.declared.ask.Ask.{Ask}
use Rattle.krb_replay.specs.declared.ask.Verdict.{Verdict}
use Rattle.krb_replay.specs.History.{window}
use Rattle.krb_conf.specs.declared.env.Env.{Env}
use Rattle.krb_shared.specs.Journal.{IsJournal, history_of}
use Rattle.krb_shared.specs.declared.entry.Entry.{Entry}
use Rattle.krb_shared.specs.declared.journal.Journal.{Journal}
use Rattle.krb_script.specs.Script.{Declared}
use Rattle.krb_script.specs.declared.item.Event.{Event}
use Rattle.krb_machine.specs.Described.{skew_of, with_gate, connections_of as all_connections}
use Rattle.krb_machine.specs.Policy.{State, Runs}
use Rattle.krb_machine.specs.Reply.{admissions}
use Rattle.krb_machine.specs.declared.connection.Connection.{Connection}
use Rattle.krb_machine.specs.declared.reply.Reply.{Reply}
use Rattle.krb_machine.proofs.OnceLemmas.{IsDetermined, runs-once}
use Rattle.krb_input.specs.Parted.{is_of, events_of, numbers_of}
use Rattle.krb_threads.specs.Journaled.{Rest, Reads, RunsBy, connections_of, entries_of}
use Rattle.krb_threads.specs.Answers.{AreAnswers, IsAnswer, worker_text, entries_text}
use Rattle.krb_laws_journal.proofs.HeardLemmas.{Paced, RunPaced, run-paced}
use Rattle.krb_laws_journal.proofs.LineLemmas.{AreAlike, told_of, before-end, told-alike}
use Rattle.krb_laws_journal.proofs.WovenLemmas.{two-all, same-verdicts, woven}

-- a gate that gets its verdicts beforehand, and enters each call
record Heard : Type 0 where
  verdicts : List Verdict
  entries : List Entry

record Hears (seat : ℕ) (old : Heard) (ask : Ask) (verdict : Verdict) (new : Heard) : Type 0 where
  verdicts : old.verdicts ≡ verdict ∷ new.verdicts
  entries : new.entries ≡ old.entries ++ record { seat = seat; call = length old.entries + 1; ask = ask; verdict = verdict } ∷ []

same_heard : (a b : Heard) → a.verdicts ≡ b.verdicts → a.entries ≡ b.entries → a ≡ b
same_heard a b v e = ap (λ (x : List Verdict). record { verdicts = x; entries = a.entries }) v ∙ ap (λ (x : List Entry). record { verdicts = b.verdicts; entries = x }) e

hears_determined : (seat : ℕ) → IsDetermined (Hears seat)
hears_determined seat = record {
  same = λ old ask v w a b h k.
      let both : v ∷ a.verdicts ≡ w ∷ b.verdicts = sym h.verdicts ∙ k.verdicts in
      let same : v ≡ w = cc in
      let rest : a.verdicts ≡ b.verdicts = cc in (
        same,
        same_heard a b rest (h.entries ∙ ap (λ (x : Verdict). old.entries ++ record { seat = seat; call = length old.entries + 1; ask = ask; verdict = x } ∷ []) same ∙ sym k.entries),
      );
}

abbrev verdicts_in : List Entry → List Verdict
verdicts_in entries = map (λ (e : Entry). e.verdict) entries

-- the gate keeps pace with one that reads these entries: it has entered the first of them, and the others bring its verdicts, after
-- which more may come
record Keeps (all : List Entry) (more : List Verdict) (rest : Rest) (heard : Heard) : Type 0 where
  verdicts : heard.verdicts ≡ verdicts_in rest.entries ++ more
  entries : heard.entries ++ rest.entries ≡ all
  call : rest.call ≡ length heard.entries + 1

abbrev counted : Heard → ℕ
counted heard = length heard.entries

keeps_on : (seat : ℕ) (all : List Entry) (more : List Verdict) (old new : Rest) (ask : Ask) (verdict : Verdict) (h : Heard) → Keeps all more old h → Reads seat old ask verdict new
    → Paced (Keeps all more) counted h new (λ next. Hears seat h ask verdict next)
keeps_on seat all more old new ask verdict h k reads =
    let read : Entry = record { seat = seat; call = old.call; ask = ask; verdict = verdict } in
    let entry : Entry = record { seat = seat; call = length h.entries + 1; ask = ask; verdict = verdict } in
    let same : read ≡ entry = ap (λ (n : ℕ). record { seat = seat; call = n; ask = ask; verdict = verdict }) k.call in
    let grown = length-append h.entries (entry ∷ []) in
    let called = k.call in
    let next = reads.call in
    record {
      next = record { verdicts = verdicts_in new.entries ++ more; entries = h.entries ++ entry ∷ [] };
      holds = record { verdicts = k.verdicts ∙ ap (λ (l : List Entry). verdicts_in l ++ more) reads.entries; entries = refl };
      paces = record {
        verdicts = refl;
        entries = append_assoc h.entries (entry ∷ []) new.entries ∙ ap (λ (e : Entry). h.entries ++ e ∷ new.entries) (sym same) ∙ ap (λ (l : List Entry). h.entries ++ l) (sym reads.entries) ∙ k.entries;
        call = omega (arith, called, next, grown);
      };
      one = omega (arith, grown);
    }

-- a worker's run by its entries is a run over the gate that gets its verdicts beforehand
record HeardRun (seat : ℕ) (env : Env) (connections : List (ℕ × Connection)) (events : List Event) (entries : List Entry) (replies : List Reply) (more : List Verdict) : Type 0 where
  after : State Heard
  runs : Runs (Hears seat) (record { connections = connections; env = env; gate = record { verdicts = verdicts_in entries ++ more; entries = [] } }) events replies after
  left : after.gate.verdicts ≡ more
  entered : after.gate.entries ≡ entries
  few : length entries ≤ length events

heard_run : (seat : ℕ) (env : Env) (connections : List (ℕ × Connection)) (events : List Event) (entries : List Entry) (replies : List Reply) (more : List Verdict) → RunsBy 1 seat env connections events entries replies
    → HeardRun seat env connections events entries replies more
heard_run seat env connections events entries replies more run =
    let begins : Heard = record { verdicts = verdicts_in entries ++ more; entries = [] } in
    let state : State Rest = record { connections = connections; env = env; gate = record { call = 1; entries = entries } } in
    let begun : Keeps entries more state.gate begins = record { verdicts = refl; entries = refl; call = refl } in
    let paced = run-paced (Reads seat) (Hears seat) (Keeps entries more) counted (keeps_on seat entries more) state begins events replies run.after begun run.runs in
    let all : paced.later.entries ≡ entries = sym (append-nil paced.later.entries) ∙ ap (λ (l : List Entry). paced.later.entries ++ l) (sym run.used) ∙ paced.paces.entries in
    let many = ap (λ (l : List Entry). length l) all in
    let few = paced.few in
    record {
      after = with_gate run.after paced.later;
      runs = paced.runs;
      left = paced.paces.verdicts ∙ ap (λ (l : List Entry). verdicts_in l ++ more) run.used;
      entered = all;
      few = omega (arith, many, few);
    }

-- two runs of a worker by the same verdicts have the same entries and replies; one may get more verdicts than it asks for
record SameRun (x y : List Entry) (r s : List Reply) (more : List Verdict) : Type 0 where
  entries : x ≡ y
  replies : r ≡ s
  none : more ≡ []

same_run : (seat : ℕ) (env : Env) (connections : List (ℕ × Connection)) (events : List Event) (x y : List Entry) (r s : List Reply) (more : List Verdict) → verdicts_in x ++ more ≡ verdicts_in y
    → RunsBy 1 seat env connections events x r → RunsBy 1 seat env connections events y s → SameRun x y r s more
same_run seat env connections events x y r s more e run other =
    let a = heard_run seat env connections events x r more run in
    let b = heard_run seat env connections events y s [] other in
    let S : List Verdict → Type 0 = λ vs. Runs (Hears seat) (record { connections = connections; env = env; gate = record { verdicts = vs; entries = [] } }) events s b.after in
    let begins : State Heard = record { connections = connections; env = env; gate = record { verdicts = verdicts_in x ++ more; entries = [] } } in
    let same = runs-once (Hears seat) (hears_determined seat) begins events r s a.after b.after a.runs (subst S (append-nil (verdicts_in y) ∙ sym e) b.runs) in
    record {
      entries = sym a.entered ∙ ap (λ (t : State Heard). t.gate.entries) same.1 ∙ b.entered;
      replies = same.0;
      none = sym a.left ∙ ap (λ (t : State Heard). t.gate.verdicts) same.1 ∙ b.left;
    }

few_entries : (seat : ℕ) (env : Env) (connections : List (ℕ × Connection)) (events : List Event) (entries : List Entry) (replies : List Reply) → RunsBy 1 seat env connections events entries replies
    → length entries ≤ length events
few_entries seat env connections events entries replies run = (heard_run seat env connections events entries replies [] run).few

-- the entries of one seat, and the replies, are the same in two journals with the same seats and verdicts
seat_same : (seat : ℕ) (env : Env) (connections : List (ℕ × Connection)) (events : List Event) (x y : List Entry) (r s : List Reply) → AreAlike x y
    → RunsBy 1 seat env connections events (entries_of seat x) r → RunsBy 1 seat env connections events (entries_of seat y) s → (entries_of seat x ≡ entries_of seat y) × (r ≡ s)
seat_same seat env connections events x y r s (inl told) run other =
    let same = same_run seat env connections events (entries_of seat x) (entries_of seat y) r s [] (append-nil (verdicts_in (entries_of seat x)) ∙ same-verdicts seat x y told) run other in
    (same.entries, same.replies)
seat_same seat env connections events x y r s (inr (inl none)) run other =
    let more = verdicts_in (entries_of seat y) in
    let same = same_run seat env connections events (entries_of seat x) (entries_of seat y) r s more (ap (λ (l : List Entry). verdicts_in (entries_of seat l) ++ more) none) run other in
    (same.entries, same.replies)
seat_same seat env connections events x y r s (inr (inr none)) run other =
    let more = verdicts_in (entries_of seat x) in
    let same = same_run seat env connections events (entries_of seat y) (entries_of seat x) s r more (ap (λ (l : List Entry). verdicts_in (entries_of seat l) ++ more) none) other run in
    (sym same.entries, sym same.replies)

-- each entry is of one of the two seats
abbrev IsWhole : List Entry → Type 0
IsWhole entries = length entries ≡ length (entries_of 0 entries) + length (entries_of 1 entries)

as_many : (x y : List Entry) → IsWhole x → IsWhole y → entries_of 0 x ≡ entries_of 0 y → entries_of 1 x ≡ entries_of 1 y → length x ≡ length y
as_many x y in_x in_y low high = in_x ∙ ap (λ n. n + length (entries_of 1 x)) (ap length low) ∙ ap (λ n. length (entries_of 0 y) + n) (ap length high) ∙ sym in_y

whole_same : (x y : List Entry) → AreAlike x y → IsWhole x → IsWhole y → entries_of 0 x ≡ entries_of 0 y → entries_of 1 x ≡ entries_of 1 y → x ≡ y
whole_same x y (inl told) in_x in_y low high = woven x y (two-all x in_x) told low high
whole_same x y (inr (inl none)) in_x in_y low high = none ∙ sym (nil_from_length y (sym (as_many x y in_x in_y low high) ∙ ap length none))
whole_same x y (inr (inr none)) in_x in_y low high = nil_from_length x (as_many x y in_x in_y low high ∙ ap length none) ∙ sym none

same_journal : (skew : ℕ) (j k : Journal) → IsJournal skew j → IsJournal skew k → j.entries ≡ k.entries → j ≡ k
same_journal skew j k legal other e =
    let kept : j.kept ≡ k.kept = legal.kept ∙ ap (λ (l : List Entry). length (window skew (history_of skew l))) e ∙ sym other.kept in
    ap (λ (l : List Entry). record { entries = l; kept = j.kept }) e ∙ ap (λ (n : ℕ). record { entries = k.entries; kept = n }) kept

-- a worker has no more events than there are
few_by : (b : Bool) (event : Event) (own all : List Event) → length own ≤ length all → length (cond b (event ∷ own) own) ≤ length (event ∷ all)
few_by true event own all h = omega (arith, h)
few_by false event own all h = omega (arith, h)

few_own : (worker : ℕ) (events : List Event) → length (events_of worker events) ≤ length events
few_own worker [] = omega arith
few_own worker (event ∷ events) = few_by (is_of worker event.connection) event (events_of worker events) events (few_own worker events)

-- an answer's journal has fewer than 10^64 entries
few_in : (so_far : Declared) (text : List ℕ) → length so_far.events < 2 ^ 64 → (one : IsAnswer so_far text) → length one.journal.entries < 10 ^ 64
few_in so_far text small one =
    let a = one.answers in
    let whole = a.whole in
    let low = few_entries 0 _ _ (events_of 0 so_far.events) (entries_of 0 one.journal.entries) one.first a.low_runs in
    let high = few_entries 1 _ _ (events_of 1 so_far.events) (entries_of 1 one.journal.entries) one.second a.high_runs in
    let few = few_own 0 so_far.events in
    let also = few_own 1 so_far.events in
    omega (arith, small, whole, low, high, few, also)

alike_in : (so_far : Declared) (text : List ℕ) → length so_far.events < 2 ^ 64 → (one other : IsAnswer so_far text) → AreAlike one.journal.entries other.journal.entries
alike_in so_far text small one other =
    let front : IsAnswer so_far text → List ℕ = λ a. worker_text 0 (numbers_of 0 so_far.events) a.first ++ worker_text 1 (numbers_of 1 so_far.events) a.second in
    let before = before-end (front one ++ entries_text 1 one.journal.entries) (front other ++ entries_text 1 other.journal.entries) (admissions one.first + admissions one.second)
    (admissions other.first + admissions other.second) one.journal.kept other.journal.kept (sym one.is ∙ other.is) in
    told-alike (front one) (front other) one.journal.entries other.journal.entries (two-all one.journal.entries one.answers.whole) (two-all other.journal.entries other.answers.whole)
    (few_in so_far text small one) (few_in so_far text small other) before

-- two answers with the same text have the same journal and replies
pub record SameAnswer (so_far : Declared) (text : List ℕ) (one other : IsAnswer so_far text) : Type 0 where
  pub journal : one.journal ≡ other.journal
  pub first : one.first ≡ other.first
  pub second : one.second ≡ other.second

pub told-once : (so_far : Declared) (text : List ℕ) → length so_far.events < 2 ^ 64 → (one other : IsAnswer so_far text) → SameAnswer so_far text one other
told-once so_far text small one other =
    let x = one.journal.entries in
    let y = other.journal.entries in
    let a = one.answers in
    let b = other.answers in
    let alike = alike_in so_far text small one other in
    let low = seat_same 0 _ _ (events_of 0 so_far.events) x y one.first other.first alike a.low_runs b.low_runs in
    let high = seat_same 1 _ _ (events_of 1 so_far.events) x y one.second other.second alike a.high_runs b.high_runs in
    record {
      journal = same_journal (skew_of so_far.setup) one.journal other.journal a.legal b.legal (whole_same x y alike a.whole b.whole low.0 high.0);
      first = low.1;
      second = high.1;
    }
