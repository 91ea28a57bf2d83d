-- The runs of the workers, by the entries of a journal.
use Rattle.std.proofs.Common.{◌≡◌, ℕ, ◌+◌, ◌==◌, Bool, true, false, cond, List, [], ◌∷◌, ◌++◌, length, length-append, map, get_or, refl, sym, ap, ◌∙◌, subst, arith}
use lib.ListN.{length-map}
use Rattle.std.specs.Prelude.{if◌then◌else◌}
use Rattle.std.proofs.lemmas.List.{append-nil}
use Rattle.std.proofs.lemmas.List.Elements.{filter-append}
use Rattle.std.proofs.lemmas.Bool.Decides.{nat_tests}
use Rattle.krb_shared.specs.declared.entry.Entry.{Entry}
use Rattle.krb_shared.specs.declared.entry.Receipt.{Receipt}
use Rattle.krb_shared.specs.declared.journal.Journal.{Journal}
use Rattle.krb_shared.specs.Desk.{Desk}
use Rattle.krb_shared.specs.Journal.{IsJournal}
use Rattle.krb_shared.specs.Seats.{Seat, placed_from, calls_of}
use Rattle.krb_script.specs.declared.item.Event.{Event}
use Rattle.krb_machine.specs.declared.connection.Connection.{Connection}
use Rattle.krb_machine.specs.declared.reply.Reply.{Reply}
use Rattle.krb_machine.proofs.PolicyLemmas.{Runs-length}
use Rattle.krb_conf.specs.declared.env.Env.{Env}
use Rattle.krb_input.specs.Parted.{events_of, numbers_of}
use Rattle.krb_threads.specs.Journaled.{entries_of, connections_of, Reads, RunsBy}
use Rattle.krb_threads.specs.Answers.{AreAnswers}
use Rattle.krb_threads.specs.Worked.{log_of, WorksAt, AreOf, WorksThere}
use Rattle.krb_input.proofs.PartingLemmas.{numbers-length}

placed_one : (b : Bool) (entry : Entry) (place : ℕ) (receipts : List Receipt) (entries : List Entry) → map (λ (r : Receipt). r.entry) receipts ≡ entries
    → map (λ (r : Receipt). r.entry) (if b then record { entry = entry; place = place } ∷ receipts else receipts) ≡ cond b (entry ∷ entries) entries
placed_one true entry place receipts entries e = ap (λ (l : List Entry). entry ∷ l) e
placed_one false entry place receipts entries e = e

-- a seat's entries, without their places
pub placed-entries : (place seat : ℕ) (journal : List Entry) → map (λ (r : Receipt). r.entry) (placed_from place seat journal) ≡ entries_of seat journal
placed-entries place seat [] = refl
placed-entries place seat (entry ∷ journal) = placed_one (entry.seat == seat) entry place (placed_from (place + 1) seat journal) (entries_of seat journal) (placed-entries (place + 1) seat journal)

-- a seat that agrees with the journal has the log of its entries there
log-agrees : (journal : List Entry) (seat : Seat) (number : ℕ) → seat.number ≡ number → seat.receipts ≡ placed_from 1 seat.number journal → log_of seat ≡ entries_of number journal
log-agrees journal seat number at agrees = ap (map (λ (r : Receipt). r.entry)) agrees ∙ placed-entries 1 seat.number journal ∙ ap (λ (n : ℕ). entries_of n journal) at

-- the run of a worker at a seat that was new, and that agrees with the journal
pub told : (journal : List Entry) (old new : Seat) (number : ℕ) (env : Env) (connections : List (ℕ × Connection)) (events : List Event) (replies : List Reply) → old.receipts ≡ [] → old.number ≡ number
    → (own_env : Env) → own_env ≡ env → (own : List (ℕ × Connection)) → own ≡ connections → WorksAt old own_env own events replies new → new.receipts ≡ placed_from 1 new.number journal
    → RunsBy 1 number env connections events (entries_of number journal) replies
told journal old new number env connections events replies fresh at own_env env_is own own_is works agrees =
    let gained : works.gained ≡ entries_of number journal =
    sym (works.log ∙ ap (λ (rs : List Receipt). map (λ (r : Receipt). r.entry) rs ++ works.gained) fresh) ∙ log-agrees journal new number (works.number ∙ at) agrees in
    let P : List Entry → Type 0 = λ l. RunsBy 1 number env connections events l replies in
    let Q : ℕ → Type 0 = λ n. RunsBy 1 n env connections events works.gained replies in
    let R : List Receipt → Type 0 = λ rs. RunsBy (length rs + 1) old.number env connections events works.gained replies in
    let O : List (ℕ × Connection) → Type 0 = λ cs. RunsBy (length old.receipts + 1) old.number env cs events works.gained replies in
    let E : Env → Type 0 = λ e. RunsBy (length old.receipts + 1) old.number e own events works.gained replies in
    subst P gained (subst Q at (subst R fresh (subst O own_is (subst E env_is works.runs))))

log-length : (journal : List Entry) (seat : Seat) (number : ℕ) → seat.number ≡ number → seat.receipts ≡ placed_from 1 seat.number journal → length seat.receipts ≡ length (entries_of number journal)
log-length journal seat number at agrees = sym (length-map seat.receipts (λ (r : Receipt). r.entry)) ∙ ap length (log-agrees journal seat number at agrees)

calls_of_two : (seats : List Seat) (d : Seat) → length seats ≡ 2 → calls_of seats ≡ length (get_or seats 0 d).receipts + length (get_or seats 1 d).receipts
calls_of_two [] d two = absurd (omega (arith, two))
calls_of_two (a ∷ []) d two = absurd (omega (arith, two))
calls_of_two (a ∷ b ∷ []) d two = omega arith
calls_of_two (a ∷ b ∷ c ∷ seats) d two = absurd (omega (arith, two))

-- the journal has the entries of both seats and no others
pub told-whole : (journal : List Entry) (seats : List Seat) (low high d : Seat) → length seats ≡ 2 → get_or seats 0 d ≡ low → get_or seats 1 d ≡ high → low.number ≡ 0 → high.number ≡ 1
    → low.receipts ≡ placed_from 1 low.number journal → high.receipts ≡ placed_from 1 high.number journal → length journal ≡ calls_of seats
    → length journal ≡ length (entries_of 0 journal) + length (entries_of 1 journal)
told-whole journal seats low high d two at_low at_high zero_is one_is low_agrees high_agrees calls =
    let p = calls_of_two seats d two in
    let q = ap (λ (s : Seat). length s.receipts) at_low in
    let r = ap (λ (s : Seat). length s.receipts) at_high in
    let l = log-length journal low 0 zero_is low_agrees in
    let h = log-length journal high 1 one_is high_agrees in
    omega (arith, calls, p, q, r, l, h)

-- if all entries are of one seat, the entries of that seat are all entries
own-all : (seat : ℕ) (entries : List Entry) → AreOf seat entries → entries_of seat entries ≡ entries
own-all seat [] own = refl
own-all seat (entry ∷ entries) own =
    let is : (entry.seat == seat) ≡ true = let e = own.0 in grind (arith, nat_tests) in
    ap (λ b. cond b (entry ∷ entries_of seat entries) (entries_of seat entries)) is ∙ ap (λ (l : List Entry). entry ∷ l) (own-all seat entries own.1)

-- if all entries are of one seat, another seat has no entries
own-none : (seat other : ℕ) (entries : List Entry) → (seat == other) ≡ false → AreOf seat entries → entries_of other entries ≡ []
own-none seat other [] apart own = refl
own-none seat other (entry ∷ entries) apart own =
    let is : (entry.seat == other) ≡ false = ap (λ n. n == other) own.0 ∙ apart in
    ap (λ b. cond b (entry ∷ entries_of other entries) (entries_of other entries)) is ∙ own-none seat other entries apart own.1

-- the runs of both workers, one after the other, over one new desk
pub told-there : (skew : ℕ) (env : Env) (connections : List (ℕ × Connection)) (low high : List Event) (first second : List Reply) (a b c : Desk) (journal : Journal) → a.skew ≡ skew → a.journal ≡ []
    → (low_env high_env : Env) → low_env ≡ env → high_env ≡ env
    → (low_own high_own : List (ℕ × Connection)) → low_own ≡ connections_of 0 connections → high_own ≡ connections_of 1 connections
    → WorksThere a 1 0 low_env low_own low first b → WorksThere b 1 1 high_env high_own high second c → IsJournal c.skew journal → journal.entries ≡ c.journal
    → AreAnswers skew env connections low high first second journal
told-there skew env connections low high first second a b c journal skew_is fresh low_env high_env low_env_is high_env_is low_own high_own low_own_is high_own_is one two legal entries_are =
    let all : journal.entries ≡ one.gained ++ two.gained = entries_are ∙ two.journal ∙ ap (λ l. l ++ two.gained) (one.journal ∙ ap (λ l. l ++ one.gained) fresh) in
    let low_are : entries_of 0 journal.entries ≡ one.gained =
    ap (entries_of 0) all ∙ filter-append (λ (e : Entry). e.seat == 0) one.gained two.gained
    ∙ ap (λ l. l ++ entries_of 0 two.gained) (own-all 0 one.gained one.own) ∙ ap (λ l. one.gained ++ l) (own-none 1 0 two.gained refl two.own) ∙ append-nil one.gained in
    let high_are : entries_of 1 journal.entries ≡ two.gained =
    ap (entries_of 1) all ∙ filter-append (λ (e : Entry). e.seat == 1) one.gained two.gained
    ∙ ap (λ l. l ++ entries_of 1 two.gained) (own-none 0 1 one.gained refl one.own) ∙ own-all 1 two.gained two.own in
    let S : ℕ → Type 0 = λ s. IsJournal s journal in
    let F : List Entry → Type 0 = λ l. RunsBy 1 0 env (connections_of 0 connections) low l first in
    let G : List Entry → Type 0 = λ l. RunsBy 1 1 env (connections_of 1 connections) high l second in
    let M : List (ℕ × Connection) → Type 0 = λ cs. RunsBy 1 0 env cs low one.gained first in
    let K : Env → Type 0 = λ e. RunsBy 1 0 e low_own low one.gained first in
    let L : Env → Type 0 = λ e. RunsBy 1 1 e high_own high two.gained second in
    let N : List (ℕ × Connection) → Type 0 = λ cs. RunsBy 1 1 env cs high two.gained second in
    record {
      legal = subst S (two.skew ∙ one.skew ∙ skew_is) legal;
      whole = let p = ap length all in let q = length-append one.gained two.gained in let r = ap length low_are in let s = ap length high_are in omega (arith, p, q, r, s);
      low_runs = subst F (sym low_are) (subst M low_own_is (subst K low_env_is one.runs));
      high_runs = subst G (sym high_are) (subst N high_own_is (subst L high_env_is two.runs));
    }

-- each reply of a worker has the number of its event
pub numbered : (worker call : ℕ) (events own : List Event) (numbers : List ℕ) (env : Env) (connections : List (ℕ × Connection)) (entries : List Entry) (replies : List Reply) → numbers ≡ numbers_of worker events
    → own ≡ events_of worker events → RunsBy call worker env connections own entries replies → length numbers ≡ length replies
numbered worker call events own numbers env connections entries replies numbers_are own_are runs =
    ap length numbers_are ∙ numbers-length 1 worker events ∙ ap length (sym own_are) ∙ sym (Runs-length (Reads worker) _ own replies runs.after runs.runs)
