-- The view of a pass in contracts, and the effect of its calls.
use Rattle.std.specs.Prelude.{◌≡◌, ℕ, zero, suc, ◌+◌, List, [], ◌∷◌, ◌++◌, length, map}
use Rattle.std.proofs.Common.{refl, sym, ap, ◌∙◌, subst, append_assoc}
use Rattle.std.proofs.lemmas.List.{append-nil}
use mathlib.Core.List.{IsPrefix}
use Rattle.atomic_table.specs.Seated.{TableId}
use Rattle.krb_shared.specs.declared.entry.Entry.{Entry}
use Rattle.krb_shared.specs.declared.entry.Receipt.{Receipt}
use Rattle.krb_shared.specs.declared.rule.Holding.{Holding}
use Rattle.krb_shared.specs.declared.rule.Terms.{Terms}
use Rattle.krb_replay.specs.declared.ask.Ask.{Ask}
use Rattle.krb_replay.specs.declared.ask.Verdict.{Verdict}
use Rattle.krb_replay.specs.Gate.{IsJudged}
use Rattle.krb_shared.specs.Journal.{IsLegal, history_of}
use Rattle.krb_shared.specs.Seats.{entries_of}
use Rattle.krb_shared.specs.Turns.{Place, IsIdle, dealing, AreFronts}

-- what contracts see of a book: its table, the skew in seconds, and how many passes it has
pub record TableAccount : Type 0 where
  pub table : TableId
  pub skew : ℕ
  pub passes : ℕ

-- whose table it is at, its number, the terms, the book's moment as its last call left it, the front that it has seen, and its calls
pub record PassAccount : Type 0 where
  pub table : TableId
  pub number : ℕ
  pub skew : ℕ
  pub passes : ℕ
  pub moment : ℕ
  pub front : List Entry
  pub receipts : List Receipt

-- the seat of a pass that has no call open: it holds the number and the number of its calls, and these receipts are its calls in
-- the front
pub record IsSeated (seat : Place) (number seen : ℕ) (receipts : List Receipt) : Type 0 where
  pub idle : IsIdle seat
  pub others : seat.me.0.others ≡ []
  pub held : seat.me.0.held ≡ record { number = number; count = length receipts } ∷ []
  pub own : entries_of number seat.me.0.front ≡ receipts
  pub length_seen : seen ≡ length seat.me.0.front

abbrev pub entry_of : ℕ → ℕ → Ask → Verdict → Entry
entry_of seat call ask verdict = record { seat = seat; call = call; ask = ask; verdict = verdict }

-- the book's moment after these calls
abbrev pub moment_of : ℕ → List Entry → ℕ
moment_of skew journal = (history_of skew journal).moment

-- one call: the journal at its end begins with the front before it, ends with the call, is legal, and has the pass's own calls each once
pub record Admits (old : PassAccount) (ask : Ask) (verdict : Verdict) (new : PassAccount) : Type 0 where
  pub before : List Entry
  pub table : new.table ≡ old.table
  pub number : new.number ≡ old.number
  pub skew : new.skew ≡ old.skew
  pub passes : new.passes ≡ old.passes
  pub seen : IsPrefix old.front before
  pub front : new.front ≡ before ++ entry_of old.number (length old.receipts + 1) ask verdict ∷ []
  pub legal : IsLegal old.skew new.front
  pub receipts : new.receipts ≡ old.receipts ++ record { place = length new.front; entry = entry_of old.number (length old.receipts + 1) ask verdict } ∷ []
  pub own : entries_of old.number new.front ≡ new.receipts
  pub moment : new.moment ≡ moment_of old.skew new.front
  pub judged : IsJudged old.skew new.moment ask verdict

-- a call that found no memory: the front may be longer, and nothing else has changed
pub record IsLeft (old new : PassAccount) : Type 0 where
  pub table : new.table ≡ old.table
  pub number : new.number ≡ old.number
  pub skew : new.skew ≡ old.skew
  pub passes : new.passes ≡ old.passes
  pub moment : new.moment ≡ old.moment
  pub seen : IsPrefix old.front new.front
  pub receipts : new.receipts ≡ old.receipts
  pub own : entries_of old.number old.front ≡ old.receipts → entries_of old.number new.front ≡ new.receipts
  pub legal : IsLegal old.skew old.front → IsLegal old.skew new.front

pub IsLeft-same : (pass : PassAccount) → IsLeft pass pass
IsLeft-same pass = record { table = refl; number = refl; skew = refl; passes = refl; moment = refl; seen = ([], append-nil pass.front); receipts = refl; own = λ own. own; legal = λ legal. legal }

prefix_on : (xs ys zs : List Entry) → IsPrefix xs ys → IsPrefix ys zs → IsPrefix xs zs
prefix_on xs ys zs p q = (p.0 ++ q.0, sym (append_assoc xs p.0 q.0) ∙ ap (λ l. l ++ q.0) p.1 ∙ q.1)

-- a call after one that found no memory does what it would have done without that one
pub left_goes_on : (a b c : PassAccount) (ask : Ask) (verdict : Verdict) → IsLeft a b → Admits b ask verdict c → Admits a ask verdict c
left_goes_on a b c ask verdict same step = record {
  before = step.before;
  table = step.table ∙ same.table;
  number = step.number ∙ same.number;
  skew = step.skew ∙ same.skew;
  passes = step.passes ∙ same.passes;
  seen = prefix_on a.front b.front step.before same.seen step.seen;
  front = step.front ∙ (λ i. step.before ++ entry_of (same.number i) (length (same.receipts i) + 1) ask verdict ∷ []);
  legal = subst (λ (k : ℕ). IsLegal k c.front) same.skew step.legal;
  receipts = step.receipts ∙ (λ i. same.receipts i ++ record { place = length c.front; entry = entry_of (same.number i) (length (same.receipts i) + 1) ask verdict } ∷ []);
  own = subst (λ (k : ℕ). entries_of k c.front ≡ c.receipts) same.number step.own;
  moment = step.moment ∙ ap (λ (k : ℕ). moment_of k c.front) same.skew;
  judged = subst (λ (k : ℕ). IsJudged k c.moment ask verdict) same.skew step.judged;
}

-- ---- new passes

abbrev pub new_pass : TableId → ℕ → ℕ → ℕ → PassAccount
new_pass table skew passes number = record { table = table; number = number; skew = skew; passes = passes; moment = 0; front = []; receipts = [] }

-- n new passes, with the numbers from `number` on
abbrev pub new_passes : TableId → ℕ → ℕ → ℕ → ℕ → List PassAccount
new_passes table skew passes number zero = []
new_passes table skew passes number (suc n) = new_pass table skew passes number ∷ new_passes table skew passes (number + 1) n

-- the seat of a new pass
abbrev pub IsFresh : ℕ → Place → Type 0
IsFresh number seat = IsIdle seat × (seat.me.0.others ≡ []) × (seat.me.0.held ≡ record { number = number; count = 0 } ∷ []) × (seat.me.0.front ≡ [])

-- the seat that still has n numbers, from `number` on, and has seen nothing
abbrev pub IsDealing : TableId → Terms → ℕ → ℕ → Place → Type 0
IsDealing table terms number n seat = (seat.table_id ≡ table) × (seat.me ≡ (dealing terms number n, []))

-- ---- the end

-- these are passes of this table, in the order of their numbers, which go on from `number`
abbrev pub AreInOrder : TableId → ℕ → List PassAccount → Type 0
AreInOrder table number [] = Unit {0}
AreInOrder table number (p ∷ ps) = (p.table ≡ table) × (p.number ≡ number) × AreInOrder table (number + 1) ps

-- the journal begins with each front, and each pass's receipts are its calls in the journal, in order and at their places
abbrev pub AreKept : List Entry → List PassAccount → Type 0
AreKept journal [] = Unit {0}
AreKept journal (p ∷ ps) = IsPrefix p.front journal × (entries_of p.number journal ≡ p.receipts) × AreKept journal ps

-- how many calls the passes have made
abbrev pub calls_made : List PassAccount → ℕ
calls_made [] = 0
calls_made (p ∷ ps) = length p.receipts + calls_made ps

abbrev pub holding_of : PassAccount → Holding
holding_of p = record { number = p.number; count = length p.receipts }

-- each pass's receipts are its calls in its front
abbrev pub AreOwn : List PassAccount → Type 0
AreOwn [] = Unit {0}
AreOwn (p ∷ ps) = (entries_of p.number p.front ≡ p.receipts) × AreOwn ps

-- the seat that has taken all these passes in
pub record HasJoined (table : TableId) (ps : List PassAccount) (seat : Place) : Type 0 where
  pub table_id : seat.table_id ≡ table
  pub idle : IsIdle seat
  pub held : seat.me.0.held ≡ map holding_of ps
  pub own : AreOwn ps
  pub fronts : (journal : List Entry) → AreFronts journal (seat.me.0.front ∷ seat.me.0.others) → AreFronts journal (map (λ (p : PassAccount). p.front) ps)
