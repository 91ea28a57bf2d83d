-- The seats of a shared book, and how their receipts and a journal agree.
use Rattle.std.specs.Prelude.{◌≡◌, ◌≢◌, ℕ, ◌+◌, ◌==◌, if◌then◌else◌, List, [], ◌∷◌, ◌++◌, map, length, take, Some, slice_get, All}
use Rattle.std.specs.List.{sum_by}
use Rattle.std.proofs.Common.{subst}
use Rattle.krb_replay.specs.declared.ask.Ask.{Ask}
use Rattle.krb_replay.specs.declared.ask.Verdict.{Verdict}
use Rattle.krb_replay.specs.Gate.{IsJudged}
use Rattle.krb_shared.specs.declared.entry.Entry.{Entry}
use Rattle.krb_shared.specs.declared.entry.Receipt.{Receipt}

-- a seat's number, its receipts, the book's moment as its last answered call left it, and its parts of the ledger
pub record Seat : Type 0 where
  pub number : ℕ
  pub receipts : List Receipt
  pub moment : ℕ
  pub parts : ℕ

-- a call leaves one receipt more: it is the seat's next call, with this ask and this verdict, at some place of the journal. The
-- verdict is one at the moment that the seat then keeps
pub record AddsReceipt (skew : ℕ) (old : Seat) (ask : Ask) (verdict : Verdict) (new : Seat) : Type 0 where
  pub number : new.number ≡ old.number
  pub parts : new.parts ≡ old.parts
  pub place : ℕ
  pub receipts : new.receipts ≡ old.receipts ++ record { entry = record { seat = old.number; call = length old.receipts + 1; ask = ask; verdict = verdict }; place = place } ∷ []
  pub judged : IsJudged skew new.moment ask verdict

pub adds_after : (skew : ℕ) (a b c : Seat) (ask : Ask) (verdict : Verdict) → b ≡ a → AddsReceipt skew b ask verdict c → AddsReceipt skew a ask verdict c
adds_after skew a b c ask verdict same step = subst (λ (seat : Seat). AddsReceipt skew seat ask verdict c) same step

-- the entries of one seat, each with its place, where the first entry of the list has this place
abbrev pub placed_from : ℕ → ℕ → List Entry → List Receipt
placed_from place seat [] = []
placed_from place seat (entry ∷ entries) =
    if entry.seat == seat then record { entry = entry; place = place } ∷ placed_from (place + 1) seat entries
    else placed_from (place + 1) seat entries

-- the entries of one seat in a journal, in order, each with its place there, counted from 1
abbrev pub entries_of : ℕ → List Entry → List Receipt
entries_of seat journal = placed_from 1 seat journal

-- a seat's receipts are its entries in the journal, in order and at their places
abbrev pub Agrees : List Entry → Seat → Type 0
Agrees journal seat = seat.receipts ≡ entries_of seat.number journal

-- receipts and entries agree at each earlier call, and not at this one, counted from 1: they are different there, or one of the
-- two is missing
pub record DifferAt (receipts entries : List Receipt) (call : ℕ) : Type 0 where
  pub agreed : ℕ
  pub call_is : call ≡ agreed + 1
  pub before : take agreed receipts ≡ take agreed entries
  pub next : slice_get receipts agreed ≢ slice_get entries agreed

-- the seats of lower numbers agree with the journal, and the one of this number doesn't, from this call on
pub record FirstDiffers (journal : List Entry) (seats : List Seat) (number call : ℕ) : Type 0 where
  pub lower : All (Agrees journal) (take number seats)
  pub seat : Seat
  pub found : slice_get seats number ≡ Some seat
  pub differ : DifferAt seat.receipts (entries_of seat.number journal) call

-- the seats are in the order of their numbers, from this one on
abbrev pub AreNumbered : ℕ → List Seat → Type 0
AreNumbered number [] = Unit {0}
AreNumbered number (seat ∷ seats) = (seat.number ≡ number) × AreNumbered (number + 1) seats

-- all seats of a book, in the order of their numbers from 0: they have all parts of the ledger
pub record AreAll (parts : ℕ) (seats : List Seat) : Type 0 where
  pub numbered : AreNumbered 0 seats
  pub whole : sum_by (λ (seat : Seat). seat.parts) seats ≡ parts

-- a seat that has not called yet
abbrev pub IsNew : Seat → Type 0
IsNew seat = (seat.receipts ≡ []) × (seat.moment ≡ 0)

-- how many calls were answered at these seats
abbrev pub calls_of : List Seat → ℕ
calls_of seats = sum_by (λ (seat : Seat). length seat.receipts) seats

-- the receipts of each seat
abbrev pub receipts_of : List Seat → List (List Receipt)
receipts_of seats = map (λ (seat : Seat). seat.receipts) seats
