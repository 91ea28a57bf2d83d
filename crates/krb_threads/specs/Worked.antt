-- The receipts that a worker's run adds to its seat, or the entries that it adds to the desk.
use Rattle.std.specs.Prelude.{◌≡◌, ℕ, ◌+◌, List, [], ◌∷◌, ◌++◌, map, length}
use Rattle.krb_conf.specs.declared.env.Env.{Env}
use Rattle.krb_shared.specs.declared.entry.Entry.{Entry}
use Rattle.krb_shared.specs.declared.entry.Receipt.{Receipt}
use Rattle.krb_shared.specs.Desk.{Desk}
use Rattle.krb_shared.specs.Seats.{Seat}
use Rattle.krb_script.specs.declared.item.Event.{Event}
use Rattle.krb_machine.specs.declared.connection.Connection.{Connection}
use Rattle.krb_machine.specs.declared.reply.Reply.{Reply}
use Rattle.krb_threads.specs.Journaled.{RunsBy}

-- the entries of a seat's receipts
abbrev pub log_of : Seat → List Entry
log_of seat = map (λ (receipt : Receipt). receipt.entry) seat.receipts

-- a seat has gained the receipts of a run
pub record WorksAt (old : Seat) (env : Env) (connections : List (ℕ × Connection)) (events : List Event) (replies : List Reply) (new : Seat) : Type 0 where
  pub number : new.number ≡ old.number
  pub parts : new.parts ≡ old.parts
  pub gained : List Entry
  pub log : log_of new ≡ log_of old ++ gained
  pub runs : RunsBy (length old.receipts + 1) old.number env connections events gained replies

-- each of the entries is of this seat
abbrev pub AreOf : ℕ → List Entry → Type 0
AreOf seat [] = Unit {0}
AreOf seat (entry ∷ entries) = (entry.seat ≡ seat) × AreOf seat entries

-- a desk's journal has gained the entries of a run, which are all of this seat
pub record WorksThere (old : Desk) (call seat : ℕ) (env : Env) (connections : List (ℕ × Connection)) (events : List Event)
    (replies : List Reply) (new : Desk) : Type 0 where
  pub skew : new.skew ≡ old.skew
  pub gained : List Entry
  pub journal : new.journal ≡ old.journal ++ gained
  pub own : AreOf seat gained
  pub runs : RunsBy call seat env connections events gained replies
