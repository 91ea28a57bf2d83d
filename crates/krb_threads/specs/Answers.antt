-- The replies of the workers, and their text.
use Rattle.std.specs.Prelude.{◌≡◌, ℕ, ◌+◌, List, [], ◌∷◌, ◌++◌, codes, length}
use Rattle.std.specs.Fmt.{decimal}
use Rattle.krb_conf.specs.declared.env.Env.{Env}
use Rattle.krb_replay.specs.declared.ask.Verdict.{Verdict}
use Rattle.krb_replay.specs.declared.ask.Verdict.TheVariants.{Admitted, Skew, NotYet, Expired, Replayed}
use Rattle.krb_shared.specs.Journal.{IsJournal}
use Rattle.krb_shared.specs.declared.entry.Entry.{Entry}
use Rattle.krb_shared.specs.declared.journal.Journal.{Journal}
use Rattle.krb_script.specs.Script.{Declared}
use Rattle.krb_script.specs.declared.item.Event.{Event}
use Rattle.krb_machine.specs.Described.{skew_of, connections_of as all_connections}
use Rattle.krb_machine.specs.Reply.{reply_line, admissions}
use Rattle.krb_machine.specs.Text.{end_line}
use Rattle.krb_machine.specs.declared.connection.Connection.{Connection}
use Rattle.krb_machine.specs.declared.reply.Reply.{Reply}
use Rattle.krb_input.specs.Parted.{events_of, numbers_of}
use Rattle.krb_threads.specs.Journaled.{connections_of, entries_of, RunsBy}

-- the journal is that of one book, asked one call after another, and has the calls of the two workers alone; each worker has
-- run its events over its connections by its own entries
pub record AreAnswers (skew : ℕ) (env : Env) (connections : List (ℕ × Connection)) (low high : List Event) (first second : List Reply)
    (journal : Journal) : Type 0 where
  pub legal : IsJournal skew journal
  pub whole : length journal.entries ≡ length (entries_of 0 journal.entries) + length (entries_of 1 journal.entries)
  pub low_runs : RunsBy 1 0 env (connections_of 0 connections) low (entries_of 0 journal.entries) first
  pub high_runs : RunsBy 1 1 env (connections_of 1 connections) high (entries_of 1 journal.entries) second

-- w <worker> <event> <reply line>
abbrev pub worker_line : ℕ → ℕ → Reply → List ℕ
worker_line worker number reply = codes "w " ++ decimal worker ++ codes " " ++ decimal number ++ codes " " ++ reply_line reply

-- a line for each reply, with the number of its event
abbrev pub worker_text : ℕ → List ℕ → List Reply → List ℕ
worker_text worker [] replies = []
worker_text worker (number ∷ numbers) [] = []
worker_text worker (number ∷ numbers) (reply ∷ replies) = worker_line worker number reply ++ worker_text worker numbers replies

abbrev pub verdict_name : Verdict → List ℕ
verdict_name Admitted = codes "Admitted"
verdict_name Skew = codes "Skew"
verdict_name NotYet = codes "NotYet"
verdict_name Expired = codes "Expired"
verdict_name Replayed = codes "Replayed"

-- j <place> <seat> <call> <verdict>
abbrev pub entry_line : ℕ → Entry → List ℕ
entry_line place entry =
    codes "j " ++ decimal place ++ codes " " ++ decimal entry.seat ++ codes " " ++ decimal entry.call ++ codes " " ++ verdict_name entry.verdict ++ codes "\n"

-- a line for each entry; the first entry has this place
abbrev pub entries_text : ℕ → List Entry → List ℕ
entries_text place [] = []
entries_text place (entry ∷ entries) = entry_line place entry ++ entries_text (place + 1) entries

-- the replies of worker 0, those of worker 1, the journal, and the last line
abbrev pub answers_text : List Event → List Reply → List Reply → Journal → List ℕ
answers_text events first second journal =
    worker_text 0 (numbers_of 0 events) first ++ worker_text 1 (numbers_of 1 events) second ++ entries_text 1 journal.entries
    ++ end_line (admissions first + admissions second) journal.kept

-- the text that answers the declarations
pub record IsAnswer (so_far : Declared) (text : List ℕ) : Type 0 where
  pub first : List Reply
  pub second : List Reply
  pub journal : Journal
  pub answers : AreAnswers (skew_of so_far.setup) so_far.setup.env (all_connections so_far.setup) (events_of 0 so_far.events)
      (events_of 1 so_far.events) first second journal
  pub is : text ≡ answers_text so_far.events first second journal
