-- The connections of a worker, and a run by the entries of a journal.
use Rattle.std.specs.Prelude.{◌≡◌, ℕ, ◌+◌, ◌==◌, List, [], ◌∷◌}
use Rattle.std.specs.List.{filter}
use Rattle.krb_replay.specs.declared.ask.Ask.{Ask}
use Rattle.krb_replay.specs.declared.ask.Verdict.{Verdict}
use Rattle.krb_shared.specs.declared.entry.Entry.{Entry}
use Rattle.krb_script.specs.declared.item.Event.{Event}
use Rattle.krb_input.specs.Parted.{is_of}
use Rattle.krb_conf.specs.declared.env.Env.{Env}
use Rattle.krb_machine.specs.Policy.{State, Runs}
use Rattle.krb_machine.specs.declared.connection.Connection.{Connection}
use Rattle.krb_machine.specs.declared.reply.Reply.{Reply}

-- the connections that a worker has
abbrev pub connections_of : ℕ → List (ℕ × Connection) → List (ℕ × Connection)
connections_of worker connections = filter (λ (entry : ℕ × Connection). is_of worker entry.0) connections

-- the entries of one seat in a journal, in order
abbrev pub entries_of : ℕ → List Entry → List Entry
entries_of seat entries = filter (λ (entry : Entry). entry.seat == seat) entries

-- the rest of one seat's entries, and the number of its next call
pub record Rest : Type 0 where
  pub call : ℕ
  pub entries : List Entry

-- the gate that takes its verdicts from a journal: the next entry is the seat's next call, with this ask and this verdict
pub record Reads (seat : ℕ) (old : Rest) (ask : Ask) (verdict : Verdict) (new : Rest) : Type 0 where
  pub entries : old.entries ≡ record { seat = seat; call = old.call; ask = ask; verdict = verdict } ∷ new.entries
  pub call : new.call ≡ old.call + 1

-- a run of a service with this environment and these connections over these events, from this call on: the k-th event that reaches
-- the gate gets the verdict of the k-th entry, which has its ask, and no entry is left
pub record RunsBy (call seat : ℕ) (env : Env) (connections : List (ℕ × Connection)) (events : List Event) (entries : List Entry)
    (replies : List Reply) : Type 0 where
  pub after : State Rest
  pub runs : Runs (Reads seat) (record { connections = connections; env = env; gate = record { call = call; entries = entries } }) events replies after
  pub used : after.gate.entries ≡ []
