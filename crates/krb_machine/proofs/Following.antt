-- A session against the declarations of the lines so far.
use Rattle.std.specs.Prelude.{◌≡◌, ◌<◌, List, [], Some, None, length, is_some, true, ◌⊎◌}
use Rattle.krb_script.specs.Script.{Declared}
use Rattle.krb_replay.specs.Book.{Book, StandsFor}
use Rattle.krb_replay.specs.History.{History}
use Rattle.krb_machine.specs.Policy.{State, Runs}
use Rattle.krb_machine.specs.Described.{Remembers, skew_of, service_of, with_gate}
use Rattle.krb_machine.specs.Reply.{admissions}
use Rattle.krb_machine.specs.Progress.{Progress}
use Rattle.krb_machine.specs.declared.reply.Reply.{Reply}

-- no event was answered yet
pub record IsBefore (progress : Progress) (so_far : Declared) (replies : List Reply) : Type 0 where
  pub setup : progress.setup ≡ so_far.setup
  pub service : progress.service ≡ None
  pub events : so_far.events ≡ []
  pub none : replies ≡ []

-- the service has answered the events as the one that never forgets does, and its book represents the history
pub record IsAmid (progress : Progress) (so_far : Declared) (replies : List Reply) : Type 0 where
  pub after : State Book
  pub history : History
  pub service : progress.service ≡ Some after
  pub skew : is_some so_far.setup.skew ≡ true
  pub some : 0 < length so_far.events
  pub runs : Runs (Remembers (skew_of so_far.setup)) (service_of so_far.setup) so_far.events replies (with_gate after history)
  pub stands : StandsFor after.gate history
  pub own_skew : after.gate.skew ≡ skew_of so_far.setup

-- a session knows the declarations of the lines so far, and has answered their events with these replies
pub record Follows (progress : Progress) (so_far : Declared) (replies : List Reply) : Type 0 where
  pub answered : progress.answered ≡ length so_far.events
  pub admitted : progress.admitted ≡ admissions replies
  pub state : IsBefore progress so_far replies ⊎ IsAmid progress so_far replies
