-- The progress of a session after some lines, and its change by one more line.
use Rattle.std.specs.Prelude.{◌≡◌, ℕ, ◌+◌, true, false, List, [], Option, Some, None, is_some, option_map, if◌then◌else◌, IfSome, MatchOption, MatchBool}
use Rattle.krb_replay.specs.Book.{Book, Follows, StandsFor}
use Rattle.krb_replay.specs.History.{no_history}
use Rattle.krb_text.specs.Lines.{is_skipped}
use Rattle.krb_script.specs.Items.{item_of}
use Rattle.krb_script.specs.Script.{Setup, empty_setup, set_up}
use Rattle.krb_script.specs.declared.item.Item.{Item}
use Rattle.krb_script.specs.declared.item.Item.TheVariants.{Declaration as DeclarationItem, Event as EventItem}
use Rattle.krb_script.specs.declared.declaration.Declaration.{Declaration}
use Rattle.krb_script.specs.declared.item.Event.{Event}
use Rattle.krb_machine.specs.Policy.{State, Steps}
use Rattle.krb_machine.specs.Described.{skew_of, connections_of}
use Rattle.krb_machine.specs.Reply.{reply_line, admits_peer}
use Rattle.krb_machine.specs.declared.reply.Reply.{Reply}

-- the declarations of the lines before the first event, the service from the first event on, how many lines were taken, how many
-- events answered, and how many of them admitted their peer
pub record Progress : Type 0 where
  pub setup : Setup
  pub service : Option (State Book)
  pub lines : ℕ
  pub answered : ℕ
  pub admitted : ℕ

abbrev pub new_progress : Progress
new_progress = record { setup = empty_setup; service = None; lines = 0; answered = 0; admitted = 0 }

-- a service of the declarations, over an empty replay book
pub record IsNew (setup : Setup) (state : State Book) : Type 0 where
  pub connections : state.connections ≡ connections_of setup
  pub env : state.env ≡ setup.env
  pub skew : state.gate.skew ≡ skew_of setup
  pub stands : StandsFor state.gate no_history

-- the service that answers the next event: the first event makes it
abbrev pub BeginsService : Progress → State Book → Type 0
BeginsService progress state = MatchOption progress.service ((is_some progress.setup.skew ≡ true) × IsNew progress.setup state) (λ service. state ≡ service)

-- there is no service, and no line set the skew
abbrev pub CannotBegin : Progress → Type 0
CannotBegin progress = (progress.service ≡ None) × (is_some progress.setup.skew ≡ false)

-- how many events a reply adds to those that admitted their peer
abbrev pub one_if_admits : Reply → ℕ
one_if_admits reply = if admits_peer reply then 1 else 0

-- one event is answered: the text that is written, and the progress afterwards
pub record Answers (progress : Progress) (event : Event) (text : List ℕ) (after : Progress) : Type 0 where
  pub before : State Book
  pub reply : Reply
  pub next : State Book
  pub begins : BeginsService progress before
  pub steps : Steps (Follows StandsFor) before event reply next
  pub text_is : text ≡ reply_line reply
  pub service_is : after.service ≡ Some next
  pub lines_are : after.lines ≡ progress.lines
  pub answered_is : after.answered ≡ progress.answered + 1
  pub admitted_is : after.admitted ≡ progress.admitted + one_if_admits reply

-- the progress after a declaration before the first event
abbrev pub prepare_by : Option (State Book) → Progress → Declaration → Option Progress
prepare_by (Some state) progress declaration = None
prepare_by None progress declaration = option_map (λ setup. record progress { setup = setup }) (set_up progress.setup declaration)

abbrev pub prepare : Progress → Declaration → Option Progress
prepare progress declaration = prepare_by progress.service progress declaration

-- nothing is written for a declaration
pub record Prepares (progress : Progress) (declaration : Declaration) (text : List ℕ) (after : Progress) : Type 0 where
  pub text_is : text ≡ []
  pub after_is : prepare progress declaration ≡ Some after

abbrev pub TakesItem : Progress → Item → List ℕ → Progress → Type 0
TakesItem progress (EventItem event) text after = Answers progress event text after
TakesItem progress (DeclarationItem declaration) text after = Prepares progress declaration text after

-- an item that does not meet the conditions
abbrev pub RefusesItem : Progress → Item → Type 0
RefusesItem progress (EventItem event) = CannotBegin progress
RefusesItem progress (DeclarationItem declaration) = prepare progress declaration ≡ None

-- a line that is not skipped
pub record TakesContent (progress : Progress) (line text : List ℕ) (after : Progress) : Type 0 where
  pub item : Item
  pub is : item_of line ≡ Some item
  pub takes : TakesItem progress item text after

abbrev pub RefusesContent : Progress → List ℕ → Type 0
RefusesContent progress line = IfSome (item_of line) (λ item. RefusesItem progress item)

-- one more line is counted
abbrev pub counted : Progress → Progress
counted progress = record progress { lines = progress.lines + 1 }

-- a line is taken: the text that is written, and the progress afterwards
pub record Takes (progress : Progress) (line text : List ℕ) (after : Progress) : Type 0 where
  pub last : Progress
  pub content : MatchBool (is_skipped line) ((text ≡ []) × (last ≡ progress)) (TakesContent progress line text last)
  pub after_is : after ≡ counted last

-- a bad line
pub record Refuses (progress : Progress) (line : List ℕ) : Type 0 where
  pub content : is_skipped line ≡ false
  pub refuses : RefusesContent progress line
