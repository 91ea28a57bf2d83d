-- The declarations of lines, one after another, as far as they decide which line may follow.
use Rattle.std.specs.Prelude.{◌≡◌, ℕ, Bool, true, false, if◌then◌else◌, List, [], ◌∷◌, Option, Some, None, is_some, option_map, Result, MatchResult}
use Rattle.krb_text.specs.Lines.{is_skipped}
use Rattle.krb_der.specs.Reading.{◌>>=◌}
use Rattle.krb_script.specs.Items.{item_of}
use Rattle.krb_script.specs.Script.{Setup, empty_setup, set_up, is_declared, Declared}
use Rattle.krb_script.specs.declared.item.Item.{Item}
use Rattle.krb_script.specs.declared.item.Item.TheVariants.{Declaration as DeclarationItem, Event as EventItem}
use Rattle.krb_script.specs.declared.declaration.Declaration.{Declaration}
use Rattle.krb_script.specs.declared.declaration.Declaration.TheVariants as declarations
use Rattle.krb_script.specs.declared.endpoint.Attribute.{Attribute}
use Rattle.krb_script.specs.declared.endpoint.Attribute.TheVariants as attributes
use Rattle.krb_reasons.specs.Shapes.{reason_of}
use Rattle.krb_reasons.specs.declared.reason.Reason.{Reason}
use Rattle.krb_reasons.specs.declared.reason.Reason.TheVariants as reasons
use Rattle.krb_reasons.specs.declared.judge.Complaint.{Complaint}
use Rattle.krb_reasons.specs.declared.judge.Complaint.TheVariants.{Bad}

-- the declarations of the lines before the first event, and whether there was an event
pub record Judged : Type 0 where
  pub setup : Setup
  pub has_events : Bool

abbrev pub nothing_judged : Judged
nothing_judged = record { setup = empty_setup; has_events = false }

-- the state after one line of the table, if the line is allowed at its position
abbrev pub step : Judged → Item → Option Judged
step judged (EventItem event) = if is_some judged.setup.skew then Some (record { setup = judged.setup; has_events = true }) else None
step judged (DeclarationItem declaration) =
    if judged.has_events then None
    else option_map (λ setup. record { setup = setup; has_events = judged.has_events }) (set_up judged.setup declaration)

-- the state after one line, skipped or not
abbrev pub after : Judged → List ℕ → Option Judged
after judged line =
    if is_skipped line then Some judged
    else do
      item ← item_of line
      step judged item

-- the connection that a declaration adds to
abbrev pub needed : Declaration → Option ℕ
needed (declarations.Attribute id attribute) = Some id
needed _ = None

-- the reason why a line that adds to a connection is not taken although the connection is declared
abbrev pub attribute_conflict : ℕ → Attribute → Reason
attribute_conflict id (attributes.Key key) = reasons.KeyOfInitiator id
attribute_conflict id (attributes.Credentials credentials) = reasons.SecondCredentials id
attribute_conflict id (attributes.Kdc url) = reasons.SecondKdc id

-- the reason why a declaration is not taken after the skew, if the connection that it adds to is declared
abbrev pub conflict : Declaration → Reason
conflict (declarations.Endpoint id endpoint) = reasons.DeclaredTwice id
conflict (declarations.Attribute id attribute) = attribute_conflict id attribute
conflict _ = reasons.SecondSkew

-- the reason, or that this connection is not declared
abbrev pub conflict_in : Setup → Option ℕ → Reason → Reason
conflict_in setup None reason = reason
conflict_in setup (Some id) reason = if is_declared id setup.endpoints then reason else reasons.NotDeclared id

-- the reason why a line of the table is not allowed after the others
abbrev pub refusal : Judged → Item → Reason
refusal judged (EventItem event) = reasons.NoSkew
refusal judged (DeclarationItem declaration) =
    if judged.has_events then reasons.AfterEvent
    else if is_some judged.setup.skew then conflict_in judged.setup (needed declaration) (conflict declaration)
    else reasons.NoSkew

-- a line is taken, or fails with this reason only if it is not allowed; memory may run out at any time
abbrev pub TakesLine : Option Judged → Option Reason → Result (Unit {0}) Complaint → Judged → Type 0
TakesLine next why result new = MatchResult result (λ _. next ≡ Some new) (λ e. (reason : Reason) → e ≡ Bad reason → (next ≡ None) × (why ≡ Some reason))

-- the reason why a line is not allowed after the others, by its declaration
abbrev pub refusal_of : Judged → List ℕ → Option Item → Option Reason
refusal_of judged line None = reason_of line
refusal_of judged line (Some item) = Some (refusal judged item)

abbrev pub why : Judged → List ℕ → Option Reason
why judged line = refusal_of judged line (item_of line)

-- there is an event in the list
abbrev pub has_any : {A : Type 0} → List A → Bool
has_any [] = false
has_any (x ∷ xs) = true

-- the declarations, as far as they decide which line may follow
abbrev pub judged_of : Declared → Judged
judged_of so_far = record { setup = so_far.setup; has_events = has_any so_far.events }
