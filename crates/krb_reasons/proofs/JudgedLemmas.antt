-- The judgement of a line agrees with its declaration in an input.
use Rattle.std.proofs.Common.{◌≡◌, ℕ, Bool, true, false, List, [], ◌∷◌, ◌++◌, Option, Some, None, refl}
use Rattle.std.specs.Prelude.{option_map, if◌then◌else◌}
use Rattle.krb_der.specs.Reading.{◌>>=◌}
use Rattle.krb_text.specs.Lines.{is_skipped}
use Rattle.krb_script.specs.Items.{item_of}
use Rattle.krb_script.specs.Script.{Setup, Declared, declare, declare_line, set_up, set_up_before}
use Rattle.krb_script.specs.declared.item.Item.{Item}
use Rattle.krb_script.specs.declared.item.Event.{Event}
use Rattle.krb_script.specs.declared.item.Item.TheVariants.{Declaration as DeclarationItem, Event as EventItem}
use Rattle.krb_script.specs.declared.declaration.Declaration.{Declaration}
use Rattle.krb_reasons.specs.Judged.{judged_of, step, after, has_any}

-- after one more event there is an event
some_event : (events : List Event) (event : Event) → has_any (events ++ event ∷ []) ≡ true
some_event [] event = refl
some_event (e ∷ events) event = refl

event_step : (so_far : Declared) (skew : Option ℕ) (event : Event) → so_far.setup.skew ≡ skew
    → option_map judged_of (declare so_far (EventItem event)) ≡ step (judged_of so_far) (EventItem event)
event_step so_far None event is = rw is refl
event_step so_far (Some skew) event is = rw is (rw (some_event so_far.events event) refl)

mapped : (next : Option Setup)
    → option_map judged_of (option_map (λ setup. record { setup = setup; events = [] }) next) ≡ option_map (λ setup. record { setup = setup; has_events = false }) next
mapped None = refl
mapped (Some setup) = refl

declaration_step : (setup : Setup) (events : List Event) (declaration : Declaration)
    → option_map judged_of (set_up_before events setup declaration) ≡ step (record { setup = setup; has_events = has_any events }) (DeclarationItem declaration)
declaration_step setup [] declaration = mapped (set_up setup declaration)
declaration_step setup (event ∷ events) declaration = refl

item_step : (so_far : Declared) (item : Item) → option_map judged_of (declare so_far item) ≡ step (judged_of so_far) item
item_step so_far (EventItem event) = event_step so_far so_far.setup.skew event refl
item_step so_far (DeclarationItem declaration) = declaration_step so_far.setup so_far.events declaration

line_step : (skipped : Bool) (so_far : Declared) (item : Option Item)
    → option_map judged_of (if skipped then Some so_far else item >>= (λ (i : Item). declare so_far i))
    ≡ (if skipped then Some (judged_of so_far) else item >>= (λ (i : Item). step (judged_of so_far) i))
line_step true so_far item = refl
line_step false so_far None = refl
line_step false so_far (Some item) = item_step so_far item

pub judged : (so_far : Declared) (line : List ℕ) → option_map judged_of (declare_line so_far line) ≡ after (judged_of so_far) line
judged so_far line = line_step (is_skipped line) so_far (item_of line)
