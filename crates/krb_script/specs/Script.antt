-- The declarations of the lines of an input, and the first line that is bad or long.
use Rattle.std.specs.Prelude.{ℕ, ◌+◌, Bool, if◌then◌else◌, List, [], ◌∷◌, ◌++◌, length, Option, Some, None, is_some, option_map}
use Rattle.std.specs.Ordering.{nat_cmp}
use Rattle.std.specs.BTreeMap.{insert_entry, is_at}
use Rattle.std.specs.Map.{lookup, set_value}
use Rattle.krb_conf.specs.declared.env.Env.{Env}
use Rattle.krb_text.specs.Limits.{is_long}
use Rattle.krb_text.specs.Lines.{lines, is_skipped}
use Rattle.krb_der.specs.Reading.{◌>>=◌}
use Rattle.krb_script.specs.Endpoints.{with_attribute}
use Rattle.krb_script.specs.Items.{item_of}
use Rattle.krb_script.specs.declared.stop.Stop.{Stop}
use Rattle.krb_script.specs.declared.stop.Stop.TheVariants.{Whole, Bad, Long}
use Rattle.krb_script.specs.declared.endpoint.Endpoint.{Endpoint}
use Rattle.krb_script.specs.declared.endpoint.Attribute.{Attribute}
use Rattle.krb_script.specs.declared.declaration.Declaration.{Declaration}
use Rattle.krb_script.specs.declared.declaration.Declaration.TheVariants.{Skew, Variable, File, Endpoint as EndpointLine, Attribute as AttributeLine}
use Rattle.krb_script.specs.declared.item.Item.{Item}
use Rattle.krb_script.specs.declared.item.Item.TheVariants.{Declaration as DeclarationItem, Event as EventItem}
use Rattle.krb_script.specs.declared.item.Event.{Event}

-- the declarations of the lines before the first event: the ends of connections are in the order of their numbers
pub record Setup : Type 0 where
  pub skew : Option ℕ
  pub env : Env
  pub endpoints : List (ℕ × Endpoint)

-- the declarations so far
pub record Declared : Type 0 where
  pub setup : Setup
  pub events : List Event

abbrev pub empty_setup : Setup
empty_setup = record { skew = None; env = record { vars = []; files = [] }; endpoints = [] }

abbrev pub nothing_declared : Declared
nothing_declared = record { setup = empty_setup; events = [] }

-- the value at an id
abbrev pub at_id : {A : Type 0} → ℕ → List (ℕ × A) → Option A
at_id id entries = lookup (is_at (nat_cmp id)) entries

abbrev pub is_declared : ℕ → List (ℕ × Endpoint) → Bool
is_declared id endpoints = is_some (at_id id endpoints)

-- the setup with one more end, whose number is new
abbrev pub with_endpoint : Setup → ℕ → Endpoint → Option Setup
with_endpoint setup id endpoint =
    if is_declared id setup.endpoints then None
    else Some (record setup { endpoints = insert_entry nat_cmp setup.endpoints id endpoint })

-- the setup after a line adds to an end that is declared
abbrev pub with_addition : Setup → ℕ → Attribute → Option Setup
with_addition setup id attribute = do
  endpoint ← at_id id setup.endpoints
  changed ← with_attribute endpoint attribute
  Some (record setup { endpoints = set_value (is_at (nat_cmp id)) setup.endpoints changed })

-- the setup after one more line after that of the skew
abbrev pub add : Setup → Declaration → Option Setup
add setup (Skew seconds) = None
add setup (Variable name value) = Some (record setup { env = record { vars = setup.env.vars ++ (name, value) ∷ []; files = setup.env.files } })
add setup (File path contents) = Some (record setup { env = record { vars = setup.env.vars; files = setup.env.files ++ (path, contents) ∷ [] } })
add setup (EndpointLine id endpoint) = with_endpoint setup id endpoint
add setup (AttributeLine id attribute) = with_addition setup id attribute

-- the setup after the first line, which sets the skew
abbrev pub begin_with : Setup → Declaration → Option Setup
begin_with setup (Skew seconds) = Some (record setup { skew = Some seconds })
begin_with setup (Variable name value) = None
begin_with setup (File path contents) = None
begin_with setup (EndpointLine id endpoint) = None
begin_with setup (AttributeLine id attribute) = None

-- the setup after one more line before the first event, if the conditions hold
abbrev pub set_up : Setup → Declaration → Option Setup
set_up setup declaration = if is_some setup.skew then add setup declaration else begin_with setup declaration

-- the declarations after one more line that is no event: there is none after the first event
abbrev pub set_up_before : List Event → Setup → Declaration → Option Declared
set_up_before [] setup declaration = option_map (λ next. record { setup = next; events = [] }) (set_up setup declaration)
set_up_before (event ∷ events) setup declaration = None

-- the declarations after one more line, if the conditions hold
abbrev pub declare : Declared → Item → Option Declared
declare so_far (EventItem event) =
    if is_some so_far.setup.skew then Some (record so_far { events = so_far.events ++ event ∷ [] }) else None
declare so_far (DeclarationItem declaration) = set_up_before so_far.events so_far.setup declaration

-- the declarations after one more line, skipped or not
abbrev pub declare_line : Declared → List ℕ → Option Declared
declare_line so_far line =
    if is_skipped line then Some so_far
    else do
      item ← item_of line
      declare so_far item

-- the declarations of the lines before the first that is bad or long, or of all lines if there is none, and the number of the
-- next line
pub record Reading : Type 0 where
  pub so_far : Declared
  pub number : ℕ
  pub stop : Stop

-- the reading after one line: that of the lines that follow it, if the line declares something, otherwise the reading so far
abbrev pub read_on : Option Declared → (Declared → Reading) → Reading → Reading
read_on None later here = here
read_on (Some next) later here = later next

-- the reading from the line with the number n on, which comes after the first `at` of `total` octets
abbrev pub read_lines : ℕ → ℕ → ℕ → Declared → List (List ℕ) → Reading
read_lines total at n so_far [] = record { so_far = so_far; number = n; stop = Whole }
read_lines total at n so_far (line ∷ rest) =
    if is_long total at line then record { so_far = so_far; number = n; stop = Long }
    else read_on (declare_line so_far line) (λ next. read_lines total (at + length line + 1) (n + 1) next rest)
    (record { so_far = so_far; number = n; stop = Bad })

-- the reading of lines that begin an input of `total` octets
abbrev pub reading_at : ℕ → List (List ℕ) → Reading
reading_at total input_lines = read_lines total 0 1 nothing_declared input_lines

-- the reading of an input, up to its first bad or long line
unfoldable pub reading_of : List ℕ → Reading
reading_of input = reading_at (length input) (lines input)
