-- The item that a line declares: the table of lines.
use Rattle.std.specs.Prelude.{ℕ, ◌-◌, ◌^◌, if◌then◌else◌, List, [], ◌∷◌, codes, Option, Some, None, option_map}
use Rattle.std.specs.Str.{bytes_eq}
use Rattle.krb_text.specs.Decimals.{decimal_up_to, u32_of}
use Rattle.krb_text.specs.Lines.{fields}
use Rattle.krb_der.specs.Reading.{◌>>=◌}
use Rattle.krb_script.specs.Inputs.{input_of}
use Rattle.krb_script.specs.Fields.{flags_of, random_of}
use Rattle.krb_script.specs.Declarations.{declaration_of}
use Rattle.krb_script.specs.declared.item.Event.{Event}
use Rattle.krb_script.specs.declared.item.Item.{Item}
use Rattle.krb_script.specs.declared.item.Item.TheVariants.{Declaration as DeclarationItem, Event as EventItem}

-- event <id> <moment> <128 hex digits> <flags?> <input>
abbrev pub event_of : List (List ℕ) → Option Event
event_of (id_text ∷ moment_text ∷ random_text ∷ flags_text ∷ input_texts) = do
  id ← u32_of id_text
  moment ← decimal_up_to (2 ^ 64 - 1) moment_text
  random ← random_of random_text
  flags ← flags_of flags_text
  input ← input_of input_texts
  Some (record { connection = id; moment = moment; random = random; flags = flags; input = input })
event_of _ = None

-- the item that a line declares, if the line is in the table
abbrev pub item_of_fields : List (List ℕ) → Option Item
item_of_fields [] = None
item_of_fields (word ∷ rest) =
    if bytes_eq word (codes "event") then option_map EventItem (event_of rest)
    else option_map DeclarationItem (declaration_of word rest)

abbrev pub item_of : List ℕ → Option Item
item_of line = item_of_fields (fields line)
