-- The results of reading, without their addresses in memory.
use Rattle.std.specs.Prelude.{◌≡◌, ℕ, List, ◌++◌, Option, Some, None, Result, Ok, Err}
use Rattle.std.specs.Borrow.{Bor}
use Rattle.std.specs.Option.{option_to_list}
use Rattle.krb_keytab.specs.declared.error.KeytabError.{KeytabError}
use Rattle.krb_keytab.specs.declared.error.KeytabError.TheVariants as errors
use Rattle.krb_keytab.specs.declared.entry.KeytabEntry.{KeytabEntry}
use Rattle.krb_keytab.specs.declared.find.Wanted.{Wanted as ReadWanted}
use Rattle.krb_keytab.specs.Finding.{Wanted}
use Rattle.krb_keytab.specs.declared.read.Tail.{Tail as ReadTail}
use Rattle.krb_keytab.specs.declared.read.Next.{Next as ReadNext}
use Rattle.krb_keytab.specs.declared.read.Next.TheVariants as nexts
use Rattle.krb_keytab.specs.Reading.{Tail, Next, End, Item, next_of}

abbrev pub tail_view : ReadTail → Tail
tail_view tail = record { name_type = tail.name_type; time = tail.time; version = tail.version; key_type = tail.key_type; key = tail.key.now }

abbrev pub next_view : ReadNext → Next
next_view nexts.End = End
next_view (nexts.Item entry rest) = Item entry rest.now

-- The result of taking an item from the front of octets, and the entries before and after.
abbrev pub TakesItem : List ℕ → ℕ → List KeytabEntry → Result (Option (Bor (List ℕ))) KeytabError → List KeytabEntry → Type 0
TakesItem octets place old (Ok None) new = (next_of octets ≡ Some End) × (new ≡ old)
TakesItem octets place old (Ok (Some rest)) new = (entry : Option KeytabEntry) × (next_of octets ≡ Some (Item entry rest.now))
    × (new ≡ old ++ option_to_list entry)
TakesItem octets place old (Err errors.Version) new = ⊥
TakesItem octets place old (Err (errors.Entry at)) new = (at ≡ place) × (next_of octets ≡ None)
TakesItem octets place old (Err errors.OutOfMemory) new = Unit {0}

abbrev pub wanted_view : ReadWanted → Wanted
wanted_view wanted = record {
  realm = wanted.realm.now;
  components = wanted.components.now;
  key_type = wanted.key_type;
  version = wanted.version;
  size = wanted.size;
}
