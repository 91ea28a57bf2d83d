-- The keys that a ticket is decrypted with. A ticket names its service, its realm, the encryption type and the version of its key in
-- the clear (RFC 4120, sections 5.2.9 and 5.3).
use Rattle.std.specs.Prelude.{ℕ, Bool, false, ◌&&◌, List, [], fold, insert, Option, Some, None, nat_lt, pos, if◌then◌else◌}
use Rattle.std.specs.List.{list_any, position_or_len}
use Rattle.std.specs.Ordering.{int_eq}
use Rattle.krb_der.specs.Integer.{integer_value}
use Rattle.krb_keyring.specs.Held.{held}
use Rattle.krb_keyring.specs.declared.keyring.Keyring.{Keyring}
use Rattle.krb_keytab.specs.Finding.{same_octets}
use Rattle.krb_keytab.specs.declared.entry.KeytabEntry.{KeytabEntry}
use Rattle.krb_messages.specs.declared.ticket.Ticket.{Ticket}

-- the INTEGER is this number, in any spelling
abbrev pub is_number : List ℕ → ℕ → Bool
is_number octets number = int_eq (integer_value octets) (pos number)

-- the entry is of the ticket's realm and of its encryption type
abbrev pub fits : Ticket → KeytabEntry → Bool
fits ticket entry = same_octets entry.realm ticket.realm && is_number ticket.enc_part.etype entry.key_type

abbrev pub is_version : Option (List ℕ) → ℕ → Bool
is_version None version = false
is_version (Some kvno) version = is_number kvno version

-- it is of the version that the ticket names, too: all 32 bits are compared
abbrev pub fits_exactly : Ticket → KeytabEntry → Bool
fits_exactly ticket entry = fits ticket entry && is_version ticket.enc_part.kvno entry.version

-- the entries that fit exactly if there is one, otherwise all that fit
abbrev pub is_chosen : Ticket → Bool → KeytabEntry → Bool
is_chosen ticket exactly entry = if exactly then fits_exactly ticket entry else fits ticket entry

-- entries that are newest first, with one more: before the first of a lower version
abbrev pub put : KeytabEntry → List KeytabEntry → List KeytabEntry
put entry entries = insert entries (position_or_len (λ other. nat_lt other.version entry.version) entries) entry

-- the entries with one more, if it passes the test
abbrev pub newest_with : (KeytabEntry → Bool) → List KeytabEntry → KeytabEntry → List KeytabEntry
newest_with passes newest entry = if passes entry then put entry newest else newest

-- the entries that pass the test, newest first: by the version, and of equals in their order
unfoldable pub newest_first : (KeytabEntry → Bool) → List KeytabEntry → List KeytabEntry
newest_first passes entries = fold (λ newest entry. newest_with passes newest entry) [] entries

-- the entries, among these, that a ticket is decrypted with
abbrev pub chosen_of : Ticket → List KeytabEntry → List KeytabEntry
chosen_of ticket entries = newest_first (is_chosen ticket (list_any (fits_exactly ticket) entries)) entries

-- The keys that a ticket is decrypted with, in turn: those of the service's components (the type of its name is not compared), its
-- realm and its encryption type. Of these the ones of the version that the ticket names, if there is one, otherwise all, newest first.
abbrev pub chosen : Keyring → Ticket → List KeytabEntry
chosen ring ticket = chosen_of ticket (held ring ticket.sname.name_string)
