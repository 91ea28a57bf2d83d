-- The line on standard error if the program ends without its output, and the exit status.
use Rattle.std.specs.Prelude.{◌≡◌, ℕ, true, false, List, [], ◌++◌, length, codes}
use Rattle.std.specs.Borrow.{Bor}
use Rattle.std.specs.Fmt.{decimal}
use Rattle.std.specs.List.{list_any}
use Rattle.krb_keytab.specs.declared.entry.KeytabEntry.{KeytabEntry}
use Rattle.krb_keytab.specs.declared.error.KeytabError.{KeytabError}
use Rattle.krb_keytab.specs.declared.error.KeytabError.TheVariants as errors
use Rattle.krb_keytab.specs.Finding.{same_octets}
use Rattle.krb_keytab.specs.Installing.{keys_of}
use Rattle.krb_keys.specs.declared.failure.Failure.{Failure}
use Rattle.krb_keys.specs.declared.failure.Failure.TheVariants as failures
use Rattle.krb_keys.specs.Names.{part_text}

-- in fixed words
abbrev pub reason : Failure → List ℕ
reason failures.Words = codes "these words are not a command: the commands are list, lines <realm> <acceptor>, --version (-V) and --help (-h)"
reason failures.NoVersion = codes "not a keytab: the octets 05 02 are not at octet 0"
reason (failures.NoItem place) = codes "not a keytab: neither an entry nor a hole nor the end is at octet "
reason (failures.NoEntry realm) = codes "nothing found: no entry of the keytab is of the realm "
reason (failures.NoKey realm) = codes "nothing found: no key of type 18 with 32 octets or of type 17 with 16 octets is of the realm "
reason failures.Read = codes "standard input could not be read"
reason failures.Write = codes "standard output could not be written"
reason failures.OutOfMemory = codes "memory ran out"
reason failures.TooLong = codes "the input has more than 1073741824 octets"

-- after the reason: the place, counted from 0, or the realm
abbrev pub detail : Failure → List ℕ
detail (failures.NoItem place) = decimal place
detail (failures.NoEntry realm) = part_text realm.now
detail (failures.NoKey realm) = part_text realm.now
detail _ = []

-- one line
abbrev pub failure_line : Failure → List ℕ
failure_line failure = codes "krb_keys: " ++ (reason failure ++ (detail failure ++ codes "\n"))

abbrev pub failure_status : Failure → ℕ
failure_status (failures.NoEntry realm) = 1
failure_status (failures.NoKey realm) = 1
failure_status failures.Words = 2
failure_status failures.NoVersion = 3
failure_status (failures.NoItem place) = 3
failure_status failures.Read = 4
failure_status failures.Write = 5
failure_status failures.OutOfMemory = 6
failure_status failures.TooLong = 7

-- why an input is no keytab
abbrev pub failure_of : KeytabError → Failure
failure_of errors.Version = failures.NoVersion
failure_of (errors.Entry place) = failures.NoItem place
failure_of errors.OutOfMemory = failures.OutOfMemory

-- why a realm has no key lines: it is not in the file, or has no key there that an acceptor can use
abbrev pub IsWhyNone : Bor (List ℕ) → List KeytabEntry → Failure → Type 0
IsWhyNone realm entries (failures.NoEntry named) = (named ≡ realm) × (list_any (λ entry. same_octets entry.realm realm.now) entries ≡ false)
IsWhyNone realm entries (failures.NoKey named) = (named ≡ realm) × (list_any (λ entry. same_octets entry.realm realm.now) entries ≡ true) × (length (keys_of realm.now entries) ≡ 0)
IsWhyNone realm entries failures.OutOfMemory = Unit {0}
IsWhyNone realm entries _ = ⊥
