-- The encryption type and the salt of a client's key, as a KDC names them (RFC 4120, sections 3.1.3, 5.2.7.5 and 5.9.1).
use Rattle.std.specs.Prelude.{◌≡◌, ℕ, List, [], ◌∷◌, Option, Some, None, Result, Ok, Err, unwrap_or}
use Rattle.krb_der.specs.Layout.{items_layout}
use Rattle.krb_crypto.specs.Suite.{suite_number}
use Rattle.krb_crypto.specs.declared.suite.CipherSuite.{CipherSuite}
use Rattle.krb_exchange.specs.declared.pa_data.PaData.{PaData}
use Rattle.krb_exchange.specs.declared.pa_data.EtypeInfo2Entry.{EtypeInfo2Entry}
use Rattle.krb_exchange.specs.declared.krb_error.KrbError.{KrbError}
use Rattle.krb_exchange.specs.declared.kdc_rep.AsRep.{AsRep}
use Rattle.krb_exchange.specs.Layouts.{pa_data_layout}
use Rattle.sspi_core.specs.declared.cause.Cause.{Cause}
use Rattle.sspi_core.specs.declared.cause.Cause.TheVariants.{Shape, EtypeEntry, Salt, Etype}
use Rattle.sspi_core.specs.Checks.{Finds, Takes, Gives, ◌>>=◌}
use Rattle.krb_replies.specs.Told.{Hands}
use Rattle.krb_replies.specs.Unseals.{IsRead, suite_of_integer}
use Rattle.krb_replies.specs.Hints.{etype_info2, IsInfo2}

-- the elements that an error hints at, none where it says nothing
abbrev pub IsHints : Option (List ℕ) → List PaData → Type 0
IsHints None hints = hints ≡ []
IsHints (Some octets) hints = IsRead (items_layout pa_data_layout) octets hints

-- the salt of the first entry
abbrev pub first_salt : Option (List EtypeInfo2Entry) → Option (List ℕ)
first_salt None = None
first_salt (Some []) = None
first_salt (Some (entry ∷ entries)) = entry.salt

-- the salt that an error names, if it names one
unfoldable pub NamesSalt : KrbError → Result (Option (List ℕ)) Cause → Type 0
NamesSalt error = do
  hints ← Finds Shape (IsHints error.e_data)
  entries ← Finds Shape (IsInfo2 (etype_info2 hints))
  Gives (first_salt entries)

-- the suite of the first entry, where it is known
abbrev pub first_suite : Option (List EtypeInfo2Entry) → Option CipherSuite
first_suite None = None
first_suite (Some []) = None
first_suite (Some (entry ∷ entries)) = suite_of_integer entry.etype

-- the suite that an error names, if it names one
unfoldable pub NamesSuite : KrbError → Result (Option CipherSuite) Cause → Type 0
NamesSuite error = do
  hints ← Finds Shape (IsHints error.e_data)
  entries ← Finds Shape (IsInfo2 (etype_info2 hints))
  Gives (first_suite entries)

-- an entry's type and salt
abbrev pub entry_hint : List ℕ → Option (List ℕ) → Result (List ℕ × List ℕ) Cause
entry_hint etype None = Err Salt
entry_hint etype (Some salt) = Ok (etype, salt)

-- the first entry's; without an ETYPE-INFO2 the type of the sealed part, and the salt that was used
abbrev pub first_hint : List ℕ → List ℕ → Option (List EtypeInfo2Entry) → Result (List ℕ × List ℕ) Cause
first_hint etype used None = Ok (etype, used)
first_hint etype used (Some []) = Err EtypeEntry
first_hint etype used (Some (entry ∷ entries)) = entry_hint entry.etype entry.salt

-- the number of the suite and the salt of the key that an AS-REP is sealed under
unfoldable pub TellsEtype : List ℕ → AsRep → Result (ℕ × List ℕ) Cause → Type 0
TellsEtype used as_rep = do
  entries ← Finds Shape (IsInfo2 (etype_info2 (unwrap_or as_rep.0.padata [])))
  hint ← Hands (first_hint as_rep.0.enc_part.etype used entries)
  suite ← Takes Etype (suite_of_integer hint.0)
  Gives (suite_number suite, hint.1)
