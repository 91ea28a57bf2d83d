-- Acceptors of all services of a realm that have a key in a keytab.
use Rattle.std.specs.Prelude.{◌≡◌, ◌⊎◌, ◌-◌, ◌^◌, ℕ, List, [], length, min, Option, Some, None}
use Rattle.krb_context.specs.ServiceKeys.{new_properties}
use Rattle.krb_entrance.specs.declared.service.Service.{Service}
use Rattle.krb_entrance.specs.Services.{token_limit}
use Rattle.krb_keytab.specs.declared.entry.KeytabEntry.{KeytabEntry}
use Rattle.krb_keytab.specs.declared.error.KeytabError.{KeytabError}
use Rattle.krb_keytab.specs.declared.error.KeytabError.TheVariants.{Version, Entry, OutOfMemory}
use Rattle.krb_keytab.specs.Format.{Spells, IsFault}
use Rattle.krb_keytab.specs.Installing.{keys_of, with_keys}
use Rattle.krb_replay.specs.Book.{StandsFor}
use Rattle.krb_replay.specs.History.{no_history}
use Rattle.sspi_core.specs.declared.cause.Cause.TheVariants.{Memory, Shape, NoServiceKey}
use Rattle.sspi_core.specs.declared.error.Error.{Error}
use Rattle.sspi_core.specs.Kinds.{error_of}

-- an acceptor with the keys of this realm, whose book was asked nothing
pub record IsOfKeytab (realm file : List ℕ) (skew : ℕ) (service : Service) (count : ℕ) : Type 0 where
  pub entries : List KeytabEntry
  pub spelled : Spells entries file
  pub properties : service.keys.properties ≡ with_keys (new_properties [] None skew None) (keys_of realm entries)
  pub limit : service.keys.token_limit ≡ token_limit
  pub skew_is : service.book.skew ≡ skew
  pub book : StandsFor service.book no_history
  pub counted : count ≡ min (length (keys_of realm entries)) (2 ^ 32 - 1)

-- the acceptor that is made, where the handle was empty
pub record MakesOfKeytab (realm file : List ℕ) (skew : ℕ) (old : Option Service) (count : ℕ) (new : Option Service) : Type 0 where
  pub service : Service
  pub was_empty : old ≡ None
  pub now : new ≡ Some service
  pub is_of_keytab : IsOfKeytab realm file skew service count

-- a fault of a keytab, as a refusal
abbrev pub fault_error : KeytabError → Error
fault_error Version = error_of Shape
fault_error (Entry place) = error_of Shape
fault_error OutOfMemory = error_of Memory

-- the file is no keytab
pub record IsNoKeytab (file : List ℕ) (error : Error) : Type 0 where
  pub fault : KeytabError
  pub is_fault : IsFault fault file
  pub error_is : error ≡ fault_error fault

-- no service of the realm has a key in it
pub record HasNoKey (realm file : List ℕ) (error : Error) : Type 0 where
  pub entries : List KeytabEntry
  pub spelled : Spells entries file
  pub none : min (length (keys_of realm entries)) (2 ^ 32 - 1) ≡ 0
  pub error_is : error ≡ error_of NoServiceKey

-- the file is no keytab, or has no key of the realm's services, or memory ran out
abbrev pub RefusesKeytab : List ℕ → List ℕ → Error → Type 0
RefusesKeytab realm file error = IsNoKeytab file error ⊎ (HasNoKey realm file error ⊎ (error ≡ error_of Memory))
