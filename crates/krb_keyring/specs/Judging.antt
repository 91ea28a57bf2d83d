-- How a keyring judges a token.
use Rattle.std.specs.Prelude.{◌≡◌, ◌⊎◌, ℕ, nat_le, false, List, [], ◌∷◌, map, length, Option, Some, None, Result, Ok}
use Rattle.krb_admission.specs.Tokens.{ReceivesApReq}
use Rattle.krb_context.specs.Refusals.{Refuses}
use Rattle.krb_context.specs.ServiceKeys.{new_properties}
use Rattle.krb_entrance.specs.Turns.{Opens, EndsInTurn}
use Rattle.krb_entrance.specs.declared.candidate.Candidate.{Candidate}
use Rattle.krb_entrance.specs.declared.keys.Keys.{Keys}
use Rattle.krb_keyring.specs.Choice.{chosen}
use Rattle.krb_keyring.specs.declared.keyring.Keyring.{Keyring}
use Rattle.krb_keytab.specs.declared.entry.KeytabEntry.{KeytabEntry}
use Rattle.krb_messages.specs.declared.ap_req.ApReq.{ApReq}
use Rattle.sspi_core.specs.Checks.{Holds, ◌>>◌}
use Rattle.sspi_core.specs.Kinds.{error_of}
use Rattle.sspi_core.specs.declared.cause.Cause.{Cause}
use Rattle.sspi_core.specs.declared.cause.Cause.TheVariants.{Memory, Shape, NoServiceKey}
use Rattle.sspi_core.specs.declared.draw.Draw.{Draw}
use Rattle.sspi_core.specs.declared.error.Error.{Error}
use Rattle.sspi_core.specs.declared.error.Place.TheVariants.{Elsewhere}

-- a service with the name and the key of an entry alone
abbrev pub single : ℕ → KeytabEntry → Keys
single token_limit entry = record { properties = new_properties entry.components None 0 (Some entry.key); token_limit = token_limit }

-- The token is read before any key is looked at: one past the limit is none.
unfoldable pub Reads : ℕ → List ℕ → Result ApReq Cause → Type 0
Reads limit token = do
  Holds Shape (nat_le (length token) limit)
  ReceivesApReq false token

-- the first of the keys that its ticket chooses and that is not closed to the token lets it come to the book
pub record OpensByRing (ring : Keyring) (channel : Option (List ℕ)) (token : List ℕ) (draw : Draw) (candidate : Candidate) : Type 0 where
  pub message : ApReq
  pub reads : Reads ring.token_limit token (Ok message)
  pub opens : Opens (map (single ring.token_limit) (chosen ring message.ticket)) channel token draw candidate

-- no key is chosen, or memory ran out
abbrev pub HasNoKey : Error → Type 0
HasNoKey error = (error ≡ error_of NoServiceKey) ⊎ (error ≡ error_of Memory)

-- how chosen keys refuse: as keys that are tried in turn, where there is one
abbrev pub EndsBy : ℕ → List KeytabEntry → Option (List ℕ) → List ℕ → Draw → Error → Type 0
EndsBy limit [] channel token draw error = HasNoKey error
EndsBy limit (newest ∷ older) channel token draw error = EndsInTurn (single limit newest) (map (single limit) older) channel token draw error

-- the keys that its ticket chooses refuse it so
pub record EndsByRing (ring : Keyring) (channel : Option (List ℕ)) (token : List ℕ) (draw : Draw) (error : Error) : Type 0 where
  pub message : ApReq
  pub reads : Reads ring.token_limit token (Ok message)
  pub ends : EndsBy ring.token_limit (chosen ring message.ticket) channel token draw error

-- the token cannot be read, or the keys that its ticket chooses refuse it
abbrev pub RefusesByRing : Keyring → Option (List ℕ) → List ℕ → Draw → Error → Type 0
RefusesByRing ring channel token draw error = Refuses Elsewhere (Reads ring.token_limit token) error ⊎ EndsByRing ring channel token draw error
