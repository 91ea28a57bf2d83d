-- Several keys of a service, tried in turn: after a change of keys, tickets under the older ones stay valid.
use Rattle.std.specs.Prelude.{◌≡◌, ◌⊎◌, ℕ, List, ◌∷◌, ◌++◌, Option, Bool, true, false, Err, All}
use Rattle.krb_context.specs.Refusals.{Refuses}
use Rattle.krb_entrance.specs.declared.candidate.Candidate.{Candidate}
use Rattle.krb_entrance.specs.declared.keys.Keys.{Keys}
use Rattle.krb_entrance.specs.Candidates.{Passes, Stops}
use Rattle.sspi_core.specs.declared.cause.Cause.{Cause}
use Rattle.sspi_core.specs.declared.cause.Cause.TheVariants.{NoServiceKey, KeyLength, Altered}
use Rattle.sspi_core.specs.declared.draw.Draw.{Draw}
use Rattle.sspi_core.specs.declared.error.Error.{Error}
use Rattle.sspi_core.specs.declared.error.Place.TheVariants.{Elsewhere}

-- another key may be the right one: there is none of this name, it has another length, or the encrypted data are not encrypted under it
abbrev pub leads_on : Cause → Bool
leads_on NoServiceKey = true
leads_on KeyLength = true
leads_on Altered = true
leads_on _ = false

-- these keys do not open the token's ticket
pub record IsClosed (channel : Option (List ℕ)) (token : List ℕ) (draw : Draw) (keys : Keys) : Type 0 where
  pub cause : Cause
  pub another : leads_on cause ≡ true
  pub stops : Stops keys channel token draw (Err cause)

-- the first of these that is not closed to the token lets it come to the book
pub record Opens (all : List Keys) (channel : Option (List ℕ)) (token : List ℕ) (draw : Draw) (candidate : Candidate) : Type 0 where
  pub front : List Keys
  pub keys : Keys
  pub behind : List Keys
  pub parts : all ≡ front ++ keys ∷ behind
  pub closed : All (IsClosed channel token draw) front
  pub passes : Passes keys channel token draw candidate.judged candidate.connection

-- the first of these that is not closed to the token refuses it
pub record Ends (all : List Keys) (channel : Option (List ℕ)) (token : List ℕ) (draw : Draw) (error : Error) : Type 0 where
  pub front : List Keys
  pub keys : Keys
  pub behind : List Keys
  pub parts : all ≡ front ++ keys ∷ behind
  pub closed : All (IsClosed channel token draw) front
  pub refuses : Refuses Elsewhere (Stops keys channel token draw) error

-- all of these are closed to the token, and the refusal is the one that was kept
pub record AllClosed (all : List Keys) (channel : Option (List ℕ)) (token : List ℕ) (draw : Draw) (kept error : Error) : Type 0 where
  pub closed : All (IsClosed channel token draw) all
  pub is_kept : error ≡ kept

-- how these refuse, after a refusal
abbrev pub EndsBehind : List Keys → Option (List ℕ) → List ℕ → Draw → Error → Error → Type 0
EndsBehind older channel token draw kept error = Ends older channel token draw error ⊎ AllClosed older channel token draw kept error

-- all are closed to the token, and the newest refuses it so
pub record NoneOpens (newest : Keys) (older : List Keys) (channel : Option (List ℕ)) (token : List ℕ) (draw : Draw) (error : Error) : Type 0 where
  pub refuses : Refuses Elsewhere (Stops newest channel token draw) error
  pub closed : All (IsClosed channel token draw) (newest ∷ older)

abbrev pub EndsInTurn : Keys → List Keys → Option (List ℕ) → List ℕ → Draw → Error → Type 0
EndsInTurn newest older channel token draw error = Ends (newest ∷ older) channel token draw error ⊎ NoneOpens newest older channel token draw error
