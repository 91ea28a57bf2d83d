-- How a ring judges, from how its chosen keys do.
use Rattle.std.proofs.Common.{◌≡◌, ℕ, ◌+◌, ◌<◌, List, [], ◌∷◌, ◌++◌, length, take, get_or, Option, Result, Ok, Err, refl, sym, ap, ◌∙◌, inl, inr}
use Rattle.std.specs.Prelude.{map}
use Rattle.std.specs.Borrow.{Bor}
use Rattle.std.proofs.lemmas.List.{take_more}
use Rattle.std.proofs.lemmas.List.Elements.{All-nil}
use Rattle.krb_context.specs.Refusals.{Refuses}
use Rattle.krb_entrance.specs.Turns.{IsClosed}
use Rattle.krb_entrance.specs.declared.keys.Keys.{Keys}
use Rattle.krb_keyring.specs.Judging.{single, EndsBy}
use Rattle.krb_keytab.specs.declared.entry.KeytabEntry.{KeytabEntry}
use Rattle.sspi_core.proofs.Chain.{same_err}
use Rattle.sspi_core.specs.Checks.{Answers}
use Rattle.sspi_core.specs.Kinds.{error_of}
use Rattle.sspi_core.specs.declared.cause.Cause.{Cause}
use Rattle.sspi_core.specs.declared.cause.Cause.TheVariants.{Memory}
use Rattle.sspi_core.specs.declared.draw.Draw.{Draw}
use Rattle.sspi_core.specs.declared.error.Error.{Error}
use Rattle.sspi_core.specs.declared.error.Place.TheVariants.{Elsewhere}

-- the error of a cause refuses what the cause does
pub refused_as : {A : Type 0} (checks : Result A Cause → Type 0) (cause : Cause) (error : Error) → Answers checks (Err cause) → error ≡ error_of cause → Refuses Elsewhere checks error
refused_as {A} checks cause error answers is = record { so = λ ne. (cause, is, answers.so (λ z. ne (is ∙ ap error_of (same_err {A = A} cause Memory z)))) }

pub passed_as : {A : Type 0} (checks : Result A Cause → Type 0) (value : A) → Answers checks (Ok value) → checks (Ok value)
passed_as checks value answers = answers.so (λ z. absurd cc)

-- memory may run out whatever keys are chosen
pub out_of_memory : (limit : ℕ) (entries : List KeytabEntry) (channel : Option (List ℕ)) (token : List ℕ) (draw : Draw) (error : Error) → error ≡ error_of Memory
    → EndsBy limit entries channel token draw error
out_of_memory limit [] channel token draw error is = inr is
out_of_memory limit (newest ∷ older) channel token draw error is = inl (record {
  front = [];
  keys = single limit newest;
  behind = map (single limit) older;
  parts = refl;
  closed = All-nil (IsClosed channel token draw);
  refuses = record { so = λ ne. absurd (ne is) };
})

abbrev singles : ℕ → List (Bor KeytabEntry) → List Keys
singles limit entries = map (single limit) (map (λ (e : Bor KeytabEntry). e.now) entries)

with_last : (limit : ℕ) (entries : List (Bor KeytabEntry)) (entry : Bor KeytabEntry) → singles limit (entries ++ entry ∷ []) ≡ singles limit entries ++ single limit entry.now ∷ []
with_last limit [] entry = refl
with_last limit (e ∷ entries) entry = ap (λ (ks : List Keys). single limit e.now ∷ ks) (with_last limit entries entry)

-- one key more
pub one_more : (limit : ℕ) (entries : List (Bor KeytabEntry)) (i : ℕ) (entry : Bor KeytabEntry) (had new : List Keys) (keys : Keys) → i < length entries → entry ≡ get_or entries i entry
    → had ≡ map (single limit) (map (λ (e : Bor KeytabEntry). e.now) (take i entries)) → keys ≡ single limit entry.now → new ≡ had ++ keys ∷ []
    → new ≡ map (single limit) (map (λ (e : Bor KeytabEntry). e.now) (take (i + 1) entries))
one_more limit entries i entry had new keys low is so_far made pushed =
    pushed ∙ ap (λ (h : List Keys). h ++ keys ∷ []) so_far
    ∙ ap (λ (k : Keys). singles limit (take i entries) ++ k ∷ []) (made ∙ ap (λ (e : Bor KeytabEntry). single limit e.now) is)
    ∙ sym (ap (singles limit) (take_more entries i entry low) ∙ with_last limit (take i entries) (get_or entries i entry))
