-- How a candidate is turned away.
use Rattle.std.proofs.Common.{◌≡◌, ◌≤◌, ℕ, nat_le, IsTrue, List, length, Option, Some, Result, Ok, Err, refl, ap, ◌∙◌, subst, inl, inr, arith}
use Rattle.std.proofs.lemmas.Bool.Decides.{nat_tests}
use Rattle.krb_admission.specs.Halves.{Prepared, AdmitsPrepared}
use Rattle.krb_admission.specs.declared.admission.Answer.{Answer}
use Rattle.krb_context.specs.Refusals.{Refuses}
use Rattle.krb_context.specs.declared.context.Kerberos.{Kerberos}
use Rattle.krb_context.specs.declared.server.ServerProperties.{ServerProperties}
use Rattle.krb_entrance.specs.Admits.{Rejects}
use Rattle.krb_entrance.specs.Candidates.{Checks, Passes, Stops, TurnsAway}
use Rattle.krb_entrance.specs.Connections.{Waits, new_connection, drawn_number, keyless}
use Rattle.krb_entrance.specs.declared.keys.Keys.{Keys}
use Rattle.krb_entrance.specs.declared.candidate.Candidate.{Candidate}
use Rattle.krb_entrance.specs.Told.{IsToldAway}
use Rattle.krb_replay.specs.Book.{Book, Follows, StandsFor}
use Rattle.krb_replay.specs.Telling.{AdmitsAsTold}
use Rattle.krb_replay.specs.declared.telling.TellingGate.{TellingGate}
use Rattle.sspi_core.specs.Checks.{told, Answers}
use Rattle.sspi_core.specs.Kinds.{error_at, error_of}
use Rattle.sspi_core.specs.declared.cause.Cause.{Cause}
use Rattle.sspi_core.specs.declared.cause.Cause.TheVariants.{Memory}
use Rattle.sspi_core.specs.declared.draw.Draw.{Draw}
use Rattle.sspi_core.specs.declared.error.Error.{Error}
use Rattle.sspi_core.specs.declared.error.Place.TheVariants.{Elsewhere}
use Rattle.sspi_core.proofs.Chain.{same_err, passed, held}

short_token : (count limit : ℕ) → IsTrue (nat_le count limit) → count ≤ limit
short_token count limit h = grind (arith, nat_tests)

-- a refusal has the cause by which the checks refuse
told_refusal : {A : Type 0} (checks : Result A Cause → Type 0) (error : Error) (answer : Result A Cause) → Err error ≡ told Elsewhere answer → checks answer
    → (cause : Cause) × (error ≡ error_at Elsewhere cause) × checks (Err cause)
told_refusal checks error (Ok x) is holds = absurd cc
told_refusal checks error (Err cause) is holds = (cause, cc, holds)

pub refused_by : {A : Type 0} (checks : Result A Cause → Type 0) (error : Error)
    → ((◌≡◌ {A = Result A Error} (Err error) (Err (error_of Memory)) → ⊥) → (answer : Result A Cause) × (Err error ≡ told Elsewhere answer) × checks answer)
    → Refuses Elsewhere checks error
refused_by {A} checks error step = record {
  so = λ ne. let there = step (λ (e : ◌≡◌ {A = Result A Error} (Err error) (Err (error_of Memory))). ne cc) in told_refusal checks error there.0 there.1 there.2;
}

-- the connection is let go
pub turned_away : (candidate : Candidate) (left : Kerberos) (old new : Book) (error : Error)
    → Refuses Elsewhere (λ (answer : Result Answer Cause). AdmitsPrepared (Follows StandsFor) candidate.judged candidate.connection old answer left new) error
    → Refuses Elsewhere (TurnsAway candidate old new) error
turned_away candidate left old new error refuses = record {
  so = λ ne. let there = refuses.so ne in (there.0, there.1, record { left = left; admits = there.2 });
}

pub told_away : (candidate : Candidate) (left : Kerberos) (gate behind : TellingGate) (error : Error)
    → Refuses Elsewhere (λ (answer : Result Answer Cause). AdmitsPrepared AdmitsAsTold candidate.judged candidate.connection gate answer left behind) error
    → Refuses Elsewhere (IsToldAway candidate gate) error
told_away candidate left gate behind error refuses = record {
  so = λ ne. let there = refuses.so ne in (there.0, there.1, record { left = left; behind = behind; admits = there.2 });
}

-- checks that may run out of memory refuse so
pub refused_as : {A : Type 0} (checks : Result A Cause → Type 0) (cause : Cause) (error : Error) → Answers checks (Err cause) → error ≡ error_of cause → Refuses Elsewhere checks error
refused_as {A} checks cause error answers is = record { so = λ ne. (cause, is, answers.so (λ z. ne (is ∙ ap error_of (same_err {A = A} cause Memory z)))) }

pub passed_as : {A : Type 0} (checks : Result A Cause → Type 0) (value : A) → Answers checks (Ok value) → checks (Ok value)
passed_as checks value answers = answers.so (λ z. absurd cc)

-- a refusal at a connection that waits is the services'
pub stopped : (keys : Keys) (channel : Option (List ℕ)) (token : List ℕ) (draw : Draw) (own : ServerProperties) (connection : Kerberos) (error : Error)
    → Waits own channel draw connection → Refuses Elsewhere (Checks keys connection token draw) error → Refuses Elsewhere (Stops keys channel token draw) error
unfolding Checks
stopped keys channel token draw own connection error waits refuses = record {
  so = λ ne.
      let there = refuses.so ne in
      let C : Kerberos → Type 0 = λ c. Checks keys c token draw (Err there.0) in (
        there.0,
        there.1,
        record {
          waiting = new_connection waits.config (keyless keys.properties) channel (drawn_number draw);
          waits = record { config = waits.config; waits = refl };
          judges = subst C waits.waits there.2;
        },
      );
}

-- what passes at a connection that waits passes at the same with the service's name
pub passes_at : (keys : Keys) (channel : Option (List ℕ)) (token : List ℕ) (draw : Draw) (own : ServerProperties) (connection : Kerberos) (prepared : Prepared)
    → Waits own channel draw connection → Checks keys connection token draw (Ok prepared)
    → Passes keys channel token draw prepared (record connection { server = Some (keyless keys.properties) })
unfolding Checks
passes_at keys channel token draw own connection prepared waits checks =
    let there = passed _ _ _ checks in
    let S : Kerberos → Kerberos = λ c. record c { server = Some (keyless keys.properties) } in
    record {
      waits = record { config = waits.config; waits = ap S waits.waits };
      short = short_token (length token) keys.token_limit (held _ _ _ there.first_held);
      prepares = there.rest_held;
    }

-- ---- both halves

pub stopped_before : (keys : Keys) (channel : Option (List ℕ)) (token : List ℕ) (draw : Draw) (book : Book) (error : Error)
    → Refuses Elsewhere (Stops keys channel token draw) error → Refuses Elsewhere (Rejects keys channel token draw book book) error
stopped_before keys channel token draw book error refuses = record {
  so = λ ne. let there = refuses.so ne in (there.0, there.1, inl (record { cause = there.0; answer_is = refl; stops = there.2; book_stays = refl }));
}

pub stopped_after : (keys : Keys) (channel : Option (List ℕ)) (token : List ℕ) (draw : Draw) (candidate : Candidate) (old new : Book) (error : Error)
    → Passes keys channel token draw candidate.judged candidate.connection → Refuses Elsewhere (TurnsAway candidate old new) error
    → Refuses Elsewhere (Rejects keys channel token draw old new) error
stopped_after keys channel token draw candidate old new error passes refuses = record {
  so = λ ne. let there = refuses.so ne in (there.0, there.1, inr (record { candidate = candidate; passes = passes; turns = there.2 }));
}
