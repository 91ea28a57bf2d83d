-- The two halves at a connection without keys, and the acceptor's one call at the same connection with them.
use Rattle.std.proofs.Common.{ℕ, false, List, Option, Result, Ok, Err, refl, ap, subst}
use Rattle.krb_admission.specs.Accepts.{MakesAnswer, refusal}
use Rattle.krb_admission.specs.Admission.{settled}
use Rattle.krb_admission.specs.Halves.{Prepared, Prepares, AdmitsPrepared, outcome_behind, with_keys}
use Rattle.krb_admission.specs.declared.admission.Admission.{Admission}
use Rattle.krb_admission.specs.declared.admission.Answer.{Answer}
use Rattle.krb_conf.specs.declared.config.KerberosConfig.{KerberosConfig}
use Rattle.krb_context.specs.declared.context.Kerberos.{Kerberos}
use Rattle.krb_context.specs.declared.server.ServerProperties.{ServerProperties}
use Rattle.krb_replay.specs.Book.{Book, Follows, StandsFor}
use Rattle.krb_server.specs.Whole.{answered_as}
use Rattle.krb_server.proofs.HalvesLemmas.{halves_whole, no_other_token}
use Rattle.krb_entrance.specs.Admits.{no_env, answer_in, Judges}
use Rattle.krb_entrance.specs.Candidates.{Passes}
use Rattle.krb_entrance.specs.Connections.{new_connection, drawn_number, keyless, lent}
use Rattle.krb_entrance.specs.declared.keys.Keys.{Keys}
use Rattle.sspi_core.specs.declared.cause.Cause.{Cause}
use Rattle.sspi_core.specs.declared.draw.Draw.{Draw}

module _ (properties : ServerProperties) (config : KerberosConfig) (channel : Option (List ℕ)) (number : ℕ) where
  -- what an admission brings to the connection without keys, it brings to the same with keys
  made_lent : (outcome : Result Admission Cause) (answer : Result Answer Cause) (left : Kerberos)
      → MakesAnswer (new_connection config (keyless properties) channel number) outcome answer left
      → MakesAnswer (new_connection config properties channel number) outcome answer (lent properties left)
  unfolding settled
  made_lent (Ok admission) answer left made = (made.0, ap (lent properties) made.1)
  made_lent (Err cause) answer left made = (made.0, ap (lent properties) made.1)

  admits_lent : (prepared : Prepared) (left : Kerberos) (old new : Book) (answer : Result Answer Cause)
      → AdmitsPrepared (Follows StandsFor) prepared (new_connection config (keyless properties) channel number) old answer left new
      → AdmitsPrepared (Follows StandsFor) prepared (new_connection config properties channel number) old answer (lent properties left) new
  admits_lent prepared left old new answer admits = record {
    verdict = admits.verdict;
    gate = admits.gate;
    made = made_lent (outcome_behind (refusal admits.verdict) prepared.outcome) answer left admits.made;
  }

pub as_one : (keys : Keys) (channel : Option (List ℕ)) (token : List ℕ) (draw : Draw) (prepared : Prepared) (connection left : Kerberos) (old new : Book)
    (answer : Result Answer Cause) → Passes keys channel token draw prepared connection → AdmitsPrepared (Follows StandsFor) prepared connection old answer left new
    → Judges keys.properties channel old token draw (answer_in (answered_as answer)) (lent keys.properties left) new
as_one keys channel token draw prepared connection left old new answer passes admits =
    let config = passes.waits.config in
    let number = drawn_number draw in
    let whole = new_connection config keys.properties channel number in
    let P : Kerberos → Type 0 = λ c. Prepares (with_keys keys.properties c) false token draw prepared in
    let prepares : Prepares whole false token draw prepared = subst P passes.waits.waits passes.prepares in
    let A : Kerberos → Type 0 = λ c. AdmitsPrepared (Follows StandsFor) prepared c old answer left new in
    let next = admits_lent keys.properties config channel number prepared left old new answer (subst A passes.waits.waits admits) in
    let none = no_other_token whole false token draw prepared prepares in
    record {
      waiting = whole;
      waits = record { config = config; waits = refl };
      accepted = answered_as answer;
      accepts = halves_whole (Follows StandsFor) whole false token no_env draw old (answered_as answer) (lent keys.properties left) new none.0 none.1 (record {
        judged = answer;
        halves = record { half = Ok prepared; judges = prepares; next = next };
        answer_is = refl;
      });
      answer_is = refl;
    }
