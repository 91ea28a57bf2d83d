-- Candidates that a store outside was asked about, as machines have that share one.
use Rattle.std.specs.Prelude.{◌≡◌, ℕ, Bool, List, ◌++◌, ◌∷◌, Some, Result, Ok}
use Rattle.krb_admission.specs.Halves.{Prepared, AdmitsPrepared, question}
use Rattle.krb_admission.specs.declared.admission.Answer.{Answer}
use Rattle.krb_context.specs.declared.context.Kerberos.{Kerberos}
use Rattle.krb_der.specs.Moment.{time_octets}
use Rattle.krb_entrance.specs.declared.candidate.Candidate.{Candidate}
use Rattle.krb_replay.specs.declared.record.Record.{Record}
use Rattle.krb_replay.specs.declared.telling.TellingGate.{TellingGate}
use Rattle.krb_replay.specs.Telling.{AdmitsAsTold}
use Rattle.krb_sessions.specs.Principals.{principal_text}
use Rattle.krb_sessions.specs.declared.order.Order.TheVariants.{Any}
use Rattle.krb_sessions.specs.declared.session.Session.{Session}
use Rattle.sspi_core.specs.declared.cause.Cause.{Cause}

-- a record as octets: its time, its client's name, the octet 0, which is in no such name, its microseconds, and its tag
abbrev pub record_octets : Record → List ℕ
record_octets entry = (time_octets entry.ctime ++ principal_text entry.name.name_string entry.realm) ++ 0 ∷ entry.cusec ++ entry.tag

-- two records have one time, one realm and one client's components, and their microseconds and tags together are the same octets
pub record NamesOneRecord (a b : Record) : Type 0 where
  pub time : a.ctime ≡ b.ctime
  pub components : a.name.name_string ≡ b.name.name_string
  pub realm : a.realm ≡ b.realm
  pub rest : a.cusec ++ a.tag ≡ b.cusec ++ b.tag

-- the gate of a store that was asked about the candidate's record, and answered at this moment of its own
abbrev pub told_gate : Prepared → ℕ → ℕ → Bool → TellingGate
told_gate prepared skew moment seen = record { skew = skew; moment = moment; told = question prepared; seen = seen }

-- the store's answer admits the candidate, and no check after it refuses
pub record IsToldIn (candidate : Candidate) (gate : TellingGate) (session : Session) : Type 0 where
  pub answer : Answer
  pub behind : TellingGate
  pub admits : AdmitsPrepared AdmitsAsTold candidate.judged candidate.connection gate (Ok answer) session.connection behind
  pub answered : session.answer ≡ answer.token
  pub client : session.client ≡ Some candidate.client
  pub order : session.order ≡ Any

-- how the candidate is turned away
pub record IsToldAway (candidate : Candidate) (gate : TellingGate) (answer : Result Answer Cause) : Type 0 where
  pub left : Kerberos
  pub behind : TellingGate
  pub admits : AdmitsPrepared AdmitsAsTold candidate.judged candidate.connection gate answer left behind
