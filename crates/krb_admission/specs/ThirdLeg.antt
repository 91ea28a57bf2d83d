-- The third leg of DCE style: the initiator's AP-REP in answer to the acceptor's (MS-KILE, section 3.4.5.1).
use Rattle.std.specs.Prelude.{◌≡◌, ℕ, ◌==◌, ◌^◌, ◌&&◌, ◌||◌, nat_le, Bool, false, List, [], length, Result, Ok, Err}
use Rattle.std.specs.Cmp.Lexicographic.{pointwise}
use Rattle.krb_messages.specs.Layouts.{ap_rep_layout}
use Rattle.krb_messages.specs.declared.ap_rep.ApRep.{ApRep}
use Rattle.krb_context.specs.Contexts.{next_number}
use Rattle.krb_context.specs.Rules.{has_rule, third_leg_by_value}
use Rattle.krb_context.specs.declared.rules.Rules.{Rules}
use Rattle.krb_context.specs.Params.{suite_of}
use Rattle.krb_context.specs.declared.context.Kerberos.{Kerberos}
use Rattle.krb_context.specs.declared.state.KerberosState.TheVariants.{Final}
use Rattle.krb_replies.specs.Unseals.{IsRead}
use Rattle.krb_replies.specs.Answered.{TellsNumber}
use Rattle.krb_replies.specs.Fresh.{has_value}
use Rattle.krb_admission.specs.Admission.{next_number_octets}
use Rattle.krb_admission.specs.declared.admission.Answer.{Answer}
use Rattle.sspi_core.specs.declared.results.SecurityStatus.TheVariants.{Ok as Complete}
use Rattle.sspi_core.specs.declared.cause.Cause.{Cause}
use Rattle.sspi_core.specs.declared.cause.Cause.TheVariants.{Sequence, Shape, Reply, Number}
use Rattle.sspi_core.specs.Checks.{Finds, Holds, Takes, ◌>>=◌, ◌>>◌}

-- the AP-REP that the token is, bare, of at most 2^24 octets
unfoldable pub ReadsApRep : List ℕ → Result ApRep Cause → Type 0
ReadsApRep token = do
  Holds Shape (nat_le (length token) 16777216)
  Finds Shape (IsRead ap_rep_layout token)

-- the number in it: what has it is sealed under the session key in the context's suite, with usage 12 (RFC 4120, section
-- 7.5.1), and nothing is sealed under a key that is not there
unfoldable pub TellsLast : Kerberos → List ℕ → Result (List ℕ) Cause → Type 0
TellsLast server token = do
  message ← ReadsApRep token
  key ← Takes Reply server.encryption_params.session_key
  TellsNumber (suite_of server.encryption_params) key message

-- with the rule `third_leg_by_value`, a number is compared by its value, in any encoding (RFC 4120, section 5.5.2)
abbrev pub is_spelling : Rules → ℕ → List ℕ → Bool
is_spelling rules awaited number = has_rule rules third_leg_by_value && has_value awaited number

-- a number repeats that of the acceptor's AP-REP by its octets, or in another encoding
abbrev pub repeats : Rules → ℕ → List ℕ → Bool
repeats rules own number = pointwise ◌==◌ number (next_number_octets own) || is_spelling rules (next_number own) number

-- the third leg repeats the sequence number of the acceptor's AP-REP, the one after the acceptor's own
unfoldable pub IsLastWord : Kerberos → List ℕ → Result (Unit {0}) Cause → Type 0
IsLastWord server token = do
  properties ← Takes Sequence server.server
  number ← TellsLast server token
  Holds Number (repeats server.rules server.seq_number number)

-- the context is established, and its sealed messages have an extra count (EC) of 16
abbrev pub concluded : Kerberos → Kerberos
concluded server = record server { state = Final; encryption_params = record server.encryption_params { ec = 16 } }

-- the answer to the third leg: no token, and nobody is admitted anew
abbrev pub last_answer : Answer
last_answer = record { status = Complete; token = []; admits = false }

-- the caller's answer, and the context afterwards: a refusal leaves it unchanged
abbrev pub Closes : Kerberos → Result (Unit {0}) Cause → Result Answer Cause → Kerberos → Type 0
Closes server (Ok _) answer server' = (answer ≡ Ok last_answer) × (server' ≡ concluded server)
Closes server (Err cause) answer server' = (answer ≡ Err cause) × (server' ≡ server)

-- a token when the third leg is awaited
pub record Concludes (server : Kerberos) (token : List ℕ) (answer : Result Answer Cause) (server' : Kerberos) : Type 0 where
  pub outcome : Result (Unit {0}) Cause
  pub judged : IsLastWord server token outcome
  pub closes : Closes server outcome answer server'
