-- The halves of an admission at a connection that waited for its client's token.
use Rattle.std.specs.Prelude.{◌≡◌, ℕ, ◌≤◌, nat_le, List, Option, Some, false, length, Result, Ok}
use Rattle.krb_admission.specs.Allowed.{gss_flags, hash_told, delegation_told, first_number}
use Rattle.krb_admission.specs.Halves.{Prepared, Prepares, JudgesApReq, AdmitsPrepared, with_keys}
use Rattle.krb_admission.specs.Requests.{tag_of}
use Rattle.krb_admission.specs.declared.admission.Answer.{Answer}
use Rattle.krb_admission.specs.declared.request.Request.{Request}
use Rattle.krb_context.specs.declared.context.Kerberos.{Kerberos}
use Rattle.krb_entrance.specs.declared.candidate.Candidate.{Candidate}
use Rattle.krb_entrance.specs.declared.keys.Keys.{Keys}
use Rattle.krb_entrance.specs.Connections.{Waits, keyless}
use Rattle.krb_replay.specs.Book.{Book, Follows, StandsFor}
use Rattle.krb_sessions.specs.declared.client.Client.{Client}
use Rattle.krb_sessions.specs.declared.order.Order.TheVariants.{Any}
use Rattle.krb_sessions.specs.declared.session.Session.{Session}
use Rattle.sspi_core.specs.Checks.{Holds, ◌>>◌}
use Rattle.sspi_core.specs.declared.cause.Cause.{Cause}
use Rattle.sspi_core.specs.declared.cause.Cause.TheVariants.{Shape}
use Rattle.sspi_core.specs.declared.draw.Draw.{Draw}

-- the token passes every check before the book, with these keys, at a connection that waited for it and has none of them
pub record Passes (keys : Keys) (channel : Option (List ℕ)) (token : List ℕ) (draw : Draw) (prepared : Prepared) (connection : Kerberos) : Type 0 where
  pub waits : Waits (keyless keys.properties) channel draw connection
  pub short : length token ≤ keys.token_limit
  pub prepares : Prepares (with_keys keys.properties connection) false token draw prepared

-- the checks before the book, with these keys: a token past the limit is none
unfoldable pub Checks : Keys → Kerberos → List ℕ → Draw → Result Prepared Cause → Type 0
Checks keys waiting token draw = do
  Holds Shape (nat_le (length token) keys.token_limit)
  JudgesApReq (with_keys keys.properties waiting) false token draw

-- what a check before the book refuses
pub record Stops (keys : Keys) (channel : Option (List ℕ)) (token : List ℕ) (draw : Draw) (answer : Result Prepared Cause) : Type 0 where
  pub waiting : Kerberos
  pub waits : Waits (keyless keys.properties) channel draw waiting
  pub judges : Checks keys waiting token draw answer

-- what a ticket and its authenticator say of their client
abbrev pub client_told : Request → Client
client_told request = record {
  name = request.part.cname;
  realm = request.part.crealm;
  flags = request.part.flags;
  authtime = request.part.authtime;
  starttime = request.part.starttime;
  endtime = request.part.endtime;
  renew_till = request.part.renew_till;
  authorization_data = request.part.authorization_data;
  gss_flags = gss_flags request.authenticator.cksum;
  channel_hash = hash_told request.authenticator.cksum;
  tag = tag_of request;
  first_number = first_number request.authenticator.seq_number;
  delegation = delegation_told request.authenticator.cksum;
}

-- the book admits the candidate, and no check after it refuses
pub record IsLetIn (candidate : Candidate) (old : Book) (session : Session) (new : Book) : Type 0 where
  pub answer : Answer
  pub admits : AdmitsPrepared (Follows StandsFor) candidate.judged candidate.connection old (Ok answer) session.connection new
  pub answered : session.answer ≡ answer.token
  pub client : session.client ≡ Some candidate.client
  pub order : session.order ≡ Any

-- how the candidate is turned away, and the book afterwards
pub record TurnsAway (candidate : Candidate) (old new : Book) (answer : Result Answer Cause) : Type 0 where
  pub left : Kerberos
  pub admits : AdmitsPrepared (Follows StandsFor) candidate.judged candidate.connection old answer left new
