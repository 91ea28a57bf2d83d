-- Octets of an end that go into a caller's room.
use Rattle.std.specs.Prelude.{◌≡◌, ℕ, List, Result, Ok}
use Rattle.krb_sasl.specs.declared.channel.Channel.{Channel}
use Rattle.krb_sasl.specs.declared.client.SaslClient.{SaslClient}
use Rattle.krb_sasl.specs.declared.error.SaslError.{SaslError}
use Rattle.krb_sasl.specs.declared.fault.SaslFault.{SaslFault}
use Rattle.krb_sasl.specs.declared.fault.SaslFault.TheVariants.{Refused, Room}
use Rattle.krb_sasl.specs.declared.layer.Layer.{Layer}
use Rattle.krb_sasl.specs.declared.server.SaslServer.{SaslServer}
use Rattle.krb_sasl.specs.Answers.{Refuses}
use Rattle.krb_sasl.specs.Clients.{AnswersOffer, answered_by}
use Rattle.krb_sasl.specs.Servers.{Accepts, accepted_by, left_by}
use Rattle.krb_sasl.specs.Texts.{name_in}
use Rattle.krb_sessions.specs.Gives.{IsShort}

-- the checks refuse, or the room is too short for what is given
abbrev pub Faults : {A : Type 0} → (Result A SaslError → Type 0) → (List ℕ → Type 0) → ℕ → SaslFault → Type 0
Faults checks gives room (Refused refusal) = Refuses checks refusal
Faults checks gives room (Room count) = IsShort gives room count

-- what a fault leaves of an end that was given a token: a room that is too short changes nothing
abbrev pub kept_by : SaslFault → Channel → List ℕ → Channel
kept_by (Refused refusal) channel token = left_by refusal channel token
kept_by (Room count) channel token = channel

-- the user's name in an answer that is accepted, and the server after it
pub record Names (before : SaslServer) (token name : List ℕ) (after : SaslServer) : Type 0 where
  pub text : List ℕ
  pub layer : Layer
  pub accepts : Accepts before token (Ok (text, layer))
  pub name_is : name ≡ name_in text
  pub next : after ≡ accepted_by before token text layer

abbrev pub IsNameIn : SaslServer → List ℕ → List ℕ → Type 0
IsNameIn server token name = (after : SaslServer) × Names server token name after

-- the token of the answer to an offer, and the client after it
pub record AnswersWith (before : SaslClient) (offer token : List ℕ) (after : SaslClient) : Type 0 where
  pub text : List ℕ
  pub answers : AnswersOffer before offer (Ok (token, text))
  pub next : after ≡ answered_by before offer text

abbrev pub IsAnswerTo : SaslClient → List ℕ → List ℕ → Type 0
IsAnswerTo client offer token = (after : SaslClient) × AnswersWith client offer token after
