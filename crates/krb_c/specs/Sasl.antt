-- The calls on an end with a security layer in its handle (RFC 4752, section 3), by what they answer.
use Rattle.std.specs.Prelude.{◌≡◌, ℕ, List, Option, Some, None, Result, Ok}
use Rattle.krb_c.specs.declared.sasl_end.SaslEnd.{SaslEnd}
use Rattle.krb_c.specs.declared.sasl_end.SaslEnd.TheVariants.{Server, Client}
use Rattle.krb_c.specs.declared.sasl_reply.SaslFailure.{SaslFailure}
use Rattle.krb_c.specs.declared.sasl_reply.SaslFailure.TheVariants.{Refused, Room, Argument, Handle}
use Rattle.krb_c.specs.Failures.{IsMisplaced}
use Rattle.krb_sasl.specs.declared.channel.Channel.{Channel}
use Rattle.krb_sasl.specs.declared.client.SaslClient.{SaslClient}
use Rattle.krb_sasl.specs.declared.error.SaslError.{SaslError}
use Rattle.krb_sasl.specs.declared.error.SaslError.TheVariants.{Layers}
use Rattle.krb_sasl.specs.declared.server.SaslServer.{SaslServer}
use Rattle.krb_sasl.specs.Answers.{Refuses}
use Rattle.krb_sasl.specs.Channels.{Seals, Unseals, sealed_by, unsealed_by}
use Rattle.krb_sasl.specs.Clients.{Wishes, AnswersOffer}
use Rattle.krb_sasl.specs.Layers.{layer_of}
use Rattle.krb_sasl.specs.Rooms.{Names, AnswersWith}
use Rattle.krb_sasl.specs.Servers.{Serves, Offers, Accepts, offered_by, left_by, ordered}
use Rattle.krb_sessions.specs.declared.session.Session.{Session}
use Rattle.krb_sessions.specs.Gives.{Delivers, IsShort}
use Rattle.krb_sessions.specs.Orders.{order_asked}
use Rattle.sspi_core.specs.Checks.{Takes, Gives, ◌>>=◌}

-- the channel of an end, and the end with another
abbrev pub channel_of : SaslEnd → Channel
channel_of (Server server) = server.channel
channel_of (Client client) = client.channel

abbrev pub with_channel : SaslEnd → Channel → SaslEnd
with_channel (Server server) channel = Server (record server { channel = channel })
with_channel (Client client) channel = Client (record client { channel = channel })

-- an end that takes the peer's tokens in the order that its session is asked for
abbrev pub in_its_order : Session → SaslEnd → SaslEnd
in_its_order session end = with_channel end (ordered (order_asked session) (channel_of end))

-- all checks of a session that becomes a server's end, and the end
unfoldable pub ServesAs : ℕ → ℕ → Session → Result SaslEnd SaslError → Type 0
ServesAs layers most session = do
  server ← Serves session.connection layers most
  Gives (in_its_order session (Server server))

-- all checks of a session that becomes a client's end, with the layer of this octet, and the end
unfoldable pub WishesAs : ℕ → ℕ → List ℕ → Session → Result SaslEnd SaslError → Type 0
WishesAs octet most user session = do
  wanted ← Takes Layers (layer_of octet)
  client ← Wishes session.connection wanted most user
  Gives (in_its_order session (Client client))

-- a session becomes an end in an empty handle, and its own handle is empty
pub record Becomes (makes : Session → Result SaslEnd SaslError → Type 0) (from : Option Session) (to : Option SaslEnd) (count : ℕ)
    (session : Option Session) (new : Option SaslEnd) : Type 0 where
  pub guest : Session
  pub made : SaslEnd
  pub was : from ≡ Some guest
  pub was_empty : to ≡ None
  pub is_made : makes guest (Ok made)
  pub spent : session ≡ None
  pub now : new ≡ Some made
  pub none_written : count ≡ 0

-- the session does not become one
pub record SessionRefuses (makes : Session → Result SaslEnd SaslError → Type 0) (from : Option Session) (refusal : SaslError) : Type 0 where
  pub guest : Session
  pub was : from ≡ Some guest
  pub refuses : Refuses (makes guest) refusal

-- why no end is made
abbrev pub BecomesNot : Type 0 → (Session → Result SaslEnd SaslError → Type 0) → Option Session → Option SaslEnd → SaslFailure → Type 0
BecomesNot unfit makes from to (Refused refusal) = SessionRefuses makes from refusal
BecomesNot unfit makes from to (Room count) = ⊥
BecomesNot unfit makes from to Argument = unfit
BecomesNot unfit makes from to Handle = IsMisplaced from to

-- the result of a call on an end, and the end after it: a server's offer
pub record GivesOffer (before : SaslEnd) (token : List ℕ) (after : SaslEnd) : Type 0 where
  pub server : SaslServer
  pub was : before ≡ Server server
  pub offers : Offers server (Ok token)
  pub next : after ≡ Server (offered_by server)

-- the user's name in the answer that a server accepts
pub record GivesName (token : List ℕ) (before : SaslEnd) (name : List ℕ) (after : SaslEnd) : Type 0 where
  pub server : SaslServer
  pub accepted : SaslServer
  pub was : before ≡ Server server
  pub names : Names server token name accepted
  pub next : after ≡ Server accepted

-- a client's answer to an offer
pub record GivesAnswer (offer : List ℕ) (before : SaslEnd) (token : List ℕ) (after : SaslEnd) : Type 0 where
  pub client : SaslClient
  pub answered : SaslClient
  pub was : before ≡ Client client
  pub answers : AnswersWith client offer token answered
  pub next : after ≡ Client answered

-- the frame of data, and the data of a frame
pub record GivesFrame (confounder plain : List ℕ) (before : SaslEnd) (frame : List ℕ) (after : SaslEnd) : Type 0 where
  pub seals : Seals (channel_of before) confounder plain (Ok frame)
  pub next : after ≡ with_channel before (sealed_by (channel_of before))

pub record GivesData (frame : List ℕ) (before : SaslEnd) (plain : List ℕ) (after : SaslEnd) : Type 0 where
  pub unseals : Unseals (channel_of before) frame (Ok plain)
  pub next : after ≡ with_channel before (unsealed_by (channel_of before) frame)

-- the checks of an end refuse: of a server's offer, of an answer to it, of a client's answer
pub record RefusesOffer (before : SaslEnd) (refusal : SaslError) : Type 0 where
  pub server : SaslServer
  pub was : before ≡ Server server
  pub refuses : Refuses (Offers server) refusal

pub record RefusesName (token : List ℕ) (before : SaslEnd) (refusal : SaslError) : Type 0 where
  pub server : SaslServer
  pub was : before ≡ Server server
  pub refuses : Refuses (Accepts server token) refusal

pub record RefusesAnswer (offer : List ℕ) (before : SaslEnd) (refusal : SaslError) : Type 0 where
  pub client : SaslClient
  pub was : before ≡ Client client
  pub refuses : Refuses (AnswersOffer client offer) refusal

-- and of data and frames
abbrev pub RefusesData : List ℕ → List ℕ → SaslEnd → SaslError → Type 0
RefusesData confounder plain before refusal = Refuses (Seals (channel_of before) confounder plain) refusal

abbrev pub RefusesFrame : List ℕ → SaslEnd → SaslError → Type 0
RefusesFrame frame before refusal = Refuses (Unseals (channel_of before) frame) refusal

-- no server is there, and no client
abbrev pub HasNoServer : Option SaslEnd → Type 0
HasNoServer found = (server : SaslServer) → found ≡ Some (Server server) → ⊥

abbrev pub HasNoClient : Option SaslEnd → Type 0
HasNoClient found = (client : SaslClient) → found ≡ Some (Client client) → ⊥

-- octets of an end's go into the buffer
pub record HandsOut (gives : SaslEnd → List ℕ → SaslEnd → Type 0) (old : Option SaslEnd) (room : List ℕ) (count : ℕ) (new : Option SaslEnd) (out : List ℕ) : Type 0 where
  pub before : SaslEnd
  pub after : SaslEnd
  pub was : old ≡ Some before
  pub now : new ≡ Some after
  pub delivers : Delivers (λ octets. gives before octets after) room count out

-- the buffer is too short for the octets that an end returns
abbrev pub IsShortFor : (SaslEnd → List ℕ → SaslEnd → Type 0) → SaslEnd → ℕ → ℕ → Type 0
IsShortFor gives before room count = IsShort (λ octets. (after : SaslEnd) × gives before octets after) room count

-- why an end returns nothing
abbrev pub EndHandsNot : Type 0 → (SaslEnd → SaslError → Type 0) → (SaslEnd → List ℕ → SaslEnd → Type 0) → SaslEnd → ℕ → SaslFailure → Type 0
EndHandsNot absent refuses gives before room (Refused refusal) = refuses before refusal
EndHandsNot absent refuses gives before room (Room count) = IsShortFor gives before room count
EndHandsNot absent refuses gives before room Argument = ⊥
EndHandsNot absent refuses gives before room Handle = absent

-- an end is there, and refuses, or the buffer is too short for its octets
pub record EndRefuses (refuses : SaslEnd → SaslError → Type 0) (old : Option SaslEnd) (refusal : SaslError) : Type 0 where
  pub before : SaslEnd
  pub was : old ≡ Some before
  pub refused : refuses before refusal

pub record EndIsShort (gives : SaslEnd → List ℕ → SaslEnd → Type 0) (old : Option SaslEnd) (room count : ℕ) : Type 0 where
  pub before : SaslEnd
  pub was : old ≡ Some before
  pub is_short : IsShortFor gives before room count

-- why an end in its handle returns nothing: an argument is unfit, no end for the call is there, it refuses, or the buffer is too short
abbrev pub HandsNot : Type 0 → Type 0 → (SaslEnd → SaslError → Type 0) → (SaslEnd → List ℕ → SaslEnd → Type 0) → Option SaslEnd → ℕ → SaslFailure → Type 0
HandsNot unfit absent refuses gives old room (Refused refusal) = EndRefuses refuses old refusal
HandsNot unfit absent refuses gives old room (Room count) = EndIsShort gives old room count
HandsNot unfit absent refuses gives old room Argument = unfit
HandsNot unfit absent refuses gives old room Handle = absent

-- the end after a token that is refused: if its text is refused, the place of its number is kept
abbrev pub left_end : SaslFailure → List ℕ → SaslEnd → SaslEnd
left_end (Refused refusal) token before = with_channel before (left_by refusal (channel_of before) token)
left_end _ token before = before

abbrev pub left_in : SaslFailure → List ℕ → Option SaslEnd → Option SaslEnd
left_in failure token None = None
left_in failure token (Some before) = Some (left_end failure token before)
