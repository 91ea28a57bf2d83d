-- Both ends of a connection as connections of services: the inputs that events bring to them, and the replies to these events.
use Rattle.std.specs.Prelude.{take, ◌≡◌, ◌≤◌, ℕ, Bool, true, false, List, [], ◌∷◌, Some, None, if◌then◌else◌}
use Rattle.krb_conf.specs.declared.env.Env.{Env}
use Rattle.krb_crypto.specs.declared.suite.CipherSuite.{CipherSuite}
use Rattle.krb_laws_ends.specs.Answers.{AdmitsOnly, IsDraw, AreEstablished}
use Rattle.krb_laws_ends.specs.HonestKdc.{Step, Answers, steps_of}
use Rattle.krb_laws_ends.specs.Messages.{Message, text_of}
use Rattle.krb_laws_ends.specs.Talk.{Turn, left_wraps, right_wraps, left_gets, right_gets}
use Rattle.krb_context.specs.Unwraps.{unwrapped}
use Rattle.krb_ap.specs.Initiators.{is_bare}
use Rattle.krb_messages.specs.declared.enc_ticket_part.EncTicketPart.{EncTicketPart}
use Rattle.krb_replay.specs.declared.ask.Ask.{Ask}
use Rattle.krb_replay.specs.declared.ask.Verdict.{Verdict}
use Rattle.krb_script.specs.Script.{at_id}
use Rattle.krb_script.specs.declared.input.Input.{Input}
use Rattle.krb_script.specs.declared.input.Input.TheVariants.{Token, Start, KdcReply, Wrap, Unwrap}
use Rattle.krb_script.specs.declared.item.Event.{Event}
use Rattle.krb_context.specs.Drawn.{drawn_key}
use Rattle.krb_admission.specs.Requests.{ask_of}
use Rattle.krb_admission.specs.declared.request.Request.{Request}
use Rattle.krb_machine.specs.Policy.{State, Steps, Brings, draw_of}
use Rattle.krb_machine.specs.declared.connection.Connection.{Connection}
use Rattle.krb_machine.specs.declared.reply.Reply.{Reply}
use Rattle.krb_machine.specs.declared.reply.Reply.TheVariants.{Done, Buffers}
use Rattle.sspi_core.specs.Moments.{last_moment}
use Rattle.sspi_core.specs.declared.draw.Draw.{Draw}
use Rattle.sspi_core.specs.declared.flags.ClientRequestFlags.{ClientRequestFlags}
use Rattle.sspi_core.specs.declared.results.SecurityStatus.TheVariants.{Ok as Complete, ContinueNeeded}

-- the input that an event brings, its random octets, and its moment, which is in range
pub record Brought (event : Event) (input : Input) (draw : Draw) : Type 0 where
  pub input_is : event.input ≡ input
  pub draw_is : draw_of event ≡ draw
  pub in_range : draw.moment ≤ last_moment

-- both ends are established, in this suite, with the session key inside the ticket, the subkey that was drawn, and this EC; each is
-- the other's peer, all messages are before them, and neither awaits a KDC
abbrev pub HaveOneContext : CipherSuite → EncTicketPart → Draw → ℕ → Connection → Connection → Type 0
HaveOneContext suite part draw ec initiator acceptor =
    AreEstablished initiator.context acceptor.context suite part.key.key_value (drawn_key suite draw) ec
    × (initiator.exchange ≡ None) × (acceptor.exchange ≡ None)

module _ {G : Type 0} (admits : G → Ask → Verdict → G → Type 0) where
  -- the reply of a service to an event, with the event's connection before and afterwards. All else in the service is open: the two
  -- ends may be connections of one service or of two, and events of other connections may come between
  pub record IsAnsweredAt (state : State G) (event : Event) (reply : Reply) (after : State G) (connection next : Connection) : Type 0 where
    pub steps : Steps admits state event reply after
    pub there : at_id event.connection state.connections ≡ Some connection
    pub behind : at_id event.connection after.connections ≡ Some next

  -- an event that brings this input has this reply, in some service
  pub record Meets (input : Input) (draw : Draw) (connection : Connection) (reply : Reply) (next : Connection) : Type 0 where
    pub event : Event
    pub brought : Brought event input draw
    pub state : State G
    pub after : State G
    pub answered : IsAnsweredAt state event reply after connection next

  -- a connection gets replies of KDCs one after another
  abbrev pub AreHandedIn : List Step → Connection → Connection → Type 0
  AreHandedIn [] connection last = last ≡ connection
  AreHandedIn (step ∷ steps) connection last =
      (reply : Reply) × (next : Connection) × Meets (KdcReply step.reply) step.draw connection reply next × AreHandedIn steps next last

  -- an initiator is started with these flags, in a service with this environment, and its KDCs reply: the reply to the event with the
  -- last of their replies, and the connection afterwards
  pub record IsFetched (flags : ClientRequestFlags) (env : Env) (draw : Draw) (answers : Answers) (initiator : Connection) (reply : Reply) (last : Connection) : Type 0 where
    pub event : Event
    pub brought : Brought event Start draw
    pub flags_are : event.flags ≡ flags
    pub state : State G
    pub env_is : state.env ≡ env
    pub after : State G
    pub asked : Reply
    pub waiting : Connection
    pub answered : IsAnsweredAt state event asked after initiator waiting
    pub nearly : Connection
    pub handed_in : AreHandedIn (steps_of answers) waiting nearly
    pub last_reply : Meets (KdcReply answers.last.reply) answers.last.draw nearly reply last

  -- a connection gets a token of the peer, by an event of this style
  pub record IsHanded (token : List ℕ) (bare : Bool) (state : State G) (event : Event) (reply : Reply) (after : State G) (connection next : Connection) : Type 0 where
    pub input_is : event.input ≡ Token token
    pub draw : IsDraw (draw_of event)
    pub style : is_bare event.flags ≡ bare
    pub answered : IsAnsweredAt state event reply after connection next

  -- the gate can only admit the request that an event brings
  abbrev pub IsLetIn : State G → Event → State G → Type 0
  IsLetIn state event after = (request : Request) (brings : Brings state.connections event request)
      → AdmitsOnly admits state.gate (ask_of brings.connection.context.rules request event.moment) after.gate

  -- an exchange in this suite, with this ticket, at ends that had this EC
  module _ (suite : CipherSuite) (part : EncTicketPart) (ec : ℕ) where
    -- the reply to the acceptor's token at the initiator: the initiator is done. In DCE style the reply has one more token, after
    -- which the acceptor is done too, and EC is 16. The acceptor drew the subkey
    abbrev pub EndsSo : Bool → Draw → Reply → Connection → Connection → Type 0
    EndsSo true draw reply initiator acceptor = (token : List ℕ) × (reply ≡ Done Complete token false)
        × ((state after : State G) (event : Event) (last : Reply) (ended : Connection) → IsHanded token true state event last after acceptor ended
        → (last ≡ Done Complete [] false) × HaveOneContext suite part draw 16 initiator ended)
    EndsSo false draw reply initiator acceptor = (reply ≡ Done Complete [] false) × HaveOneContext suite part draw ec initiator acceptor

    -- an acceptor has replied with a token that ends the exchange when the initiator gets it
    pub record IsAnsweredBack (bare : Bool) (draw : Draw) (reply : Reply) (initiator acceptor : Connection) : Type 0 where
      pub token : List ℕ
      pub told : reply ≡ Done (if bare then ContinueNeeded else Complete) token true
      pub on : (state after : State G) (event : Event) (heard : Reply) (next : Connection) → IsHanded token bare state event heard after initiator next
          → EndsSo bare draw heard next acceptor

    -- an initiator has sent a token to which an acceptor replies, if the acceptor's gate admits it
    pub record IsShown (bare : Bool) (reply : Reply) (initiator acceptor : Connection) : Type 0 where
      pub token : List ℕ
      pub told : reply ≡ Done ContinueNeeded token false
      pub on : (state after : State G) (event : Event) (answer : Reply) (next : Connection) → IsHanded token bare state event answer after acceptor next
          → IsLetIn state event after → IsAnsweredBack bare (draw_of event) answer initiator next

-- the reply to a turn of a talk: the message as it was wrapped, or the text that was wrapped
abbrev pub answer_to : Turn → Reply
answer_to (left_wraps message) = Buffers message.made
answer_to (right_wraps message) = Buffers message.made
answer_to (left_gets place message) = Buffers (unwrapped (text_of message) message.received)
answer_to (right_gets place message) = Buffers (unwrapped (text_of message) message.received)

module _ {G : Type 0} (admits : G → Ask → Verdict → G → Type 0) where
  -- the reply to a call of a connection, by an event with these random octets
  pub record IsCalled (input : Input) (random : List ℕ) (connection : Connection) (reply : Reply) (next : Connection) : Type 0 where
    pub event : Event
    pub input_is : event.input ≡ input
    pub random_is : event.random ≡ random
    pub in_range : event.moment ≤ last_moment
    pub state : State G
    pub after : State G
    pub answered : IsAnsweredAt admits state event reply after connection next

  -- a connection wraps a message, and draws its confounder
  abbrev pub Wrapping : Message → Connection → Reply → Connection → Type 0
  Wrapping message connection reply next = (random : List ℕ) × (take 16 random ≡ message.confounder) × IsCalled (Wrap message.sent) random connection reply next

  -- a connection unwraps a message
  abbrev pub Opening : Message → Connection → Reply → Connection → Type 0
  Opening message connection reply next = (random : List ℕ) × IsCalled (Unwrap message.received) random connection reply next

  -- events bring the turns of a talk to two connections, one after another, with these replies
  abbrev pub ArePlayed : Connection → Connection → List Turn → List Reply → Type 0
  ArePlayed left right [] [] = Unit {0}
  ArePlayed left right [] (reply ∷ replies) = ⊥
  ArePlayed left right (turn ∷ turns) [] = ⊥
  ArePlayed left right (left_wraps message ∷ turns) (reply ∷ replies) = (next : Connection) × Wrapping message left reply next × ArePlayed next right turns replies
  ArePlayed left right (right_wraps message ∷ turns) (reply ∷ replies) = (next : Connection) × Wrapping message right reply next × ArePlayed left next turns replies
  ArePlayed left right (left_gets place message ∷ turns) (reply ∷ replies) = (next : Connection) × Opening message left reply next × ArePlayed next right turns replies
  ArePlayed left right (right_gets place message ∷ turns) (reply ∷ replies) = (next : Connection) × Opening message right reply next × ArePlayed left next turns replies
