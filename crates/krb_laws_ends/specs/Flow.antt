-- One direction of a connection, at any time.
use Rattle.std.specs.Prelude.{◌≡◌, ℕ, ◌^◌, ◌<◌, List, [], ◌∷◌, ◌++◌, map, Ok, ℤ, pos, ◌+ℤ◌}
use Rattle.krb_context.specs.declared.context.Kerberos.{Kerberos}
use Rattle.krb_context.specs.Contexts.{next_number, number_after_messages}
use Rattle.krb_context.specs.Peers.{ArePeers}
use Rattle.krb_context.specs.Places.{number_at}
use Rattle.krb_context.specs.Unwraps.{Unwraps, message_number}
use Rattle.krb_context.specs.Window.{StandsFor}
use Rattle.krb_laws_ends.specs.Messages.{Message, text_of, opened_one}

-- the sender as it wraps the message after `behind` others, if it began at this number
abbrev pub numbered : ℕ → ℕ → Kerberos → Kerberos
numbered number behind sender = record sender { seq_number = number_after_messages number behind }

-- the place of a message, where the first has this one
abbrev pub place_from : ℤ → ℕ → ℤ
place_from base behind = base +ℤ pos behind

-- the sender began at this number and has wrapped `sent` messages; the receiver has opened the messages at the places in `before`,
-- where a message's place is how many the sender wrapped before it
pub record Flows (sender receiver : Kerberos) (number sent : ℕ) (before : List ℕ) : Type 0 where
  pub peers : ArePeers sender receiver
  pub small : number < 2 ^ 32
  pub sender_number : sender.seq_number ≡ number_after_messages number sent
  pub base : ℤ
  pub first_number : number_at base ≡ next_number number
  pub window : StandsFor receiver.window (map (place_from base) before)

-- the message at this place opens, and the direction goes on with it
pub record FlowsOn (sender receiver : Kerberos) (number sent : ℕ) (before : List ℕ) (place : ℕ) (message : Message) : Type 0 where
  pub opens : Unwraps receiver message.received (Ok (text_of message))
  pub on : Flows sender (opened_one (message_number message.received) receiver) number sent (before ++ place ∷ [])
