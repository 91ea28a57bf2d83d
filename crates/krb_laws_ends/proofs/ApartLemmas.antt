-- The messages that an end wraps and those that it opens do not affect each other.
use Rattle.std.proofs.Common.{ℕ, List, Result, Ok}
use Rattle.sspi_core.specs.Buffer.{Buffer}
use Rattle.sspi_core.specs.declared.cause.Cause.{Cause}
use Rattle.krb_context.specs.declared.context.Kerberos.{Kerberos}
use Rattle.krb_context.specs.Wraps.{Wraps}
use Rattle.krb_laws_ends.specs.Flow.{numbered}
use Rattle.krb_laws_ends.specs.Messages.{Message, IsSent, opened_one}

pub wraps_apart : (context : Kerberos) (number : ℕ) (confounder : List ℕ) (buffers : List Buffer) (answer : Result (List Buffer) Cause) → Wraps context confounder buffers answer
    → Wraps (opened_one number context) confounder buffers answer
unfolding Wraps
wraps_apart context number confounder buffers answer h = h

-- a message stays one that the sender wraps after `behind` others, whatever the sender opens
pub sent_apart : (sender : Kerberos) (number behind other : ℕ) (message : Message) → IsSent (numbered number behind sender) message
    → IsSent (numbered number behind (opened_one other sender)) message
sent_apart sender number behind other message is_sent = record {
  confounder_size = is_sent.confounder_size;
  confounder_octets = is_sent.confounder_octets;
  text_octets = is_sent.text_octets;
  wraps = wraps_apart (numbered number behind sender) other message.confounder message.sent (Ok message.made) is_sent.wraps;
  delivered = is_sent.delivered;
}
