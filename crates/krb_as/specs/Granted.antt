-- The parts of a KDC's reply that are sent on (RFC 4120, section 5.4.2).
use Rattle.std.specs.Prelude.{◌≤◌, ◌^◌, length}
use Rattle.krb_messages.specs.Layouts.{principal_name_layout, ticket_layout}
use Rattle.krb_exchange.specs.declared.kdc_rep.AsRep.{AsRep}
use Rattle.krb_exchange.specs.declared.kdc_rep.KdcRep.{KdcRep}
use Rattle.krb_exchange.specs.declared.result.KrbResult.{KrbResult}
use Rattle.krb_exchange.specs.declared.result.KrbResult.TheVariants.{Ok as Reply, Err as Refusal}
use Rattle.krb_requests.specs.Pieces.{Fits}

-- the client's realm, its name and the ticket, each of which can be written in at most 2^24 octets, as many as a reply has
pub record IsSendable (rep : KdcRep) : Type 0 where
  pub realm : length rep.crealm ≤ 2 ^ 24
  pub name : Fits principal_name_layout (2 ^ 24) rep.cname
  pub ticket : Fits ticket_layout (2 ^ 24) rep.ticket

-- so has an AS-REP that came at once
abbrev pub IsSendableReply : KrbResult AsRep → Type 0
IsSendableReply (Reply as_rep) = IsSendable as_rep.0
IsSendableReply (Refusal error) = Unit {0}
