-- A ticket that a client has, as the reply of a KDC would have brought it.
use Rattle.std.specs.Prelude.{ℕ, ◌==◌, nat_le, ℤ, pos, List, [], ◌∷◌, length, Option, Some, None, Result, if◌then◌else◌}
use Rattle.std.specs.Int.{w32, to_be_bytes}
use Rattle.krb_crypto.specs.declared.suite.CipherSuite.{CipherSuite}
use Rattle.krb_messages.specs.Layouts.{ticket_layout}
use Rattle.krb_messages.specs.declared.principal_name.PrincipalName.{PrincipalName}
use Rattle.krb_messages.specs.declared.ticket.Ticket.{Ticket}
use Rattle.krb_exchange.specs.declared.kdc_rep.KdcRep.{KdcRep}
use Rattle.krb_requests.specs.Pieces.{sealed_data}
use Rattle.krb_replies.specs.Unseals.{IsRead}
use Rattle.krb_replies.specs.declared.facts.ReplyFacts.{ReplyFacts}
use Rattle.krb_as.specs.declared.key.Grant.{Grant}
use Rattle.krb_ccache.specs.declared.credential.Times.{Times}
use Rattle.krb_ccache.specs.declared.principal.CcachePrincipal.{CcachePrincipal}
use Rattle.krb_tickets.specs.Principals.{ReadsRealm, ReadsName}
use Rattle.sspi_core.specs.declared.cause.Cause.{Cause}
use Rattle.sspi_core.specs.declared.cause.Cause.TheVariants.{Shape}
use Rattle.sspi_core.specs.Checks.{Finds, Gives, Holds, ◌>>=◌, ◌>>◌}

-- a time that may not be told, which is 0 then
abbrev pub told_time : ℕ → Option ℤ
told_time seconds = if seconds == 0 then None else Some (pos seconds)

-- what is known of a ticket without the reply that brought it: its flags and times as its holder has them, its service as it names it in
-- the clear, and no nonce
abbrev pub held_facts : Ticket → ℕ → Times → ReplyFacts
held_facts ticket flags times = record {
  nonce = [];
  flags = record { unused = 0; octets = to_be_bytes w32 flags };
  authtime = pos times.authenticated;
  starttime = told_time times.start;
  endtime = pos times.end;
  renew_till = told_time times.renew_until;
  srealm = ticket.realm;
  sname = ticket.sname;
}

-- a TGS-REP with this ticket, for this client, in which nothing is encrypted
abbrev pub held_rep : List ℕ → PrincipalName → CipherSuite → Ticket → KdcRep
held_rep realm name suite ticket = record {
  pvno = 5 ∷ [];
  msg_type = 13 ∷ [];
  padata = None;
  crealm = realm;
  cname = name;
  ticket = ticket;
  enc_part = sealed_data suite [];
}

abbrev pub held_grant : List ℕ → PrincipalName → CipherSuite → List ℕ → Ticket → ℕ → Times → Grant
held_grant realm name suite key ticket flags times =
    record { suite = suite; key = key; facts = held_facts ticket flags times; rep = held_rep realm name suite ticket }

-- a ticket in DER, of at most 2^24 octets
unfoldable pub ReadsTicket : List ℕ → Result Ticket Cause → Type 0
ReadsTicket octets = do
  Holds Shape (nat_le (length octets) 16777216)
  Finds Shape (IsRead ticket_layout octets)

-- the ticket of a client, with its session key: of which client, and what the ticket is
unfoldable pub HoldsTicket : CcachePrincipal → CipherSuite → List ℕ → List ℕ → ℕ → Times → Result Grant Cause → Type 0
HoldsTicket client suite key octets flags times = do
  realm ← ReadsRealm client.realm
  name ← ReadsName client
  ticket ← ReadsTicket octets
  Gives (held_grant realm name suite key ticket flags times)
