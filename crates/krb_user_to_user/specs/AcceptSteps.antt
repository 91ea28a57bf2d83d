-- How a service fetches its ticket: an AS exchange (RFC 4120, section 3.1), whose end is a TGT-REP.
use Rattle.std.specs.Prelude.{true, Some, None, Result}
use Rattle.krb_exchange.specs.declared.kdc_req.KdcReqBody.{KdcReqBody}
use Rattle.krb_context.specs.declared.state.KerberosState.TheVariants.{Preauthentication}
use Rattle.sspi_core.specs.declared.results.SecurityStatus.TheVariants.{ContinueNeeded}
use Rattle.sspi_core.specs.declared.draw.Draw.{Draw}
use Rattle.sspi_core.specs.declared.cause.Cause.{Cause}
use Rattle.sspi_core.specs.Checks.{Gives}
use Rattle.krb_as.specs.declared.body.FirstService.TheVariants.{TicketGranting}
use Rattle.krb_as.specs.declared.client.Client.{Client}
use Rattle.krb_as.specs.declared.done.InitDone.{InitDone}
use Rattle.krb_as.specs.declared.key.Grant.{Grant}
use Rattle.krb_as.specs.declared.turn.Turn.{Turn}
use Rattle.krb_as.specs.declared.turn.Turn.TheVariants.{Ends}
use Rattle.krb_as.specs.FirstBodies.{first_body}
use Rattle.krb_user_to_user.specs.declared.request.Acceptor.{Acceptor}
use Rattle.krb_user_to_user.specs.declared.steps.AcceptPhase.{AcceptPhase}
use Rattle.krb_user_to_user.specs.TgtReps.{tgt_rep_token}

-- the body of the request: a request for a ticket for the ticket-granting service
abbrev pub body_of : Client → Draw → KdcReqBody
body_of client draw = first_body client TicketGranting 0 draw

-- the ticket of the AS-REP goes to the client, and its key becomes the service's own; the client's AP-REQ is awaited
unfoldable pub done_of : Acceptor → Grant → InitDone
done_of acceptor grant = record {
  status = ContinueNeeded;
  token = tgt_rep_token acceptor.dce grant.rep.ticket;
  change = record {
    state = Preauthentication;
    realm = Some grant.rep.crealm;
    encryption_params = record acceptor.params { encryption_type = Some grant.suite };
    seq_number = acceptor.number;
    krb5_user_to_user = true;
    asked_at = None;
    ticket_decryption_key = Some grant.key;
  };
}

-- the exchange ends with the AS exchange
abbrev pub EndsWithTicket : Acceptor → Grant → Result (Turn AcceptPhase InitDone) Cause → Type 0
EndsWithTicket acceptor grant answer = Gives (Ends (done_of acceptor grant)) answer
