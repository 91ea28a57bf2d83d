-- Both ends reach one context, and understand each other.
use Rattle.std.proofs.Common.{◌≡◌, ℕ, ◌<◌, ◌^◌, List, [], sym, subst, ap, ◌∙◌, Result}
use Rattle.std.specs.Prelude.{Option}
use Rattle.krb_crypto.specs.declared.suite.CipherSuite.{CipherSuite}
use Rattle.krb_messages.specs.declared.enc_ticket_part.EncTicketPart.{EncTicketPart}
use Rattle.krb_messages.specs.declared.encryption.Checksum.{Checksum}
use Rattle.krb_messages.specs.declared.ticket.Ticket.{Ticket}
use Rattle.krb_exchange.specs.declared.kdc_rep.TgsRep.{TgsRep}
use Rattle.krb_conf.specs.declared.env.Env.{Env}
use Rattle.krb_context.specs.declared.context.Kerberos.{Kerberos}
use Rattle.krb_context.specs.Contexts.{settled}
use Rattle.krb_context.specs.ServiceKeys.{service_key as key_of_service}
use Rattle.krb_replay.specs.declared.ask.Ask.{Ask}
use Rattle.krb_replay.specs.declared.ask.Verdict.{Verdict}
use Rattle.krb_as.specs.declared.client.Client.{Client}
use Rattle.krb_ap.specs.Initiators.{is_bare}
use Rattle.krb_initiator.specs.declared.options.InitOptions.{InitOptions}
use Rattle.krb_initiator.specs.declared.seeker.Seeker.{Seeker}
use Rattle.krb_admission.specs.Allowed.{channel_held}
use Rattle.krb_admission.specs.Clients.{user_of}
use Rattle.krb_admission.specs.Requests.{ask_of}
use Rattle.krb_server.specs.declared.accept.Accepted.{Accepted}
use Rattle.krb_server.specs.Whole.{AcceptsWhole}
use Rattle.sspi_core.specs.declared.cause.Cause.{Cause}
use Rattle.sspi_core.specs.declared.draw.Draw.{Draw}
use Rattle.sspi_core.specs.declared.identity.CredentialsBuffers.{CredentialsBuffers}
use Rattle.sspi_core.specs.Usernames.{UserName}
use Rattle.krb_laws_ends.specs.Answers.{AdmitsOnly, IsDraw, AreNew, AreEstablished, EndsWellIn}
use Rattle.krb_laws_ends.specs.Fetches.{seeker_for, EndsWithOffer, HoldsKey}
use Rattle.krb_laws_ends.specs.HonestKdc.{Answers, AreHonestKdcs}
use Rattle.krb_laws_ends.specs.Offers.{request_of, FitsRules, IsBoundTo, MeetsChannel, IsFor}
use Rattle.krb_laws_ends.specs.Talk.{Turn, IsFair, IsUnderstood}
use Rattle.krb_laws_ends.proofs.BoundLemmas.{bound_to}
use Rattle.krb_laws_ends.proofs.EstablishedLemmas.{ends_well_in}
use Rattle.krb_laws_ends.proofs.FetchLemmas.{served}
use Rattle.krb_laws_ends.proofs.TalkLemmas.{talk_understood}

pub understand : (initiator acceptor : Kerberos) (suite : CipherSuite) (session_key sub_session_key : List ℕ) (ec : ℕ) (turns : List Turn)
    → AreEstablished initiator acceptor suite session_key sub_session_key ec → IsFair initiator.seq_number acceptor.seq_number initiator acceptor [] [] turns
    → IsUnderstood initiator acceptor turns
understand initiator acceptor suite session_key sub_session_key ec turns are fair =
    let new = are.unopened in
    talk_understood initiator acceptor turns are.there are.back new.initiator_number new.acceptor_number new.initiator_window new.acceptor_window fair

module _ (initiator acceptor acceptor' : Kerberos) (options more : InitOptions) (target service_key : List ℕ) (credentials : CredentialsBuffers) (client : Client) (suite : CipherSuite)
    (answers : Answers) (rep : TgsRep) (part : EncTicketPart) (env : Env) (first own draw : Draw) where
  abbrev seeker : Seeker
  seeker = seeker_for initiator options target credentials client

  -- the offer is for the acceptor, which has this user name of its client
  abbrev user : Option UserName
  user = user_of acceptor.rules part.cname part.crealm

  is_bound_to : MeetsChannel (channel_held acceptor) options.channel_bindings → (end : EndsWithOffer initiator seeker service_key suite first answers rep part)
      → IsBoundTo (channel_held acceptor) end.offer.authenticator.cksum
  is_bound_to meets end =
      subst (λ (c : Option Checksum). IsBoundTo (channel_held acceptor) c) (sym end.cksum)
      (bound_to (channel_held acceptor) options.channel_bindings options.flags.0 meets)

  is_for : AreHonestKdcs seeker suite service_key first answers rep part → HoldsKey acceptor target service_key → FitsRules acceptor.rules part
      → MeetsChannel (channel_held acceptor) options.channel_bindings → (end : EndsWithOffer initiator seeker service_key suite first answers rep part)
      → IsFor acceptor user end.offer
  is_for kdcs holds fits meets end =
      let serves = (served seeker suite kdcs.as_rep.0.crealm service_key kdcs.known answers.referrals answers.last rep part kdcs.honest).1 in record {
        waits = holds.waits;
        properties = holds.properties;
        has = holds.has;
        key = service_key;
        holds = ap (λ (t : Ticket). key_of_service holds.properties t.sname.name_string) end.ticket ∙ ap (key_of_service holds.properties) serves.named ∙ holds.holds;
        honest = end.honest;
        fits = subst (λ (p : EncTicketPart). FitsRules acceptor.rules p) (sym end.part_is) fits;
        bound = is_bound_to meets end;
        client_is = ap (λ (p : EncTicketPart). user_of acceptor.rules p.cname p.crealm) end.part_is;
      }

  still_new : AreNew initiator acceptor → (end : EndsWithOffer initiator seeker service_key suite first answers rep part) → AreNew (settled initiator end.done.change) acceptor
  still_new new end = record {
    filler = end.filler_stays ∙ new.filler;
    small = new.small;
    initiator_number = subst (λ (n : ℕ). n < 2 ^ 32) (sym end.number_stays) new.initiator_number;
    acceptor_number = new.acceptor_number;
    initiator_window = new.initiator_window;
    acceptor_window = new.acceptor_window;
  }

  pub reach : {G : Type 0} (admits : G → Ask → Verdict → G → Type 0) (old new : G) (answer : Result Accepted Cause)
      → is_bare more.flags ≡ is_bare options.flags → AreHonestKdcs seeker suite service_key first answers rep part → HoldsKey acceptor target service_key
      → FitsRules acceptor.rules part → MeetsChannel (channel_held acceptor) options.channel_bindings → AreNew initiator acceptor → IsDraw own → IsDraw draw
      → (end : EndsWithOffer initiator seeker service_key suite first answers rep part)
      → AcceptsWhole admits acceptor (is_bare options.flags) end.done.token env draw old answer acceptor' new
      → AdmitsOnly admits old (ask_of acceptor.rules (request_of end.offer) draw.moment) new
      → EndsWellIn (is_bare options.flags) admits (settled initiator end.done.change) acceptor' more own draw end.offer answer
  reach admits old new answer same kdcs holds fits meets are_new drawn is end step only =
      ends_well_in acceptor draw user end.offer (is_for kdcs holds fits meets end) is (settled initiator end.done.change) more own end.offered admits acceptor' env old new answer
      (is_bare options.flags) end.style same drawn (still_new are_new end)
      (subst (λ (t : List ℕ). AcceptsWhole admits acceptor (is_bare options.flags) t env draw old answer acceptor' new) end.token step) only
