-- The tokens of both ends are delivered.
use Rattle.std.proofs.Common.{◌≡◌, ℕ, Bool, true, false, List, [], Option, None, Result, Ok, refl, sym, ap, ◌∙◌, subst}
use Rattle.std.specs.Prelude.{nat_le, is_some, if◌then◌else◌}
use Rattle.std.proofs.lemmas.Bool.{le-leb}
use Rattle.krb_server.specs.Whole.{AcceptsWhole}
use Rattle.krb_server.specs.declared.accept.Accepted.{Accepted as Taken}
use Rattle.krb_server.specs.declared.accept.Accepted.TheVariants as taken
use Rattle.krb_as.specs.declared.done.InitDone.{InitDone}
use Rattle.krb_as.specs.declared.turn.Turn.TheVariants.{Asks, Ends}
use Rattle.krb_conf.specs.declared.env.Env.{Env}
use Rattle.krb_context.specs.Contexts.{settled, is_acceptor}
use Rattle.krb_context.specs.ServiceKeys.{service_key as key_of_service}
use Rattle.krb_context.specs.declared.context.Kerberos.{Kerberos}
use Rattle.krb_context.specs.declared.server.ServerProperties.{ServerProperties}
use Rattle.krb_context.specs.declared.state.KerberosState.{KerberosState}
use Rattle.krb_as.specs.declared.client.Client.{Client}
use Rattle.krb_crypto.specs.declared.suite.CipherSuite.{CipherSuite}
use Rattle.krb_laws_ends.proofs.BoundLemmas.{bound_to}
use Rattle.krb_laws_ends.proofs.BeginLemmas.{begins as seeker_begins, asks_mutual}
use Rattle.krb_laws_ends.proofs.FetchLemmas.{served, ends_with_offer}
use Rattle.krb_laws_ends.proofs.HonestLemmas.{begins as request_begins, is_answered}
use Rattle.krb_laws_ends.proofs.ReachLemmas.{reach}
use Rattle.krb_laws_ends.specs.Answers.{AdmitsOnly, IsDraw, AreNew, AreEstablished, AreEstablishedBy, EndsWellIn, IsTaken, admission_for}
use Rattle.krb_laws_ends.specs.Fetches.{CanBegin, seeker_for, EndsWithOffer, HoldsKey}
use Rattle.krb_laws_ends.specs.HonestKdc.{Answers, steps_of, AreHonestKdcs}
use Rattle.krb_laws_ends.specs.Offers.{request_of, offered_token, FitsRules, IsBoundTo, MeetsChannel, IsFor}
use Rattle.krb_exchange.specs.declared.kdc_rep.TgsRep.{TgsRep}
use Rattle.krb_initiator.specs.Beginnings.{BeginsInitiation}
use Rattle.krb_initiator.specs.InitRuns.{Starts}
use Rattle.krb_initiator.specs.declared.options.InitOptions.{InitOptions}
use Rattle.krb_initiator.specs.declared.seeker.InitPhase.TheVariants.{New}
use Rattle.krb_initiator.specs.declared.seeker.Initiation.TheVariants.{Seeks}
use Rattle.krb_initiator.specs.declared.seeker.Seeker.{Seeker}
use Rattle.krb_ap.specs.Initiators.{is_bare}
use Rattle.krb_messages.specs.declared.enc_ticket_part.EncTicketPart.{EncTicketPart}
use Rattle.krb_messages.specs.declared.encryption.Checksum.{Checksum}
use Rattle.krb_messages.specs.declared.ticket.Ticket.{Ticket}
use Rattle.krb_replay.specs.declared.ask.Ask.{Ask}
use Rattle.krb_replay.specs.declared.ask.Verdict.{Verdict}
use Rattle.krb_script.specs.declared.input.Input.{Input}
use Rattle.krb_script.specs.declared.input.Input.TheVariants.{Start}
use Rattle.krb_script.specs.declared.item.Event.{Event}
use Rattle.krb_admission.specs.Accepts.{BeginsAdmission}
use Rattle.krb_context.specs.Drawn.{drawn_key}
use Rattle.krb_admission.specs.Admission.{with_client, mutual_admission, settled as admitted}
use Rattle.krb_admission.specs.Allowed.{channel_held}
use Rattle.krb_admission.specs.Clients.{user_of}
use Rattle.krb_admission.specs.Requests.{ask_of}
use Rattle.krb_machine.proofs.CallLemmas.{token-step}
use Rattle.krb_machine.specs.Exchanges.{answer_of}
use Rattle.krb_machine.specs.Initiations.{options_of, token_heard}
use Rattle.krb_machine.specs.MessageCalls.{is_call}
use Rattle.krb_machine.specs.Policy.{State, Settles, Judges, Brings, reached, input_token, draw_of}
use Rattle.krb_machine.specs.declared.connection.Connection.{Connection}
use Rattle.krb_machine.specs.declared.reply.Reply.{Reply}
use Rattle.krb_machine.specs.declared.reply.Reply.TheVariants.{Done}
use Rattle.sspi_core.specs.Checks.{told}
use Rattle.sspi_core.specs.Moments.{last_moment}
use Rattle.sspi_core.specs.Usernames.{UserName}
use Rattle.sspi_core.specs.declared.cause.Cause.{Cause}
use Rattle.sspi_core.specs.declared.draw.Draw.{Draw}
use Rattle.sspi_core.specs.declared.error.Place.TheVariants.{Elsewhere}
use Rattle.sspi_core.specs.declared.flags.ClientRequestFlags.{ClientRequestFlags}
use Rattle.sspi_core.specs.declared.identity.CredentialsBuffers.{CredentialsBuffers}
use Rattle.sspi_core.specs.declared.results.SecurityStatus.{SecurityStatus}
use Rattle.sspi_core.specs.declared.results.SecurityStatus.TheVariants.{Ok as Complete, ContinueNeeded}
use Rattle.krb_laws_service.specs.Served.{IsFetched, IsHanded, IsLetIn, HaveOneContext, EndsSo, IsAnsweredBack, IsShown}
use Rattle.krb_laws_service.proofs.CheckLemmas.{set_is, in_range_is, reached_is}
use Rattle.krb_laws_service.proofs.FetchedLemmas.{initiator-turns, handed-in}

drawn_in_range : (event : Event) → IsDraw (draw_of event) → nat_le event.moment last_moment ≡ true
drawn_in_range event is = le-leb event.moment last_moment is.moment

same_token : (status : SecurityStatus) (s t : List ℕ) (answer : Result Taken Cause) → answer ≡ Ok (taken.Done status s true) → answer ≡ Ok (taken.Done status t true) → s ≡ t
same_token status s t answer p q = let e : ◌≡◌ {A = Result Taken Cause} (Ok (taken.Done status s true)) (Ok (taken.Done status t true)) = sym p ∙ q in cc

-- ---- a token at an acceptor

module _ {G : Type 0} (admits : G → Ask → Verdict → G → Type 0) where
  reaches_it : (state after : State G) (event : Event) (reply : Reply) (acceptor next : Connection) (token : List ℕ) (bare : Bool) → acceptor.exchange ≡ None → is_acceptor acceptor.context ≡ true
      → IsHanded admits token bare state event reply after acceptor next → reached state.connections event ≡ Ok (acceptor, token)
  reaches_it state after event reply acceptor next token bare free role h =
      reached_is state.connections event acceptor (drawn_in_range event h.draw) h.answered.there token free role (ap input_token h.input_is)

  judges_it : (state after : State G) (event : Event) (reply : Reply) (acceptor next : Connection) (token : List ℕ) (bare : Bool) → acceptor.exchange ≡ None → is_acceptor acceptor.context ≡ true
      → IsHanded admits token bare state event reply after acceptor next → Judges admits state event acceptor token reply after
  judges_it state after event reply acceptor next token bare free role h =
      token-step admits state event acceptor token reply after (reaches_it state after event reply acceptor next token bare free role h) h.answered.steps

  -- the reply, and the connection after it
  record Tells (connection next : Connection) (server : Kerberos) (reply : Reply) (status : SecurityStatus) (token : List ℕ) (admitting : Bool) : Type 0 where
    reply_is : reply ≡ Done status token admitting
    next_is : next ≡ record connection { context = server }

  tells_it : (state after : State G) (event : Event) (reply : Reply) (acceptor next : Connection) (token said : List ℕ) (bare : Bool) (status : SecurityStatus) (admitting : Bool)
      → IsHanded admits token bare state event reply after acceptor next → (j : Judges admits state event acceptor token reply after) → j.answer ≡ Ok (taken.Done status said admitting)
      → Tells acceptor next j.server reply status said admitting
  tells_it state after event reply acceptor next token said bare status admitting h j is =
      let S : Result Taken Cause → Type 0 = λ a. Settles (draw_of event) (record acceptor { context = j.server }) (told Elsewhere a) reply j.next in
      let s = subst S is j.settles in
      record { reply_is = s.0; next_is = set_is state.connections after.connections event.connection acceptor j.next next j.connections h.answered.there h.answered.behind ∙ s.1 }

-- ---- both ends

module _ {G : Type 0} (admits : G → Ask → Verdict → G → Type 0) (initiator acceptor : Connection) (flags : ClientRequestFlags) (env : Env) (target service_key : List ℕ) (credentials : CredentialsBuffers) (client : Client) (suite : CipherSuite) (answers : Answers) (rep : TgsRep) (part : EncTicketPart) (draw : Draw) where
  abbrev options : InitOptions
  options = options_of initiator env flags []

  abbrev seeker : Seeker
  seeker = seeker_for initiator.context options target credentials client

  -- the user name by which the acceptor knows its client
  abbrev user : Option UserName
  user = user_of acceptor.context.rules part.cname part.crealm

  module _ (can : CanBegin initiator.context options target credentials client) (kdcs : AreHonestKdcs seeker suite service_key draw answers rep part) (holds : HoldsKey acceptor.context target service_key) (fits : FitsRules acceptor.context.rules part) (unbound : channel_held acceptor.context ≡ None) (are_new : AreNew initiator.context acceptor.context) (initiator_free : initiator.exchange ≡ None) (acceptor_free : acceptor.exchange ≡ None) (end : EndsWithOffer initiator.context seeker service_key suite draw answers rep part) where
    -- the initiator after it has sent its token
    abbrev shown : Connection
    shown = record initiator { context = settled initiator.context end.done.change; exchange = None }

    record Waits (reply : Reply) (waiting : Connection) : Type 0 where
      reply_is : reply ≡ Done ContinueNeeded end.done.token false
      waiting_is : waiting ≡ shown

    fetched : (reply : Reply) (waiting : Connection) → IsFetched admits flags env draw answers initiator reply waiting → Waits reply waiting
    fetched reply waiting f =
        let O : Env → ClientRequestFlags → InitOptions = λ e g. options_of initiator e g [] in
        let same : options_of initiator f.state.env f.event.flags [] ≡ options = ap (λ (e : Env). O e f.event.flags) f.env_is ∙ ap (O env) f.flags_are in
        let begins = subst (λ (o : InitOptions). BeginsInitiation initiator.context o (Ok (Seeks seeker))) (sym same) (seeker_begins initiator.context options target credentials client can) in
        let first = Asks end.fetches.request end.fetches.phase in
        let starts = subst (λ (d : Draw). Starts (Seeks seeker) New d (Ok first)) (sym f.brought.draw_is) end.fetches.starts in
        let hearing : token_heard initiator.context.state f.event.input ≡ Ok [] =
        ap (λ (i : Input). token_heard initiator.context.state i) f.brought.input_is ∙ ap (λ (s : KerberosState). token_heard s Start) can.state in
        let came = initiator-turns admits f.state f.after f.event f.asked initiator f.waiting [] (Seeks seeker) first f.answered (in_range_is f.event draw f.brought.draw_is f.brought.in_range)
        initiator_free can.role (ap is_call f.brought.input_is) (ap answer_of f.brought.input_is) hearing begins starts in
        let waits = came.made.2 in
        let ends = handed-in admits seeker answers.last end.done (steps_of answers) f.waiting f.nearly waiting came.later end.fetches.phase reply
        (ap (λ (c : Connection). c.exchange) waits) came.stays came.made.1 end.fetches.leads f.handed_in f.last_reply in
        let F : Connection → Connection = λ c. record c { context = settled c.context end.done.change; exchange = None } in
        record { reply_is = ends.reply_is ∙ ap (λ (s : SecurityStatus). Done s end.done.token false) end.status; waiting_is = ends.final_is ∙ ap F waits }

    meets : MeetsChannel (channel_held acceptor.context) options.channel_bindings
    meets = subst (λ (held : Option (List ℕ)). MeetsChannel held None) (sym unbound) tt

    is_for : IsFor acceptor.context user end.offer
    is_for =
        let serves = (served seeker suite kdcs.as_rep.0.crealm service_key kdcs.known answers.referrals answers.last rep part kdcs.honest).1 in record {
          waits = holds.waits;
          properties = holds.properties;
          has = holds.has;
          key = service_key;
          holds = ap (λ (t : Ticket). key_of_service holds.properties t.sname.name_string) end.ticket ∙ ap (key_of_service holds.properties) serves.named ∙ holds.holds;
          honest = end.honest;
          fits = subst (λ (p : EncTicketPart). FitsRules acceptor.context.rules p) (sym end.part_is) fits;
          bound =
              subst (λ (c : Option Checksum). IsBoundTo (channel_held acceptor.context) c) (sym end.cksum) (bound_to (channel_held acceptor.context) options.channel_bindings options.flags.0 meets);
          client_is = ap (λ (p : EncTicketPart). user_of acceptor.context.rules p.cname p.crealm) end.part_is;
        }

    judging : is_acceptor acceptor.context ≡ true
    judging = ap (λ (s : Option ServerProperties). is_some s) holds.has

    -- the acceptor's step, at the initiator's token
    module _ (state after : State G) (event : Event) (answer : Reply) (next : Connection) (handed : IsHanded admits end.done.token (is_bare flags) state event answer after acceptor next) (let_in : IsLetIn admits state event after) where
      j : Judges admits state event acceptor end.done.token answer after
      j = judges_it admits state after event answer acceptor next end.done.token (is_bare flags) acceptor_free judging handed

      accepts : AcceptsWhole admits acceptor.context (is_bare flags) end.done.token state.env (draw_of event) state.gate j.answer j.server after.gate
      accepts = subst (λ (b : Bool). AcceptsWhole admits acceptor.context b end.done.token state.env (draw_of event) state.gate j.answer j.server after.gate) handed.style j.accepts

      brings : Brings state.connections event (request_of end.offer)
      brings =
          let B : Bool → List ℕ → Type 0 = λ b t. BeginsAdmission acceptor.context b t (Ok (request_of end.offer)) in
          let begun : B (is_bare event.flags) end.done.token =
          subst (λ (b : Bool). B b end.done.token) (end.style ∙ sym handed.style) (subst (B end.offer.dce) (sym end.token) (request_begins acceptor.context user end.offer is_for)) in
          record {
            connection = acceptor;
            token = end.done.token;
            reaches = reaches_it admits state after event answer acceptor next end.done.token (is_bare flags) acceptor_free judging handed;
            begun = begun;
          }

      only : AdmitsOnly admits state.gate (ask_of acceptor.context.rules (request_of end.offer) event.moment) after.gate
      unfolding brings
      only = let_in (request_of end.offer) brings

      ends_well : (more : InitOptions) (own : Draw) → is_bare more.flags ≡ is_bare flags → IsDraw own
          → EndsWellIn (is_bare flags) admits (settled initiator.context end.done.change) j.server more own (draw_of event) end.offer j.answer
      ends_well more own same drawn =
          reach initiator.context acceptor.context j.server options more target service_key credentials client suite answers rep part state.env draw own (draw_of event) admits state.gate after.gate j.answer
          same kdcs holds fits meets are_new drawn handed.draw end accepts only

      settled_so : j.server ≡ admitted acceptor.context (admission_for acceptor.context (draw_of event) user end.offer)
      settled_so =
          let A : Bool → List ℕ → Type 0 = λ b t. AcceptsWhole admits acceptor.context b t state.env (draw_of event) state.gate j.answer j.server after.gate in
          let step : A end.offer.dce (offered_token end.offer) = subst (λ (b : Bool). A b (offered_token end.offer)) (sym end.style) (subst (A (is_bare flags)) end.token accepts) in
          let is = is_answered admits acceptor.context j.server state.env (draw_of event) user end.offer state.gate after.gate j.answer is_for step in
          is.made (only is.verdict is.asked)

      -- the context is an acceptor still, with the EC that it had
      still : is_acceptor j.server ≡ true
      unfolding admitted mutual_admission
      still = ap is_acceptor settled_so ∙ ap (λ (s : Option ServerProperties). is_some (with_client s user)) holds.has

      filler_stays : j.server.encryption_params.ec ≡ acceptor.context.encryption_params.ec
      unfolding admitted
      filler_stays = ap (λ (k : Kerberos). k.encryption_params.ec) settled_so

      -- the suite and the keys by their names
      by_name : (x y : Connection) (ec filler : ℕ) → ec ≡ filler → AreEstablishedBy end.offer (draw_of event) ec x.context y.context → x.exchange ≡ None → y.exchange ≡ None → HaveOneContext suite part (draw_of event) filler x y
      by_name x y ec filler same are free also =
          let P : CipherSuite → EncTicketPart → ℕ → Type 0 = λ s p n. AreEstablished x.context y.context s p.key.key_value (drawn_key s (draw_of event)) n in
          (subst (λ (s : CipherSuite). P s part filler) end.suite_is (subst (λ (p : EncTicketPart). P end.offer.suite p filler) end.part_is (subst (P end.offer.suite end.offer.part) same are)), free, also)

      record Said (bare : Bool) : Type 0 where
        token : List ℕ
        is : j.answer ≡ Ok (taken.Done (if bare then ContinueNeeded else Complete) token true)

      said : (bare : Bool) (more : InitOptions) (own : Draw) → EndsWellIn bare admits (settled initiator.context end.done.change) j.server more own (draw_of event) end.offer j.answer → Said bare
      said true more own e = record { token = e.taken.token; is = e.taken.answered }
      said false more own e = record { token = e.taken.token; is = e.taken.answered }

      -- the initiator's step, at the acceptor's token
      module _ (state' after' : State G) (event' : Event) (heard : Reply) (last : Connection) where
        record Ended (done : InitDone) : Type 0 where
          reply_is : heard ≡ Done Complete done.token false
          last_is : last ≡ record shown { context = settled shown.context done.change; exchange = None }

        hears_it : (bare : Bool) (token : List ℕ) (status : SecurityStatus) (done : InitDone) → IsHanded admits token bare state' event' heard after' shown last
            → j.answer ≡ Ok (taken.Done status token true) → IsTaken shown.context (options_of shown state'.env event'.flags token) (draw_of event') status j.answer done → Ended done
        hears_it bare token status done h is t =
            let more = options_of shown state'.env event'.flags token in
            let same = same_token status t.token token j.answer t.answered is in
            let begins = subst (λ (s : List ℕ). BeginsInitiation shown.context (record more { token = s }) (Ok t.hears.initiation)) same t.hears.begins in
            let hearing : token_heard shown.context.state event'.input ≡ Ok token = ap (λ (i : Input). token_heard shown.context.state i) h.input_is in
            let came = initiator-turns admits state' after' event' heard shown last token t.hears.initiation (Ends done) h.answered (drawn_in_range event' h.draw) refl end.offered.role
            (ap is_call h.input_is) (ap answer_of h.input_is) hearing begins t.hears.ends in
            record { reply_is = came.made.0 ∙ ap (λ (s : SecurityStatus). Done s done.token false) t.complete; last_is = came.made.1 }

        ends_so : (bare : Bool) (token : List ℕ) → next ≡ record acceptor { context = j.server } → IsHanded admits token bare state' event' heard after' shown last
            → j.answer ≡ Ok (taken.Done (if bare then ContinueNeeded else Complete) token true)
            → EndsWellIn bare admits shown.context j.server (options_of shown state'.env event'.flags token) (draw_of event') (draw_of event) end.offer j.answer
            → EndsSo admits suite part acceptor.context.encryption_params.ec bare (draw_of event) heard last next
        ends_so false token next_is h is e =
            let t = hears_it false token Complete e.done h is e.taken in
            let H : Connection → Connection → Type 0 = λ x y. HaveOneContext suite part (draw_of event) acceptor.context.encryption_params.ec x y in
            let here = record shown { context = settled shown.context e.done.change; exchange = None } in
            let there = record acceptor { context = j.server } in (
              t.reply_is ∙ ap (λ (s : List ℕ). Done Complete s false) e.nothing,
              subst (λ (x : Connection). H x next) (sym t.last_is) (subst (H here) (sym next_is) (by_name here there j.server.encryption_params.ec acceptor.context.encryption_params.ec filler_stays e.established refl acceptor_free)),
            )
        ends_so true token next_is h is e =
            let t = hears_it true token ContinueNeeded e.done h is e.taken in (
              e.done.token,
              t.reply_is,
              λ state'' after'' event'' end_reply ended h''.
                  let free : next.exchange ≡ None = ap (λ (c : Connection). c.exchange) next_is ∙ acceptor_free in
                  let role : is_acceptor next.context ≡ true = ap (λ (c : Connection). is_acceptor c.context) next_is ∙ still in
                  let k = judges_it admits state'' after'' event'' end_reply next ended e.done.token true free role h'' in
                  let A : Bool → Kerberos → Type 0 = λ b c. AcceptsWhole admits c b e.done.token state''.env (draw_of event'') state''.gate k.answer k.server after''.gate in
                  let accepts'' : A true j.server = subst (A true) (ap (λ (c : Connection). c.context) next_is) (subst (λ (b : Bool). A b next.context) h''.style k.accepts) in
                  let too = e.last state''.env (draw_of event'') state''.gate after''.gate k.answer k.server accepts'' in
                  let tells = tells_it admits state'' after'' event'' end_reply next ended e.done.token [] true Complete false h'' k too.answered in
                  let H : Connection → Connection → Type 0 = λ x y. HaveOneContext suite part (draw_of event) 16 x y in
                  let here = record shown { context = settled shown.context e.done.change; exchange = None } in
                  (tells.reply_is, subst (λ (x : Connection). H x ended) (sym t.last_is) (subst (H here) (sym tells.next_is) (by_name here (record next { context = k.server }) 16 16 refl too.established refl free))),
            )

      answered_back : IsAnsweredBack admits suite part acceptor.context.encryption_params.ec (is_bare flags) (draw_of event) answer shown next
      answered_back =
          let s = said (is_bare flags) options (draw_of event) (ends_well options (draw_of event) refl handed.draw) in
          let tells = tells_it admits state after event answer acceptor next end.done.token s.token (is_bare flags) (if is_bare flags then ContinueNeeded else Complete) true handed j s.is in
          record {
            token = s.token;
            told = tells.reply_is;
            on = λ state' after' event' heard last h.
                ends_so state' after' event' heard last (is_bare flags) s.token tells.next_is h s.is (ends_well (options_of shown state'.env event'.flags s.token) (draw_of event') h.style h.draw);
          }

    shown_so : (reply : Reply) (waiting : Connection) → IsFetched admits flags env draw answers initiator reply waiting → IsShown admits suite part acceptor.context.encryption_params.ec (is_bare flags) reply waiting acceptor
    shown_so reply waiting f =
        let w = fetched reply waiting f in
        let on : (state after : State G) (event : Event) (answer : Reply) (next : Connection) → IsHanded admits end.done.token (is_bare flags) state event answer after acceptor next
        → IsLetIn admits state event after → IsAnsweredBack admits suite part acceptor.context.encryption_params.ec (is_bare flags) (draw_of event) answer waiting next =
        λ state after event answer next handed let_in. subst (λ (c : Connection). IsAnsweredBack admits suite part acceptor.context.encryption_params.ec (is_bare flags) (draw_of event) answer c next) (sym w.waiting_is) (answered_back state after event answer next handed let_in) in
        record { token = end.done.token; told = w.reply_is; on = on }

  pub both-by-events : (reply : Reply) (waiting : Connection) → CanBegin initiator.context options target credentials client → AreHonestKdcs seeker suite service_key draw answers rep part → IsDraw answers.last.draw
      → HoldsKey acceptor.context target service_key → FitsRules acceptor.context.rules part → channel_held acceptor.context ≡ None → AreNew initiator.context acceptor.context → initiator.exchange ≡ None → acceptor.exchange ≡ None
      → IsFetched admits flags env draw answers initiator reply waiting → IsShown admits suite part acceptor.context.encryption_params.ec (is_bare flags) reply waiting acceptor
  both-by-events reply waiting can kdcs drawn holds fits unbound are_new initiator_free acceptor_free f =
      let asks = asks_mutual initiator.context options target credentials client can in
      let end = ends_with_offer seeker suite service_key draw answers rep part kdcs asks drawn initiator.context can.role in
      shown_so can kdcs holds fits unbound are_new initiator_free acceptor_free end reply waiting f
