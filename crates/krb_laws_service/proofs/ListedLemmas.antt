-- One list of events brings both ends to one context.
use Rattle.std.proofs.Common.{◌≡◌, ℕ, Bool, true, false, List, [], ◌∷◌, Option, Some, Ok, refl, sym, ap, ◌∙◌, subst}
use Rattle.std.specs.Prelude.{◌==◌, nat_le, is_none, if◌then◌else◌}
use Rattle.krb_ap.specs.Initiators.{is_bare}
use Rattle.krb_admission.specs.Requests.{ask_of}
use Rattle.krb_as.specs.declared.client.Client.{Client}
use Rattle.krb_context.specs.declared.server.ServerProperties.{ServerProperties}
use Rattle.krb_crypto.specs.declared.suite.CipherSuite.{CipherSuite}
use Rattle.krb_laws_ends.specs.Answers.{AdmitsOnly}
use Rattle.krb_exchange.specs.declared.kdc_rep.TgsRep.{TgsRep}
use Rattle.krb_machine.specs.Policy.{State, Steps, TakesPart, Brings, check, ◌>>=◌, reached, heard, awaited, input_token, is_initiating, Runs}
use Rattle.krb_machine.specs.declared.connection.Connection.{Connection}
use Rattle.krb_machine.specs.declared.reply.Reply.{Reply}
use Rattle.krb_machine.specs.declared.reply.Reply.TheVariants.{Done}
use Rattle.krb_messages.specs.declared.enc_ticket_part.EncTicketPart.{EncTicketPart}
use Rattle.krb_laws_origin.proofs.PlaceLemmas.{freed, judges}
use Rattle.krb_replay.specs.declared.ask.Ask.{Ask}
use Rattle.krb_replay.specs.declared.ask.Verdict.{Verdict}
use Rattle.krb_script.specs.Script.{at_id}
use Rattle.krb_script.specs.declared.input.Input.TheVariants.{Token, Start, KdcReply}
use Rattle.krb_script.specs.declared.item.Event.{Event}
use Rattle.sspi_core.specs.Checks.{ok_or}
use Rattle.sspi_core.specs.Moments.{last_moment}
use Rattle.sspi_core.specs.declared.cause.Cause.TheVariants as causes
use Rattle.sspi_core.specs.declared.identity.CredentialsBuffers.{CredentialsBuffers}
use Rattle.sspi_core.specs.declared.results.SecurityStatus.TheVariants.{Ok as Complete, ContinueNeeded}
use Rattle.krb_laws_service.specs.Served.{IsFetched, IsHanded, IsLetIn, EndsSo, IsAnsweredBack, IsShown}
use Rattle.krb_laws_service.specs.Listed.{Exchanged, event_at, token_in, replies_of, handing, events_of, closing_of, AreReady, CanOnlyAdmit, EndsPlainly, EndsInTurn}
use Rattle.krb_laws_service.proofs.HandedLemmas.{both-by-events}
use Rattle.krb_laws_service.proofs.PlayedLemmas.{other-connections}
use Rattle.krb_laws_service.proofs.StandingLemmas.{differs_back, still_there, turn_keeps_gate, answer_keeps_gate}

-- the first checks of a token look only at its own connection
reached_same : (one other : List (ℕ × Connection)) (event : Event) → at_id event.connection one ≡ at_id event.connection other → reached one event ≡ reached other event
reached_same one other event same =
    ap (λ (found : Option Connection). ((check causes.Moment (nat_le event.moment last_moment) >>= (λ u. ok_or causes.Connection found)) >>= freed) >>= judges (input_token event.input)) same

module _ {G : Type 0} (admits : G → Ask → Verdict → G → Type 0) (before : State G) (e : Exchanged) (initiator acceptor : Connection) (target service_key : List ℕ)
    (credentials : CredentialsBuffers) (client : Client) (suite : CipherSuite) (rep : TgsRep) (part : EncTicketPart)
    (ready : AreReady before e initiator acceptor target service_key credentials client suite rep part) where
  abbrev started : Event
  started = event_at e.initiator e.flags e.start Start

  abbrev brings_error : Event
  brings_error = event_at e.initiator e.flags e.error.draw (KdcReply e.error.reply)

  abbrev brings_first : Event
  brings_first = event_at e.initiator e.flags e.first.draw (KdcReply e.first.reply)

  abbrev brings_last : Event
  brings_last = event_at e.initiator e.flags e.last.draw (KdcReply e.last.reply)

  abbrev heard_back : Reply → Event
  heard_back answered = event_at e.initiator e.flags e.ending (Token (token_in answered))

  abbrev closing : Reply → Event
  closing ended = event_at e.acceptor e.flags e.closing (Token (token_in ended))

  abbrev filler : ℕ
  filler = acceptor.context.encryption_params.ec

  back_apart : (e.acceptor == e.initiator) ≡ false
  back_apart = differs_back e.initiator e.acceptor ready.apart

  -- ---- the initiator has its ticket

  record Told (said : Reply) (now : State G) : Type 0 where
    waiting : Connection
    fetched : IsFetched admits e.flags before.env e.start (replies_of e) initiator said waiting
    initiates : at_id e.initiator now.connections ≡ Some waiting
    accepts : at_id e.acceptor now.connections ≡ Some acceptor
    gate_is : now.gate ≡ before.gate

  start_keeps : (one : State G) (asked : Reply) → Steps admits before started asked one → one.gate ≡ before.gate
  start_keeps one asked step =
      let T : Bool → Type 0 = λ b. TakesPart admits b before started asked one in
      turn_keeps_gate before one started asked (heard before.connections started) (subst T (ap is_initiating ready.initiates ∙ ap (λ (s : Option ServerProperties). is_none s) ready.can.role) step)

  tells : (one two three four : State G) (asked again wanted said : Reply) → Steps admits before started asked one → Steps admits one brings_error again two
      → Steps admits two brings_first wanted three → Steps admits three brings_last said four → Told said four
  tells one two three four asked again wanted said first_step second_step third_step fourth_step =
      let begun = still_there admits before one started asked initiator ready.initiates first_step in
      let second = still_there admits one two brings_error again begun.0 begun.1 second_step in
      let third = still_there admits two three brings_first wanted second.0 second.1 third_step in
      let fourth = still_there admits three four brings_last said third.0 third.1 fourth_step in
      record {
        waiting = fourth.0;
        fetched = record {
          event = started;
          brought = record { input_is = refl; draw_is = refl; in_range = ready.drawn.0.moment };
          flags_are = refl;
          state = before;
          env_is = refl;
          after = one;
          asked = asked;
          waiting = begun.0;
          answered = record { steps = first_step; there = ready.initiates; behind = begun.1 };
          nearly = third.0;
          handed_in = (
            again,
            second.0,
            record {
              event = brings_error;
              brought = record { input_is = refl; draw_is = refl; in_range = ready.drawn.1.0.moment };
              state = one;
              after = two;
              answered = record { steps = second_step; there = begun.1; behind = second.1 };
            },
            (
              wanted,
              third.0,
              record {
                event = brings_first;
                brought = record { input_is = refl; draw_is = refl; in_range = ready.drawn.1.1.0.moment };
                state = two;
                after = three;
                answered = record { steps = third_step; there = second.1; behind = third.1 };
              },
              refl,
            ),
          );
          last_reply = record {
            event = brings_last;
            brought = record { input_is = refl; draw_is = refl; in_range = ready.drawn.1.1.1.0.moment };
            state = three;
            after = four;
            answered = record { steps = fourth_step; there = third.1; behind = fourth.1 };
          };
        };
        initiates = fourth.1;
        accepts =
            other-connections admits three four brings_last said e.acceptor fourth_step ready.apart
            ∙ (other-connections admits two three brings_first wanted e.acceptor third_step ready.apart
            ∙ (other-connections admits one two brings_error again e.acceptor second_step ready.apart
            ∙ (other-connections admits before one started asked e.acceptor first_step ready.apart ∙ ready.accepts)));
        gate_is =
            answer_keeps_gate three four brings_last said (awaited three.connections brings_last) (Ok e.last.reply) fourth_step
            ∙ (answer_keeps_gate two three brings_first wanted (awaited two.connections brings_first) (Ok e.first.reply) third_step
            ∙ (answer_keeps_gate one two brings_error again (awaited one.connections brings_error) (Ok e.error.reply) second_step
            ∙ start_keeps one asked first_step));
      }

  -- ---- the tokens are delivered

  module _ (said : Reply) (four : State G) (told : Told said four) (let_in : CanOnlyAdmit admits before (handing e said)) where
    shown : IsShown admits suite part filler (is_bare e.flags) said told.waiting acceptor
    shown =
        both-by-events admits initiator acceptor e.flags before.env target service_key credentials client suite (replies_of e) rep part e.start said told.waiting
        ready.can ready.honest ready.drawn.1.1.1.0 ready.holds ready.fits ready.unbound ready.are_new ready.initiator_free ready.acceptor_free told.fetched

    said_is : said ≡ Done ContinueNeeded (token_in said) false
    said_is = shown.told ∙ ap (λ (r : Reply). Done ContinueNeeded (token_in r) false) (sym shown.told)

    module _ (five : State G) (answered : Reply) (step : Steps admits four (handing e said) answered five) where
      record Admitted : Type 0 where
        accepting : Connection
        accepts : at_id e.acceptor five.connections ≡ Some accepting
        initiates : at_id e.initiator five.connections ≡ Some told.waiting
        back : IsAnsweredBack admits suite part filler (is_bare e.flags) e.accepting answered told.waiting accepting

      lets_in : IsLetIn admits four (handing e said) five
      lets_in request b =
          let same : reached before.connections (handing e said) ≡ reached four.connections (handing e said) =
          reached_same before.connections four.connections (handing e said) (ready.accepts ∙ sym told.accepts) in
          let brings : Brings before.connections (handing e said) request = record { connection = b.connection; token = b.token; reaches = same ∙ b.reaches; begun = b.begun } in
          subst (λ (g : G). AdmitsOnly admits g (ask_of b.connection.context.rules request e.accepting.moment) five.gate) (sym told.gate_is) (let_in request five.gate brings)

      admitted : Admitted
      admitted =
          let next = still_there admits four five (handing e said) answered acceptor told.accepts step in
          let handed : IsHanded admits shown.token (is_bare e.flags) four (handing e said) answered five acceptor next.0 = record {
            input_is = ap (λ (r : Reply). Token (token_in r)) shown.told;
            draw = ready.drawn.1.1.1.1.0;
            style = refl;
            answered = record { steps = step; there = told.accepts; behind = next.1 };
          } in
          record {
            accepting = next.0;
            accepts = next.1;
            initiates = other-connections admits four five (handing e said) answered e.initiator step back_apart ∙ told.initiates;
            back = shown.on four five (handing e said) answered next.0 handed lets_in;
          }

      answered_is : answered ≡ Done (if is_bare e.flags then ContinueNeeded else Complete) (token_in answered) true
      answered_is = admitted.back.told ∙ ap (λ (r : Reply). Done (if is_bare e.flags then ContinueNeeded else Complete) (token_in r) true) (sym admitted.back.told)

      module _ (six : State G) (ended : Reply) (last_step : Steps admits five (heard_back answered) ended six) where
        record Heard : Type 0 where
          ending : Connection
          initiates : at_id e.initiator six.connections ≡ Some ending
          accepts : at_id e.acceptor six.connections ≡ Some admitted.accepting
          ends : EndsSo admits suite part filler (is_bare e.flags) e.accepting ended ending admitted.accepting

        hears : Heard
        hears =
            let next = still_there admits five six (heard_back answered) ended told.waiting admitted.initiates last_step in
            let handed : IsHanded admits admitted.back.token (is_bare e.flags) five (heard_back answered) ended six told.waiting next.0 = record {
              input_is = ap (λ (r : Reply). Token (token_in r)) admitted.back.told;
              draw = ready.drawn.1.1.1.1.1.0;
              style = refl;
              answered = record { steps = last_step; there = admitted.initiates; behind = next.1 };
            } in
            record {
              ending = next.0;
              initiates = next.1;
              accepts = other-connections admits five six (heard_back answered) ended e.acceptor last_step ready.apart ∙ admitted.accepts;
              ends = admitted.back.on five six (heard_back answered) ended next.0 handed;
            }

        status_is : (bare : Bool) → is_bare e.flags ≡ bare → answered ≡ Done (if bare then ContinueNeeded else Complete) (token_in answered) true
        status_is bare style = subst (λ (b : Bool). answered ≡ Done (if b then ContinueNeeded else Complete) (token_in answered) true) style answered_is

        ends_as : (bare : Bool) → is_bare e.flags ≡ bare → EndsSo admits suite part filler bare e.accepting ended hears.ending admitted.accepting
        ends_as bare style = subst (λ (b : Bool). EndsSo admits suite part filler b e.accepting ended hears.ending admitted.accepting) style hears.ends

        plainly : is_bare e.flags ≡ false → EndsPlainly e suite part filler said answered ended six
        plainly style =
            let ends = ends_as false style in
            record {
              said_is = said_is;
              answered_is = status_is false style;
              ended_is = ends.0;
              meet = record { initiator = hears.ending; acceptor = admitted.accepting; initiates = hears.initiates; accepts = hears.accepts; have = ends.1 };
            }

        in_turn : is_bare e.flags ≡ true → (seven : State G) (closed : Reply) → Steps admits six (closing ended) closed seven → EndsInTurn e suite part said answered ended closed seven
        in_turn style seven closed step =
            let ends = ends_as true style in
            let next = still_there admits six seven (closing ended) closed admitted.accepting hears.accepts step in
            let handed : IsHanded admits ends.0 true six (closing ended) closed seven admitted.accepting next.0 = record {
              input_is = ap (λ (r : Reply). Token (token_in r)) ends.1;
              draw = ready.drawn.1.1.1.1.1.1.0;
              style = style;
              answered = record { steps = step; there = hears.accepts; behind = next.1 };
            } in
            let too = ends.2 six seven (closing ended) closed next.0 handed in
            record {
              said_is = said_is;
              answered_is = status_is true style;
              ended_is = ends.1 ∙ ap (λ (r : Reply). Done Complete (token_in r) false) (sym ends.1);
              closed_is = too.0;
              meet = record {
                initiator = hears.ending;
                acceptor = next.0;
                initiates = other-connections admits six seven (closing ended) closed e.initiator step back_apart ∙ hears.initiates;
                accepts = next.1;
                have = too.1;
              };
            }

  -- ---- as runs

  pub plain-run : (after : State G) (asked again wanted said answered ended : Reply) → CanOnlyAdmit admits before (handing e said) → is_bare e.flags ≡ false
      → Runs admits before (events_of e said answered []) (asked ∷ again ∷ wanted ∷ said ∷ answered ∷ ended ∷ []) after → EndsPlainly e suite part filler said answered ended after
  plain-run after asked again wanted said answered ended let_in style run =
      let two = run.2 in
      let three = two.2 in
      let four = three.2 in
      let five = four.2 in
      let six = five.2 in
      let told = tells run.0 two.0 three.0 four.0 asked again wanted said run.1 two.1 three.1 four.1 in
      subst (λ (s : State G). EndsPlainly e suite part filler said answered ended s) (sym six.2) (plainly said four.0 told let_in five.0 answered five.1 six.0 ended six.1 style)

  pub dce-run : (after : State G) (asked again wanted said answered ended closed : Reply) → CanOnlyAdmit admits before (handing e said) → is_bare e.flags ≡ true
      → Runs admits before (events_of e said answered (closing_of e ended)) (asked ∷ again ∷ wanted ∷ said ∷ answered ∷ ended ∷ closed ∷ []) after
      → EndsInTurn e suite part said answered ended closed after
  dce-run after asked again wanted said answered ended closed let_in style run =
      let two = run.2 in
      let three = two.2 in
      let four = three.2 in
      let five = four.2 in
      let six = five.2 in
      let seven = six.2 in
      let told = tells run.0 two.0 three.0 four.0 asked again wanted said run.1 two.1 three.1 four.1 in
      subst (λ (s : State G). EndsInTurn e suite part said answered ended closed s) (sym seven.2)
      (in_turn said four.0 told let_in five.0 answered five.1 six.0 ended six.1 style seven.0 closed seven.1)
