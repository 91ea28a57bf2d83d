-- An exchange ends well, in either style.
use Rattle.std.proofs.Common.{◌≡◌, ℕ, ◌+◌, ◌<◌, ◌≤◌, ◌^◌, ◌%◌, Bool, true, false, List, length, take, Option, option_map, refl, sym, subst, ap, ◌∙◌, arith, lit<, Result, Ok, Err}
use Rattle.std.specs.Prelude.{Some, None, is_some, is_none, nat_le, ◌&&◌, ◌||◌, if◌then◌else◌}
use Rattle.std.proofs.lemmas.Bool.{le-leb}
use Rattle.std.proofs.lemmas.List.{length-take-le}
use Rattle.krb_der.specs.Layout.{spelling}
use Rattle.krb_crypto.specs.Sealed.{sealed}
use Rattle.krb_crypto.specs.declared.suite.CipherSuite.{CipherSuite}
use Rattle.krb_crypto.proofs.CtsInjective.{IsOctets-take}
use Rattle.krb_messages.specs.Layouts.{ap_rep_layout, enc_ap_rep_part_layout}
use Rattle.krb_messages.specs.declared.ap_rep.EncApRepPart.{EncApRepPart}
use Rattle.krb_conf.specs.declared.env.Env.{Env}
use Rattle.krb_exchange.specs.declared.user_to_user.TgtReq.{TgtReq}
use Rattle.krb_context.specs.declared.context.Kerberos.{Kerberos}
use Rattle.krb_context.specs.declared.server.ServerProperties.{ServerProperties}
use Rattle.krb_context.specs.declared.state.KerberosState.{KerberosState}
use Rattle.krb_context.specs.declared.state.KerberosState.TheVariants.{ApExchange}
use Rattle.krb_context.specs.Contexts.{with_key, next_number, settled as with_change}
use Rattle.krb_context.specs.Rules.{has_rule, first_number_as_shown, third_leg_by_value}
use Rattle.sspi_core.proofs.Chain.{takes_some, holds_true, halts, follows}
use Rattle.krb_replay.specs.declared.ask.Ask.{Ask}
use Rattle.krb_replay.specs.declared.ask.Verdict.{Verdict}
use Rattle.krb_replies.specs.Answered.{TellsNumber}
use Rattle.krb_requests.specs.Pieces.{whole_second}
use Rattle.krb_authenticators.specs.Authenticators.{microseconds}
use Rattle.krb_as.specs.declared.done.InitDone.{InitDone}
use Rattle.krb_ap.specs.Initiators.{is_bare}
use Rattle.krb_ap.specs.Answered.{last_word}
use Rattle.krb_initiator.specs.declared.options.InitOptions.{InitOptions}
use Rattle.krb_admission.specs.declared.admission.Admission.{Admission}
use Rattle.krb_admission.specs.declared.request.Request.{Request}
use Rattle.krb_admission.specs.Accepts.{BeginsAdmission, Asks, Ends, awaits_last_word}
use Rattle.krb_context.specs.Drawn.{drawn_key}
use Rattle.krb_admission.specs.Admission.{ap_rep_with, ap_rep_part, next_number_octets, mutual_admission, with_client, answer_for, settled}
use Rattle.krb_admission.specs.Requests.{ask_of}
use Rattle.krb_replies.specs.Fresh.{has_value}
use Rattle.krb_admission.specs.ThirdLeg.{ReadsApRep, TellsLast, repeats, IsLastWord, concluded, last_answer, Concludes}
use Rattle.krb_admission.proofs.Once.{begins_once, concludes_once}
use Rattle.krb_server.specs.declared.accept.Accepted.{Accepted}
use Rattle.krb_server.specs.TgtReqs.{Found, may_begin, BeginsUserToUser}
use Rattle.krb_server.specs.Whole.{accepted_as, answered_as, AcceptsToken, AcceptsWhole}
use Rattle.sspi_core.specs.declared.cause.Cause.{Cause}
use Rattle.sspi_core.specs.declared.cause.Cause.TheVariants.{Sequence, Shape, Number}
use Rattle.sspi_core.specs.declared.draw.Draw.{Draw}
use Rattle.sspi_core.specs.Usernames.{UserName}
use Rattle.krb_laws_ends.specs.Answers.{AdmitsOnly, IsDraw, Offered, AreNew, AreEstablishedBy, EndsWell, IsTakenToo, EndsWellInTurn, EndsWellIn}
use Rattle.krb_laws_ends.specs.Offers.{Offer, request_of, offered_token, IsFor}
use Rattle.krb_laws_ends.proofs.AnswerLemmas.{made, done_in, hears, moment_time, time_short}
use Rattle.krb_laws_ends.proofs.HonestLemmas.{is_answered, same_octets}
use Rattle.krb_laws_ends.proofs.OctetsLemmas.{IsOctets-time, short-word}
use Rattle.krb_laws_ends.proofs.RepLemmas.{IsReadable, readable}

-- an end's sequence number after the exchange, whether it stays or rises
settled_small : (stays : Bool) (number : ℕ) → number < 2 ^ 32 → (if stays then number else next_number number) < 2 ^ 32
settled_small true number h = h
settled_small false number h = omega arith

module _ (server : Kerberos) (draw : Draw) (client : Option UserName) (offer : Offer) (for_it : IsFor server client offer) (is : IsDraw draw) (initiator : Kerberos) (options : InitOptions) (own : Draw) (offered : Offered initiator offer) where
  abbrev admission : Bool → Admission
  admission dce = made server draw client offer for_it is dce

  abbrev done : Bool → InitDone
  done dce = done_in server draw client offer for_it is initiator options own offered dce

  abbrev after : Bool → Kerberos
  after dce = with_change initiator (done dce).change

  abbrev subkey : List ℕ
  subkey = drawn_key offer.suite draw

  initiator_role : (change : Option (List ℕ)) → is_some (option_map (with_key change) initiator.server) ≡ false
  initiator_role change = ap (λ (s : Option ServerProperties). is_some (option_map (with_key change) s)) offered.role

  initiator_peer : (change : Option (List ℕ)) → is_none (option_map (with_key change) initiator.server) ≡ true
  initiator_peer change = ap (λ (s : Option ServerProperties). is_none (option_map (with_key change) s)) offered.role

  acceptor_role : is_some (with_client server.server client) ≡ true
  acceptor_role = ap (λ (s : Option ServerProperties). is_some (with_client s client)) for_it.has

  acceptor_peer : is_none (with_client server.server client) ≡ false
  acceptor_peer = ap (λ (s : Option ServerProperties). is_none (with_client s client)) for_it.has

  -- ---- framed tokens

  established : AreNew initiator server → AreEstablishedBy offer draw (settled server (admission false)).encryption_params.ec (after false) (settled server (admission false))
  unfolding settled mutual_admission
  established new = record {
    initiator_keys = record { state = refl; suite_is = offered.suite; session = offered.key; sub_session = refl; filler = new.filler };
    acceptor_keys = record { state = refl; suite_is = refl; session = refl; sub_session = refl; filler = refl };
    there = record { roles = initiator_role None ∙ sym acceptor_peer; key = refl; suite = offered.suite; filler = new.filler; small = omega (arith, new.filler, new.small) };
    back = record { roles = acceptor_role ∙ sym (initiator_peer None); key = refl; suite = sym offered.suite; filler = sym new.filler; small = new.small };
    unopened = record {
      filler = new.filler;
      small = new.small;
      initiator_number = settled_small (has_rule initiator.rules first_number_as_shown) initiator.seq_number new.initiator_number;
      acceptor_number = new.acceptor_number;
      initiator_window = new.initiator_window;
      acceptor_window = new.acceptor_window;
    };
  }

  made_well : is_bare options.flags ≡ false → AreNew initiator server
      → EndsWell initiator (settled server (admission false)) options own draw offer (Ok (accepted_as (answer_for (admission false))))
  unfolding mutual_admission
  made_well bare new = record {
    done = done false;
    taken = record {
      token = (admission false).token;
      answered = refl;
      hears = hears server draw client offer for_it is initiator options own offered false bare;
      complete = refl;
    };
    nothing = refl;
    established = established new;
  }

  -- ---- bare tokens

  abbrev acceptor : Kerberos
  acceptor = settled server (admission true)

  acceptor_state : acceptor.state ≡ ApExchange
  unfolding settled mutual_admission
  acceptor_state = refl

  established_in_turn : AreNew initiator server → AreEstablishedBy offer draw 16 (after true) (concluded acceptor)
  unfolding settled mutual_admission
  established_in_turn new = record {
    initiator_keys = record { state = refl; suite_is = offered.suite; session = offered.key; sub_session = refl; filler = refl };
    acceptor_keys = record { state = refl; suite_is = refl; session = refl; sub_session = refl; filler = refl };
    there = record { roles = initiator_role None ∙ sym acceptor_peer; key = refl; suite = offered.suite; filler = refl; small = lit< tt };
    back = record { roles = acceptor_role ∙ sym (initiator_peer None); key = refl; suite = sym offered.suite; filler = refl; small = lit< tt };
    unopened = record {
      filler = refl;
      small = lit< tt;
      initiator_number = new.initiator_number;
      acceptor_number = new.acceptor_number;
      initiator_window = new.initiator_window;
      acceptor_window = new.acceptor_window;
    };
  }

  -- the third leg
  abbrev number : List ℕ
  number = next_number_octets server.seq_number

  abbrev part : EncApRepPart
  part = ap_rep_part offer.suite (whole_second own.moment) (microseconds own.moment) number None

  abbrev cipher : List ℕ
  cipher = sealed offer.suite offer.part.key.key_value 12 (take 16 own.random) (spelling enc_ap_rep_part_layout part)

  abbrev word : List ℕ
  word = spelling ap_rep_layout (ap_rep_with offer.suite cipher)

  word_is : (done true).token ≡ word
  unfolding last_word
  word_is = ap (λ (s : CipherSuite). last_word s offer.part.key.key_value number own) offered.suite

  word_readable : IsDraw own → IsReadable offer.suite offer.part.key.key_value cipher part
  word_readable drawn =
      let time = moment_time own.moment drawn.moment in
      readable offer.suite offer.part.key.key_value (take 16 own.random) (whole_second own.moment) (microseconds own.moment) number None
      for_it.honest.ticket.session_key_fits (length-take-le 16 own.random (omega (arith, drawn.size))) (IsOctets-take 16 own.random drawn.octets)
      time (record { octets = IsOctets-time (whole_second own.moment) time; short = time_short (whole_second own.moment) })
      (lit< tt) (short-word (own.moment % 1000000)) (lit< tt) (short-word ((server.seq_number + 1) % 2 ^ 32)) tt

  word_read : IsDraw own → ReadsApRep word (Ok (ap_rep_with offer.suite cipher))
  unfolding ReadsApRep
  word_read drawn =
      let can = word_readable drawn in
      let small : length word ≤ 16777216 = omega (arith, can.short) in
      follows _ _ tt _ (holds_true Shape (nat_le (length word) 16777216) (le-leb (length word) 16777216 small)) (record { is = can.read })

  tells : IsDraw own → TellsNumber offer.suite offer.part.key.key_value (ap_rep_with offer.suite cipher) (Ok number)
  unfolding TellsNumber
  tells drawn = follows _ _ part _ (word_readable drawn).opens (record { is = refl })

  is_last_word : IsDraw own → IsLastWord acceptor word (Ok tt)
  unfolding IsLastWord TellsLast settled mutual_admission
  is_last_word drawn =
      let properties : ServerProperties = record for_it.properties { client = client } in
      let has : with_client server.server client ≡ Some properties = ap (λ (s : Option ServerProperties). with_client s client) for_it.has in
      follows _ _ properties _ (takes_some Sequence (with_client server.server client) properties has)
      (follows _ _ number _
      (follows _ _ (ap_rep_with offer.suite cipher) _ (word_read drawn)
      (follows _ _ offer.part.key.key_value _ (record { is = refl }) (tells drawn)))
      (holds_true Number (repeats server.rules server.seq_number number)
      (ap (λ (b : Bool). b || (has_rule server.rules third_leg_by_value && has_value (next_number server.seq_number) number)) (same_octets number))))

  concludes : IsDraw own → Concludes acceptor (done true).token (Ok last_answer) (concluded acceptor)
  concludes drawn = record {
    outcome = Ok tt;
    judged = subst (λ (t : List ℕ). IsLastWord acceptor t (Ok tt)) (sym word_is) (is_last_word drawn);
    closes = (refl, refl);
  }

  -- no AP-REQ may come any more, and no TGT-REQ
  begins_no_more : (token : List ℕ) → BeginsAdmission acceptor true token (Err Sequence)
  unfolding BeginsAdmission settled mutual_admission
  begins_no_more token = halts _ _ Sequence _ (record { is = refl }) refl

  no_tgt_req : (token : List ℕ) (state : KerberosState) → state ≡ ApExchange → (found : Option TgtReq) → Found (BeginsUserToUser true state token) found → found ≡ None
  no_tgt_req token state e None h = refl
  no_tgt_req token state e (Some tgt_req) h = let may = subst (λ (s : KerberosState). may_begin s token ≡ true) e h.may in absurd cc

  module _ {G : Type 0} (admits : G → Ask → Verdict → G → Type 0) where
    last_taken : AreNew initiator server → IsDraw own → (env : Env) (other : Draw) (old new : G) (answer : Result Accepted Cause) (end : Kerberos)
        → AcceptsWhole admits acceptor true (done true).token env other old answer end new → IsTakenToo (after true) draw offer old new answer end
    last_taken are_new drawn env other old new answer end step =
        let token : List ℕ = (done true).token in
        let none = no_tgt_req token acceptor.state acceptor_state step.tgt_req step.found in
        let judges = subst (λ (t : Option TgtReq). AcceptsToken admits acceptor true token env other old t answer end new) none step.made in
        let accepts = judges.accepts in
        let said : Concludes acceptor token judges.judged end =
        subst (λ (s : KerberosState). Ends (awaits_last_word true s) acceptor token accepts.outcome judges.judged end) acceptor_state accepts.made in
        let both = concludes_once acceptor token judges.judged (Ok last_answer) end (concluded acceptor) said (concludes drawn) in
        record {
          answered = judges.answer_is ∙ ap answered_as both.0;
          stays =
              subst (λ (r : Result Request Cause). Asks admits acceptor.rules other.moment old r accepts.verdict new)
              ((begins_once acceptor true token).same accepts.request (Err Sequence) accepts.begun (begins_no_more token)) accepts.gate;
          established = subst (λ (k : Kerberos). AreEstablishedBy offer draw 16 (after true) k) (sym both.1) (established_in_turn are_new);
        }

    made_well_in_turn : is_bare options.flags ≡ true → IsDraw own → AreNew initiator server
        → EndsWellInTurn admits initiator acceptor options own draw offer (Ok (accepted_as (answer_for (admission true))))
    unfolding mutual_admission
    made_well_in_turn bare drawn new = record {
      done = done true;
      taken = record {
        token = (admission true).token;
        answered = refl;
        hears = hears server draw client offer for_it is initiator options own offered true bare;
        complete = refl;
      };
      last = last_taken new drawn;
    }

    -- ---- over any gate

    module _ (server' : Kerberos) (env : Env) (old new : G) (answer : Result Accepted Cause) where
      pub ends_well : offer.dce ≡ false → is_bare options.flags ≡ false → AreNew initiator server → AcceptsWhole admits server false (offered_token offer) env draw old answer server' new
          → AdmitsOnly admits old (ask_of server.rules (request_of offer) draw.moment) new → EndsWell initiator server' options own draw offer answer
      ends_well style bare are_new step only =
          let here = is_answered admits server server' env draw client offer old new answer for_it
          (subst (λ (b : Bool). AcceptsWhole admits server b (offered_token offer) env draw old answer server' new) (sym style) step) in
          let verdict = only here.verdict here.asked in
          let said : answer ≡ Ok (accepted_as (answer_for (admission false))) = here.answered verdict ∙ ap (λ (b : Bool). Ok (accepted_as (answer_for (admission b)))) style in
          let is_now : server' ≡ settled server (admission false) = here.made verdict ∙ ap (λ (b : Bool). settled server (admission b)) style in
          let P : Result Accepted Cause → Kerberos → Type 0 = λ a s. EndsWell initiator s options own draw offer a in
          subst (λ (s : Kerberos). P answer s) (sym is_now) (subst (λ (a : Result Accepted Cause). P a (settled server (admission false))) (sym said) (made_well bare are_new))

      pub ends_well_in_turn : offer.dce ≡ true → is_bare options.flags ≡ true → IsDraw own → AreNew initiator server
          → AcceptsWhole admits server true (offered_token offer) env draw old answer server' new
          → AdmitsOnly admits old (ask_of server.rules (request_of offer) draw.moment) new → EndsWellInTurn admits initiator server' options own draw offer answer
      ends_well_in_turn style bare drawn are_new step only =
          let here = is_answered admits server server' env draw client offer old new answer for_it
          (subst (λ (b : Bool). AcceptsWhole admits server b (offered_token offer) env draw old answer server' new) (sym style) step) in
          let verdict = only here.verdict here.asked in
          let said : answer ≡ Ok (accepted_as (answer_for (admission true))) = here.answered verdict ∙ ap (λ (b : Bool). Ok (accepted_as (answer_for (admission b)))) style in
          let is_now : server' ≡ settled server (admission true) = here.made verdict ∙ ap (λ (b : Bool). settled server (admission b)) style in
          let P : Result Accepted Cause → Kerberos → Type 0 = λ a s. EndsWellInTurn admits initiator s options own draw offer a in
          subst (λ (s : Kerberos). P answer s) (sym is_now) (subst (λ (a : Result Accepted Cause). P a (settled server (admission true))) (sym said) (made_well_in_turn bare drawn are_new))

      pub ends_well_in : (dce : Bool) → offer.dce ≡ dce → is_bare options.flags ≡ dce → IsDraw own → AreNew initiator server
          → AcceptsWhole admits server dce (offered_token offer) env draw old answer server' new
          → AdmitsOnly admits old (ask_of server.rules (request_of offer) draw.moment) new → EndsWellIn dce admits initiator server' options own draw offer answer
      ends_well_in true style bare drawn are_new step only = ends_well_in_turn style bare drawn are_new step only
      ends_well_in false style bare drawn are_new step only = ends_well style bare are_new step only
