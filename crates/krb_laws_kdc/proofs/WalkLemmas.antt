-- KDCs that lead to a service bring a run to its end, by induction on the referrals.
use Rattle.std.proofs.Common.{◌≡◌, ℕ, suc, ◌+◌, ◌<◌, ◌≤◌, ◌^◌, true, false, List, [], ◌∷◌, length, Option, Some, None, refl, sym, subst, ap, ◌∙◌, arith, lit<, Result, Ok, Err}
use Rattle.std.specs.Prelude.{option_map}
use Rattle.krb_der.specs.Layout.{spelling}
use Rattle.url.specs.Parts.{Parts}
use Rattle.krb_aes.specs.Octets.{IsOctets}
use Rattle.krb_crypto.specs.Suite.{key_size}
use Rattle.krb_crypto.specs.declared.suite.CipherSuite.{CipherSuite}
use Rattle.krb_messages.specs.Table.{principal_name}
use Rattle.krb_messages.specs.Layouts.{principal_name_row, principal_name_layout}
use Rattle.krb_messages.specs.Frame.{with_length}
use Rattle.krb_messages.specs.declared.enc_ticket_part.EncTicketPart.{EncTicketPart}
use Rattle.krb_messages.specs.declared.principal_name.PrincipalName.{PrincipalName}
use Rattle.krb_exchange.specs.Layouts.{tgs_req_layout, tgs_rep_layout}
use Rattle.krb_exchange.specs.declared.kdc_rep.TgsRep.{TgsRep}
use Rattle.sspi_core.specs.declared.cause.Cause.TheVariants.{Memory}
use Rattle.sspi_core.specs.declared.draw.Draw.{Draw}
use Rattle.sspi_core.specs.declared.error.Error.{Error}
use Rattle.sspi_core.specs.declared.protocol.NetworkProtocol.{NetworkProtocol}
use Rattle.sspi_core.specs.Flags.{has_flag, use_session_key}
use Rattle.sspi_core.specs.Moments.{last_moment}
use Rattle.sspi_generator.specs.declared.network.NetFault.{NetFault}
use Rattle.sspi_generator.specs.declared.network.NetFault.TheVariants.{OutOfMemory}
use Rattle.sspi_generator.specs.declared.network.NetworkRequest.{NetworkRequest}
use Rattle.sspi_generator.specs.declared.task.GeneratorState.{GeneratorState}
use Rattle.sspi_generator.specs.declared.task.GeneratorState.TheVariants.{Suspended, Completed}
use Rattle.krb_as.specs.declared.kdc.Kdc.{Kdc as Address}
use Rattle.krb_as.specs.Kdcs.{FindsKdc}
use Rattle.krb_as.specs.Requests.{carried}
use Rattle.krb_context.specs.Rules.{has_rule, fresh_replies}
use Rattle.krb_replies.specs.Fresh.{grace}
use Rattle.krb_replies.specs.Keys.{facts_in}
use Rattle.krb_replies.specs.Realms.{referral_realm}
use Rattle.krb_requests.specs.Pieces.{principal as name_with}
use Rattle.krb_as.specs.declared.done.InitDone.{InitDone}
use Rattle.krb_as.specs.declared.turn.Turn.TheVariants.{Asks, Ends}
use Rattle.krb_as.specs.Turns.{IsWant}
use Rattle.krb_tgs.specs.Fresh.{question_of}
use Rattle.krb_tgs.specs.TgsAsked.{service_of, url_for, is_same_realm, tgs_req_for, tgs_request, drawn_nonce}
use Rattle.krb_ap.specs.Shown.{shown as shown_to}
use Rattle.krb_initiator.specs.declared.init_run.InitRun.{InitRun}
use Rattle.krb_initiator.specs.declared.seeker.Seeker.{Seeker}
use Rattle.krb_initiator.specs.declared.seeker.Initiation.TheVariants.{Seeks}
use Rattle.krb_initiator.specs.declared.seeker.InitPhase.{InitPhase}
use Rattle.krb_initiator.specs.declared.seeker.InitPhase.TheVariants.{AwaitsTgsRep}
use Rattle.krb_initiator.specs.InitRuns.{Next, ResumesAt}
use Rattle.krb_admission.specs.Allowed.{is_invalid, is_direct}
use Rattle.krb_laws_ends.specs.Answers.{IsDraw}
use Rattle.krb_laws_ends.specs.Fetches.{Leads}
use Rattle.krb_laws_ends.specs.HonestKdc.{Known, HasKdc, Refers, Serves, Step, AreHonest}
use Rattle.krb_laws_ends.proofs.FetchLemmas.{leg, refers, arrives}
use Rattle.krb_kdc.specs.declared.grant.Grant.{Grant}
use Rattle.krb_kdc.specs.declared.kdc.Kdc.{Kdc}
use Rattle.krb_kdc.specs.declared.tgs_req.Target.{Target}
use Rattle.krb_context.specs.Drawn.{drawn_key}
use Rattle.krb_kdc.specs.Grants.{ticket_part, ticket}
use Rattle.krb_kdc.specs.Nets.{Net, AnswersWith}
use Rattle.krb_kdc.specs.Requests.{granting}
use Rattle.krb_kdc.specs.TgsChecks.{ticket_key, target_of, served as served_by, routed, referral_to}
use Rattle.krb_kdc.proofs.Found.{principal_found, trust_found, key_of}
use Rattle.krb_laws_kdc.specs.Fetching.{IsTimely, AreTimely, Held, shown_of, granted, given, held_next, AreNextSizes, StandsAt, RefersTo, HasService, target_at, service_target, LeadsTo, SendsTo}
use Rattle.krb_laws_kdc.specs.Granting.{AreAscii, IsSoundGrant, IsSoundName, IsNextAnswer}
use Rattle.krb_laws_kdc.proofs.AddressLemmas.{address_realm}
use Rattle.krb_laws_kdc.proofs.ErrorLemmas.{short-sname}
use Rattle.krb_laws_kdc.proofs.NameLemmas.{AreNames, principal_names, name_sound, name_octets}
use Rattle.krb_laws_kdc.proofs.AskLemmas.{same_request}
use Rattle.krb_laws_kdc.proofs.FreshLemmas.{next_answer, not_granting}
use Rattle.krb_laws_kdc.proofs.HeldLemmas.{IsHeld, near, replied, service_short, next_sound, next_held}
use Rattle.krb_laws_kdc.proofs.NextLemmas.{refers_on, serves}
use Rattle.krb_laws_kdc.proofs.RepLemmas.{drawn_fits}
use Rattle.krb_laws_kdc.proofs.TicketLemmas.{lives, differ, next_key}
use Rattle.krb_laws_kdc.proofs.TurnLemmas.{IsTurned, Runs, resumed, no_memory, next_wants, IsAnswered, answered}

-- ---- what a KDC gives a ticket for

pub granting_sound : (realm : List ℕ) (draw : Draw) (suite : CipherSuite) → AreAscii realm None → draw.moment ≤ last_moment → IsSoundName (name_with 2 (granting realm))
unfolding principal_name principal_name_row
granting_sound realm draw suite ascii in_range =
    let short = short-sname suite realm draw None ascii in_range in
    record { sound = (lit< tt, ((refl, (ascii.realm_ascii, tt)), tt)); octets = short.octets; short = short.short }

has_target : (service : List (List ℕ)) (service_key : List ℕ) (kdc : Kdc) → HasService service service_key kdc
    → target_of kdc (Some (name_with 2 service)) ≡ Some (service_target service service_key)
has_target service service_key kdc has =
    ap (served_by kdc (name_with 2 service)) has.known
    ∙ ap (λ (key : List ℕ). Some (service_target service key)) has.key_is

refers_target : (service : List (List ℕ)) (kdc next : Kdc) (to : RefersTo service kdc next) → target_of kdc (Some (name_with 2 service)) ≡ Some (target_at to)
refers_target service kdc next to =
    ap (served_by kdc (name_with 2 service)) to.none
    ∙ (ap (routed kdc) to.routed ∙ ap (option_map (referral_to to.route.realm)) to.trusts)

-- ---- the run

-- what a run comes to, from where it awaits the reply of a ticket-granting service
pub record Comes (seeker : Seeker) (suite : CipherSuite) (home service_key : List ℕ) (out : Result InitDone Error) (known : Known) (hops count : ℕ) (crealm : List ℕ)
    (cname : PrincipalName) : Type 0 where
  pub steps : List Step
  pub last : Step
  pub rep : TgsRep
  pub part : EncTicketPart
  pub done : InitDone
  pub honest : AreHonest seeker home suite service_key known steps last rep part
  pub leads : Leads seeker (AwaitsTgsRep (leg seeker suite known home hops)) steps last done
  pub count_is : length steps ≡ count
  pub out_is : out ≡ Ok done
  pub last_is : IsDraw last.draw
  pub crealm_is : part.crealm ≡ crealm
  pub cname_is : part.cname ≡ cname
  pub valid : is_invalid part.flags.octets ≡ false
  pub direct : is_direct part.transited.contents ≡ true

-- a referral was taken, and the next request is underway
pub record IsReferred (seeker : Seeker) (suite : CipherSuite) (home : List ℕ) (known next_known : Known) (hops : ℕ) (message : List ℕ) (own : Draw) (request : NetworkRequest)
    (state : GeneratorState NetworkRequest (Result InitDone Error)) (next : InitRun) : Type 0 where
  pub refers : Refers seeker.asker seeker.wanted.target home suite known (record { reply = message; draw = own }) next_known
  pub leads : Next (Seeks seeker) (AwaitsTgsRep (leg seeker suite known home hops)) (Ok message) own (Ok (Asks request (AwaitsTgsRep (leg seeker suite next_known home (hops + 1)))))
  pub turned : IsTurned seeker (Ok (Asks request (AwaitsTgsRep (leg seeker suite next_known home (hops + 1))))) state next

module _ (seeker : Seeker) (pairs : List (List ℕ × Kdc)) (suite : CipherSuite) (home service_key : List ℕ) (start span : ℕ)
    (unset : has_flag seeker.wanted.flags.0 use_session_key ≡ false)
    (no_referral : referral_realm (name_with 2 (service_of seeker.wanted.target)) ≡ None)
    (fresh : has_rule seeker.asker.rules fresh_replies ≡ true → span ≤ grace)
    (out : Result InitDone Error) (run' : InitRun) (net' : Net) (wanting : IsWant out → ⊥) where
  abbrev known_of : Held → Address → Draw → Known
  known_of held address own = record { key = drawn_key suite held.draw; kdc = address; question = question_of held.rep own }

  abbrev payload : Held → Kdc → Draw → List ℕ
  payload held kdc own = with_length (spelling tgs_req_layout (tgs_req_for seeker.wanted (shown_of suite held) kdc.realm None own))

  abbrev request : Held → Address → Draw → NetworkRequest
  request held address own = tgs_request seeker.wanted (shown_of suite held) None own address

  module _ (held : Held) (kdc : Kdc) (url : Option Parts) (realm : List ℕ) (stands : StandsAt seeker.asker url suite span pairs realm kdc) (own next_own draw : Draw) (hops : ℕ)
      (h : IsHeld suite start held) (knows : ticket_key kdc (ticket suite held.realm held.draw held.grant) ≡ Some held.grant.key)
      (t : IsTimely start span own) (u : IsTimely start span draw) (run next : InitRun) (after : Net) (state : GeneratorState NetworkRequest (Result InitDone Error))
      (owns draws : List Draw) (is : run.initiation ≡ Seeks seeker) (phase : run.phase ≡ AwaitsTgsRep (leg seeker suite (known_of held stands.address own) home hops)) where
    abbrev known : Known
    known = known_of held stands.address own

    -- what the KDC grants is what was asked, and comes in time
    answers_it : (target : Target) → IsTimely start span next_own → has_rule seeker.asker.rules fresh_replies ≡ true
        → IsNextAnswer known.question stands.address.realm next_own.moment kdc.realm (drawn_nonce own) draw (granted suite seeker.wanted kdc held target own draw)
    unfolding ticket_part
    answers_it target v asks =
        let living = h.living in
        next_answer kdc seeker.wanted held.rep (ticket_part suite held.draw held.grant) own draw next_own.moment target t.is
        (near start span grace own draw t u (fresh asks)) (near start span grace next_own draw v u (fresh asks)) h.crealm_is h.cname_is
        (lives start span grace next_own.moment living.second held.grant.endtime living.is living.after v.upto (fresh asks))
        stands.address.realm (sym (address_realm stands))

    payload_is : (request held stands.address own).payload ≡ payload held kdc own
    unfolding tgs_request
    payload_is =
        ap (λ (p : NetworkProtocol). carried p stands.address.realm (spelling tgs_req_layout (tgs_req_for seeker.wanted (shown_of suite held) stands.address.realm None own))) stands.tcp
        ∙ ap (λ (r : List ℕ). with_length (spelling tgs_req_layout (tgs_req_for seeker.wanted (shown_of suite held) r None own))) (address_realm stands)

    sent : (net : Net) (reply : Result (List ℕ) NetFault) → net.pairs ≡ pairs → net.draws ≡ draw ∷ draws → SendsTo net (request held stands.address own) reply after
        → IsAnswered pairs kdc (payload held kdc own) draw draws reply after
    unfolding tgs_request
    sent net reply p q sends = answered pairs stands.text kdc (request held stands.address own) (payload held kdc own) draw draws net after reply stands.there payload_is p q sends

    wants : Next (Seeks seeker) run.phase (Err OutOfMemory) next_own (Err Memory)
    wants =
        subst (λ (p : InitPhase). Next (Seeks seeker) p (Err OutOfMemory) next_own (Err Memory)) (sym phase)
        (next_wants seeker (leg seeker suite known home hops) next_own)

    -- the service's ticket
    last_turn : IsTimely start span next_own → HasService (service_of seeker.wanted.target) service_key kdc
        → AreNextSizes suite seeker.wanted kdc held (service_target (service_of seeker.wanted.target) service_key) own draw
        → (reply : Result (List ℕ) NetFault) → AnswersWith kdc (payload held kdc own) (draw ∷ draws) reply → ResumesAt run reply next_own state next
        → Runs seeker out run' net' wanting state next after owns → Comes seeker suite home service_key out known hops 0 held.grant.crealm held.grant.cname
    unfolding ticket_part serves
    last_turn d has sizes (Err fault) answers resumes ends = absurd (no_memory seeker out run' net' wanting run next fault next_own state after owns is answers resumes wants ends)
    last_turn d has sizes (Ok reply) answers resumes ends =
        let service : List (List ℕ) = service_of seeker.wanted.target in
        let target : Target = service_target service service_key in
        let grant : Grant = granted suite seeker.wanted kdc held target own draw in
        let rep : TgsRep = given suite seeker.wanted kdc held target own draw in
        let message : List ℕ = with_length (spelling tgs_rep_layout rep) in
        let reply_is : reply ≡ message =
        replied start span seeker.wanted unset kdc held own draw target t u stands.fair stands.least (has_target service service_key kdc has) suite stands.suite_is
        h knows sizes.request reply answers.0 in
        let octets : IsOctets message = subst IsOctets reply_is answers.1 in
        let fits : length service_key ≡ key_size suite =
        sym (ap length has.key_is) ∙ (key_of kdc.suite has.principal (principal_found kdc.suite service kdc.principals has.principal kdc.principals_fit has.known) ∙ ap key_size stands.suite_is) in
        let short : length (spelling principal_name_layout (name_with 2 service)) ≤ 2 ^ 24 =
        service_short start span seeker.wanted unset kdc held own draw target t u stands.fair stands.least (has_target service service_key kdc has) suite stands.suite_is
        h knows sizes.request in
        let names : AreNames service = principal_names kdc service has.principal has.known in
        let service_sound : IsSoundName (name_with 2 service) =
        record { sound = name_sound 2 service names; octets = name_octets 2 (lit< tt) service names short; short = omega (arith, short) } in
        let sound : IsSoundGrant kdc.realm (drawn_nonce own) grant =
        next_sound start span seeker.wanted unset kdc held own draw target t u stands.fair stands.least suite h service_sound in
        let part : EncTicketPart = ticket_part suite draw grant in
        let step : Step = record { reply = message; draw = next_own } in
        let served : Serves seeker.asker.rules seeker.wanted.target suite service_key known step rep part =
        serves suite kdc.realm draw u.is (drawn_nonce own) grant sound known stands.tcp octets sizes.reply seeker.asker.rules seeker.wanted.target next_own (answers_it target d) h.client fits
        refl no_referral in
        let done : InitDone = shown_to seeker.errand suite part.key.key_value rep.0 home next_own in
        let arrived : Next (Seeks seeker) (AwaitsTgsRep (leg seeker suite known home hops)) (Ok message) next_own (Ok (Ends done)) =
        arrives seeker suite service_key known home hops step rep part (drawn_fits suite kdc.realm held.draw h.d) served in
        let turned : IsTurned seeker (Ok (Ends done)) state next =
        resumed seeker out run' net' wanting run next (Ok message) next_own state (Ok (Ends done)) after owns is
        (subst (λ (r : List ℕ). ResumesAt run (Ok r) next_own state next) reply_is resumes)
        (subst (λ (p : InitPhase). Next (Seeks seeker) p (Ok message) next_own (Ok (Ends done))) (sym phase) arrived) ends in
        let end : Runs seeker out run' net' wanting (Completed (Ok done)) next after owns =
        subst (λ (s : GeneratorState NetworkRequest (Result InitDone Error)). Runs seeker out run' net' wanting s next after owns) turned.state_is ends in
        record {
          steps = [];
          last = step;
          rep = rep;
          part = part;
          done = done;
          honest = served;
          leads = arrived;
          count_is = refl;
          out_is = end.0;
          last_is = d.is;
          crealm_is = refl;
          cname_is = refl;
          valid = refl;
          direct = refl;
        }

    -- a referral
    module _ (next_kdc : Kdc) (to : RefersTo (service_of seeker.wanted.target) kdc next_kdc)
        (next_stands : StandsAt seeker.asker (url_for seeker.asker.kdc_url home next_kdc.realm) suite span pairs next_kdc.realm next_kdc)
        (sizes : AreNextSizes suite seeker.wanted kdc held (target_at to) own draw) (few : hops < 9) (v : IsTimely start span next_own) where
      abbrev grant : Grant
      grant = granted suite seeker.wanted kdc held (target_at to) own draw

      abbrev message : List ℕ
      message = with_length (spelling tgs_rep_layout (given suite seeker.wanted kdc held (target_at to) own draw))

      abbrev held_then : Held
      held_then = held_next suite seeker.wanted kdc held (target_at to) own draw

      named : IsSoundName (target_at to).name
      named =
          subst (λ (r : List ℕ). IsSoundName (name_with 2 (granting r))) (sym to.to)
          (granting_sound next_kdc.realm draw suite (record { realm_ascii = next_kdc.realm_ascii; realm_short = next_kdc.realm_short; salt_ascii = tt; salt_short = refl }) u.is.moment)

      sound : IsSoundGrant kdc.realm (drawn_nonce own) grant
      sound = next_sound start span seeker.wanted unset kdc held own draw (target_at to) t u stands.fair stands.least suite h named

      then_held : IsHeld suite start held_then
      then_held =
          next_held start span seeker.wanted unset kdc held own draw (target_at to) t u stands.fair stands.least suite h named
          (trust_found kdc.suite to.route.realm kdc.trusts to.trust kdc.trusts_fit to.trusts ∙ ap key_size stands.suite_is)

      then_knows : ticket_key next_kdc (ticket suite held_then.realm held_then.draw held_then.grant) ≡ Some held_then.grant.key
      unfolding ticket
      then_knows =
          next_key next_kdc (ticket suite held_then.realm held_then.draw held_then.grant) to.back (ap (λ (r : List ℕ). name_with 2 (granting r)) to.to)
          (differ kdc.realm next_kdc.realm to.other) to.trusted
          ∙ ap Some (sym to.same_key)

      other : is_same_realm stands.address.realm next_stands.address.realm ≡ false
      other =
          subst (λ (r : List ℕ). is_same_realm r next_stands.address.realm ≡ false) (sym (address_realm stands))
          (subst (λ (r : List ℕ). is_same_realm kdc.realm r ≡ false) (sym (address_realm next_stands)) to.other)

      found : HasKdc seeker.asker home next_stands.address.realm next_stands.address
      found =
          subst (λ (r : List ℕ). FindsKdc (url_for seeker.asker.kdc_url home r) seeker.asker.env r (Ok next_stands.address)) (sym (address_realm next_stands)) next_stands.found

      refer_turn : (reply : Result (List ℕ) NetFault) → AnswersWith kdc (payload held kdc own) (draw ∷ draws) reply → ResumesAt run reply next_own state next
          → Runs seeker out run' net' wanting state next after owns
          → IsReferred seeker suite home known (known_of held_then next_stands.address next_own) hops message next_own (request held_then next_stands.address next_own) state next
      unfolding ticket_part refers_on
      refer_turn (Err fault) answers resumes ends = absurd (no_memory seeker out run' net' wanting run next fault next_own state after owns is answers resumes wants ends)
      refer_turn (Ok reply) answers resumes ends =
          let reply_is : reply ≡ message =
          replied start span seeker.wanted unset kdc held own draw (target_at to) t u stands.fair stands.least
          (refers_target (service_of seeker.wanted.target) kdc next_kdc to) suite stands.suite_is h knows sizes.request reply answers.0 in
          let octets : IsOctets message = subst IsOctets reply_is answers.1 in
          let step : Step = record { reply = message; draw = next_own } in
          let next_known : Known = known_of held_then next_stands.address next_own in
          let referred : Refers seeker.asker seeker.wanted.target home suite known step next_known =
          refers_on suite kdc.realm draw u.is (drawn_nonce own) grant sound known stands.tcp octets sizes.reply seeker.asker seeker.wanted.target home next_stands.address next_own
          (answers_it (target_at to) v) (ap (λ (r : List ℕ). name_with 2 (granting r)) (to.to ∙ sym (address_realm next_stands))) other
          (λ asks. not_granting next_stands.address.realm (service_of seeker.wanted.target) no_referral) found in
          let asked : Next (Seeks seeker) (AwaitsTgsRep (leg seeker suite known home hops)) (Ok message) next_own
          (Ok (Asks (request held_then next_stands.address next_own) (AwaitsTgsRep (leg seeker suite next_known home (hops + 1))))) =
          subst (λ (q : NetworkRequest). Next (Seeks seeker) (AwaitsTgsRep (leg seeker suite known home hops)) (Ok message) next_own
          (Ok (Asks q (AwaitsTgsRep (leg seeker suite next_known home (hops + 1))))))
          (same_request seeker.wanted suite next_known.key (facts_in referred.grants.part.0) (shown_of suite held_then).facts referred.rep.0 None next_own next_stands.address)
          (refers seeker suite known home hops step next_known (drawn_fits suite kdc.realm held.draw h.d) few referred) in
          record {
            refers = referred;
            leads = asked;
            turned =
                resumed seeker out run' net' wanting run next (Ok message) next_own state _ after owns is
                (subst (λ (r : List ℕ). ResumesAt run (Ok r) next_own state next) reply_is resumes)
                (subst (λ (p : InitPhase). Next (Seeks seeker) p (Ok message) next_own
                (Ok (Asks (request held_then next_stands.address next_own) (AwaitsTgsRep (leg seeker suite next_known home (hops + 1)))))) (sym phase) asked) ends;
          }

  -- any number of referrals up to nine
  pub walk : (kdcs : List Kdc) (held : Held) (kdc : Kdc) (url : Option Parts) (realm : List ℕ) (stands : StandsAt seeker.asker url suite span pairs realm kdc) (own : Draw)
      (owns draws : List Draw) (hops : ℕ) → IsHeld suite start held → ticket_key kdc (ticket suite held.realm held.draw held.grant) ≡ Some held.grant.key
      → LeadsTo seeker.asker seeker.wanted home suite span pairs service_key held kdc kdcs own owns draws
      → IsTimely start span own → AreTimely start span owns → AreTimely start span draws → hops + length kdcs ≤ 9
      → (run : InitRun) (net : Net) → run.initiation ≡ Seeks seeker → run.phase ≡ AwaitsTgsRep (leg seeker suite (known_of held stands.address own) home hops)
      → net.pairs ≡ pairs → net.draws ≡ draws → Runs seeker out run' net' wanting (Suspended (request held stands.address own)) run net owns
      → Comes seeker suite home service_key out (known_of held stands.address own) hops (length kdcs) held.grant.crealm held.grant.cname
  unfolding ticket_part
  walk kdcs held kdc url realm stands own [] draws hops h knows leads t ts us few run net is phase p q ends = absurd leads
  walk kdcs held kdc url realm stands own (next_own ∷ owns) [] hops h knows leads t ts us few run net is phase p q ends = absurd leads
  walk [] held kdc url realm stands own (next_own ∷ owns) (draw ∷ draws) hops h knows leads t ts us few run net is phase p q ends =
      let sent_to = sent held kdc url realm stands own next_own draw hops h knows t us.0 run ends.3 ends.1 ends.2 owns draws is phase net ends.0 p q ends.4 in
      last_turn held kdc url realm stands own next_own draw hops h knows t us.0 run ends.3 ends.1 ends.2 owns draws is phase ts.0 leads.0 leads.1 ends.0 sent_to.answers ends.5 ends.6
  walk (next_kdc ∷ kdcs) held kdc url realm stands own (next_own ∷ owns) (draw ∷ draws) hops h knows leads t ts us few run net is phase p q ends =
      let sent_to = sent held kdc url realm stands own next_own draw hops h knows t us.0 run ends.3 ends.1 ends.2 owns draws is phase net ends.0 p q ends.4 in
      let to : RefersTo (service_of seeker.wanted.target) kdc next_kdc = leads.0 in
      let less : hops < 9 = omega (arith, few) in
      let held_then : Held = held_next suite seeker.wanted kdc held (target_at to) own draw in
      let referred = refer_turn held kdc url realm stands own next_own draw hops h knows t us.0 run ends.3 ends.1 ends.2 owns draws is phase next_kdc to leads.1 leads.2 less ts.0 ends.0
      sent_to.answers ends.5 ends.6 in
      let next_stands : StandsAt seeker.asker (url_for seeker.asker.kdc_url home next_kdc.realm) suite span pairs next_kdc.realm next_kdc = leads.1 in
      let more = walk kdcs held_then next_kdc (url_for seeker.asker.kdc_url home next_kdc.realm) next_kdc.realm next_stands next_own owns draws (hops + 1)
      (then_held held kdc url realm stands own next_own draw hops h knows t us.0 run ends.3 ends.1 ends.2 owns draws is phase next_kdc to leads.1 leads.2 less ts.0)
      (then_knows held kdc url realm stands own next_own draw hops h knows t us.0 run ends.3 ends.1 ends.2 owns draws is phase next_kdc to leads.1 leads.2 less ts.0)
      leads.3 ts.0 ts.1 us.1 (omega (arith, few)) ends.3 ends.1 referred.turned.stays referred.turned.phase_is sent_to.pairs_are sent_to.draws_are
      (subst (λ (s : GeneratorState NetworkRequest (Result InitDone Error)). Runs seeker out run' net' wanting s ends.3 ends.1 owns) referred.turned.state_is ends.6) in
      record {
        steps = record { reply = with_length (spelling tgs_rep_layout (given suite seeker.wanted kdc held (target_at to) own draw)); draw = next_own } ∷ more.steps;
        last = more.last;
        rep = more.rep;
        part = more.part;
        done = more.done;
        honest = (known_of held_then next_stands.address next_own, referred.refers, more.honest);
        leads = (request held_then next_stands.address next_own, AwaitsTgsRep (leg seeker suite (known_of held_then next_stands.address next_own) home (hops + 1)), referred.leads, more.leads);
        count_is = ap suc more.count_is;
        out_is = more.out_is;
        last_is = more.last_is;
        crealm_is = more.crealm_is;
        cname_is = more.cname_is;
        valid = more.valid;
        direct = more.direct;
      }
