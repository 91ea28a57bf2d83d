-- An initiator that is started, and that gets the replies of its KDCs.
use Rattle.std.proofs.Common.{◌≡◌, ℕ, Bool, true, false, List, [], ◌∷◌, Option, Some, None, Result, Ok, sym, ap, ◌∙◌, subst}
use Rattle.std.specs.Prelude.{nat_le}
use Rattle.krb_as.specs.Turns.{state_of, phase_of}
use Rattle.krb_as.specs.declared.done.InitDone.{InitDone}
use Rattle.krb_as.specs.declared.turn.Turn.{Turn}
use Rattle.krb_as.specs.declared.turn.Turn.TheVariants.{Asks, Ends}
use Rattle.krb_context.specs.Contexts.{settled}
use Rattle.krb_laws_ends.specs.Fetches.{Leads}
use Rattle.krb_laws_ends.specs.HonestKdc.{Step as KdcStep}
use Rattle.krb_machine.proofs.Once.{one_initiation}
use Rattle.krb_machine.specs.Steps.{IsStep}
use Rattle.krb_machine.specs.declared.exchange.Step.{Step}
use Rattle.krb_machine.specs.declared.exchange.Step.TheVariants as steps
use Rattle.krb_machine.specs.declared.run.Run.{Run}
use Rattle.krb_machine.specs.declared.run.Run.TheVariants.{Initiates}
use Rattle.krb_initiator.proofs.Once.{starts_once, next_once}
use Rattle.krb_initiator.specs.Beginnings.{BeginsInitiation}
use Rattle.krb_initiator.specs.InitRuns.{Starts, Next}
use Rattle.krb_initiator.specs.declared.init_run.InitRun.{InitRun}
use Rattle.krb_initiator.specs.declared.seeker.InitPhase.{InitPhase}
use Rattle.krb_initiator.specs.declared.seeker.InitPhase.TheVariants.{New, Over}
use Rattle.krb_initiator.specs.declared.seeker.Initiation.{Initiation}
use Rattle.krb_initiator.specs.declared.seeker.Initiation.TheVariants.{Seeks}
use Rattle.krb_initiator.specs.declared.seeker.Seeker.{Seeker}
use Rattle.krb_laws_origin.proofs.TurnLemmas.{Answer, Turned, begun, gone_on}
use Rattle.krb_replay.specs.declared.ask.Ask.{Ask}
use Rattle.krb_replay.specs.declared.ask.Verdict.{Verdict}
use Rattle.krb_script.specs.declared.input.Input.TheVariants.{KdcReply}
use Rattle.krb_script.specs.declared.item.Event.{Event}
use Rattle.krb_machine.specs.Exchanges.{answer_of, LeadsTo}
use Rattle.krb_machine.specs.Initiations.{options_of, SetsOut, token_heard}
use Rattle.krb_machine.specs.MessageCalls.{is_call}
use Rattle.krb_machine.specs.Policy.{State, Steps, StepsBy, StepsOnward, TakesPart, TakesTurn, TakesAnswer, Initiates as InitiatesAt, Resumes, heard, awaited, is_initiator, draw_of}
use Rattle.krb_machine.specs.declared.connection.Connection.{Connection}
use Rattle.krb_machine.specs.declared.reply.Reply.{Reply}
use Rattle.krb_machine.specs.declared.reply.Reply.TheVariants as replies
use Rattle.sspi_core.proofs.Once.{Once}
use Rattle.sspi_core.specs.Moments.{last_moment}
use Rattle.sspi_core.specs.declared.cause.Cause.{Cause}
use Rattle.sspi_core.specs.declared.draw.Draw.{Draw}
use Rattle.sspi_generator.specs.declared.network.NetFault.{NetFault}
use Rattle.krb_laws_service.specs.Served.{IsAnsweredAt, Meets, AreHandedIn}
use Rattle.krb_laws_service.proofs.CheckLemmas.{set_is, in_range_is, heard_is, awaited_is, initiator_is}

-- the reply to a turn of a run, and the connection afterwards
abbrev pub Made : Connection → InitRun → Turn InitPhase InitDone → Reply → Connection → Type 0
Made connection later (Asks request phase) reply next = (reply ≡ replies.Ask request) × (later.phase ≡ phase) × (next ≡ record connection { exchange = Some (Initiates later) })
Made connection later (Ends done) reply next = (reply ≡ replies.Done done.status done.token false) × (next ≡ record connection { context = settled connection.context done.change; exchange = None })

made : (connection : Connection) (old : InitRun) (checks : Answer → Type 0) → Once checks → (turn : Turn InitPhase InitDone) → checks (Ok turn) → (step : Step) (reply : Reply) (next : Connection) → (t : Turned old checks step)
    → LeadsTo connection step reply next → Made connection t.later turn reply next
made connection old checks one (Asks request phase) expected step reply next t leads =
    let is = one.same t.answer (Ok (Asks request phase)) t.held expected in
    let P : Answer → Type 0 = λ a. IsStep (state_of a) (Initiates t.later) step in
    let s : step ≡ steps.Asks request (Initiates t.later) = subst P is t.leads in
    let l = subst (λ (s : Step). LeadsTo connection s reply next) s leads in
    (l.0, t.phase ∙ ap (λ (a : Answer). phase_of Over a) is, l.1)
made connection old checks one (Ends done) expected step reply next t leads =
    let is = one.same t.answer (Ok (Ends done)) t.held expected in
    let P : Answer → Type 0 = λ a. IsStep (state_of a) (Initiates t.later) step in
    let s : step ≡ steps.Ends done = subst P is t.leads in
    let l = subst (λ (s : Step). LeadsTo connection s reply next) s leads in
    (l.0, l.1)

-- a run of this initiation came to this turn
pub record CameTo (initiation : Initiation) (connection : Connection) (turn : Turn InitPhase InitDone) (reply : Reply) (next : Connection) : Type 0 where
  pub later : InitRun
  pub stays : later.initiation ≡ initiation
  pub made : Made connection later turn reply next

-- ---- an initiator begins, or takes a token of its peer

set_out : (connection : Connection) (draw : Draw) (initiation : Initiation) (turn : Turn InitPhase InitDone) (answer : Result Initiation Cause) (reply : Reply) (next : Connection) → answer ≡ Ok initiation
    → Starts initiation New draw (Ok turn) → SetsOut connection draw answer reply next → CameTo initiation connection turn reply next
set_out connection draw initiation turn answer reply next is starts out =
    let S : Result Initiation Cause → Type 0 = λ a. SetsOut connection draw a reply next in
    let s = subst S is out in
    let run : InitRun = s.0 in
    let t = begun run draw s.3.step s.3.begins in
    let expected : Starts run.initiation run.phase draw (Ok turn) =
    subst (λ (i : Initiation). Starts i run.phase draw (Ok turn)) (sym s.1) (subst (λ (p : InitPhase). Starts initiation p draw (Ok turn)) (sym s.2) starts) in
    record {
      later = t.later;
      stays = t.stays ∙ s.1;
      made = made connection run (λ a. Starts run.initiation run.phase draw a) (starts_once run.initiation run.phase draw) turn expected s.3.step reply next t s.3.leads;
    }

module _ {G : Type 0} (admits : G → Ask → Verdict → G → Type 0) where
  -- an event that begins an exchange or goes on with the peer, at an initiator
  turn_taken : (state after : State G) (event : Event) (reply : Reply) (connection : Connection) (token : List ℕ) → is_call event.input ≡ false → answer_of event.input ≡ None
      → is_initiator event.connection state.connections ≡ true → heard state.connections event ≡ Ok (connection, token) → Steps admits state event reply after
      → InitiatesAt state event connection token reply after
  turn_taken state after event reply connection token no_call no_answer role hears step =
      let P : Bool → Type 0 = λ b. StepsBy admits b state event reply after in
      let O : Option (Result (List ℕ) NetFault) → Type 0 = λ a. StepsOnward admits a state event reply after in
      let T : Bool → Type 0 = λ b. TakesPart admits b state event reply after in
      let H : Result (Connection × List ℕ) Cause → Type 0 = λ f. TakesTurn state event f reply after in
      subst H hears (subst T role (subst O no_answer (subst P no_call step)))

  pub initiator-turns : (state after : State G) (event : Event) (reply : Reply) (connection next : Connection) (token : List ℕ) (initiation : Initiation) (turn : Turn InitPhase InitDone)
      → IsAnsweredAt admits state event reply after connection next → nat_le event.moment last_moment ≡ true → connection.exchange ≡ None → connection.context.server ≡ None
      → is_call event.input ≡ false → answer_of event.input ≡ None → token_heard connection.context.state event.input ≡ Ok token
      → BeginsInitiation connection.context (options_of connection state.env event.flags token) (Ok initiation) → Starts initiation New (draw_of event) (Ok turn)
      → CameTo initiation connection turn reply next
  initiator-turns state after event reply connection next token initiation turn at in_range free role no_call no_answer hearing begins starts =
      let hears = heard_is state.connections event connection in_range at.there token free hearing in
      let i = turn_taken state after event reply connection token no_call no_answer (initiator_is state.connections event connection in_range at.there role) hears at.steps in
      let options = options_of connection state.env event.flags token in
      let is = one_initiation connection.context options i.undertakes.answer (Ok initiation) i.undertakes.begins begins in
      let came = set_out connection (draw_of event) initiation turn i.undertakes.answer reply i.next is starts i.undertakes.sets_out in
      let C : Connection → Type 0 = λ c. CameTo initiation connection turn reply c in
      subst C (sym (set_is state.connections after.connections event.connection connection i.next next i.connections at.there at.behind)) came

  -- ---- an initiator gets a reply of a KDC

  answer_taken : (state after : State G) (event : Event) (reply : Reply) (connection : Connection) (run : Run) (octets : List ℕ) → event.input ≡ KdcReply octets
      → awaited state.connections event ≡ Ok (connection, run) → Steps admits state event reply after → Resumes state event (connection, run) (Ok octets) reply after
  answer_taken state after event reply connection run octets input waiting step =
      let P : Bool → Type 0 = λ b. StepsBy admits b state event reply after in
      let O : Option (Result (List ℕ) NetFault) → Type 0 = λ a. StepsOnward admits a state event reply after in
      let H : Result (Connection × Run) Cause → Type 0 = λ f. TakesAnswer state event f (Ok octets) reply after in
      subst H waiting (subst O (ap answer_of input) (subst P (ap is_call input) step))

  kdc_step : (connection next : Connection) (run : InitRun) (octets : List ℕ) (draw : Draw) (reply : Reply) (initiation : Initiation) (phase : InitPhase) (turn : Turn InitPhase InitDone)
      → connection.exchange ≡ Some (Initiates run) → run.initiation ≡ initiation → run.phase ≡ phase → Next initiation phase (Ok octets) draw (Ok turn)
      → Meets admits (KdcReply octets) draw connection reply next → CameTo initiation connection turn reply next
  kdc_step connection next run octets draw reply initiation phase turn waiting initiation_is phase_is leads m =
      let event = m.event in
      let at = m.answered in
      let in_range = in_range_is event draw m.brought.draw_is m.brought.in_range in
      let r = answer_taken m.state m.after event reply connection (Initiates run) octets m.brought.input_is (awaited_is m.state.connections event connection in_range at.there (Initiates run) waiting) at.steps in
      let t = gone_on run (Ok octets) (draw_of event) r.goes_on.step r.goes_on.resumes in
      let expected : Next run.initiation run.phase (Ok octets) (draw_of event) (Ok turn) =
      subst (λ (i : Initiation). Next i run.phase (Ok octets) (draw_of event) (Ok turn)) (sym initiation_is)
      (subst (λ (p : InitPhase). Next initiation p (Ok octets) (draw_of event) (Ok turn)) (sym phase_is)
      (subst (λ (d : Draw). Next initiation phase (Ok octets) d (Ok turn)) (sym m.brought.draw_is) leads)) in
      let mk = made connection run (λ a. Next run.initiation run.phase (Ok octets) (draw_of event) a) (next_once run.initiation run.phase (Ok octets) (draw_of event)) turn expected r.goes_on.step reply r.next t r.goes_on.leads in
      let M : Connection → Type 0 = λ c. Made connection t.later turn reply c in
      record {
        later = t.later;
        stays = t.stays ∙ initiation_is;
        made = subst M (sym (set_is m.state.connections m.after.connections event.connection connection r.next next r.connections at.there at.behind)) mk;
      }

  -- the connection after the end of a run
  pub record EndsRun (connection : Connection) (done : InitDone) (reply : Reply) (final : Connection) : Type 0 where
    pub reply_is : reply ≡ replies.Done done.status done.token false
    pub final_is : final ≡ record connection { context = settled connection.context done.change; exchange = None }

  -- replies lead to the end
  pub handed-in : (seeker : Seeker) (last : KdcStep) (done : InitDone) (steps : List KdcStep) (connection nearly final : Connection) (run : InitRun) (phase : InitPhase) (reply : Reply)
      → connection.exchange ≡ Some (Initiates run) → run.initiation ≡ Seeks seeker → run.phase ≡ phase → Leads seeker phase steps last done
      → AreHandedIn admits steps connection nearly → Meets admits (KdcReply last.reply) last.draw nearly reply final → EndsRun connection done reply final
  handed-in seeker last done [] connection nearly final run phase reply waiting initiation_is phase_is leads are meets =
      let M : Connection → Type 0 = λ c. Meets admits (KdcReply last.reply) last.draw c reply final in
      let came = kdc_step connection final run last.reply last.draw reply (Seeks seeker) phase (Ends done) waiting initiation_is phase_is leads (subst M are meets) in
      record { reply_is = came.made.0; final_is = came.made.1 }
  handed-in seeker last done (step ∷ steps) connection nearly final run phase reply waiting initiation_is phase_is leads are meets =
      let came = kdc_step connection are.1 run step.reply step.draw are.0 (Seeks seeker) phase (Asks leads.0 leads.1) waiting initiation_is phase_is leads.2 are.2 in
      let next = came.made.2 in
      let rest = handed-in seeker last done steps are.1 nearly final came.later leads.1 reply (ap (λ (c : Connection). c.exchange) next) came.stays came.made.1 leads.3 are.3 meets in
      let F : Connection → Connection = λ c. record c { context = settled c.context done.change; exchange = None } in
      record { reply_is = rest.reply_is; final_is = rest.final_is ∙ ap F next }
