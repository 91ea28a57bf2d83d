-- An initiator's beginning is determined, and each of its steps has at most one outcome.
use Rattle.std.proofs.Common.{◌≡◌, ℕ, Bool, true, false, List, [], length, Option, Some, None, Result, Ok, Err, refl, sym, ap, ◌∙◌, subst, arith}
use Rattle.krb_der.specs.Der.{tlv}
use Rattle.krb_conf.specs.declared.env.Env.{Env}
use Rattle.krb_context.specs.declared.context.Kerberos.{Kerberos}
use Rattle.krb_context.specs.declared.state.KerberosState.{KerberosState}
use Rattle.krb_context.specs.declared.state.KerberosState.TheVariants.{TgtExchange, Preauthentication, ApExchange, Final}
use Rattle.krb_messages.specs.Oid.{contents_of, user_to_user_oid, IsByName}
use Rattle.krb_messages.specs.declared.oid.Oid.{Oid}
use Rattle.krb_messages.specs.declared.oid.Oid.TheVariants.{Krb5, MsKrb5, UserToUser, Other}
use Rattle.krb_messages.specs.declared.ticket.Ticket.{Ticket}
use Rattle.krb_messages.proofs.FrameLemmas.{opens_all, one_frame_lem, one_any_frame}
use Rattle.krb_exchange.specs.Layouts.{tgt_rep_layout}
use Rattle.krb_exchange.specs.declared.user_to_user.TgtRep.{TgtRep}
use Rattle.krb_exchange.proofs.Spelled.{same_record}
use Rattle.sspi_core.proofs.Once.{Once, then_once, finds_once, takes_once, holds_once, gives_once}
use Rattle.sspi_core.specs.Checks.{Finds, Gives, Goes}
use Rattle.sspi_core.specs.Flags.{has_flag, use_session_key}
use Rattle.sspi_core.specs.declared.cause.Cause.{Cause}
use Rattle.sspi_core.specs.declared.cause.Cause.TheVariants.{Shape}
use Rattle.sspi_core.specs.declared.draw.Draw.{Draw}
use Rattle.sspi_core.specs.declared.error.Error.{Error}
use Rattle.sspi_core.specs.declared.identity.CredentialsBuffers.{CredentialsBuffers}
use Rattle.sspi_generator.specs.declared.network.NetFault.{NetFault}
use Rattle.krb_replies.specs.Tickets.{IsTgtRep, HasTicket, TakesTicket}
use Rattle.krb_replies.specs.Unseals.{IsRead}
use Rattle.krb_as.proofs.Once.{names_client_once, begins_within_once, takes_reply_within_once}
use Rattle.krb_tgs.specs.Fresh.{referral_of}
use Rattle.krb_tgs.proofs.Once.{asks_tgs_once, follows_once, takes_tgs_rep_once}
use Rattle.krb_as.specs.declared.key.Grant.{Grant}
use Rattle.krb_ap.proofs.Once.{shows_ticket_once, takes_ap_rep_once}
use Rattle.krb_ap.specs.Initiators.{is_bare}
use Rattle.krb_ap.specs.declared.initiator.Initiator.{Initiator}
use Rattle.krb_initiator.specs.declared.options.InitOptions.{InitOptions}
use Rattle.krb_initiator.specs.declared.tgt.ServiceTgt.{ServiceTgt}
use Rattle.krb_initiator.specs.declared.seeker.Seeker.{Seeker}
use Rattle.krb_initiator.specs.declared.seeker.TgsLeg.{TgsLeg}
use Rattle.krb_initiator.specs.declared.seeker.Initiation.{Initiation}
use Rattle.krb_initiator.specs.declared.seeker.Initiation.TheVariants.{Requests, Seeks, Hears}
use Rattle.krb_initiator.specs.declared.seeker.InitPhase.{InitPhase}
use Rattle.krb_initiator.specs.declared.seeker.InitPhase.TheVariants.{New, InAsExchange, AwaitsTgsRep, Over}
use Rattle.krb_initiator.specs.declared.init_run.InitRun.{InitRun}
use Rattle.krb_initiator.specs.Tgts.{is_user_to_user, framed_tgt, HasTgtRep, TakesBareTgt, TakesFramedTgt, TakesTgt}
use Rattle.krb_initiator.specs.Beginnings.{ChecksTarget, NamesTarget, NamesIdentity, Identifies, SeeksTicket, RequestsTgt, BeginsNew, BeginsIn, BeginsInitiation}
use Rattle.krb_initiator.specs.InitSteps.{body_of, AsksFirstTgs, Refers, Arrives, GoesTo, TakesNext, HearsAnswer}
use Rattle.krb_initiator.specs.InitRuns.{StartsNew, Starts, Continues, Next, BeginsSo}

-- no octets are no value, and so neither a record nor a frame
no_value : (token contents : List ℕ) (tag : ℕ) → token ≡ [] → token ≡ tlv tag contents → ⊥
unfolding tlv
no_value token contents tag none is = let e = sym none ∙ is in absurd cc

-- the TGT-REP that a bare token is, if it has octets
same_rep : (token : List ℕ) (x y : Option TgtRep) → HasTgtRep token x → HasTgtRep token y → x ≡ y
same_rep token None None h k = refl
same_rep token None (Some y) h k = absurd (no_value token _ _ h k.is)
same_rep token (Some x) None h k = absurd (no_value token _ _ k h.is)
same_rep token (Some x) (Some y) h k = ap Some (same_record tgt_rep_layout x y token h k)

takes_bare_tgt_once : (token : List ℕ) → Once (TakesBareTgt token)
unfolding TakesBareTgt
takes_bare_tgt_once token = then_once _ _ (holds_once _ _) (λ _. then_once _ _ (finds_once _ _ (same_rep token)) (λ found. gives_once _))

-- a mechanism is user-to-user by its contents alone
contents_tell : (oid : Oid) → is_user_to_user oid ≡ true → contents_of oid ≡ user_to_user_oid
contents_tell Krb5 e = absurd cc
contents_tell MsKrb5 e = absurd cc
contents_tell UserToUser e = refl
contents_tell (Other contents) e = absurd cc

name_tells : (oid : Oid) → IsByName oid → contents_of oid ≡ user_to_user_oid → is_user_to_user oid ≡ true
name_tells Krb5 named e = absurd (omega (arith, ap (length {A = ℕ}) e))
name_tells MsKrb5 named e = absurd (omega (arith, ap (length {A = ℕ}) e))
name_tells UserToUser named e = refl
name_tells (Other contents) named e = absurd (named.2 e)

same_answer : (a b : Bool) → (a ≡ true → b ≡ true) → (b ≡ true → a ≡ true) → a ≡ b
same_answer true b so back = sym (so refl)
same_answer false true so back = back refl
same_answer false false so back = refl

same_mechanism : (o p : Oid) → IsByName o → IsByName p → contents_of o ≡ contents_of p → is_user_to_user o ≡ is_user_to_user p
same_mechanism o p named also same =
    same_answer (is_user_to_user o) (is_user_to_user p) (λ e. name_tells p also (sym same ∙ contents_tell o e)) (λ e. name_tells o named (same ∙ contents_tell p e))

-- the service's own ticket in a TGT-REP
tgt_with : Ticket → Bool → List ℕ → ServiceTgt
tgt_with ticket user_to_user mechanism = record { ticket = Some ticket; user_to_user = user_to_user; mechanism = mechanism }

-- the octets of a frame are those of one ticket, under one mechanism
same_mechanism_in : (token : List ℕ) (t u : Ticket) (o p : List ℕ) → IsTgtRep token t o → IsTgtRep token u p → o ≡ p
same_mechanism_in token t u o p h k =
    (one_frame_lem o p [] _ _ token (opens_all o h.token_id h.octets token h.frame) (opens_all p k.token_id k.octets token k.frame)).0

same_ticket_in : (token : List ℕ) (t u : Ticket) (o p : List ℕ) → IsTgtRep token t o → IsTgtRep token u p → t ≡ u
same_ticket_in token t u o p h k =
    let same = one_any_frame o p h.token_id k.token_id h.octets k.octets token h.two k.two h.frame k.frame in
    let R : List ℕ → Type 0 = λ octets. IsRead tgt_rep_layout octets h.reply in
    h.is ∙ ap (λ (reply : TgtRep). reply.ticket) (same_record tgt_rep_layout h.reply k.reply k.octets (subst R same h.read) k.read) ∙ sym k.is

-- a framed token has one service ticket, wherever the octets of its mechanism are
same_tgt : (token : List ℕ) (x y : Option (Ticket × Oid)) → HasTicket token x → HasTicket token y → framed_tgt x ≡ framed_tgt y
unfolding tgt_with
same_tgt token None None h k = refl
same_tgt token None (Some y) h k = absurd (no_value token _ _ h k.0.frame.is.is)
same_tgt token (Some x) None h k = absurd (no_value token _ _ k h.0.frame.is.is)
same_tgt token (Some x) (Some y) h k =
    let oid = same_mechanism_in token x.0 y.0 (contents_of x.1) (contents_of y.1) h.0 k.0 in
    ap (λ t. tgt_with t (is_user_to_user x.1) (contents_of x.1)) (same_ticket_in token x.0 y.0 (contents_of x.1) (contents_of y.1) h.0 k.0)
    ∙ ap (λ b. tgt_with y.0 b (contents_of x.1)) (same_mechanism x.1 y.1 h.1 k.1 oid)
    ∙ ap (λ m. tgt_with y.0 (is_user_to_user y.1) m) oid

-- and it has one after the check of its length
abbrev FindsTicket : List ℕ → Result (Option (Ticket × Oid)) Cause → Type 0
FindsTicket token answer = Finds Shape (HasTicket token) answer

abbrev Tells : Result (Option (Ticket × Oid)) Cause → Result ServiceTgt Cause → Type 0
Tells found answer = Goes (λ (f : Option (Ticket × Oid)). Gives (framed_tgt f)) found answer

tells_once : (token : List ℕ) (u : Result (Unit {0}) Cause) (m n : Result (Option (Ticket × Oid)) Cause) (r s : Result ServiceTgt Cause)
    → Goes (λ (x : Unit {0}). FindsTicket token) u m → Goes (λ (x : Unit {0}). FindsTicket token) u n → Tells m r → Tells n s → r ≡ s
tells_once token (Ok x) (Ok f) (Ok g) r s h k a b = a.is ∙ ap Ok (same_tgt token f g h.is k.is) ∙ sym b.is
tells_once token (Ok x) (Ok f) (Err d) r s h k a b = absurd (k.is.1 f h.is)
tells_once token (Ok x) (Err e) (Ok g) r s h k a b = absurd (h.is.1 g k.is)
tells_once token (Ok x) (Err e) (Err d) r s h k a b = a ∙ ap Err (h.is.0 ∙ sym k.is.0) ∙ sym b
tells_once token (Err c) m n r s h k a b = subst (λ z. Tells z r) h a ∙ sym (subst (λ z. Tells z s) k b)

takes_framed_tgt_once : (token : List ℕ) → Once (TakesFramedTgt token)
unfolding TakesFramedTgt TakesTicket
takes_framed_tgt_once token = record {
  same = λ r s h k.
      let u = (holds_once _ _).same h.held.middle k.held.middle h.held.held k.held.held in
      tells_once token h.held.middle h.middle k.middle r s h.held.rest (subst (λ z. Goes (λ (x : Unit {0}). FindsTicket token) z k.middle) (sym u) k.held.rest) h.rest k.rest;
}

takes_tgt_once : (dce : Bool) (token : List ℕ) → Once (λ r. TakesTgt dce token r)
takes_tgt_once true token = record { same = λ r s h k. (takes_bare_tgt_once token).same r s h k }
takes_tgt_once false token = record { same = λ r s h k. (takes_framed_tgt_once token).same r s h k }

-- whom it goes to, and who asks
names_target_once : (target : Option (List ℕ)) → Once (NamesTarget target)
unfolding NamesTarget ChecksTarget
names_target_once target = then_once _ _ (takes_once _ _) (λ there. then_once _ _ (holds_once _ _) (λ _. gives_once _))

names_identity_once : (context : Kerberos) (credentials : CredentialsBuffers) (env : Env) → Once (NamesIdentity context credentials env)
unfolding NamesIdentity
names_identity_once context credentials env = then_once _ _ (names_client_once credentials _ env) (λ client. gives_once _)

identifies_once : (context : Kerberos) (options : InitOptions) → Once (Identifies context options)
unfolding Identifies
identifies_once context options = then_once _ _ (takes_once _ _) (λ credentials. names_identity_once context credentials options.env)

-- what it begins, in each state
seeks_ticket_once : (context : Kerberos) (options : InitOptions) → Once (SeeksTicket context options)
unfolding SeeksTicket
seeks_ticket_once context options =
    then_once _ _ (names_target_once options.target) (λ target. then_once _ _ (takes_tgt_once (is_bare options.flags) options.token)
    (λ tgt. then_once _ _ (identifies_once context options) (λ identity. gives_once _)))

requests_tgt_once : (context : Kerberos) (options : InitOptions) → Once (RequestsTgt context options)
unfolding RequestsTgt
requests_tgt_once context options = then_once _ _ (names_target_once options.target) (λ target. gives_once _)

begins_new_once : (asks : Bool) (context : Kerberos) (options : InitOptions) → Once (λ r. BeginsNew asks context options r)
begins_new_once true context options = record { same = λ r s h k. (requests_tgt_once context options).same r s h k }
begins_new_once false context options = record { same = λ r s h k. (seeks_ticket_once context options).same r s h k }

begins_in_once : (state : KerberosState) (context : Kerberos) (options : InitOptions) → Once (λ r. BeginsIn state context options r)
begins_in_once TgtExchange context options = record { same = λ r s h k. (begins_new_once (has_flag options.flags.0 use_session_key) context options).same r s h k }
begins_in_once Preauthentication context options = record { same = λ r s h k. (seeks_ticket_once context options).same r s h k }
begins_in_once ApExchange context options = record { same = λ r s h k. (gives_once _).same r s h k }
begins_in_once Final context options = record { same = λ r s h k. h ∙ sym k }

pub begins_once : (context : Kerberos) (options : InitOptions) → Once (λ r. BeginsInitiation context options r)
begins_once context options = record { same = λ r s h k. (begins_in_once context.state context options).same r s h k }

-- a run is what is to be done and how far it has come
pub same_run : (x y : InitRun) → x.initiation ≡ y.initiation → x.phase ≡ y.phase → x ≡ y
same_run x y i p = ap (λ z. record { alloc = x.alloc; initiation = z; phase = x.phase }) i ∙ ap (λ z. record { alloc = x.alloc; initiation = y.initiation; phase = z }) p

-- and so is the result of the public call
pub begins_so_once : (answer : Result Initiation Cause) (r s : Result InitRun Error) → BeginsSo answer r → BeginsSo answer s → r ≡ s
begins_so_once (Ok initiation) (Ok x) (Ok y) h k = ap Ok (same_run x y (h.0 ∙ sym k.0) (h.1 ∙ sym k.1))
begins_so_once (Ok initiation) (Ok x) (Err d) h k = absurd k
begins_so_once (Ok initiation) (Err e) s h k = absurd h
begins_so_once (Err cause) (Ok x) s h k = absurd h
begins_so_once (Err cause) (Err e) (Ok y) h k = absurd k
begins_so_once (Err cause) (Err e) (Err d) h k = ap Err (h ∙ sym k)

-- the steps
asks_first_tgs_once : (seeker : Seeker) (shown : Grant) (draw : Draw) → Once (AsksFirstTgs seeker shown draw)
unfolding AsksFirstTgs
asks_first_tgs_once seeker shown draw = then_once _ _ (asks_tgs_once seeker.asker seeker.wanted shown _ _ _ draw) (λ begun. gives_once _)

refers_once : (seeker : Seeker) (leg : TgsLeg) (realm : List ℕ) (shown : Grant) (draw : Draw) → Once (Refers seeker leg realm shown draw)
unfolding Refers
refers_once seeker leg realm shown draw = then_once _ _ (follows_once seeker.asker seeker.wanted shown leg.hops leg.home leg.kdc.realm realm draw) (λ begun. gives_once _)

arrives_once : (seeker : Seeker) (leg : TgsLeg) (shown : Grant) (draw : Draw) → Once (Arrives seeker leg shown draw)
unfolding Arrives
arrives_once seeker leg shown draw = then_once _ _ (shows_ticket_once seeker.errand shown.suite shown.key shown.rep leg.home draw) (λ done. gives_once _)

goes_to_once : (referral : Option (List ℕ)) (seeker : Seeker) (leg : TgsLeg) (shown : Grant) (draw : Draw) → Once (λ r. GoesTo referral seeker leg shown draw r)
goes_to_once None seeker leg shown draw = record { same = λ r s h k. (arrives_once seeker leg shown draw).same r s h k }
goes_to_once (Some realm) seeker leg shown draw = record { same = λ r s h k. (refers_once seeker leg realm shown draw).same r s h k }

takes_next_once : (seeker : Seeker) (leg : TgsLeg) (reply : Result (List ℕ) NetFault) (draw : Draw) → Once (TakesNext seeker leg reply draw)
unfolding TakesNext
takes_next_once seeker leg reply draw =
    then_once _ _ (takes_tgs_rep_once seeker.asker.rules seeker.wanted.target leg.question draw.moment leg.kdc leg.suite leg.key reply)
    (λ shown. goes_to_once (referral_of seeker.asker.rules seeker.wanted.target shown.facts shown.rep) seeker leg shown draw)

hears_answer_once : (initiator : Initiator) (token : List ℕ) (draw : Draw) → Once (HearsAnswer initiator token draw)
unfolding HearsAnswer
hears_answer_once initiator token draw = then_once _ _ (takes_ap_rep_once initiator token draw) (λ done. gives_once _)

-- a step leads to one turn
starts_new_once : (initiation : Initiation) (draw : Draw) → Once (λ r. StartsNew initiation draw r)
starts_new_once (Requests initiator token) draw = record { same = λ r s h k. (gives_once _).same r s h k }
starts_new_once (Seeks seeker) draw = record { same = λ r s h k. (begins_within_once InAsExchange seeker.asker (body_of seeker draw)).same r s h k }
starts_new_once (Hears initiator token) draw = record { same = λ r s h k. (hears_answer_once initiator token draw).same r s h k }

pub starts_once : (initiation : Initiation) (phase : InitPhase) (draw : Draw) → Once (λ r. Starts initiation phase draw r)
starts_once initiation New draw = record { same = λ r s h k. (starts_new_once initiation draw).same r s h k }
starts_once initiation (InAsExchange phase) draw = record { same = λ r s h k. absurd h }
starts_once initiation (AwaitsTgsRep leg) draw = record { same = λ r s h k. absurd h }
starts_once initiation Over draw = record { same = λ r s h k. absurd h }

continues_once : (seeker : Seeker) (phase : InitPhase) (reply : Result (List ℕ) NetFault) (draw : Draw) → Once (λ r. Continues seeker phase reply draw r)
continues_once seeker New reply draw = record { same = λ r s h k. absurd h }
continues_once seeker (InAsExchange phase) reply draw = record {
  same =
      λ r s h k.
      (takes_reply_within_once InAsExchange (λ grant. AsksFirstTgs seeker grant draw) (λ grant. asks_first_tgs_once seeker grant draw) seeker.asker phase reply draw).same r s h k;
}
continues_once seeker (AwaitsTgsRep leg) reply draw = record { same = λ r s h k. (takes_next_once seeker leg reply draw).same r s h k }
continues_once seeker Over reply draw = record { same = λ r s h k. absurd h }

pub next_once : (initiation : Initiation) (phase : InitPhase) (reply : Result (List ℕ) NetFault) (draw : Draw) → Once (λ r. Next initiation phase reply draw r)
next_once (Requests initiator token) phase reply draw = record { same = λ r s h k. absurd h }
next_once (Seeks seeker) phase reply draw = record { same = λ r s h k. (continues_once seeker phase reply draw).same r s h k }
next_once (Hears initiator token) phase reply draw = record { same = λ r s h k. absurd h }
