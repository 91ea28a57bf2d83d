-- Calls at a context: none reaches an acceptor's checks or the gate, none admits a peer, and each has one answer.
use Rattle.std.proofs.Common.{◌≡◌, ℕ, nat_le, not, Bool, true, false, List, take, Option, Some, None, is_some, is_none, Result, Ok, Err, refl, sym, ap, ◌∙◌, subst}
use Rattle.std.specs.Ordering.{nat_cmp}
use Rattle.std.specs.BTreeMap.{is_at}
use Rattle.std.specs.Map.{set_value}
use Rattle.sspi_core.proofs.Once.{Once, then_once, takes_once, holds_once, finds_once, gives_once}
use Rattle.sspi_core.specs.Buffer.{Buffer}
use Rattle.sspi_core.specs.Checks.{ok_or}
use Rattle.sspi_core.specs.declared.cause.Cause.{Cause}
use Rattle.sspi_core.specs.declared.cause.Cause.TheVariants as causes
use Rattle.sspi_generator.specs.declared.network.NetFault.{NetFault}
use Rattle.krb_context.proofs.OnceLemmas.{unwraps_once}
use Rattle.krb_context.specs.Contexts.{is_acceptor, is_peer_acceptor}
use Rattle.krb_context.specs.Mics.{MakesMic, MicHeads, MicKeys, ReadsMic}
use Rattle.krb_context.specs.Spelled.{spelled}
use Rattle.krb_context.specs.Wraps.{Readies, Wraps}
use Rattle.krb_context.specs.declared.context.Kerberos.{Kerberos}
use Rattle.krb_replay.specs.declared.ask.Ask.{Ask}
use Rattle.krb_replay.specs.declared.ask.Verdict.{Verdict}
use Rattle.krb_script.specs.Script.{at_id}
use Rattle.krb_script.specs.declared.item.Event.{Event}
use Rattle.krb_script.specs.declared.input.Input.{Input}
use Rattle.krb_script.specs.declared.input.Input.TheVariants as inputs
use Rattle.krb_machine.specs.MessageCalls.{is_call, IsSealedBy, IsOpenedBy, IsSignedBy, verified, Calls}
use Rattle.krb_machine.specs.Exchanges.{awaits, answer_of}
use Rattle.krb_machine.specs.Policy.{State, ◌>>=◌, check, input_token, is_initiating, is_initiator, reached, ready, AnswersCall, Behind, Judges, TakesPart, StepsOnward, StepsBy, Steps}
use Rattle.sspi_core.specs.Moments.{last_moment}
use Rattle.krb_machine.specs.Reply.{admits_peer}
use Rattle.krb_machine.specs.declared.connection.Connection.{Connection}
use Rattle.krb_machine.specs.declared.reply.Reply.{Reply}

same_ok : {A : Type 0} (x y : A) → ◌≡◌ {A = Result A Cause} (Ok x) (Ok y) → x ≡ y
same_ok x y e = cc

-- a check that passes leaves the connection
passes_on : (connection c : Connection) (checked : Result (Unit {0}) Cause) → (checked >>= (λ u. Ok connection)) ≡ Ok c → connection ≡ c
passes_on connection c (Ok u) e = same_ok connection c e
passes_on connection c (Err cause) e = absurd (cc)

-- the connection that the checks found is the one at the number
stands_by : (in_range : Result (Unit {0}) Cause) (found : Option Connection) (c : Connection)
    → (in_range >>= (λ u. ok_or causes.Connection found) >>= (λ connection. check causes.Sequence (not (awaits connection)) >>= (λ u. Ok connection))) ≡ Ok c → found ≡ Some c
stands_by (Ok u) (Some connection) c e = ap Some (passes_on connection c (check causes.Sequence (not (awaits connection))) e)
stands_by (Ok u) None c e = absurd (cc)
stands_by (Err cause) found c e = absurd (cc)

-- after the checks of the connection: the token, with the connection
abbrev with_token : Connection → Option (List ℕ) → Result (Unit {0}) Cause → Result (Connection × List ℕ) Cause
with_token connection token built = built >>= (λ u. ok_or causes.Sequence token >>= (λ t. Ok (connection, t)))

abbrev behind : Option (List ℕ) → Result Connection Cause → Result (Connection × List ℕ) Cause
behind token found = found >>= (λ connection. with_token connection token (check causes.Sequence (is_acceptor connection.context)))

no_token : (connection : Connection) (built : Result (Unit {0}) Cause) (x : Connection × List ℕ) → with_token connection None built ≡ Ok x → ⊥
no_token connection (Ok u) x e = absurd (cc)
no_token connection (Err cause) x e = absurd (cc)

nothing_follows : (found : Result Connection Cause) (x : Connection × List ℕ) → behind None found ≡ Ok x → ⊥
nothing_follows (Ok connection) x e = no_token connection (check causes.Sequence (is_acceptor connection.context)) x e
nothing_follows (Err cause) x e = absurd (cc)

no_call : (input : Input) (found : Result Connection Cause) (x : Connection × List ℕ) → behind (input_token input) found ≡ Ok x → (is_call input ≡ false) × (answer_of input ≡ None)
no_call (inputs.Token octets) found x e = (refl, refl)
no_call inputs.Start found x e = (refl, refl)
no_call (inputs.KdcReply octets) found x e = absurd (nothing_follows found x e)
no_call (inputs.KdcFault code) found x e = absurd (nothing_follows found x e)
no_call (inputs.Wrap message) found x e = absurd (nothing_follows found x e)
no_call (inputs.Unwrap message) found x e = absurd (nothing_follows found x e)
no_call (inputs.MakeMic payload) found x e = absurd (nothing_follows found x e)
no_call (inputs.VerifyMic token payload) found x e = absurd (nothing_follows found x e)

-- an event that reaches an acceptor's checks is one at an acceptor
not_none : {S : Type 0} (o : Option S) → is_some o ≡ true → is_none o ≡ false
not_none None e = absurd (cc)
not_none (Some x) e = refl

tested : (connection : Connection) (brought : Option (List ℕ)) (test : Bool) (x : Connection × List ℕ) → with_token connection brought (check causes.Sequence test) ≡ Ok x → test ≡ true
tested connection brought true x e = refl
tested connection brought false x e = absurd (cc)

judged_at : (at : Option Connection) (found : Result Connection Cause) (brought : Option (List ℕ)) (x : Connection × List ℕ) → ((c : Connection) → found ≡ Ok c → at ≡ Some c) → behind brought found ≡ Ok x → is_initiating at ≡ false
judged_at at (Ok connection) brought x stands e =
    let P : Option Connection → Type 0 = λ o. is_initiating o ≡ false in
    subst P (sym (stands connection refl)) (not_none connection.context.server (tested connection brought (is_acceptor connection.context) x e))
judged_at at (Err cause) brought x stands e = absurd (cc)

pub reached-acceptor : (connections : List (ℕ × Connection)) (event : Event) (connection : Connection) (token : List ℕ) → reached connections event ≡ Ok (connection, token)
    → is_initiator event.connection connections ≡ false
reached-acceptor connections event connection token e =
    judged_at (at_id event.connection connections) (ready connections event) (input_token event.input) (connection, token)
    (λ c is. stands_by (check causes.Moment (nat_le event.moment last_moment)) (at_id event.connection connections) c is) e

-- an event that reaches an acceptor's checks is no call, and no answer of the network
pub reached-no_call : (connections : List (ℕ × Connection)) (event : Event) (connection : Connection) (token : List ℕ) → reached connections event ≡ Ok (connection, token)
    → (is_call event.input ≡ false) × (answer_of event.input ≡ None)
reached-no_call connections event connection token e = no_call event.input (ready connections event) (connection, token) e

module _ {G : Type 0} (admits : G → Ask → Verdict → G → Type 0) where
  -- an event that reaches an acceptor's checks is answered as a token
  pub token-step : (state : State G) (event : Event) (connection : Connection) (token : List ℕ) (reply : Reply) (after : State G)
      → reached state.connections event ≡ Ok (connection, token) → Steps admits state event reply after → Judges admits state event connection token reply after
  token-step state event connection token reply after e step =
      let none = reached-no_call state.connections event connection token e in
      let P : Bool → Type 0 = λ b. StepsBy admits b state event reply after in
      let O : Option (Result (List ℕ) NetFault) → Type 0 = λ a. StepsOnward admits a state event reply after in
      let T : Bool → Type 0 = λ b. TakesPart admits b state event reply after in
      let B : Result (Connection × List ℕ) Cause → Type 0 = λ f. Behind admits state event f reply after in
      subst B e (subst T (reached-acceptor state.connections event connection token e) (subst O none.1 (subst P none.0 step)))

seals_not : (context : Kerberos) (answer : Result (List Buffer) Cause) (reply : Reply) (after : Kerberos) → IsSealedBy context answer reply after → admits_peer reply ≡ true → ⊥
seals_not context (Ok message) reply after made done = let z = ap admits_peer (sym made.0) ∙ done in absurd (cc)
seals_not context (Err cause) reply after made done = let z = ap admits_peer (sym made.0) ∙ done in absurd (cc)

opens_not : (context : Kerberos) (message : List Buffer) (answer : Result (List ℕ) Cause) (reply : Reply) (after : Kerberos) → IsOpenedBy context message answer reply after → admits_peer reply ≡ true → ⊥
opens_not context message (Ok text) reply after made done = let z = ap admits_peer (sym made.0) ∙ done in absurd (cc)
opens_not context message (Err cause) reply after made done = let z = ap admits_peer (sym made.0) ∙ done in absurd (cc)

signs_not : (context : Kerberos) (answer : Result (List ℕ) Cause) (reply : Reply) (after : Kerberos) → IsSignedBy context answer reply after → admits_peer reply ≡ true → ⊥
signs_not context (Ok token) reply after made done = let z = ap admits_peer (sym made.0) ∙ done in absurd (cc)
signs_not context (Err cause) reply after made done = let z = ap admits_peer (sym made.0) ∙ done in absurd (cc)

verified_not : (answer : Result (Unit {0}) Cause) → admits_peer (verified answer) ≡ true → ⊥
verified_not (Ok u) done = absurd (cc)
verified_not (Err cause) done = absurd (cc)

calls_not : (input : Input) (context : Kerberos) (random : List ℕ) (reply : Reply) (after : Kerberos) → Calls input context random reply after → admits_peer reply ≡ true → ⊥
calls_not (inputs.Token octets) context random reply after c done = c
calls_not inputs.Start context random reply after c done = c
calls_not (inputs.KdcReply octets) context random reply after c done = c
calls_not (inputs.KdcFault code) context random reply after c done = c
calls_not (inputs.Wrap message) context random reply after c done = seals_not context c.answer reply after c.made done
calls_not (inputs.Unwrap message) context random reply after c done = opens_not context message c.answer reply after c.made done
calls_not (inputs.MakeMic payload) context random reply after c done = signs_not context c.answer reply after c.made done
calls_not (inputs.VerifyMic token payload) context random reply after c done = verified_not c.answer (ap admits_peer (sym c.reply_is) ∙ done)

wraps_once : (context : Kerberos) (confounder : List ℕ) (message : List Buffer) → Once (Wraps context confounder message)
unfolding Wraps Readies
wraps_once context confounder message =
    then_once _ _ (then_once _ _ (takes_once _ _) (λ key. then_once _ _ (holds_once _ _) (λ a. then_once _ _ (holds_once _ _) (λ b. then_once _ _ (holds_once _ _) (λ c. gives_once key)))))
    (λ key. gives_once _)

makes_mic_once : (context : Kerberos) (payload : List ℕ) → Once (MakesMic context payload)
unfolding MakesMic
makes_mic_once context payload = then_once _ _ (takes_once _ _) (λ key. then_once _ _ (holds_once _ _) (λ a. gives_once _))

reads_mic_once : (context : Kerberos) (token payload : List ℕ) → Once (ReadsMic context.encryption_params (is_peer_acceptor context) token payload)
unfolding ReadsMic MicHeads MicKeys
reads_mic_once context token payload =
    then_once _ _ (then_once _ _ (takes_once _ _) (λ header. then_once _ _ (holds_once _ _) (λ a. then_once _ _ (holds_once _ _) (λ b. gives_once header))))
    (λ header. then_once _ _ (then_once _ _ (takes_once _ _) (λ key. then_once _ _ (holds_once _ _) (λ a. gives_once key))) (λ key. finds_once _ _ (λ x y p q. refl)))

sealed_by_once : (context : Kerberos) (answer : Result (List Buffer) Cause) (r s : Reply) (a b : Kerberos) → IsSealedBy context answer r a → IsSealedBy context answer s b → (r ≡ s) × (a ≡ b)
sealed_by_once context (Ok message) r s a b h k = (h.0 ∙ sym k.0, h.1 ∙ sym k.1)
sealed_by_once context (Err cause) r s a b h k = (h.0 ∙ sym k.0, h.1 ∙ sym k.1)

opened_by_once : (context : Kerberos) (message : List Buffer) (answer : Result (List ℕ) Cause) (r s : Reply) (a b : Kerberos) → IsOpenedBy context message answer r a → IsOpenedBy context message answer s b
    → (r ≡ s) × (a ≡ b)
opened_by_once context message (Ok text) r s a b h k = (h.0 ∙ sym k.0, h.1 ∙ sym k.1)
opened_by_once context message (Err cause) r s a b h k = (h.0 ∙ sym k.0, h.1 ∙ sym k.1)

signed_by_once : (context : Kerberos) (answer : Result (List ℕ) Cause) (r s : Reply) (a b : Kerberos) → IsSignedBy context answer r a → IsSignedBy context answer s b → (r ≡ s) × (a ≡ b)
signed_by_once context (Ok token) r s a b h k = (h.0 ∙ sym k.0, h.1 ∙ sym k.1)
signed_by_once context (Err cause) r s a b h k = (h.0 ∙ sym k.0, h.1 ∙ sym k.1)

calls_once : (input : Input) (context : Kerberos) (random : List ℕ) (r s : Reply) (a b : Kerberos) → Calls input context random r a → Calls input context random s b → (r ≡ s) × (a ≡ b)
calls_once (inputs.Token octets) context random r s a b h k = absurd h
calls_once inputs.Start context random r s a b h k = absurd h
calls_once (inputs.KdcReply octets) context random r s a b h k = absurd h
calls_once (inputs.KdcFault code) context random r s a b h k = absurd h
calls_once (inputs.Wrap message) context random r s a b h k =
    let same = (wraps_once context (take 16 random) message).same h.answer k.answer h.wraps k.wraps in
    let M : Result (List Buffer) Cause → Type 0 = λ o. IsSealedBy context o s b in sealed_by_once context h.answer r s a b h.made (subst M (sym same) k.made)
calls_once (inputs.Unwrap message) context random r s a b h k =
    let same = (unwraps_once context (is_peer_acceptor context) message (spelled message)).same h.answer k.answer h.unwraps k.unwraps in
    let M : Result (List ℕ) Cause → Type 0 = λ o. IsOpenedBy context message o s b in opened_by_once context message h.answer r s a b h.made (subst M (sym same) k.made)
calls_once (inputs.MakeMic payload) context random r s a b h k =
    let same = (makes_mic_once context payload).same h.answer k.answer h.makes k.makes in
    let M : Result (List ℕ) Cause → Type 0 = λ o. IsSignedBy context o s b in signed_by_once context h.answer r s a b h.made (subst M (sym same) k.made)
calls_once (inputs.VerifyMic token payload) context random r s a b h k =
    let same = (reads_mic_once context token payload).same h.answer k.answer h.checks k.checks in
    (h.reply_is ∙ ap verified same ∙ sym k.reply_is, h.stays ∙ sym k.stays)

module _ {G : Type 0} where
  -- a call leaves the gate
  pub call-gate : (state : State G) (event : Event) (found : Result Connection Cause) (reply : Reply) (after : State G) → AnswersCall state event found reply after
      → after.gate ≡ state.gate
  call-gate state event (Ok connection) reply after c = c.gate
  call-gate state event (Err cause) reply after c = ap (λ (s : State G). s.gate) c.1

  -- a call admits nobody
  pub call-admits_not : (state : State G) (event : Event) (found : Result Connection Cause) (reply : Reply) (after : State G) → AnswersCall state event found reply after
      → admits_peer reply ≡ true → ⊥
  call-admits_not state event (Ok connection) reply after c done = calls_not event.input connection.context event.random reply c.context c.calls done
  call-admits_not state event (Err cause) reply after c done = let z = ap admits_peer (sym c.0) ∙ done in absurd (cc)

  -- a call has one answer
  pub call-once : (state : State G) (event : Event) (found : Result Connection Cause) (r s : Reply) (a b : State G) → AnswersCall state event found r a → AnswersCall state event found s b
      → (r ≡ s) × (a ≡ b)
  call-once state event (Ok connection) r s a b h k =
      let same = calls_once event.input connection.context event.random r s h.context k.context h.calls k.calls in
      let put : Kerberos → List (ℕ × Connection) = λ context. set_value (is_at (nat_cmp event.connection)) state.connections (record connection { context = context }) in
      let connections : a.connections ≡ b.connections = h.connections ∙ ap put same.1 ∙ sym k.connections in (
        same.0,
        ap (λ c. record { connections = c; env = a.env; gate = a.gate }) connections
            ∙ ap (λ e. record { connections = b.connections; env = e; gate = a.gate }) (h.env ∙ sym k.env)
            ∙ ap (λ g. record { connections = b.connections; env = b.env; gate = g }) (h.gate ∙ sym k.gate),
      )
  call-once state event (Err cause) r s a b h k = (h.0 ∙ sym k.0, h.1 ∙ sym k.1)
