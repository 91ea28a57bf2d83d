-- The facts about an initiator are kept by a call: no call changes its state, its role, its identity and its session key.
use Rattle.std.proofs.Common.{◌≡◌, ℕ, List, Option, None, Result, Ok, Err, refl, ap, ◌∙◌}
use Rattle.krb_context.specs.declared.context.Kerberos.{Kerberos}
use Rattle.krb_script.specs.declared.input.Input.{Input}
use Rattle.krb_script.specs.declared.input.Input.TheVariants.{Token, Start, KdcReply, KdcFault, Wrap, Unwrap, MakeMic, VerifyMic}
use Rattle.krb_script.specs.declared.item.Event.{Event}
use Rattle.sspi_core.specs.Buffer.{Buffer}
use Rattle.sspi_core.specs.declared.cause.Cause.{Cause}
use Rattle.sspi_core.specs.declared.identity.CredentialsBuffers.{CredentialsBuffers}
use Rattle.krb_machine.specs.MessageCalls.{IsSealedBy, IsOpenedBy, IsSignedBy, Calls}
use Rattle.krb_machine.specs.declared.connection.Connection.{Connection}
use Rattle.krb_machine.specs.declared.reply.Reply.{Reply}
use Rattle.krb_laws_origin.proofs.Known.{Speaks, Stands, stands_beside}

pub record Keeps (before after : Kerberos) : Type 0 where
  pub state : after.state ≡ before.state
  pub config : after.config ≡ before.config
  pub role : after.server ≡ before.server
  pub identity : after.auth_identity ≡ before.auth_identity
  pub set : after.rules ≡ before.rules
  pub key : after.encryption_params.session_key ≡ before.encryption_params.session_key
  pub shown_at : after.asked_at ≡ before.asked_at

-- a context that is made from another, and keeps these parts of it
keeps_by : (before after made : Kerberos) → after ≡ made → Keeps before made → Keeps before after
keeps_by before after made is h = record {
  state = ap (λ (c : Kerberos). c.state) is ∙ h.state;
  config = ap (λ (c : Kerberos). c.config) is ∙ h.config;
  role = ap (λ (c : Kerberos). c.server) is ∙ h.role;
  identity = ap (λ (c : Kerberos). c.auth_identity) is ∙ h.identity;
  set = ap (λ (c : Kerberos). c.rules) is ∙ h.set;
  key = ap (λ (c : Kerberos). c.encryption_params.session_key) is ∙ h.key;
  shown_at = ap (λ (c : Kerberos). c.asked_at) is ∙ h.shown_at;
}

keeps_all : (context : Kerberos) → Keeps context context
keeps_all context = record { state = refl; config = refl; role = refl; identity = refl; set = refl; key = refl; shown_at = refl }

sealed_keeps : (context : Kerberos) (answer : Result (List Buffer) Cause) (reply : Reply) (after : Kerberos) → IsSealedBy context answer reply after → Keeps context after
sealed_keeps context (Ok message) reply after h = keeps_by context after _ h.1 (record { state = refl; config = refl; role = refl; identity = refl; set = refl; key = refl; shown_at = refl })
sealed_keeps context (Err cause) reply after h = keeps_by context after context h.1 (keeps_all context)

opened_keeps : (context : Kerberos) (message : List Buffer) (answer : Result (List ℕ) Cause) (reply : Reply) (after : Kerberos) → IsOpenedBy context message answer reply after → Keeps context after
opened_keeps context message (Ok text) reply after h = keeps_by context after _ h.1 (record { state = refl; config = refl; role = refl; identity = refl; set = refl; key = refl; shown_at = refl })
opened_keeps context message (Err cause) reply after h = keeps_by context after context h.1 (keeps_all context)

signed_keeps : (context : Kerberos) (answer : Result (List ℕ) Cause) (reply : Reply) (after : Kerberos) → IsSignedBy context answer reply after → Keeps context after
signed_keeps context (Ok token) reply after h = keeps_by context after _ h.1 (record { state = refl; config = refl; role = refl; identity = refl; set = refl; key = refl; shown_at = refl })
signed_keeps context (Err cause) reply after h = keeps_by context after context h.1 (keeps_all context)

pub calls_keep : (input : Input) (context : Kerberos) (random : List ℕ) (reply : Reply) (after : Kerberos) → Calls input context random reply after → Keeps context after
calls_keep (Token octets) context random reply after h = absurd h
calls_keep Start context random reply after h = absurd h
calls_keep (KdcReply octets) context random reply after h = absurd h
calls_keep (KdcFault code) context random reply after h = absurd h
calls_keep (Wrap message) context random reply after h = sealed_keeps context h.answer reply after h.made
calls_keep (Unwrap message) context random reply after h = opened_keeps context message h.answer reply after h.made
calls_keep (MakeMic payload) context random reply after h = signed_keeps context h.answer reply after h.made
calls_keep (VerifyMic token payload) context random reply after h = keeps_by context after context h.stays (keeps_all context)

pub called_stands : (identity : Option CredentialsBuffers) (id : ℕ) (events : List Event) (connection : Connection) (input : Input) (random : List ℕ) (reply : Reply) (context : Kerberos)
    → Speaks identity id events connection → connection.exchange ≡ None → Calls input connection.context random reply context → Stands identity id events (record connection { context = context })
called_stands identity id events connection input random reply context speaks free calls =
    let keeps = calls_keep input connection.context random reply context calls in
    stands_beside identity id events connection speaks context free keeps.role keeps.identity keeps.set keeps.key
