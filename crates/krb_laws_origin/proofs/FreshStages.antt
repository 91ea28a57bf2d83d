-- The state changes of an initiator that takes only fresh replies.
use Rattle.std.proofs.Common.{◌≡◌, ℕ, Bool, true, false, List, Option, Some, None, Result, Ok, Err, refl, sym, ap, ◌∙◌, subst}
use Rattle.std.specs.Prelude.{◌==◌, bit_or, not, option_map, if◌then◌else◌}
use Rattle.std.proofs.lemmas.Bool.{and_right, true≢false}
use Rattle.std.proofs.lemmas.Nat.{and_or_apart}
use Rattle.sspi_core.specs.Flags.{has_flag, mutual_auth, use_session_key}
use Rattle.sspi_core.specs.declared.cause.Cause.{Cause}
use Rattle.sspi_core.specs.declared.cause.Cause.TheVariants.{Sequence}
use Rattle.sspi_core.specs.declared.flags.ClientRequestFlags.{ClientRequestFlags}
use Rattle.krb_context.specs.Rules.{has_rule, one_way_is_settled}
use Rattle.krb_context.specs.Contexts.{settled, with_key}
use Rattle.krb_context.specs.declared.context.ContextChange.{ContextChange}
use Rattle.krb_context.specs.declared.server.ServerProperties.{ServerProperties}
use Rattle.krb_context.specs.declared.state.KerberosState.{KerberosState}
use Rattle.krb_context.specs.declared.state.KerberosState.TheVariants.{TgtExchange, Preauthentication, ApExchange, Final}
use Rattle.krb_as.specs.declared.done.InitDone.{InitDone}
use Rattle.krb_ap.specs.Initiators.{exchange_flags, is_one_way}
use Rattle.krb_ap.specs.Shown.{shown_state}
use Rattle.krb_ap.specs.declared.initiator.Initiator.{Initiator}
use Rattle.krb_script.specs.declared.input.Input.{Input}
use Rattle.krb_script.specs.declared.input.Input.TheVariants.{Token, Start, KdcReply, KdcFault, Wrap, Unwrap, MakeMic, VerifyMic}
use Rattle.krb_script.specs.declared.item.Event.{Event}
use Rattle.krb_machine.specs.Initiations.{is_before, token_heard}
use Rattle.krb_machine.specs.declared.connection.Connection.{Connection}
use Rattle.krb_laws_origin.specs.Freshness.{IsFreshLogIn, HasFreshKey}
use Rattle.krb_laws_origin.proofs.FreshKnown.{IsAtStage, IsStill, StandsFresh}

-- ---- mutual authentication

-- user-to-user leaves the flag of mutual authentication
asks_mutual : (initiator : Initiator) → has_flag initiator.flags.0 mutual_auth ≡ true → has_flag (exchange_flags initiator) mutual_auth ≡ true
asks_mutual initiator h = by_ticket initiator.user_to_user
  where
    by_ticket : (user_to_user : Bool) → has_flag (if user_to_user then bit_or initiator.flags.0 use_session_key else initiator.flags.0) mutual_auth ≡ true
    by_ticket true = ap (λ (n : ℕ). n == mutual_auth) (and_or_apart mutual_auth initiator.flags.0 use_session_key refl) ∙ h
    by_ticket false = h

-- if mutual authentication is asked for, an answer is awaited
not_one_way : (initiator : Initiator) → has_flag initiator.flags.0 mutual_auth ≡ true → is_one_way initiator ≡ false
not_one_way initiator h = and_right (has_rule initiator.rules one_way_is_settled) (not (has_flag (exchange_flags initiator) mutual_auth)) (ap not (asks_mutual initiator h))

-- ---- the end of an exchange

module _ (first : Connection) (id : ℕ) (events : List Event) where
  -- a change that leads to a stage
  pub fresh_settled : (connection : Connection) (change : ContextChange) → IsStill first connection → IsAtStage first id events change.state change.encryption_params.session_key change.asked_at
      → StandsFresh first id events (record connection { context = settled connection.context change; exchange = None })
  fresh_settled connection change still stage = record {
    still = record {
      role = ap (λ (s : Option ServerProperties). option_map (with_key change.ticket_decryption_key) s) still.role;
      identity = still.identity;
      config = still.config;
      rules = still.rules;
      target = still.target;
    };
    stage = stage;
    exchange = tt;
  }

  module _ (octets : List ℕ) (moment : ℕ) (log_in : IsFreshLogIn first id events octets moment) where
    fresh_key : (key : Option (List ℕ)) (shown_at : Option ℕ) → key ≡ Some octets → shown_at ≡ Some moment → HasFreshKey first id events key shown_at
    fresh_key key shown_at is shown = record { octets = octets; has_key = is; moment = moment; was_shown = shown; log_in = log_in }

    -- after the ticket was shown, whether or not an answer is awaited
    at_shown : (one_way : Bool) → is_one_way log_in.seeker.errand.initiator ≡ one_way → (key : Option (List ℕ)) (shown_at : Option ℕ) → key ≡ Some octets → shown_at ≡ Some moment
        → IsAtStage first id events (if one_way then Final else ApExchange) key shown_at
    unfolding fresh_key
    at_shown true e key shown_at is shown = record {
      fresh = fresh_key key shown_at is shown;
      answered = λ rule asked.
          absurd (true≢false (sym e ∙ not_one_way log_in.seeker.errand.initiator (ap (λ (f : ClientRequestFlags). has_flag f.0 mutual_auth) log_in.seeks.flags ∙ asked)));
    }
    at_shown false e key shown_at is shown = fresh_key key shown_at is shown

    pub fresh_shown : (connection : Connection) (done : InitDone) → IsStill first connection → done.change.encryption_params.session_key ≡ Some octets → done.change.asked_at ≡ Some moment
        → done.change.state ≡ shown_state log_in.seeker.errand.initiator → StandsFresh first id events (record connection { context = settled connection.context done.change; exchange = None })
    fresh_shown connection done still is shown state =
        fresh_settled connection done.change still
        (subst (λ (s : KerberosState). IsAtStage first id events s done.change.encryption_params.session_key done.change.asked_at) (sym state)
        (at_shown (is_one_way log_in.seeker.errand.initiator) refl done.change.encryption_params.session_key done.change.asked_at is shown))

  -- ---- the facts of a stage

  pub key_none : (state : KerberosState) (key : Option (List ℕ)) (shown_at : Option ℕ) → is_before state ≡ true → IsAtStage first id events state key shown_at → key ≡ None
  key_none TgtExchange key shown_at e h = h
  key_none Preauthentication key shown_at e h = h
  key_none ApExchange key shown_at e h = absurd cc
  key_none Final key shown_at e h = absurd cc

  pub key_awaiting : (state : KerberosState) (key : Option (List ℕ)) (shown_at : Option ℕ) → state ≡ ApExchange → IsAtStage first id events state key shown_at → HasFreshKey first id events key shown_at
  key_awaiting state key shown_at e h = subst (λ (s : KerberosState). IsAtStage first id events s key shown_at) e h

  -- there is a session key only after the ticket
  pub key_there : (state : KerberosState) (key : Option (List ℕ)) (shown_at : Option ℕ) (octets : List ℕ) → key ≡ Some octets → IsAtStage first id events state key shown_at → HasFreshKey first id events key shown_at
  key_there TgtExchange key shown_at octets is h = let e : None ≡ Some octets = sym h ∙ is in absurd cc
  key_there Preauthentication key shown_at octets is h = let e : None ≡ Some octets = sym h ∙ is in absurd cc
  key_there ApExchange key shown_at octets is h = h
  key_there Final key shown_at octets is h = h.fresh

-- ---- the token of an answer

same_ok : (x y : List ℕ) → ◌≡◌ {A = Result (List ℕ) Cause} (Ok x) (Ok y) → x ≡ y
same_ok x y e = cc

late_start : (state : KerberosState) (token : List ℕ) → state ≡ ApExchange → token_heard state Start ≡ Ok token → ⊥
late_start state token e h =
    let late : ◌≡◌ {A = Result (List ℕ) Cause} (Err Sequence) (Ok token) = subst (λ (s : KerberosState). token_heard s Start ≡ Ok token) e h in absurd cc

pub token_brought : (state : KerberosState) (input : Input) (token : List ℕ) → state ≡ ApExchange → token_heard state input ≡ Ok token → input ≡ Token token
token_brought state (Token octets) token e h = ap Token (same_ok octets token h)
token_brought state Start token e h = absurd (late_start state token e h)
token_brought state (KdcReply octets) token e h = absurd cc
token_brought state (KdcFault code) token e h = absurd cc
token_brought state (Wrap message) token e h = absurd cc
token_brought state (Unwrap message) token e h = absurd cc
token_brought state (MakeMic payload) token e h = absurd cc
token_brought state (VerifyMic signature payload) token e h = absurd cc
