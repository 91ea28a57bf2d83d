-- The effects of the rules at the initiator's end, and no change without rules.
use Rattle.std.proofs.Common.{◌≡◌, ℕ, Bool, true, false, not, List, Option, Some, None, refl, ap, ◌∙◌, if◌then◌else◌}
use Rattle.std.specs.Prelude.{◌&&◌, ◌||◌}
use Rattle.krb_crypto.specs.declared.suite.CipherSuite.{CipherSuite}
use Rattle.krb_messages.specs.declared.encryption.EncryptionKey.{EncryptionKey}
use Rattle.krb_context.specs.Contexts.{next_number}
use Rattle.krb_context.specs.Drawn.{drawn_key}
use Rattle.krb_context.specs.Params.{or_else}
use Rattle.krb_context.specs.declared.rules.Rules.{Rules}
use Rattle.krb_context.specs.declared.state.KerberosState.TheVariants.{ApExchange, Final}
use Rattle.krb_context.specs.Rules.{no_rules, has_rule, first_number_as_shown, ap_rep_without_subkey, one_way_is_settled}
use Rattle.sspi_core.specs.Flags.{has_flag, mutual_auth}
use Rattle.sspi_core.specs.declared.draw.Draw.{Draw}
use Rattle.sspi_core.specs.declared.results.SecurityStatus.TheVariants.{Ok as Complete, ContinueNeeded}
use Rattle.krb_ap.specs.declared.initiator.Initiator.{Initiator}
use Rattle.krb_ap.specs.Initiators.{exchange_flags, settled_number, is_one_way, keeps_subkey}
use Rattle.krb_ap.specs.Answered.{confirmed, subkey_in, chosen_subkey}
use Rattle.krb_ap.specs.Shown.{kept_subkey, shown_state, shown_number, shown_status}

-- ---- the first number

pub as_shown : (initiator : Initiator) (from_service : Bool) (subkey : List ℕ) → has_rule initiator.rules first_number_as_shown ≡ true
    → next_number (confirmed initiator from_service subkey).change.seq_number ≡ next_number initiator.number
as_shown initiator from_service subkey allowed = ap (λ (b : Bool). next_number (if b then initiator.number else next_number initiator.number)) allowed

pub without : (initiator : Initiator) (from_service : Bool) (subkey : List ℕ) → initiator.rules ≡ no_rules
    → next_number (confirmed initiator from_service subkey).change.seq_number ≡ next_number (next_number initiator.number)
without initiator from_service subkey none =
    ap (λ (o : Rules). next_number (if has_rule o first_number_as_shown then initiator.number else next_number initiator.number)) none

-- ---- an answer is awaited, whether it was asked for or not

module _ (initiator : Initiator) (none : initiator.rules ≡ no_rules) where
  answered : is_one_way initiator ≡ false
  answered = ap (λ (o : Rules). has_rule o one_way_is_settled && not (has_flag (exchange_flags initiator) mutual_auth)) none

  pub awaits : shown_state initiator ≡ ApExchange
  awaits = ap (λ (b : Bool). if b then Final else ApExchange) answered

  pub continues : shown_status initiator ≡ ContinueNeeded
  continues = ap (λ (b : Bool). if b then Complete else ContinueNeeded) answered

  pub keeps_number : shown_number initiator ≡ initiator.number
  keeps_number = ap (λ (b : Bool). if b then settled_number initiator else initiator.number) answered

  keeps_none : keeps_subkey initiator ≡ false
  keeps_none =
      ap (λ (o : Rules). has_rule o ap_rep_without_subkey || (has_rule o one_way_is_settled && not (has_flag (exchange_flags initiator) mutual_auth))) none

  pub keeps_key : (suite : CipherSuite) (draw : Draw) → kept_subkey initiator suite draw ≡ initiator.params.sub_session_key
  keeps_key suite draw = ap (λ (b : Bool). if b then Some (drawn_key suite draw) else initiator.params.sub_session_key) keeps_none

  -- ---- and it has a subkey

  or_none : (key : Option (List ℕ)) → or_else key None ≡ key
  or_none (Some octets) = refl
  or_none None = refl

  pub chooses : (subkey : Option EncryptionKey) → chosen_subkey initiator subkey ≡ subkey_in subkey
  chooses subkey =
      ap (λ (o : Rules). or_else (subkey_in subkey) (if has_rule o ap_rep_without_subkey then initiator.params.sub_session_key else None)) none
      ∙ or_none (subkey_in subkey)
