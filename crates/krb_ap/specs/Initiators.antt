-- The options that an initiator's caller asks for, and the rules of its context.
use Rattle.std.specs.Prelude.{ℕ, bit_or, Bool, not, ◌&&◌, ◌||◌, if◌then◌else◌}
use Rattle.krb_context.specs.Contexts.{next_number}
use Rattle.krb_context.specs.Rules.{has_rule, first_number_as_shown, ap_rep_without_subkey, one_way_is_settled}
use Rattle.sspi_core.specs.Flags.{has_flag, mutual_auth, use_session_key, use_dce_style}
use Rattle.sspi_core.specs.declared.flags.ClientRequestFlags.{ClientRequestFlags}
use Rattle.krb_ap.specs.declared.initiator.Initiator.{Initiator}

-- tokens are bare: DCE style (MS-KILE, section 3.4.5.1)
abbrev pub is_bare : ClientRequestFlags → Bool
is_bare flags = has_flag flags.0 use_dce_style

-- in user-to-user the ticket is encrypted under a session key, whether the caller asks for it or not (RFC 4120, section 3.7)
abbrev pub exchange_flags : Initiator → ℕ
exchange_flags initiator = if initiator.user_to_user then bit_or initiator.flags.0 use_session_key else initiator.flags.0

-- this end's sequence number after the exchange: it rises by one, and so does that of each message. So the first message has the
-- number after the one that the authenticator showed, or, if a rule allows it, that one itself (RFC 4120, section 5.5.1; RFC 4121,
-- section 4.2.1)
abbrev pub settled_number : Initiator → ℕ
settled_number initiator =
    if has_rule initiator.rules first_number_as_shown then initiator.number else next_number initiator.number

-- no answer is asked for, and by a rule none is awaited (RFC 4120, section 3.2.4)
abbrev pub is_one_way : Initiator → Bool
is_one_way initiator = has_rule initiator.rules one_way_is_settled && not (has_flag (exchange_flags initiator) mutual_auth)

-- the subkey of the authenticator is kept: an answer may have none, or none is awaited
abbrev pub keeps_subkey : Initiator → Bool
keeps_subkey initiator = has_rule initiator.rules ap_rep_without_subkey || is_one_way initiator
