-- The rules of a session or an initiator, by a number of C's.
use Rattle.std.specs.Prelude.{◌≡◌, ℕ, Bool, true, false, Option, Some, None}
use Rattle.krb_c.specs.declared.reply.Failure.{Failure}
use Rattle.krb_c.specs.declared.reply.Failure.TheVariants.{Refused, Room, Argument, Handle}
use Rattle.krb_context.specs.declared.rules.Rules.{Rules}
use Rattle.krb_dialogue.specs.declared.dialogue.Dialogue.{Dialogue}
use Rattle.krb_dialogue.specs.Settings.{with_rules}
use Rattle.krb_sessions.specs.declared.session.Session.{Session}
use Rattle.sspi_core.specs.Flags.{has_flag}

-- each rule that there is: the twelve bits from 0x1 to 0x800, and the five from 0x10000 on
abbrev pub all_rules : ℕ
all_rules = 0x1f0fff

-- each bit names a rule
abbrev pub knows : ℕ → Bool
knows bits = has_flag all_rules bits

abbrev pub rules_from : ℕ → Rules
rules_from bits = record { 0 = bits }

-- a session that goes by these rules, and no others
abbrev pub session_with_rules : ℕ → Session → Session
session_with_rules bits session = record session { connection = record session.connection { rules = rules_from bits } }

-- each bit names a rule, and the session goes by these
pub record SetsSessionRules (bits : ℕ) (old : Option Session) (count : ℕ) (new : Option Session) : Type 0 where
  pub session : Session
  pub was : old ≡ Some session
  pub now : new ≡ Some (session_with_rules bits session)
  pub known : knows bits ≡ true
  pub none_written : count ≡ 0

-- the same of an initiator
pub record SetsInitiatorRules (bits : ℕ) (before after : Dialogue) : Type 0 where
  pub now : after ≡ with_rules (rules_from bits) before
  pub known : knows bits ≡ true

-- why a session keeps its own
abbrev pub RefusesRules : ℕ → Option Session → Failure → Type 0
RefusesRules bits old (Refused error) = ⊥
RefusesRules bits old (Room count) = ⊥
RefusesRules bits old Argument = knows bits ≡ false
RefusesRules bits old Handle = old ≡ None
