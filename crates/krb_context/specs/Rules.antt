-- The rules that a context may go by besides those that it always has. Each is one case of one definition, which names the section of the
-- RFC too.
use Rattle.std.specs.Prelude.{ℕ, Bool}
use Rattle.sspi_core.specs.Flags.{has_flag}
use Rattle.krb_context.specs.declared.rules.Rules.{Rules}

-- RFC 4120, section 5.4.2
abbrev pub as_rep_tagged_26 : ℕ
as_rep_tagged_26 = 0x1

-- RFC 4120, section 3.1.3
abbrev pub no_preauthentication : ℕ
no_preauthentication = 0x2

-- RFC 4120, sections 3.1.3 and 3.3.3
abbrev pub suite_of_each_key : ℕ
suite_of_each_key = 0x4

-- RFC 4121, section 4.2.2
abbrev pub subkey_flag_by_origin : ℕ
subkey_flag_by_origin = 0x8

-- RFC 4120, section 5.5.1; RFC 4121, section 4.2.1
abbrev pub first_number_as_shown : ℕ
first_number_as_shown = 0x10

-- RFC 4121, section 2
abbrev pub ap_rep_without_subkey : ℕ
ap_rep_without_subkey = 0x20

-- RFC 4120, section 5.5.2
abbrev pub third_leg_by_value : ℕ
third_leg_by_value = 0x40

-- RFC 4120, section 3.2.4
abbrev pub one_way_is_settled : ℕ
one_way_is_settled = 0x80

-- RFC 4121, section 4.2.3
abbrev pub extra_count_by_token : ℕ
extra_count_by_token = 0x100

-- RFC 4120, section 6.2
abbrev pub names_by_components : ℕ
names_by_components = 0x200

-- RFC 4120, section 6.2
abbrev pub clients_of_any_name : ℕ
clients_of_any_name = 0x400

-- RFC 4120, section 3.2.3
abbrev pub records_by_tag : ℕ
records_by_tag = 0x800

-- RFC 4120, sections 3.1.5 and 3.3.4
abbrev pub fresh_replies : ℕ
fresh_replies = 0x10000

-- RFC 4120, section 3.2.5
abbrev pub answers_its_authenticator : ℕ
answers_its_authenticator = 0x20000

-- RFC 4120, section 3.2.3
abbrev pub valid_tickets : ℕ
valid_tickets = 0x40000

-- RFC 4120, section 2.7
abbrev pub checked_transit : ℕ
checked_transit = 0x80000

-- RFC 4121, section 4.1.1
abbrev pub bound_to_its_channel : ℕ
bound_to_its_channel = 0x100000

-- what a new context has
abbrev pub no_rules : Rules
no_rules = record { 0 = 0 }

-- each rule that there is
abbrev pub rfc_rules : Rules
rfc_rules = record { 0 = 0x1f0fff }

abbrev pub has_rule : Rules → ℕ → Bool
has_rule rules rule = has_flag rules.0 rule
