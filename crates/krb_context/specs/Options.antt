-- The options of an AP-REQ and the services of a context, and which of them the flags of an initiator's request ask for.
use Rattle.std.specs.Prelude.{ℕ, bit_or, fold, List, [], ◌∷◌, if◌then◌else◌}
use Rattle.bitflags.specs.Sets.{without}
use Rattle.sspi_core.specs.Flags.{has_flag}
use Rattle.sspi_core.specs.Flags as asked

-- the options of an AP-REQ (RFC 4120, section 5.5.1), bits 1 and 2 of 32 from the highest
abbrev pub use_session_key : ℕ
use_session_key = 0x40000000

abbrev pub mutual_required : ℕ
mutual_required = 0x20000000

-- the services of a context (RFC 2744, appendix A; RFC 4121, section 4.1.1.1; DCE style: RFC 4757, section 7.1)
abbrev pub gss_deleg : ℕ
gss_deleg = 0x1

abbrev pub gss_mutual : ℕ
gss_mutual = 0x2

abbrev pub gss_replay : ℕ
gss_replay = 0x4

abbrev pub gss_sequence : ℕ
gss_sequence = 0x8

abbrev pub gss_conf : ℕ
gss_conf = 0x10

abbrev pub gss_integ : ℕ
gss_integ = 0x20

abbrev pub gss_dce_style : ℕ
gss_dce_style = 0x1000

-- a row of a table: a flag, and the option that it asks for
abbrev pub option_of : ℕ → ℕ × ℕ → ℕ
option_of flags row = if has_flag flags row.0 then row.1 else 0

-- all that the flags ask for by a table of one row and more
abbrev pub options_by : ℕ × ℕ → List (ℕ × ℕ) → ℕ → ℕ
options_by first rows flags = fold (λ options row. bit_or options (option_of flags row)) (option_of flags first) rows

-- of an AP-REQ
abbrev pub ap_options_of : ℕ → ℕ
ap_options_of flags =
    options_by (asked.use_session_key, use_session_key) ((asked.mutual_auth, mutual_required) ∷ []) flags

-- of a context: each from the flag of that meaning
abbrev pub gss_flags_asked : ℕ → ℕ
gss_flags_asked flags =
    options_by (asked.delegate, gss_deleg)
    ((asked.mutual_auth, gss_mutual) ∷ (asked.replay_detect, gss_replay) ∷ (asked.sequence_detect, gss_sequence) ∷ (asked.confidentiality, gss_conf)
    ∷ (asked.integrity, gss_integ) ∷ (asked.use_dce_style, gss_dce_style) ∷ []) flags

-- NO_INTEGRITY takes back INTEG
abbrev pub gss_flags_of : ℕ → ℕ
gss_flags_of flags =
    if has_flag flags asked.no_integrity then without 32 (gss_flags_asked flags) gss_integ else gss_flags_asked flags
