use Rattle.std.proofs.Common.{◌≡◌, ◌++◌, ◌∷◌, [], option_map, drop}
use Rattle.std.specs.Prelude.{string_bytes}
use Rattle.std.specs.List.{filter_map}
use Rattle.krb_conf.specs.Ascii.{bar}
use Rattle.krb_conf.specs.Key.{after_prefix}
use Rattle.krb_conf.proofs.krb5_conf.Krb5Conf.get_values_in_section.Given as goal

abbrev pub invariant-loop-key : goal.invariant-loop-key
invariant-loop-key l =
    l.found.items ++ filter_map (λ entry. option_map (λ rest. (rest, entry.1)) (after_prefix (string_bytes l.section ++ bar ∷ []) entry.0)) (drop l.key-index l.key-items)
    ≡ filter_map (λ entry. option_map (λ rest. (rest, entry.1)) (after_prefix (string_bytes l.section ++ bar ∷ []) entry.0)) l.key-items
