-- The values of variables and the texts of files, found by name.
use Rattle.std.specs.Prelude.{ℕ, List, ◌==◌, Option, option_map, unwrap_or, bytes_eq, codes}
use Rattle.std.specs.List.{find, filter_map, slice_split}
use Rattle.krb_conf.specs.Ascii.{colon}

-- the value of the first pair with this name
abbrev pub named : {V : Type 0} → List ℕ → List (List ℕ × V) → Option V
named name pairs = option_map (λ pair. pair.1) (find (λ pair. bytes_eq pair.0 name) pairs)

-- the names of the files of krb5.conf: the parts between colons of the variable KRB5_CONFIG, or of the usual path where it is not set
abbrev pub conf_paths : List (List ℕ × List ℕ) → List (List ℕ)
conf_paths vars =
    slice_split (λ octet. octet == colon) (unwrap_or (named (codes "KRB5_CONFIG") vars) (codes "/etc/krb5.conf:/usr/local/etc/krb5.conf"))

-- the texts of those files that there are, in the order of their names
abbrev pub conf_texts : List (List ℕ × List ℕ) → List (List ℕ × List ℕ) → List (List ℕ)
conf_texts vars files = filter_map (λ path. named path files) (conf_paths vars)
