-- The realm of a client.
use Rattle.std.specs.Prelude.{ℕ, ◌-◌, Bool, ◌||◌, List, [], ◌∷◌, ◌++◌, ◌==◌, length, drop, Option, Some, None, option_map, unwrap_or, if◌then◌else◌, codes}
use Rattle.std.specs.List.{find}
use Rattle.std.specs.Option.{option_or}
use Rattle.std.specs.Str.{str_to_ascii_uppercase}
use Rattle.krb_conf.specs.Ascii.{at_sign, full_stop}
use Rattle.krb_conf.specs.Env.{conf_texts}
use Rattle.krb_conf.specs.Kdc.{first_given}
use Rattle.krb_conf.specs.Key.{is_same_text}
use Rattle.krb_conf.specs.Krb5Conf.{values_of, values_under}
use Rattle.krb_conf.specs.Line.{begins_with}

-- the text ends with the other, the case of ASCII letters ignored
abbrev pub ends_with_text : List ℕ → List ℕ → Bool
ends_with_text text ending = is_same_text (drop (length text - length ending) text) ending

-- a mapping fits a domain: a mapping that begins with a dot if the domain ends with it; any other mapping if it is the domain or the
-- domain ends with a dot and the mapping
abbrev pub fits : List ℕ → List ℕ → Bool
fits domain mapping =
    if begins_with full_stop mapping then ends_with_text domain mapping
    else is_same_text domain mapping || ends_with_text domain (full_stop ∷ mapping)

-- the realm of the first mapping of a krb5.conf that fits the domain
abbrev pub realm_in : List ℕ → List ℕ → Option (List ℕ)
realm_in domain text = option_map (λ entry. entry.1) (find (λ entry. fits domain entry.0) (values_under (codes "domain_realm" ∷ []) (values_of text)))

-- the text after the last such sign, if the text has the sign
abbrev pub after_last : ℕ → List ℕ → Option (List ℕ)
after_last sign [] = None
after_last sign (octet ∷ text) = option_or (after_last sign text) (if octet == sign then Some text else None)

-- the domain of a user: the given one, or the text after the last `@` of the user's name, or nothing
abbrev pub domain_of : List ℕ → List ℕ → List ℕ
domain_of username given = if length given == 0 then unwrap_or (after_last at_sign username) [] else given

-- the realm of a user: that of the first mapping of the first file that fits the domain, or the domain in capitals
abbrev pub client_realm : List (List ℕ × List ℕ) → List (List ℕ × List ℕ) → List ℕ → List ℕ → List ℕ
client_realm vars files username given =
    let domain = domain_of username given in
    unwrap_or (first_given (realm_in domain) (conf_texts vars files)) (str_to_ascii_uppercase domain)
