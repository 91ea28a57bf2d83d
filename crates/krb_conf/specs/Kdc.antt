-- The address of the KDC of a realm.
use Rattle.std.specs.Prelude.{ℕ, Bool, true, false, ◌&&◌, ◌||◌, ◌==◌, List, [], ◌∷◌, ◌++◌, Option, Some, None, option_map, if◌then◌else◌, codes}
use Rattle.std.specs.Option.{option_or}
use Rattle.std.specs.Result.{result_ok}
use Rattle.url.specs.Parts.{Parts}
use Rattle.url.specs.Parser.{parse_url}
use Rattle.krb_conf.specs.Env.{named, conf_texts}
use Rattle.krb_conf.specs.Krb5Conf.{values_of, value_at}

-- the first value that f has for an element of the list
abbrev pub first_given : {A B : Type 0} → (A → Option B) → List A → Option B
first_given f [] = None
first_given f (x ∷ xs) = option_or (f x) (first_given f xs)

-- the address of the KDC that the text of a krb5.conf names for a realm, reached over TCP
abbrev pub kdc_in : List ℕ → List ℕ → Option (List ℕ)
kdc_in realm text =
    option_map (λ kdc. codes "tcp://" ++ kdc) (value_at (codes "realms" ∷ realm ∷ codes "kdc" ∷ []) (values_of text))

-- the address of a realm's KDC: the value of the realm's own variable; otherwise the value of the variable of all realms;
-- otherwise the address in the first file that names one
abbrev pub kdc_host : List (List ℕ × List ℕ) → List (List ℕ × List ℕ) → List ℕ → Option (List ℕ)
kdc_host vars files realm =
    option_or (option_or (named (codes "SSPI_KDC_URL_" ++ realm) vars) (named (codes "SSPI_KDC_URL") vars))
    (first_given (kdc_in realm) (conf_texts vars files))

-- the URL that a text is, if it is one
abbrev pub url_of : List ℕ → Option Parts
url_of text = result_ok (parse_url None text)

-- the text begins with the part; the part is somewhere in the text
abbrev pub begins_with_part : List ℕ → List ℕ → Bool
begins_with_part [] text = true
begins_with_part (p ∷ part) [] = false
begins_with_part (p ∷ part) (c ∷ text) = p == c && begins_with_part part text

abbrev pub has_part : List ℕ → List ℕ → Bool
has_part part [] = begins_with_part part []
has_part part (c ∷ text) = begins_with_part part (c ∷ text) || has_part part text

-- the address with its protocol, which is TCP where it names none
abbrev pub with_protocol : List ℕ → List ℕ
with_protocol address = if has_part (codes "://") address then address else codes "tcp://" ++ address
