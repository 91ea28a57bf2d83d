-- The octets of a field.
use Rattle.std.proofs.Common.{◌≡◌, ℕ, nat_lt, length, Bool, true, false, List, [], ◌∷◌, refl, tests, rules}
use Rattle.std.specs.List.{list_all}
use Rattle.std.specs.Char.{is_ascii_graphic}
use Rattle.std.specs.Str.{IsUtf8, is_utf8}
use Rattle.std.proofs.lemmas.Bool.{and_parts, and_from}
use Rattle.std.proofs.lemmas.Str.{IsUtf8-from_is_utf8}
use Rattle.krb_der.specs.Schema.{is_ascii}
use Rattle.krb_script.specs.Fields.{is_name}

-- a printable octet is ASCII
graphic_ascii : (octet : ℕ) → is_ascii_graphic octet ≡ true → nat_lt octet 0x80 ≡ true
graphic_ascii octet graphic = grind (tests, rules)

pub graphic-ascii : (text : List ℕ) → list_all is_ascii_graphic text ≡ true → is_ascii text ≡ true
graphic-ascii [] all = refl
graphic-ascii (octet ∷ text) all = let both = and_parts (is_ascii_graphic octet) (list_all is_ascii_graphic text) all in and_from _ _ (graphic_ascii octet both.0) (graphic-ascii text both.1)

-- a field that is taken literally is ASCII
pub name-ascii : (text : List ℕ) → is_name text ≡ true → is_ascii text ≡ true
name-ascii text named = graphic-ascii text (and_parts (nat_lt 0 (length text)) (list_all is_ascii_graphic text) named).1

false_unless : (b : Bool) → (b ≡ true → ⊥) → b ≡ false
false_unless true h = absurd (h refl)
false_unless false h = refl

pub not_utf8 : (bs : List ℕ) → ¬ (IsUtf8 bs) → is_utf8 bs ≡ false
not_utf8 bs h = false_unless (is_utf8 bs) (λ e. h (IsUtf8-from_is_utf8 bs e))
