-- Writing one piece after another.
use Rattle.std.proofs.Common.{◌≡◌, ℕ, ◌+◌, ◌%◌, ◌<◌, List, [], ◌∷◌, ◌++◌, length, take, get_or, sym, ap, ◌∙◌, append_assoc, Result, Ok, Err}
use Rattle.std.specs.Prelude.{OnOk}
use Rattle.std.specs.List.{flat_map}
use Rattle.std.specs.Int.{w16, w32, to_be_bytes}
use Rattle.std.proofs.lemmas.List.{flat_map_more, take_more}
use Rattle.krb_keytab.specs.declared.entry.KeytabEntry.{KeytabEntry}
use Rattle.krb_keytab.specs.Format.{counted, written_entry}
use Rattle.krb_keytab.specs.Writing.{names_octets, tail_octets}

pub behind : (a b c x y : List ℕ) → b ≡ a ++ x → c ≡ b ++ y → c ≡ a ++ (x ++ y)
behind a b c x y p q = q ∙ ap (λ (o : List ℕ). o ++ y) p ∙ append_assoc a x y

-- the same, where the second piece may fail
pub behind_ok : {E : Type 0} (r : Result (Unit {0}) E) (a b c x y : List ℕ) → b ≡ a ++ x → OnOk r (c ≡ b ++ y) → OnOk r (c ≡ a ++ (x ++ y))
behind_ok (Ok u) a b c x y p q = behind a b c x y p q
behind_ok (Err e) a b c x y p q = tt

pub both_parts : (entry : KeytabEntry) → names_octets entry ++ tail_octets entry ≡ written_entry entry
unfolding names_octets tail_octets
both_parts entry =
    let tail : List ℕ = to_be_bytes w32 entry.name_type ++ (to_be_bytes w32 entry.time ++ ((entry.version % 256 ∷ []) ++ (to_be_bytes w16 entry.key_type ++ (counted entry.key ++ to_be_bytes w32 entry.version)))) in
    append_assoc (to_be_bytes w16 (length entry.components)) (counted entry.realm ++ flat_map counted entry.components) tail
    ∙ ap (λ (o : List ℕ). to_be_bytes w16 (length entry.components) ++ o) (append_assoc (counted entry.realm) (flat_map counted entry.components) tail)

-- one more piece after the pieces of the earlier elements
pub piece_more : {X A : Type 0} (f : X → List A) (front : List A) (xs : List X) (i : ℕ) (x : X) → i < length xs → x ≡ get_or xs i x → (front ++ flat_map f (take i xs)) ++ f x ≡ front ++ flat_map f (take (i + 1) xs)
piece_more {X} f front xs i x lt is =
    flat_map_more f front (take i xs) x ∙ ap (λ (ys : List X). front ++ flat_map f ys) (ap (λ (y : X). take i xs ++ y ∷ []) is ∙ sym (take_more xs i x lt))
